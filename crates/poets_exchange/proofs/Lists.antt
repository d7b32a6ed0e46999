-- Lists of which something holds.
use Rattle.std.proofs.Common.{List, [], ◌∷◌, ◌++◌, All}
use Rattle.std.proofs.lemmas.List.Elements.{All-nil, All-cons, All-head, All-tail}

pub both_hold : {A : Type 0} (P Q : A → Type 0) (xs : List A) → All P xs → All Q xs → All (λ x. P x × Q x) xs
both_hold P Q [] h k = All-nil (λ x. P x × Q x)
both_hold P Q (x ∷ xs) h k =
    All-cons (λ y. P y × Q y) x xs (All-head P x xs h, All-head Q x xs k)
    (both_hold P Q xs (All-tail P x xs h) (All-tail Q x xs k))

pub front_holds : {A : Type 0} (P : A → Type 0) (xs ys : List A) → All P (xs ++ ys) → All P xs
front_holds P [] ys h = All-nil P
front_holds P (x ∷ xs) ys h =
    All-cons P x xs (All-head P x (xs ++ ys) h) (front_holds P xs ys (All-tail P x (xs ++ ys) h))

pub rest_holds : {A : Type 0} (P : A → Type 0) (xs ys : List A) → All P (xs ++ ys) → All P ys
rest_holds P [] ys h = h
rest_holds P (x ∷ xs) ys h = rest_holds P xs ys (All-tail P x (xs ++ ys) h)
