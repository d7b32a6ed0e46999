-- Results that are all `Ok`.
use Rattle.std.proofs.Common.{◌≡◌, List, [], ◌∷◌, map, Result, Ok, Err, IfOk}
use Rattle.std.specs.List.{AllZip, Contains}
use Rattle.std.specs.Prelude.{MatchResult}

-- what each `Ok` meets, its value meets
values_meet : {X Y : Type 0} (E : Type 0) (P : X → Y → Type 0) (xs : List X) (ys : List Y) → AllZip (λ x r. IfOk {T = Y} {E = E} r (P x)) xs (map Ok ys) → AllZip P xs ys
values_meet E P [] [] h = h
values_meet E P [] (y ∷ ys) h = h
values_meet E P (x ∷ xs) [] h = h
values_meet E P (x ∷ xs) (y ∷ ys) h = (h.0, values_meet E P xs ys h.1)

-- what a parallel `collect` into the result of a list gives, where each item meets P at its source
pub rows_meet : {X Y E V : Type 0} (items : V → List Y) (P : X → Y → Type 0) (xs : List X) (rs : List (Result Y E)) (r : Result V E) →
    AllZip (λ x r. IfOk r (P x)) xs rs → MatchResult r (λ v. (ys : List Y) × (rs ≡ map Ok ys) × (items v ≡ ys)) (λ e. Contains rs (Err e)) →
    IfOk r (λ v. AllZip P xs (items v))
rows_meet items P xs rs (Ok v) h m = rw m.2 (values_meet _ P xs m.0 (rw m.1 at h))
rows_meet items P xs rs (Err e) h m = tt
