-- What stands in brackets, and how it is taken apart.
use Rattle.std.proofs.Common.{◌≡◌, ◌≢◌, ℕ, suc, ◌<◌, List, [], ◌∷◌, ◌++◌, length, refl, sym, ap, ap₂, ◌∙◌, arith, append_assoc, length-append, Option, Some, None, Bor}
use Rattle.std.specs.Prelude.{IfSome, IfNone, codes, drop, slice_index}
use Rattle.std.proofs.Math.Seq.{get_or-append_seam}
use Rattle.std.proofs.lemmas.List.{append_cancel_right}
use Rattle.std.proofs.lemmas.Str.Pattern.{IsSplitOnceResult, split_parts}
use Rattle.poets_literals.specs.code.Parts.{in_brackets, HasNoSpace}

-- the amount, a space and the kind
inner : List ℕ → List ℕ → List ℕ
inner amount kind = amount ++ (32 ∷ kind)

as_inner : (amount kind : List ℕ) → in_brackets amount kind ≡ 91 ∷ (amount ++ (32 ∷ kind) ++ 93 ∷ [])
as_inner amount kind = ap (λ (t : List ℕ). 91 ∷ (t ++ 93 ∷ [])) (append_assoc amount (32 ∷ []) kind)

-- a list has one split at its first space
same_split :
    (a b k l : List ℕ) → HasNoSpace a → HasNoSpace b → a ++ (32 ∷ k) ≡ b ++ (32 ∷ l) → (a ≡ b) × (k ≡ l)
same_split [] [] k l h g e = (refl, ap (drop 1) e)
same_split [] (y ∷ b) k l h g e = absurd (g 0 (omega arith) (sym (ap (λ (t : List ℕ). slice_index t 0) e)))
same_split (x ∷ a) [] k l h g e = absurd (h 0 (omega arith) (ap (λ (t : List ℕ). slice_index t 0) e))
same_split (x ∷ a) (y ∷ b) k l h g e =
    let own : HasNoSpace a = λ i p. h (suc i) (omega (arith, p)) in
    let other : HasNoSpace b = λ i p. g (suc i) (omega (arith, p)) in
    let rest = same_split a b k l own other (ap (drop 1) e) in
    (ap₂ (λ (z : ℕ) (t : List ℕ). z ∷ t) (ap (λ (t : List ℕ). slice_index t 0) e) rest.0, rest.1)

pub one_split :
    (a b k l : List ℕ) → HasNoSpace a → HasNoSpace b → in_brackets a k ≡ in_brackets b l → (a ≡ b) × (k ≡ l)
one_split a b k l h g e =
    let both : 91 ∷ (a ++ (32 ∷ k) ++ 93 ∷ []) ≡ 91 ∷ (b ++ (32 ∷ l) ++ 93 ∷ []) =
    sym (as_inner a k) ∙ e ∙ as_inner b l in
    same_split a b k l h g (append_cancel_right (a ++ (32 ∷ k)) (b ++ (32 ∷ l)) (93 ∷ []) (ap (drop 1) both))

-- without `[` in front, or without `]` at the end
pub no_front :
    (text : List ℕ) → ((rest : List ℕ) → text ≢ 91 ∷ rest) → (amount kind : List ℕ) → text ≢ in_brackets amount kind
no_front text lacks amount kind e = lacks (amount ++ codes " " ++ kind ++ codes "]") e

pub no_end :
    (text inside : List ℕ) → text ≡ 91 ∷ inside → ((front : List ℕ) → inside ≢ front ++ (93 ∷ [])) →
    (amount kind : List ℕ) → text ≢ in_brackets amount kind
no_end text inside whole lacks amount kind e = lacks (amount ++ codes " " ++ kind) (ap (drop 1) (sym whole ∙ e))

pub none_gives : {T : Type 0} (r : Option T) {P : Type 0} → P → IfNone r P
none_gives None p = p
none_gives (Some x) p = tt

-- what stands in the brackets is an amount, a space and a kind
inside_is :
    (text front inside amount kind : List ℕ) → text ≡ 91 ∷ front → front ≡ inside ++ (93 ∷ []) →
    text ≡ in_brackets amount kind → inside ≡ amount ++ (32 ∷ kind)
inside_is text front inside amount kind whole end e =
    let both : 91 ∷ (inside ++ 93 ∷ []) ≡ 91 ∷ (amount ++ (32 ∷ kind) ++ 93 ∷ []) =
    ap (λ (t : List ℕ). 91 ∷ t) (sym end) ∙ sym whole ∙ e ∙ as_inner amount kind in
    append_cancel_right inside (amount ++ (32 ∷ kind)) (93 ∷ []) (ap (drop 1) both)

pub split_found :
    (text front inside : List ℕ) (r : Option (Bor (List ℕ) × Bor (List ℕ))) → text ≡ 91 ∷ front →
    front ≡ inside ++ (93 ∷ []) → IsSplitOnceResult 32 inside r →
    IfSome r (λ p. (text ≡ in_brackets p.0.now p.1.now) × HasNoSpace p.0.now)
split_found text front inside None whole end h = tt
split_found text front inside (Some x) whole end h =
    let split = split_parts 32 inside (Some x) h (omega arith) in
    let is : text ≡ 91 ∷ (inside ++ 93 ∷ []) = whole ∙ ap (λ (t : List ℕ). 91 ∷ t) end in
    (is ∙ ap (λ (t : List ℕ). 91 ∷ (t ++ 93 ∷ [])) split.0 ∙ sym (as_inner x.0.now x.1.now), split.1)

pub split_none :
    (text front inside : List ℕ) (r : Option (Bor (List ℕ) × Bor (List ℕ))) → text ≡ 91 ∷ front →
    front ≡ inside ++ (93 ∷ []) → IsSplitOnceResult 32 inside r →
    IfNone r ((amount kind : List ℕ) → text ≢ in_brackets amount kind)
split_none text front inside None whole end h = λ amount kind e.
    let is = inside_is text front inside amount kind whole end e in
    let short : length amount < length inside = omega (arith, ap length is, length-append amount (32 ∷ kind)) in
    split_parts 32 inside None h (omega arith) (length amount) short
    (ap (λ (t : List ℕ). slice_index t (length amount)) is ∙ get_or-append_seam amount 32 kind 0)
split_none text front inside (Some x) whole end h = tt
