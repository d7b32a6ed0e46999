-- How reads and writes, one after another, join.
use Rattle.std.proofs.Common.{◌≡◌, ℕ, ◌+◌, ◌-◌, ◌<◌, ◌≤◌, ◌++◌, List, [], Option, None, Some, IfSome, length, take, drop, subst, sym, ap, ◌∙◌, refl, arith, length-append, append-nil}
use Rattle.std.specs.Io.KnownBytes.{Appends, Consumes, Keeps, IsAtEnd}
use Rattle.std.proofs.KnownBytes.{Appends-trans, Appends-nil, Appends-kept, Consumes-trans, Consumes-nil, Consumes-kept}
use Rattle.std.proofs.Math.Seq.{take-add}
use Rattle.std.proofs.lemmas.List.{take_rest}
use Rattle.poets_io.specs.Streams.{LosesFront, GivesAll}

-- a piece's front was taken, and then the front of its rest
pub Appends-more : (a b c : Option (List ℕ)) (piece : List ℕ) (at n : ℕ) → Appends a b (take at piece) → Appends b c (take n (take (length piece - at) (drop at piece)))
    → Appends a c (take (at + n) piece)
Appends-more a b c piece at n p q =
    let joined : take (at + n) piece ≡ take at piece ++ take n (take (length piece - at) (drop at piece)) = rw (take-add at n piece, take_rest piece at) refl in
    let P : List ℕ → Type 0 = λ bs. Appends a c bs in
    subst P (sym joined) (Appends-trans a b c _ _ p q)

-- two fronts were lost, one after the other
pub LosesFront-more : (least most : ℕ) (a b c : Option (List ℕ)) (bs cs : List ℕ) → Consumes a b bs → Consumes b c cs → least ≤ length bs + length cs → length bs + length cs ≤ most → LosesFront least most a c
LosesFront-more least most a b c bs cs p q enough few = record {
  given = bs ++ cs;
  enough = omega (arith, length-append bs cs);
  few = omega (arith, length-append bs cs);
  bytes = Consumes-trans a b c bs cs p q;
}

-- a front was lost, and then nothing more
pub LosesFront-kept : (least most : ℕ) (a b c : Option (List ℕ)) (bs : List ℕ) → Consumes a b bs → Keeps b c → least ≤ length bs → length bs ≤ most → LosesFront least most a c
LosesFront-kept least most a b c bs p q enough few = record {
  given = bs;
  enough = enough;
  few = few;
  bytes = Consumes-kept a b c bs p q;
}

-- what loses more than so many bytes had more
pub IfSome-loses_more : (limit most : ℕ) (a b : Option (List ℕ)) → LosesFront (limit + 1) most a b → IfSome a (λ xs. limit < length xs)
IfSome-loses_more limit most None b h = tt
IfSome-loses_more limit most (Some xs) None h = absurd h.bytes
IfSome-loses_more limit most (Some xs) (Some ys) h = omega (arith, h.enough, ap length h.bytes, length-append h.given ys)

-- what was lost before the end was all
pub GivesAll-at_end : (a b c : Option (List ℕ)) (bs : List ℕ) → Consumes a b bs → Consumes b c [] → IsAtEnd c → GivesAll a c bs
GivesAll-at_end None b c bs p q e = tt
GivesAll-at_end (Some xs) None c bs p q e = absurd p
GivesAll-at_end (Some xs) (Some ys) None bs p q e = absurd q
GivesAll-at_end (Some xs) (Some ys) (Some zs) bs p q e = (p ∙ ap (λ l. bs ++ l) (q ∙ e) ∙ append-nil bs, ap (λ l. Some l) e)

pub ruleset transfers = (Appends-more, Appends-nil, Appends-kept, Consumes-trans, Consumes-nil, Consumes-kept, LosesFront-more, LosesFront-kept, IfSome-loses_more, GivesAll-at_end)

-- nothing came or went, twice
pub keeps_again : (a b c : Option (List ℕ)) → Keeps a b → Keeps b c → Keeps a c
keeps_again None b c p q = tt
keeps_again (Some xs) None c p q = absurd p
keeps_again (Some xs) (Some ys) None p q = q
keeps_again (Some xs) (Some ys) (Some zs) p q = q ∙ p

-- nothing went, and then a front
pub keeps_consumes : (a b c : Option (List ℕ)) (bs : List ℕ) → Keeps a b → Consumes b c bs → Consumes a c bs
keeps_consumes None b c bs p q = tt
keeps_consumes (Some xs) None c bs p q = absurd p
keeps_consumes (Some xs) (Some ys) None bs p q = q
keeps_consumes (Some xs) (Some ys) (Some zs) bs p q = sym p ∙ q

-- nothing came, and then some bytes
pub keeps_appends : (a b c : Option (List ℕ)) (bs : List ℕ) → Keeps a b → Appends b c bs → Appends a c bs
keeps_appends None b c bs p q = tt
keeps_appends (Some xs) None c bs p q = absurd p
keeps_appends (Some xs) (Some ys) None bs p q = q
keeps_appends (Some xs) (Some ys) (Some zs) bs p q = q ∙ ap (λ l. l ++ bs) p

pub keeps_itself : (a : Option (List ℕ)) → Keeps a a
keeps_itself None = tt
keeps_itself (Some xs) = refl
