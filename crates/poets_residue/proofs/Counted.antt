-- What the rows of a contract count is what its different subterms count.
use Rattle.std.proofs.Common.{◌≡◌, ℕ, ◌+◌, ◌-◌, ◌<◌, ◌≤◌, true, false, ◌||◌, nat_lt, nat_eq, arith, List, [], ◌∷◌, ◌++◌, length, get_or, take, refl, sym, ◌∙◌, ap, sum_by}
use Rattle.std.proofs.lemmas.List.{take_more, map-append}
use Rattle.std.proofs.lemmas.List.Sums.{sum_by_push, sum_by-cons}
use Rattle.std.proofs.lemmas.Bool.Decides.{nat_tests}
use Rattle.poets_syntax.specs.Contract.{Contract}
use Rattle.poets_meaning.specs.Width.{widest}
use Rattle.poets_meaning.specs.Spread.{own_count, largest}
use Rattle.poets_cons.specs.declared.node.Node.{Node}
use Rattle.poets_cons.specs.Row.{Row, Success, Failure, Transmit, Plus, Par, Seq, App, row_of, contract_by}
use Rattle.poets_cons.specs.Table.{nth, grown, rows_of, contracts_of}
use Rattle.poets_residue.specs.code.Limits.{row_count}

-- what a row counts does not depend on what stands below it
pub row_counts : (part : ℕ → Contract) (r : Row) → own_count (contract_by part r) ≡ row_count r
row_counts part Success = refl
row_counts part Failure = refl
row_counts part (Transmit b p c) = refl
row_counts part (Plus a b) = refl
row_counts part (Par a b) = refl
row_counts part (Seq a b) = refl
row_counts part (App f args) = refl

grown_counts : (cs : List Contract) (rows : List Row) → sum_by own_count (grown cs rows) ≡ sum_by own_count cs + sum_by row_count rows
grown_counts cs [] = omega arith
grown_counts cs (r ∷ rows) =
    let next = grown_counts (cs ++ contract_by (nth cs) r ∷ []) rows in
    let last = sum_by_push own_count cs (contract_by (nth cs) r) in
    let own = row_counts (nth cs) r in
    let first = sum_by-cons row_count r rows in
    omega (arith, next, last, own, first)

-- the contracts of a table count what its rows do
pub contracts_count : (nodes : List Node) → sum_by own_count (contracts_of nodes) ≡ sum_by row_count (rows_of nodes)
contracts_count nodes = let all = grown_counts [] (rows_of nodes) in omega (arith, all)

-- one row more
pub count_of_more : (nodes : List Node) (i : ℕ) (n : Node) → i < length nodes → n ≡ get_or nodes i n →
    sum_by row_count (rows_of (take (i + 1) nodes)) ≡ sum_by row_count (rows_of (take i nodes)) + row_count (row_of n)
count_of_more nodes i n l e =
    ap (λ ns. sum_by row_count (rows_of ns)) (take_more nodes i n l)
    ∙ ap (sum_by row_count) (map-append row_of (take i nodes) (get_or nodes i n ∷ []))
    ∙ sum_by_push row_count (rows_of (take i nodes)) (row_of (get_or nodes i n))
    ∙ ap (λ m. sum_by row_count (rows_of (take i nodes)) + row_count (row_of m)) (sym e)

-- nothing is left exactly where the spread is past what a kept contract has
pub left_is_none : (rows bodies : ℕ) → nat_eq (1 + widest - rows - bodies) 0 ≡ nat_lt widest (rows + bodies)
left_is_none rows bodies = grind (arith, nat_tests)

-- the size is past the greatest where nothing is left of one more
pub size_past : (n r : ℕ) → r ≡ 1 + largest - n → r ≡ 0 → nat_lt largest n ≡ true
size_past n r e z = grind (arith, nat_tests, e, z)

pub size_within : (n : ℕ) → n ≤ largest → nat_lt largest n ≡ false
size_within n l = grind (arith, nat_tests, l)

-- of a contract whose size is within the limit nothing is left exactly where its spread is past it
pub told : (n rows bodies spread r : ℕ) → r ≡ 1 + widest - rows - bodies → spread ≡ rows + bodies → nat_lt largest n ≡ false →
    nat_eq r 0 ≡ (nat_lt largest n || nat_lt widest spread)
told n rows bodies spread r e f small =
    ap (λ k. nat_eq k 0) e ∙ left_is_none rows bodies ∙ ap (nat_lt widest) (sym f) ∙ sym (ap (λ v. v || nat_lt widest spread) small)
