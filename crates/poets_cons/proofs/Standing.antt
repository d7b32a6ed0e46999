-- What stands in a table stays where rows are added.
use Rattle.std.proofs.Common.{◌≡◌, ℕ, ◌+◌, ◌<◌, ◌≤◌, arith, List, [], ◌++◌, length, get_or, slice_get, Some, sym, ◌∙◌, ap, append_assoc, append-nil, length-append}
use Rattle.std.proofs.lemmas.List.{length-map, map-append}
use Rattle.std.proofs.lemmas.Option.{get_or_from_slice_get, slice_get_within, slice_get-get_or}
use Rattle.std.proofs.Math.ListN.{get_or-append}
use Rattle.poets_syntax.specs.Contract.{Contract}
use Rattle.poets_cons.specs.declared.node.Node.{Node}
use Rattle.poets_cons.specs.Row.{Row, Success, row_of, contract_by, AreBelow}
use Rattle.poets_cons.specs.Table.{nth, grown, rows_of, contracts_of, contract_at, AreEarlier, Stands, Extends}
use Rattle.poets_cons.proofs.Belows.{part_below}
use Rattle.poets_cons.proofs.Growing.{length-grown, grown-later, grown-at, contract_by-alike}

pub length-contracts : (nodes : List Node) → length (contracts_of nodes) ≡ length nodes
length-contracts nodes = omega (arith, length-grown [] (rows_of nodes), length-map nodes row_of)

pub contract_at-old : (old more : List Node) (i : ℕ) → i < length old → contract_at (old ++ more) i ≡ contract_at old i
contract_at-old old more i h =
    ap (λ rows. nth (grown [] rows) i) (map-append row_of old more) ∙ grown-later [] (rows_of old) (rows_of more) i (omega (arith, length-map old row_of, h))

pub contract_at-later : (old new : List Node) → Extends old new → (i : ℕ) → i < length old → contract_at new i ≡ contract_at old i
contract_at-later old new x i h = ap (λ nodes. contract_at nodes i) x.1 ∙ contract_at-old old x.0 i h

pub length-extends : (old new : List Node) → Extends old new → length old ≤ length new
length-extends old new x = omega (arith, ap length x.1, length-append old x.0)

pub stands_later : (old new : List Node) → Extends old new → (i : ℕ) (c : Contract) → Stands old i c → Stands new i c
stands_later old new x i c s = record {
  within = omega (arith, s.within, length-extends old new x);
  contract = contract_at-later old new x i s.within ∙ s.contract;
}

pub extends_not : (nodes : List Node) → Extends nodes nodes
extends_not nodes = ([], sym (append-nil nodes))

pub extends_twice : (old mid new : List Node) → Extends old mid → Extends mid new → Extends old new
extends_twice old mid new x y = (x.0 ++ y.0, y.1 ∙ ap (λ nodes. nodes ++ y.0) x.1 ∙ append_assoc old x.0 y.0)

-- a row stays
pub row_later : (old new : List Node) → Extends old new → (i : ℕ) (r : Row) → slice_get (rows_of old) i ≡ Some r → slice_get (rows_of new) i ≡ Some r
row_later old new x i r e =
    let h = slice_get_within (rows_of old) i r e in
    let all : rows_of new ≡ rows_of old ++ rows_of x.0 = ap rows_of x.1 ∙ map-append row_of old x.0 in
    let l : i < length (rows_of new) = omega (arith, ap length all, length-append (rows_of old) (rows_of x.0), h) in
    slice_get-get_or (rows_of new) i Success l
    ∙ ap Some (ap (λ rows. get_or rows i Success) all ∙ get_or-append (rows_of old) (rows_of x.0) Success i h
    ∙ get_or_from_slice_get (rows_of old) i r Success e)

-- a row stands for its contract
pub stands_at : (nodes : List Node) → AreEarlier (rows_of nodes) → (i : ℕ) (r : Row) → slice_get (rows_of nodes) i ≡ Some r →
    Stands nodes i (contract_by (contract_at nodes) r)
stands_at nodes earlier i r e = let start : i ≡ 0 + i = omega arith in record {
  within = omega (arith, slice_get_within (rows_of nodes) i r e, length-map nodes row_of);
  contract = ap (contract_at nodes) start ∙ grown-at [] (rows_of nodes) i r e (λ k m. omega (arith, part_below i r (earlier i r e) k m));
}

-- and so by the contracts of an older table that has its parts
pub stands_by : (old new : List Node) → Extends old new → AreEarlier (rows_of new) → (i : ℕ) (r : Row) → slice_get (rows_of new) i ≡ Some r →
    AreBelow (length old) r → Stands new i (contract_by (contract_at old) r)
stands_by old new x earlier i r e h =
    let s = stands_at new earlier i r e in
    record {
      within = s.within;
      contract = s.contract ∙ contract_by-alike (contract_at new) (contract_at old) r (λ k m. contract_at-later old new x k (part_below (length old) r h k m));
    }
