-- A table whose rows are reached from one is rooted there.
use Rattle.std.proofs.Common.{◌≡◌, ℕ, ◌-◌, ◌≤◌, arith, List, length, subst}
use Rattle.poets_syntax.specs.Contract.{Contract}
use Rattle.poets_cons.specs.declared.node.Node.{Node}
use Rattle.poets_cons.specs.Row.{Row}
use Rattle.poets_cons.specs.Table.{rows_of, contract_at, contract_of_rows, AreEarlier, IsTable, IsRooted, Reached, Stands, AddsReached}
use Rattle.poets_cons.proofs.Belows.{part_below}

pub reached_below : (rows : List Row) → AreEarlier rows → {p k : ℕ} → Reached rows p k → k ≤ p
reached_below rows earlier Reached.Root = omega arith
reached_below rows earlier (Reached.Part {i = i} {k = k} {r = r} h e m) =
    let l = part_below i r (earlier i r e) k m in
    omega (arith, l, reached_below rows earlier h)

module _ (old nodes : List Node) (none : length old ≡ 0) (table : IsTable nodes) (p : ℕ) (c : Contract) (stands : Stands nodes p c) (reached : AddsReached old nodes p) where
  root-is : p ≡ length nodes - 1
  root-is =
      let l = stands.within in
      let m = reached_below (rows_of nodes) table.earlier (reached (length nodes - 1) (omega (arith, none)) (omega (arith, l))) in
      omega (arith, l, m)

  pub rooted : IsRooted nodes
  rooted = record {
    some = omega (arith, stands.within);
    reached = λ k l. subst (λ r. Reached (rows_of nodes) r k) root-is (reached k (omega (arith, none)) l);
  }

  pub root_stands : contract_of_rows nodes ≡ c
  root_stands = subst (λ r. contract_at nodes r ≡ c) root-is stands.contract
