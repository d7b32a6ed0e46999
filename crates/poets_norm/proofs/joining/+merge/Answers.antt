-- The second choice is taken apart from its end, while the first is still as it was.
use Rattle.std.proofs.Common.{rules, ◌≡◌, ◌∙◌, ◌<◌, sym, ap, subst, length, if◌then◌else◌, arith}
use Rattle.poets_syntax.specs.Contract.{Plus}
use Rattle.poets_calculus.specs.Normal.{plus}
use Rattle.poets_cons.specs.Table.{contract_at, contract_of_node, Stands, Extends}
use Rattle.poets_cons.proofs.Reaching.{one_ok}
use Rattle.poets_cons.proofs.Standing.{extends_twice}
use Rattle.poets_norm.specs.Choices.{IsDistinctChoice}
use Rattle.poets_norm.specs.Rows.{Enters, joined_at}
use Rattle.poets_norm.specs.code.Alternatives.{added}
use Rattle.poets_norm.proofs.RowChoices.{some_at, one_at, front_distinct, merge_front, merge_one}
use Rattle.poets_norm.proofs.joining.+merge.Goals as goal

pub merge-requires : goal.merge-requires
merge-requires t c =
    let old = c.args.arena.now in
    let a = c.args.a in
    let b = c.args.b in
    let front = c.in_default-Plus.front in
    let last = c.in_default-Plus.last in
    let whole : contract_at old b ≡ Plus (contract_at old front) (contract_at old last) =
    c.node-2.ensures.contract ∙ ap (contract_of_node old) c.in_default-Plus.is-1 in
    let below = rw c.in_default-Plus.is-1 at c.node-2.ensures.below in
    let l : front < b = below.0 in
    let m : front < length old = omega (arith, l, c.requires.within_second) in
    let d : IsDistinctChoice (contract_at old front) = front_distinct old b front last whole c.requires.second in
    let now = sym c.in_ok-is_known-in_default-Plus.ensures.same in (
      search (rules, l),
      (
        subst (λ ns. a < length ns) now c.requires.within_first,
        (
          subst (λ ns. front < length ns) now m,
          (subst (λ ns. IsDistinctChoice (contract_at ns a)) now c.requires.first, subst (λ ns. IsDistinctChoice (contract_at ns front)) now d),
        ),
      ),
    )

pub returns-in_ok-choice-in_default-Plus : goal.returns-in_ok-choice-in_default-Plus
returns-in_ok-choice-in_default-Plus t c =
    let old = c.args.arena.now in
    let mid = c.merge.new.arena in
    let new = c.add.new.arena in
    let a = c.args.a in
    let b = c.args.b in
    let front = c.in_default-Plus.front in
    let last = c.in_default-Plus.last in
    let choice = c.in_ok-choice-in_default-Plus.choice in
    let known = c.in_ok-is_known-in_default-Plus.is_known in
    let whole : contract_at old b ≡ Plus (contract_at old front) (contract_at old last) =
    c.node-2.ensures.contract ∙ ap (contract_of_node old) c.in_default-Plus.is-1 in
    let below = rw c.in_default-Plus.is-1 at c.node-2.ensures.below in
    let k : last < length old = omega (arith, below.1, c.requires.within_second) in
    let some = some_at old a c.node.result.now c.node.ensures.contract c.in_default-Plus.not-Failure-0 in
    let same = c.in_ok-is_known-in_default-Plus.ensures.same in
    let grows = subst (λ ns. Extends ns mid) same c.in_ok-choice-in_default-Plus.ensures.grows in
    let merged = subst (λ ns. Stands mid choice (joined_at plus ns a front)) same c.in_ok-choice-in_default-Plus.ensures.stands in
    record {
      grows = extends_twice old mid new grows c.add.ensures.grows;
      stands = one_ok (λ p. Stands new p (if known then contract_at mid choice else Plus (contract_at mid choice) (contract_at mid last)))
          (λ p. Stands new p (plus (contract_at old a) (contract_at old b))) c.add.result
          (λ p h. merge_front old mid new grows a b front last choice p known whole k c.requires.first some c.requires.second
          c.in_ok-is_known-in_default-Plus.ensures.has merged h)
          c.add.ensures.stands;
    }

pub returns-in_ok-is_known-in_default : goal.returns-in_ok-is_known-in_default
returns-in_ok-is_known-in_default t c =
    let old = c.args.arena.now in
    let new = c.add-in_default.new.arena in
    let a = c.args.a in
    let b = c.args.b in
    let known = c.in_ok-is_known-in_default.is_known in
    let some = some_at old a c.node.result.now c.node.ensures.contract c.in_default.not-Failure-0 in
    let one = one_at old b c.node-2.result.now c.node-2.ensures.contract (c.in_default.not-Failure-1, λ x y e. c.in_default.not-Plus-1 x y e) in
    let same = c.in_ok-is_known-in_default.ensures.same in
    record {
      grows = subst (λ ns. Extends ns new) same c.add-in_default.ensures.grows;
      stands = one_ok (λ p. Stands new p (if known then contract_at old a else Plus (contract_at old a) (contract_at old b)))
          (λ p. Stands new p (plus (contract_at old a) (contract_at old b))) c.add-in_default.result
          (λ p h. merge_one old new a b p known c.requires.first some one c.in_ok-is_known-in_default.ensures.has h)
          (subst (λ ns. Enters new c.add-in_default.result (joined_at (added known) ns a b)) same c.add-in_default.ensures.stands);
    }
