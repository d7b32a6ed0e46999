use Rattle.std.proofs.Common.{◌≡◌, ◌∙◌, sym, ap₂, subst, IfOk}
use Rattle.poets_calculus.specs.Normal.{plus}
use Rattle.poets_calculus.specs.Residual.{after}
use Rattle.poets_norm.specs.Choices.{IsDistinctChoice}
use Rattle.poets_cons.specs.Table.{contract_at, Stands}
use Rattle.poets_cons.proofs.Standing.{contract_at-later}
use Rattle.poets_residue.specs.code.Deriving.{book_by, marks_by}
use Rattle.poets_residue.proofs.Derived.{seq_after, second_joined}
use Rattle.poets_residue.proofs.derivation.Derivation.either_end.Goals as goal

pub either-requires-clause-second : goal.either-requires-clause-second
either-requires-clause-second c = λ h.
    let d = c.args.self.now in
    let old = c.args.arena.now in
    let grows = c.in_ok-first.ensures.grows in
    let joined = (rw c.nodes.ensures.nodes at c.is_joined-is_b_known.ensures) h in
    subst IsDistinctChoice (sym (contract_at-later old c.seq.new.arena grows c.args.after.1 c.requires.after.second.within))
    (second_joined d old c.args.a c.args.b c.args.after c.requires.after
    (λ e. subst (λ k. IsDistinctChoice (after (book_by d) (marks_by d) e k)) (contract_at-later old c.seq.new.arena grows c.args.b c.requires.second) (joined e)))

pub returns-clause-residual : goal.returns-clause-residual
returns-clause-residual c =
    let old = c.args.arena.now in
    let mid = c.seq.new.arena in
    let second : contract_at mid c.args.after.1 ≡ contract_at old c.args.after.1 =
    contract_at-later old mid c.in_ok-first.ensures.grows c.args.after.1 c.requires.after.second.within in
    subst (λ k. IfOk c.either.result (λ p. Stands c.either.new.arena p k))
    (ap₂ plus c.in_ok-first.ensures.stands.contract second
    ∙ seq_after c.args.self.now old c.args.a c.args.b c.args.after c.requires.after c.requires.ends) c.either.ensures.stands
