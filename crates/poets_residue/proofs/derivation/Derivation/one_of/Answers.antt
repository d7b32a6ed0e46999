use Rattle.std.proofs.Common.{subst, IfOk}
use Rattle.poets_cons.specs.Table.{Stands}
use Rattle.poets_residue.proofs.Derived.{plus_after, first_joined, second_joined}
use Rattle.poets_residue.proofs.derivation.Derivation.one_of.Goals as goal

pub either-requires-clause-first : goal.either-requires-clause-first
either-requires-clause-first c = λ h.
    first_joined c.args.self.now c.args.arena.now c.args.a c.args.b c.args.after c.requires.after ((rw c.nodes.ensures.nodes at c.is_joined-is_a_known.ensures) h)

pub either-requires-clause-second : goal.either-requires-clause-second
either-requires-clause-second c = λ h.
    second_joined c.args.self.now c.args.arena.now c.args.a c.args.b c.args.after c.requires.after ((rw c.nodes-2.ensures.nodes at c.is_joined-is_b_known.ensures) h)

pub returns-clause-residual : goal.returns-clause-residual
returns-clause-residual c =
    subst (λ k. IfOk c.either.result (λ p. Stands c.either.new.arena p k))
    (plus_after c.args.self.now c.args.arena.now c.args.a c.args.b c.args.after c.requires.after) c.either.ensures.stands
