use Rattle.std.proofs.Common.{◌≡◌, ◌∙◌, ap₂, subst, IfOk}
use Rattle.poets_calculus.specs.Normal.{plus, par}
use Rattle.poets_cons.specs.Table.{contract_at, Stands}
use Rattle.poets_cons.proofs.Standing.{contract_at-later}
use Rattle.poets_residue.proofs.Derived.{par_after}
use Rattle.poets_residue.proofs.derivation.Derivation.one_side.Goals as goal

pub returns-clause-residual : goal.returns-clause-residual
returns-clause-residual c =
    let old = c.args.arena.now in
    let mid = c.par.new.arena in
    let last = c.par-2.new.arena in
    let first : contract_at last c.in_ok-first.first ≡ par (contract_at old c.args.after.0) (contract_at old c.args.b) =
    contract_at-later mid last c.in_ok-second.ensures.grows c.in_ok-first.first c.in_ok-first.ensures.stands.within ∙ c.in_ok-first.ensures.stands.contract in
    let second : contract_at last c.in_ok-second.second ≡ par (contract_at old c.args.a) (contract_at old c.args.after.1) =
    c.in_ok-second.ensures.stands.contract ∙ ap₂ par (contract_at-later old mid c.in_ok-first.ensures.grows c.args.a c.requires.first)
    (contract_at-later old mid c.in_ok-first.ensures.grows c.args.after.1 c.requires.after.second.within) in
    subst (λ k. IfOk c.either.result (λ p. Stands c.either.new.arena p k))
    (ap₂ plus first second ∙ par_after c.args.self.now old c.args.a c.args.b c.args.after c.requires.after) c.either.ensures.stands
