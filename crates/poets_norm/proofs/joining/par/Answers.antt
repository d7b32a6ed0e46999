use Rattle.std.proofs.Common.{sym, subst}
use Rattle.poets_cons.specs.Table.{contract_at}
use Rattle.poets_norm.specs.Rows.{Enters}
use Rattle.poets_norm.proofs.Parts.{par_joined}
use Rattle.poets_norm.proofs.RowChoices.{proper_at}
use Rattle.poets_norm.proofs.joining.par.Goals as goal

pub returns-in_default-clause-stands : goal.returns-in_default-clause-stands
returns-in_default-clause-stands c =
    let old = c.args.arena.now in
    let a = c.args.a in
    let b = c.args.b in
    let d = c.in_default in
    let first = proper_at old a c.node.result.now c.node.ensures.contract d.not-Failure-0 d.not-Success-0 in
    let second = proper_at old b c.node-2.result.now c.node-2.ensures.contract d.not-Failure-1 d.not-Success-1 in
    subst (Enters c.beside.new.arena c.beside.result) (sym (par_joined (contract_at old a) (contract_at old b) first second)) c.beside.ensures.stands
