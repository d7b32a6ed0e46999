use Rattle.std.proofs.Common.{◌∙◌, ap, map, sym}
use Rattle.std.specs.Prelude.{Ok, Err, OnOk}
use Rattle.std.specs.Arc.{arc_value}
use Rattle.poets_expr.specs.Expression.{expression_of}
use Rattle.poets_cons.specs.Row.{row_of, contract_by}
use Rattle.poets_cons.specs.Table.{contract_at}
use Rattle.poets_residue.specs.code.Limits.{AddsExposed}
use Rattle.poets_residue.proofs.Exposing.{node_exposed, seq_exposed, both_exposed, first_exposed, application_exposed}
use Rattle.poets_residue.proofs.limits.+expose.Goals as goal

pub returns-then-first-clause-found : goal.returns-then-first-clause-found
returns-then-first-clause-found t c =
    let whole = node_exposed c.args.studied.now c.args.nodes.now c.args.place c.node_at.ensures.contract c.in-Plus.is in
    both_exposed c.args.studied.now c.args.nodes.now whole c.in_ok-first-in-Plus.ensures.found c.in_ok-second-in-Plus.ensures.found

pub returns-else-first-clause-found : goal.returns-else-first-clause-found
returns-else-first-clause-found t c =
    let whole = node_exposed c.args.studied.now c.args.nodes.now c.args.place c.node_at.ensures.contract c.in-Plus.is in
    both_exposed c.args.studied.now c.args.nodes.now whole c.in_ok-first-in-Plus.ensures.found c.in_ok-second-in-Plus.ensures.found

pub returns-then-first-2-clause-found : goal.returns-then-first-2-clause-found
returns-then-first-2-clause-found t c =
    let whole = node_exposed c.args.studied.now c.args.nodes.now c.args.place c.node_at.ensures.contract c.in-Par.is in
    both_exposed c.args.studied.now c.args.nodes.now whole c.in_ok-first-in-Par.ensures.found c.in_ok-second-in-Par.ensures.found

pub returns-else-first-2-clause-found : goal.returns-else-first-2-clause-found
returns-else-first-2-clause-found t c =
    let whole = node_exposed c.args.studied.now c.args.nodes.now c.args.place c.node_at.ensures.contract c.in-Par.is in
    both_exposed c.args.studied.now c.args.nodes.now whole c.in_ok-first-in-Par.ensures.found c.in_ok-second-in-Par.ensures.found

pub returns-then-not-first-clause-found : goal.returns-then-not-first-clause-found
returns-then-not-first-clause-found t c =
    let whole = node_exposed c.args.studied.now c.args.nodes.now c.args.place c.node_at.ensures.contract c.in-Seq.is in
    let alone = seq_exposed c.args.studied.now c.args.nodes.now c.args.place c.in-Seq.a c.in-Seq.b whole (sym c.in_ok-first-in-Seq.ensures.may_end ∙ c.if-not-first.true) in
    first_exposed c.args.studied.now c.args.nodes.now alone c.in_ok-first-in-Seq.ensures.found

pub returns-else-not-first-clause-found : goal.returns-else-not-first-clause-found
returns-else-not-first-clause-found t c =
    let s = c.args.studied.now in
    let nodes = c.args.nodes.now in
    let whole = node_exposed s nodes c.args.place c.node_at.ensures.contract c.in-Seq.is in
    let both = seq_exposed s nodes c.args.place c.in-Seq.a c.in-Seq.b whole (sym c.in_ok-first-in-Seq.ensures.may_end ∙ c.if-not-first.false) in
    elim (c.expose-in-Seq-2.result) as (λ r. OnOk r (AddsExposed s nodes c.in-Seq.b c.expose-in-Seq.new.found.keys c.expose-in-Seq-2.new.found.keys) →
    OnOk r (AddsExposed s nodes c.args.place c.args.found.now.keys c.expose-in-Seq-2.new.found.keys)) [
      | Ok v ↦ (λ h. both_exposed s nodes both c.in_ok-first-in-Seq.ensures.found h)
      | Err e ↦ (λ h. tt)
    ] c.expose-in-Seq-2.ensures.found

pub returns-in-Ok-clause-found : goal.returns-in-Ok-clause-found
returns-in-Ok-clause-found t c =
    let nodes = c.args.nodes.now in
    let whole = c.node_at.ensures.contract ∙ ap (λ n. contract_by (contract_at nodes) (row_of n)) c.in-App.is in
    application_exposed c.args.studied.now nodes c.args.place c.in-App.name (map expression_of (arc_value c.in-App.args).items) c.args.found.now.keys
    c.insert.new.self.keys whole c.requires.within c.in-Ok.ensures.keys
