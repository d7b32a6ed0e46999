use Rattle.std.proofs.Common.{◌∙◌, sym}
use Rattle.poets_calculus.specs.Residual.{residual_after}
use Rattle.poets_residue.proofs.Traces.{residual_after-more, trace_formed, trace_fit, trace_normal}
use Rattle.poets_open.proofs.OpenForEvents.{goes_on, taken_on}
use Rattle.poets_open.proofs.laws.open_for_events.Goals as goal

pub returns-clause-normal : goal.returns-clause-normal
returns-clause-normal c = λ book marks e t study formed fits normal declared.
    (goes_on book marks study e declared t formed fits normal, taken_on book marks study e declared t formed fits normal)

pub returns-clause-after_trace : goal.returns-clause-after_trace
returns-clause-after_trace c = λ book marks o s e study formed fits events declared.
    let t = residual_after book marks o s in
    let more = residual_after-more book marks o s e in
    let here = trace_formed book marks study o formed fits s events in
    let fit = trace_fit book marks study o formed fits s events in
    let normal = trace_normal book marks o s in (
      (λ unless. goes_on book marks study e declared t here fit normal (λ q. unless (more ∙ q))),
      (λ taken q. taken_on book marks study e declared t here fit normal taken (sym more ∙ q)),
    )
