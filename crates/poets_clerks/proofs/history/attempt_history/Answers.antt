use Rattle.std.proofs.Common.{rules, ◌≡◌, ◌≤◌, length, map, sym, subst, arith}
use Rattle.std.specs.Prelude.{Contains}
use Rattle.std.proofs.lemmas.List.{length-map}
use Rattle.poets_turn.specs.Clerks.{clerk_count}
use Rattle.poets_turn.specs.Settings.{OnlyClerks}
use Rattle.poets_turn.proofs.Numbered.{numbered_are_all}
use Rattle.poets_clerks.specs.Histories.{AreInOrder, AreReplies}
use Rattle.poets_clerks.specs.Scripts.{script_calls}
use Rattle.poets_clerks.specs.code.Slots.{answers_of_all}
use Rattle.poets_clerks.proofs.Finished.{made, filled, replied, scripts_made}
use Rattle.poets_clerks.proofs.Parts.{kept_ok, parts_made}
use Rattle.poets_clerks.proofs.history.attempt_history.Goals as goal

pub close-machine-requires-clause-all : goal.close-machine-requires-clause-all
close-machine-requires-clause-all g c k low high =
    subst (λ l. Contains l k) (sym c.work-clerks.ensures.numbers)
    (numbered_are_all _ c.in-Ok.started.1.items c.in-Ok.ensures.clerks.0 c.in-Ok.ensures.numbers k low (subst (λ n. k ≤ n) c.in-Ok.ensures.frame.1 high))

pub all_replies-requires : goal.all_replies-requires
all_replies-requires g c =
    let done = made _ _ _ _ _ _ _ _ _ c.work-clerks.ensures.worked c.if-memory.false c.in-Ok.ensures.clerks.1 c.in-Ok.ensures.numbers c.close-machine.ensures.clerks in
    let count : clerk_count c.in-Ok.started.0 ≡ length (map script_calls c.args.scripts.now.items) = omega (arith, c.in-Ok.ensures.frame.1, c.len.ensures, c.requires.scripts.1, length-map c.args.scripts.now.items script_calls) in
    filled _ _ _ _ done (subst (λ n. OnlyClerks n (g.M.Machine.history c.close-machine.result)) count c.close-machine.ensures.numbers)

pub returns-then-memory-clause-part : goal.returns-then-memory-clause-part
returns-then-memory-clause-part g c =
    let n = length-map c.args.scripts.now.items script_calls in
    let count : clerk_count c.in-Ok.started.0 ≡ length (map script_calls c.args.scripts.now.items) = omega (arith, c.in-Ok.ensures.frame.1, c.len.ensures, c.requires.scripts.1, n) in
    let long : length c.in-Ok.started.1.items ≡ length (map script_calls c.args.scripts.now.items) = omega (arith, c.in-Ok.ensures.clerks.0, c.len.ensures, c.requires.scripts.1, n) in
    parts_made _ _ _ _ _ _ _ _ _ c.work-clerks.ensures.worked long c.in-Ok.ensures.clerks.1 c.in-Ok.ensures.numbers c.close-machine.ensures.clerks
    (subst (λ k. OnlyClerks k (g.M.Machine.history c.close-machine.result)) count c.close-machine.ensures.numbers)

pub returns : goal.returns
returns g c =
    let n = length-map c.args.scripts.now.items script_calls in
    let count : clerk_count c.in-Ok.started.0 ≡ length (map script_calls c.args.scripts.now.items) = omega (arith, c.in-Ok.ensures.frame.1, c.len.ensures, c.requires.scripts.1, n) in
    let long : length c.in-Ok.started.1.items ≡ length (map script_calls c.args.scripts.now.items) = omega (arith, c.in-Ok.ensures.clerks.0, c.len.ensures, c.requires.scripts.1, n) in
    let history = g.M.Machine.history c.close-machine.result in
    let only = subst (λ k. OnlyClerks k history) count c.close-machine.ensures.numbers in
    let done = made _ _ _ _ _ _ _ _ _ c.work-clerks.ensures.worked c.if-memory.false c.in-Ok.ensures.clerks.1 c.in-Ok.ensures.numbers c.close-machine.ensures.clerks in
    let all = answers_of_all c.work-clerks.result.answers.items in record {
      frame = search rules;
      part = parts_made _ _ _ _ _ _ _ _ _ c.work-clerks.ensures.worked long c.in-Ok.ensures.clerks.1 c.in-Ok.ensures.numbers c.close-machine.ensures.clerks only;
      history = kept_ok c.all_replies.result c.ok-replies.result (λ replies. AreInOrder all replies.items) _ c.ok-replies.ensures.value c.all_replies.ensures (λ replies _. scripts_made _ _ _ _ done only);
      replies = kept_ok c.all_replies.result c.ok-replies.result (λ replies. AreInOrder all replies.items) _ c.ok-replies.ensures.value c.all_replies.ensures
          (λ replies order. subst (λ f. AreReplies (g.M.Machine.answers f) history replies.items) c.in-Ok.ensures.frame.0 (replied _ _ _ _ replies.items done only order));
    }
