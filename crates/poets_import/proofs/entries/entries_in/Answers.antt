use Rattle.std.proofs.Common.{[], ◌∷◌, length, map, ap, refl, ◌∙◌, ◌≡◌}
use Rattle.std.proofs.lemmas.Iterator.Adapters.{YieldsList-from_vec}
use Rattle.std.proofs.lemmas.Iterator.Consumers.{YieldsList-turn}
use Rattle.std.proofs.lemmas.List.{map-append}
use Rattle.std.proofs.lemmas.Result.{err_from_is_err_and}
use Rattle.poets_expr.specs.Env.{declared_of}
use Rattle.poets_command.specs.Calls.{entry_of, history_of}
use Rattle.poets_json.specs.Document.{entry_data}
use Rattle.poets_import.specs.code.Parts.{data_of, said_of}
use Rattle.poets_parse.specs.declared.fault.Unread.TheVariants as U
use Rattle.poets_import.proofs.ManyEntries.{entry_at, found_more}
use Rattle.poets_import.proofs.Unsaid.{handed_on, memory_is_no_shape}
use Rattle.poets_import.proofs.entries.entries_in.Goals as goal

pub returns-in_err-entry-clause-none : goal.returns-in_err-entry-clause-none
returns-in_err-entry-clause-none c = λ fault_is es are e.
    let told = err_from_is_err_and c.from_residual.result c.from_residual.ensures.1 in
    let items = c.args.spoken.items in
    let item = c.in-Some.spoken in
    let fault = c.in_err-entry.field-0.0 in
    let at = YieldsList-turn (YieldsList-from_vec items (cc) (cc)) c.loop-spoken.yielded _ c.loop-spoken.yielded_by _ c.next.new.self item c.in-Some.is c.next.ensures.steps in
    memory_is_no_shape fault (handed_on told.1 told.2 fault_is)
    (entry_at c.args.names.now (declared_of c.args.decls.now.names) said_of data_of (fault ≡ U.Memory) items (length c.loop-spoken.yielded) item es
    at.0 at.1 are e (λ y is same. c.in_err-entry.ensures.only y is same))

pub loop-spoken-preserved : goal.loop-spoken-preserved
loop-spoken-preserved c =
    let names = c.args.names.now in
    let declared = declared_of c.args.decls.now.names in
    let xs = c.loop-spoken.yielded in
    let item = c.in-Some.spoken in
    let old = history_of c.loop-spoken.entries.items in
    let entry = entry_of c.in_ok-entry.entry in
    let pushed = ap history_of c.in_ok-push.ensures.items ∙ map-append entry_of c.loop-spoken.entries.items (c.in_ok-entry.entry ∷ []) in
    record {
      values = rw (pushed, map-append data_of xs (item ∷ []), map-append (entry_data names) old (entry ∷ []), c.loop-spoken.invariant.values, c.in_ok-entry.ensures.value) refl;
      found = rw (pushed, map-append said_of xs (item ∷ [])) (found_more names declared (map said_of xs) (said_of item) old entry c.loop-spoken.invariant.found c.in_ok-entry.ensures.found);
    }
