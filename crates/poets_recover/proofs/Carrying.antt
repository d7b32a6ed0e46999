-- What the texts of calls carry: a longer table of names, and types.
use Rattle.std.proofs.Common.{ℕ, List, [], sym, append-nil}
use Rattle.std.specs.List.{All}
use Rattle.std.proofs.lemmas.List.Elements.{All-nil, All-cons}
use Rattle.poets_syntax.specs.Plain.{Book}
use Rattle.poets_report.specs.Plain.{Report}
use Rattle.poets_command.specs.Calls.{Call}
use Rattle.poets_command.specs.Typing.{IsTypedCommand}
use Rattle.poets_lex.specs.Table.{Table, Extends}
use Rattle.poets_lex.proofs.Readings.{Extends-reading, Extends-then}
use Rattle.poets_recover.specs.Stored.{AreCalls, AreStoredCalls}

module _ (book : Book) (reports : List Report) where
  -- the names of the table stay, and others follow
  pub stored_extends : {names after : Table} {texts : List (List ℕ)} {calls : List Call} → AreStoredCalls book reports names texts calls after → Extends names after
  stored_extends {names} AreCalls.NoTexts = ([], sym (append-nil names))
  stored_extends {names} {after} (AreCalls.Text {between = between} first rest) = Extends-then names between after (Extends-reading first.lexed) (stored_extends rest)

  -- each call is typed
  pub stored_typed : {names after : Table} {texts : List (List ℕ)} {calls : List Call} → AreStoredCalls book reports names texts calls after → All (λ (call : Call). IsTypedCommand book reports call.1) calls
  stored_typed AreCalls.NoTexts = All-nil (λ (call : Call). IsTypedCommand book reports call.1)
  stored_typed (AreCalls.Text {clerk = clerk} {command = command} {calls = calls} first rest) =
      All-cons (λ (call : Call). IsTypedCommand book reports call.1) (clerk, command) calls first.typed (stored_typed rest)
