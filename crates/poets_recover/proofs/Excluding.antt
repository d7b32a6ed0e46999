-- Texts that are calls are not refused.
use Rattle.std.proofs.Common.{◌≡◌, ℕ, ◌+◌, ◌<◌, ◌≤◌, List, [], ◌∷◌, ◌++◌, length, refl, sym, ◌∙◌, ap, subst, arith}
use Rattle.std.proofs.lemmas.List.Sums.{sum_by-append, sum_by-cons}
use Rattle.poets_lex.proofs.OneWay.{one-reading}
use Rattle.poets_lex.specs.Table.{Table}
use Rattle.poets_syntax.specs.Plain.{Book}
use Rattle.poets_report.specs.Plain.{Report}
use Rattle.poets_command.specs.Calls.{Call}
use Rattle.poets_command.specs.Plain.{Command}
use Rattle.poets_recover.specs.Stored.{AreCalls, AreStoredCalls, IsRefused, IsRefusedText, IsStoredCall, length_of_all, most_stored}

module _ (book : Book) (reports : List Report) where
  -- a text that is a call leaves one table
  one_table : {before after end : Table} {text : List ℕ} {clerk other : ℕ} {command more : Command} →
      IsStoredCall book reports before text clerk command after → IsStoredCall book reports before text other more end → after ≡ end
  one_table {before} {after} {end} {text} a b = (one-reading before text 0 a.tokens b.tokens after end a.lexed b.lexed).1

  -- where texts are calls, the one behind some of them is a call after the table that those leave
  next_call : {names between after : Table} (front : List (List ℕ)) (text : List ℕ) (rest : List (List ℕ)) {calls all : List Call} →
      AreStoredCalls book reports names front calls between → AreStoredCalls book reports names (front ++ text ∷ rest) all after →
      ((clerk : ℕ) (command : Command) (end : Table) → IsStoredCall book reports between text clerk command end → ⊥) → ⊥
  next_call [] text rest AreCalls.NoTexts (AreCalls.Text {between = end} {clerk = clerk} {command = command} here more) none = none clerk command end here
  next_call {between = between} (first ∷ front) text rest (AreCalls.Text {between = table} {calls = calls} one ones) (AreCalls.Text {between = other} here more) none =
      next_call front text rest (subst (λ t. AreStoredCalls book reports t front calls between) (one_table one here) ones) more none

  -- texts that are calls, and have no more bytes than the most, are not refused
  pub calls_unrefused : (names after : Table) (texts : List (List ℕ)) (calls : List Call) (number : ℕ) →
      AreStoredCalls book reports names texts calls after → length_of_all texts ≤ most_stored → IsRefusedText book reports names texts number → ⊥
  calls_unrefused names after texts calls number are within refused =
      by_cause (subst (λ ts. AreStoredCalls book reports names ts calls after) refused.cut are) refused.refused
    where
      long : length_of_all texts ≡ length_of_all refused.before + (length refused.text + length_of_all refused.after)
      long =
          ap length_of_all refused.cut ∙ (sum_by-append length refused.before (refused.text ∷ refused.after)
          ∙ ap (λ n. length_of_all refused.before + n) (sum_by-cons length refused.text refused.after))

      by_cause : AreStoredCalls book reports names (refused.before ++ refused.text ∷ refused.after) calls after →
          IsRefused book reports (length_of_all refused.before) refused.between refused.text → ⊥
      by_cause all (IsRefused.TooMuch past) = omega (arith, long, within, past)
      by_cause all (IsRefused.NoCall none) = next_call refused.before refused.text refused.after refused.stored all none
