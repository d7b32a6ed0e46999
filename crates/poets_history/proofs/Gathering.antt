-- The ledger of a history is four lists, each gathered from the history.
use Rattle.std.proofs.Common.{◌≡◌, ℕ, List, [], ◌∷◌, ◌++◌, map, fold, refl, sym, ◌∙◌, ap, append_assoc}
use Rattle.std.specs.List.{filter_map, cons_option}
use Rattle.std.proofs.lemmas.List.{map-append, append-nil}
use Rattle.std.proofs.lemmas.List.Elements.{filter_map-append}
use Rattle.std.proofs.lemmas.List.Sums.{fold-append}
use Rattle.poets_value.specs.declared.value.Name.{Name}
use Rattle.poets_value.specs.declared.event.Event.{Event}
use Rattle.poets_expr.specs.Expression.{Expression}
use Rattle.poets_syntax.specs.Contract.{Contract}
use Rattle.poets_command.specs.Plain.{Command, Reply, Entry}
use Rattle.poets_history.specs.Ledger.{Ledger, with_entry}
use Rattle.poets_history.specs.Gathered.{registered, log_of, ended, watching, LedgerIsGathered}
use Rattle.poets_history.specs.Gathered.{registration, logged, ending, watch, with_before}

abbrev ledger_with : List (Name × Contract) → List (ℕ × Event) → List ℕ → List (Name × List Expression) → Ledger
ledger_with contracts log ends watches = record { contracts = contracts; log = log; ends = ends; watches = watches }

four_lists : {contracts contracts' : List (Name × Contract)} {log log' : List (ℕ × Event)} {ends ends' : List ℕ}
    {watches watches' : List (Name × List Expression)} →
    contracts ≡ contracts' → log ≡ log' → ends ≡ ends' → watches ≡ watches' →
    ledger_with contracts log ends watches ≡ ledger_with contracts' log' ends' watches'
four_lists a b c d = λ i. record { contracts = a i; log = b i; ends = c i; watches = d i }

abbrev gathered : List Entry → Ledger
gathered h = record { contracts = registered h; log = log_of h; ends = ended h; watches = watching h }

-- with what an entry gives to each of the lists
abbrev gathered_and : List Entry → Command → Reply → Ledger
gathered_and h command reply = record {
  contracts = registered h ++ cons_option (registration command reply) [];
  log = logged h command reply (log_of h);
  ends = ended h ++ cons_option (ending h command reply) [];
  watches = watching h ++ cons_option (watch command reply) [];
}

-- what nothing is added to stays the same
nothing : {A : Type 0} {xs : List A} → xs ≡ xs ++ []
nothing {xs = xs} = sym (append-nil xs)

-- an entry gives to at most one of the lists, or changes the log
gives : (h : List Entry) (command : Command) (reply : Reply) →
    with_entry (gathered h) command reply ≡ gathered_and h command reply
gives h (Command.Register x c) (Reply.Registered n) = four_lists refl refl nothing nothing
gives h (Command.Transmit x e) (Reply.Recorded n may_end) = four_lists nothing refl nothing nothing
gives h (Command.Void x k) (Reply.Voided n may_end) = four_lists nothing refl nothing nothing
gives h (Command.End x) Reply.EndedNow = four_lists nothing refl refl nothing
gives h (Command.Watch q args) (Reply.Watching n) = four_lists nothing refl nothing refl
gives h _ _ = four_lists nothing refl nothing nothing

before_last : (h : List Entry) (e : Entry) → with_before (h ++ e ∷ []) ≡ with_before h ++ (h, e) ∷ []
before_last [] e = refl
before_last (d ∷ h) e =
    let behind : List Entry × Entry → List Entry × Entry = λ p. (d ∷ p.0, p.1) in
    ap (λ ps. ([], d) ∷ ps) (ap (map behind) (before_last h e) ∙ map-append behind (with_before h) ((h, e) ∷ []))

-- what is gathered from one entry more
gathered_last : (h : List Entry) (e : Entry) → gathered_and h e.command e.reply ≡ gathered (h ++ e ∷ [])
gathered_last h e =
    let noted = λ (log : List (ℕ × Event)) (p : List Entry × Entry). logged p.0 p.1.command p.1.reply log in
    let closed = λ (p : List Entry × Entry). ending p.0 p.1.command p.1.reply in
    four_lists
    (sym (filter_map-append (λ d. registration d.command d.reply) h (e ∷ [])))
    (sym (ap (fold noted []) (before_last h e) ∙ fold-append noted [] (with_before h) ((h, e) ∷ [])))
    (sym (ap (filter_map closed) (before_last h e) ∙ filter_map-append closed (with_before h) ((h, e) ∷ [])))
    (sym (filter_map-append (λ d. watch d.command d.reply) h (e ∷ [])))

abbrev entered : Ledger → Entry → Ledger
entered ledger e = with_entry ledger e.command e.reply

gathered_on : (before h : List Entry) → fold entered (gathered before) h ≡ gathered (before ++ h)
gathered_on before [] = ap gathered (nothing {xs = before})
gathered_on before (e ∷ h) =
    ap (λ ledger. fold entered ledger h) (gives before e.command e.reply ∙ gathered_last before e)
    ∙ gathered_on (before ++ e ∷ []) h
    ∙ ap gathered (append_assoc before (e ∷ []) h)

pub ledger_is_gathered : LedgerIsGathered
ledger_is_gathered h = gathered_on [] h
