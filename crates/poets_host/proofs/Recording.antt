-- What follows where a delivery is recorded, and what a tally asks for.
use Rattle.std.proofs.Common.{◌≡◌, ℕ, ◌+◌, ◌*◌, ◌≤◌, true, false, nat_eq, Bool, List, [], ◌∷◌, ◌++◌, Option, Some, None, map, filter, length, refl, sym, ◌∙◌, ap, subst, arith}
use Rattle.std.proofs.lemmas.Bool.{eq-eqb}
use Rattle.std.proofs.lemmas.List.{map-append, length-map}
use Rattle.std.proofs.lemmas.List.Elements.{filter-append}
use Rattle.poets_value.specs.declared.event.Event.{Event}
use Rattle.poets_value.specs.declared.value.Name.{Name}
use Rattle.poets_value.specs.Listed.{Listed}
use Rattle.poets_expr.specs.Expression.{Expression, expression_of}
use Rattle.poets_expr.specs.declared.expr.Expr.{Expr}
use Rattle.poets_syntax.specs.Contract.{Contract}
use Rattle.poets_syntax.specs.Plain.{Book}
use Rattle.poets_report.specs.Plain.{Report}
use Rattle.poets_table.specs.TableView.{number_named}
use Rattle.std.specs.declared.alloc.Global.{Global}
use Rattle.std.specs.declared.sync.Arc.{Arc}
use Rattle.std.specs.Arc.{arc_value}
use Rattle.poets_command.specs.declared.call.Command.{Command as CodeCommand}
use Rattle.poets_command.specs.declared.call.Command.TheVariants as C
use Rattle.poets_command.specs.declared.call.Reply.{Reply as CodeReply}
use Rattle.poets_command.specs.Calls.{calls_of, command_of, reply_of}
use Rattle.poets_command.specs.Plain.{Command, Entry, Reply}
use Rattle.poets_rules.specs.declared.rules.Rules.{Rules}
use Rattle.poets_rules.specs.Rules.{book_of_rules, reports_of_rules}
use Rattle.poets_history.specs.Frame.{Frame}
use Rattle.poets_history.specs.Histories.{IsLegal}
use Rattle.poets_history.specs.Ledger.{Ledger, ledger_of, events, is_accepted, number_in, trace, with_entry}
use Rattle.poets_history.specs.Replies.{IsNamed, Replies}
use Rattle.poets_engine.specs.Accounts.{Accounts}
use Rattle.poets_engine.specs.Rows.{IsLedger}
use Rattle.poets_engine.specs.Accepted.{has_changed}
use Rattle.poets_engine.specs.Evaluations.{most_evaluations, most_evaluations_in}
use Rattle.poets_engine.specs.State.{State, AddsCall, HasLegalHistory, IsKeptUnlessChanged, OwesNext, plain_calls}
use Rattle.poets_engine.specs.Works.{OwesReply}
use Rattle.poets_engine.specs.declared.kept.Body.TheVariants.{Done, Folio}
use Rattle.poets_engine.specs.declared.kept.FolioWork.{FolioWork}
use Rattle.poets_engine.specs.declared.kept.Kept.{Kept}
use Rattle.poets_engine.specs.Store.{StoreView}
use Rattle.poets_engine.specs.declared.accounts.Account.{Account}
use Rattle.poets_engine.proofs.Standing.{absent, taken}
use Rattle.poets_host.specs.Calls.{HasCallMore, IsReplyAfter, KeepsAll}
use Rattle.poets_host.specs.Deliveries.{Records}
use Rattle.poets_host.specs.Tallies.{AsksTwiceAnEvent}
use Rattle.poets_host.proofs.Following.{one_legal, before, before_legal, before_is, call_more, keeps_all, ledger_after}

-- the delivery is recorded, on the contract with this number and original
pub record IsRecorded (l : Ledger) (x : Name) (r : Reply) : Type 0 where
  pub number : ℕ
  pub original : Contract
  pub named : IsNamed l x number original
  pub count : ℕ
  pub may_end : Bool
  pub reply : r ≡ Reply.Recorded count may_end

-- a delivery that is accepted is recorded
pub recorded : {f : Frame} {l : Ledger} {x : Name} {e : Event} {r : Reply} → Replies f l (Command.Transmit x e) r → is_accepted r ≡ true → IsRecorded l x r
recorded (Replies.TransmitToNone a) y = absurd cc
recorded (Replies.TransmitToEnded a b) y = absurd cc
recorded (Replies.Late a b) y = absurd cc
recorded (Replies.Unmatched a b) y = absurd cc
recorded (Replies.TransmitTooLarge a b c) y = absurd cc
recorded (Replies.Recorded {i = i} {o = o} {b = b} opened a c d) y =
    record { number = i; original = o; named = opened.0.0; count = _; may_end = b; reply = refl }

-- the row with the contract's name has its number
number_is : (rules : Rules) (l : Ledger) (x : Name) (store : StoreView) (i : ℕ) (o : Contract) → IsLedger rules l store → IsNamed l x i o → number_named x store.rows ≡ Some i
number_is rules l x store i o kept named = by (number_named x store.rows) refl
  where
    by : (found : Option ℕ) → number_named x store.rows ≡ found → number_named x store.rows ≡ Some i
    by None e = absurd (let z = sym (absent rules l x store kept e) ∙ named in cc)
    by (Some n) e =
        let z = sym (taken rules l x store kept n e).1 ∙ named in
        let same : n ≡ i = ap number_in z in
        e ∙ ap Some same

-- the trace of a contract with one event more
trace_more : (l : Ledger) (n : ℕ) (e : Event) → trace (record l { log = l.log ++ (n, e) ∷ [] }) n ≡ trace l n ++ e ∷ []
trace_more l n e =
    ap (map (λ p. p.1)) (filter-append (λ p. nat_eq p.0 n) l.log ((n, e) ∷ []) ∙ rw (eq-eqb n n refl) refl)
    ∙ map-append (λ p. p.1) (filter (λ p. nat_eq p.0 n) l.log) ((n, e) ∷ [])

-- the account of a contract has the events of its trace
events_are : (rules : Rules) (l : Ledger) (x : Name) (i : ℕ) (o : Contract) (a : Account) → IsNamed l x i o → Accounts rules.studied l x (Some a) → a.events.items ≡ trace l i
events_are rules l x i o a named is =
    let z = sym is.1 ∙ named in
    let same : is.0.0 ≡ i = ap number_in z in
    is.2.events ∙ ap (trace l) same

module _ (clerk : ℕ) (x : Name) (e : Event) (reply : Reply) (old new : State) (answers : IsReplyAfter old (Command.Transmit x e) reply)
    (more : HasCallMore clerk (Command.Transmit x e) old new) (rules : new.rules ≡ old.rules) (accepted : is_accepted reply ≡ true) where
  abbrev book : Book
  book = book_of_rules old.rules

  abbrev reports : List Report
  reports = reports_of_rules old.rules

  abbrev command : Command
  command = Command.Transmit x e

  abbrev first : Ledger
  first = ledger_of (before book reports (plain_calls old.calls) command reply answers)

  abbrev r : IsRecorded first x reply
  r = recorded answers.reply accepted

  abbrev last : Ledger
  last = record first { log = first.log ++ (r.number, e) ∷ [] }

  last_is : (h : List Entry) → IsLegal (book_of_rules new.rules) (reports_of_rules new.rules) h → calls_of h ≡ plain_calls new.calls → ledger_of h ≡ last
  last_is h legal same =
      ledger_after book reports (plain_calls old.calls) command reply answers clerk h (subst (λ q. IsLegal (book_of_rules q) (reports_of_rules q) h) rules legal) (same ∙ more)
      ∙ ap (with_entry first command) r.reply
      ∙ ap (λ c. record first { log = first.log ++ (number_in c, e) ∷ [] }) r.named

  pub records : HasLegalHistory old → HasLegalHistory new → Records x e old new
  records legal legal' =
      let first_is = before_is book reports (plain_calls old.calls) command reply answers legal.entries legal.legal legal.same in
      let kept : IsLedger old.rules first old.store = subst (λ h. IsLedger old.rules (ledger_of h) old.store) first_is legal.ledger in
      record {
        number = r.number;
        named = number_is old.rules first x old.store r.number r.original kept r.named;
        log = legal'.ledger.log ∙ ap (λ l. l.log) (last_is legal'.entries legal'.legal legal'.same) ∙ ap (λ s. s ++ (r.number, e) ∷ []) (sym kept.log);
        account = λ a a' right right'.
            let was = events_are old.rules first x r.number r.original a r.named
            (right (before book reports (plain_calls old.calls) command reply answers) (before_legal book reports (plain_calls old.calls) command reply answers) answers.same) in
            let is = events_are new.rules last x r.number r.original a' r.named
            (subst (λ l. Accounts new.rules.studied l x (Some a')) (last_is legal'.entries legal'.legal legal'.same) (right' legal'.entries legal'.legal legal'.same)) in
            is ∙ trace_more first r.number e ∙ ap (λ s. s ++ e ∷ []) (sym was);
      }

-- the log of the engine is as long as the history has events
pub asks_twice : (e : State) (asked asked' : ℕ) → HasLegalHistory e → asked' ≤ asked + (1 + 2 * length e.store.log) → AsksTwiceAnEvent e asked asked'
asks_twice e asked asked' legal most = λ h is same.
    let one = one_legal (book_of_rules e.rules) (reports_of_rules e.rules) h legal.entries is legal.legal (same ∙ sym legal.same) in
    let long : length (events (ledger_of h)) ≡ length e.store.log =
    ap (λ g. length (events (ledger_of g))) one ∙ length-map (ledger_of legal.entries).log (λ p. p.1) ∙ ap length (sym legal.ledger.log) in
    omega (arith, long, most)

-- what the code is told of a delivery: the reply is made
module _ (clerk : ℕ) (x : Name) (e : Event) (a : Arc CodeCommand Global) (kept : Kept) (reply : CodeReply) (old new : State)
    (is : arc_value a ≡ C.Transmit x e) (owes : OwesNext old (arc_value a) kept) (done : kept.body ≡ Done reply) (adds : AddsCall clerk a old new) (rules : new.rules ≡ old.rules) where
  answers_it : IsReplyAfter old (Command.Transmit x e) (reply_of reply)
  answers_it =
      subst (λ c. IsReplyAfter old (command_of c) (reply_of reply)) is
      (subst (OwesReply (book_of_rules old.rules) (reports_of_rules old.rules) (plain_calls old.calls) (command_of (arc_value a))) done owes.reply)

  pub delivery_recorded : HasLegalHistory old → HasLegalHistory new → is_accepted (reply_of reply) ≡ true → Records x e old new
  delivery_recorded legal legal' accepted = records clerk x e (reply_of reply) old new answers_it (call_more clerk a (C.Transmit x e) old new adds is) rules accepted legal legal'

  pub delivery_refused : IsKeptUnlessChanged kept.body old new → is_accepted (reply_of reply) ≡ false → KeepsAll old new
  delivery_refused same declined =
      keeps_all clerk (Command.Transmit x e) (reply_of reply) old new answers_it (call_more clerk a (C.Transmit x e) old new adds is) rules
      (same (ap has_changed done ∙ declined)) declined

-- a delivery is no portfolio
pub no_delivery : (x : Name) (e : Event) (a : Arc CodeCommand Global) (kept : Kept) (work : FolioWork) (old : State) → arc_value a ≡ C.Transmit x e → OwesNext old (arc_value a) kept → kept.body ≡ Folio work → ⊥
no_delivery x e a kept work old is owes folio =
    let q = owes.reply in
    let w = subst (OwesReply (book_of_rules old.rules) (reports_of_rules old.rules) (plain_calls old.calls) (command_of (arc_value a))) folio q in
    let z : Command.Transmit x e ≡ Command.Portfolio w.report w.args w.over = sym (ap command_of is) ∙ w.asked in
    cc

-- a tally is not accepted: it changes nothing
tallied : {f : Frame} {l : Ledger} {x : Name} {args : List Expression} {r : Reply} → Replies f l (Command.Tally x args) r → is_accepted r ≡ false
tallied (Replies.Tallied a) = refl

-- what the code is told of a tally of a report without parameters
module _ (clerk : ℕ) (x : Name) (args : Listed Expr) (a : Arc CodeCommand Global) (old : State) (is : arc_value a ≡ C.Tally x args) (none : args.items ≡ []) where
  tally_is : command_of (arc_value a) ≡ Command.Tally x []
  tally_is = ap command_of is ∙ ap (λ es. Command.Tally x (map expression_of es)) none

  pub tally_asks : (asked asked' : ℕ) → HasLegalHistory old → asked' ≤ asked + most_evaluations_in old a → AsksTwiceAnEvent old asked asked'
  tally_asks asked asked' legal most =
      let count : most_evaluations_in old a ≡ 1 + 2 * length old.store.log = ap (most_evaluations old.rules old.store) tally_is in
      asks_twice old asked asked' legal (subst (λ n. asked' ≤ asked + n) count most)

  module _ (kept : Kept) (owes : OwesNext old (arc_value a) kept) where
    pub no_tally : (work : FolioWork) → kept.body ≡ Folio work → ⊥
    no_tally work folio =
        let w = subst (OwesReply (book_of_rules old.rules) (reports_of_rules old.rules) (plain_calls old.calls) (command_of (arc_value a))) folio owes.reply in
        let z : Command.Tally x [] ≡ Command.Portfolio w.report w.args w.over = sym tally_is ∙ w.asked in
        cc

    pub tally_right : (reply : CodeReply) → kept.body ≡ Done reply → IsReplyAfter old (Command.Tally x []) (reply_of reply)
    tally_right reply done =
        subst (λ c. IsReplyAfter old c (reply_of reply)) tally_is
        (subst (OwesReply (book_of_rules old.rules) (reports_of_rules old.rules) (plain_calls old.calls) (command_of (arc_value a))) done owes.reply)

    pub tally_keeps : (reply : CodeReply) (new : State) → kept.body ≡ Done reply → AddsCall clerk a old new → new.rules ≡ old.rules → IsKeptUnlessChanged kept.body old new → KeepsAll old new
    tally_keeps reply new done adds rules same =
        let here = tally_right reply done in
        let declined = tallied here.reply in
        let more : HasCallMore clerk (Command.Tally x []) old new = subst (λ c. HasCallMore clerk c old new) tally_is (call_more clerk a (arc_value a) old new adds refl) in
        keeps_all clerk (Command.Tally x []) (reply_of reply) old new here more rules (same (ap has_changed done ∙ declined)) declined
