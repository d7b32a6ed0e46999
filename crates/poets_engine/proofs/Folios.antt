-- Portfolios: what their turn prepares, and what is made of it.
use Rattle.std.proofs.Common.{◌≡◌, ℕ, ◌+◌, ◌-◌, false, slice_get, option_map, arith, List, [], ◌∷◌, Option, Some, None, map, refl, sym, ◌∙◌, ap, subst}
use Rattle.std.specs.List.{AllZip, position}
use Rattle.std.proofs.lemmas.List.Quantifiers.{position-Some}
use Rattle.poets_value.specs.declared.value.Name.{Name}
use Rattle.poets_value.specs.declared.value.Value.{Value}
use Rattle.std.specs.Arc.{arc_value}
use Rattle.poets_expr.specs.Env.{Declared, declared_of}
use Rattle.poets_expr.specs.Expression.{Expression}
use Rattle.poets_expr.specs.Val.{val}
use Rattle.poets_report.specs.Plain.{Report}
use Rattle.poets_report.specs.Reports.{report_of}
use Rattle.poets_report.specs.Answers.{IsAnswer}
use Rattle.poets_report.proofs.Existence.{every_answer}
use Rattle.poets_report.specs.declared.report.Answer.{Answer}
use Rattle.poets_report.specs.Plain as plain
use Rattle.poets_syntax.specs.declared.term.Term.{Term}
use Rattle.poets_cons.specs.declared.node.Node.{Node}
use Rattle.poets_table.specs.Pieces.{joined}
use Rattle.poets_table.specs.TableView.{RowView, number_named}
use Rattle.poets_folio.specs.declared.folio.Part.{Part}
use Rattle.poets_folio.specs.Rows.{IsRow}
use Rattle.poets_command.specs.Plain.{Command, Reply}
use Rattle.poets_command.specs.Calls.{Call, folio_row_of, reply_of}
use Rattle.poets_command.specs.Reports.{report_in}
use Rattle.poets_command.specs.Totals.{total_of}
use Rattle.poets_rules.specs.declared.rules.Rules.{Rules}
use Rattle.poets_rules.specs.Rules.{book_of_rules, reports_of_rules}
use Rattle.poets_history.specs.Frame.{Frame, frame_of}
use Rattle.poets_history.specs.Ledger.{Ledger, ledger_of, contract_named, number_in, number_of, trace, absent_or, first_absent}
use Rattle.poets_history.specs.Replies.{argument_values, AreFolioRows, Replies}
use Rattle.poets_engine.specs.Store.{StoreView}
use Rattle.poets_engine.specs.code.Parts.{absent_or_later, absent_from, IsPart}
use Rattle.poets_engine.specs.Rows.{IsLedger, IsStoreOf}
use Rattle.poets_engine.specs.Accepted.{has_changed}
use Rattle.poets_engine.specs.code.Makes.{Makes, Prepares, MakesBody}
use Rattle.poets_engine.specs.State.{Fulfils}
use Rattle.poets_engine.specs.Works.{IsPartIn, HoldsPortfolio, OwesReply}
use Rattle.poets_engine.specs.declared.kept.FolioWork.{FolioWork}
use Rattle.poets_engine.specs.declared.kept.Body.{Body}
use Rattle.poets_engine.specs.declared.kept.Body.TheVariants.{Done, Folio}
use Rattle.poets_engine.proofs.Histories.{answered}
use Rattle.poets_engine.proofs.Standing.{leaves, stood, absent, taken}
use Rattle.poets_engine.proofs.Tallying.{values_by, within}
use Rattle.poets_engine.proofs.Named.{has_name}

row_at : (x : Name) (rows : List (RowView Term (List Node))) (o : Option ℕ) (n : ℕ) → position (has_name x) rows ≡ o → option_map (λ i. i + 1) o ≡ Some n →
    (r : RowView Term (List Node)) × (slice_get rows (n - 1) ≡ Some r)
row_at x rows None n p e = absurd cc
row_at x [] (Some k) n p e = absurd cc
row_at x (r ∷ rows) (Some k) n p e =
    let number : k + 1 ≡ n = cc in
    let here = within (r ∷ rows) k (position-Some (has_name x) (r ∷ rows) k r p).0 in
    (here.0, subst (λ i. slice_get (r ∷ rows) i ≡ Some here.0) (let z : k ≡ n - 1 = omega (arith, number) in z) here.1)

-- the row of a number that a name has
pub row_named : (x : Name) (rows : List (RowView Term (List Node))) (n : ℕ) → number_named x rows ≡ Some n → (r : RowView Term (List Node)) × (slice_get rows (n - 1) ≡ Some r)
row_named x rows n e = row_at x rows (position (has_name x) rows) n refl e

module _ (rules : Rules) (l : Ledger) (store : StoreView) (h : IsLedger rules l store) where
  absent_here : (x : Name) (o : Option ℕ) (later later' : Option Name) → number_named x store.rows ≡ o → later ≡ later' →
      absent_or_later x o later ≡ absent_or x (contract_named l x) later'
  absent_here x None later later' e same = rw (absent rules l x store h e) refl
  absent_here x (Some n) later later' e same = rw ((taken rules l x store h n e).1) same

  -- the first name that no row has is the first that no contract has
  pub absent_same : (names : List Name) → absent_from store.rows names ≡ first_absent l names
  absent_same [] = refl
  absent_same (x ∷ names) = absent_here x (number_named x store.rows) (absent_from store.rows names) (first_absent l names) refl (absent_same names)

  -- the events of a part are those of the contract
  part_events : (x : Name) (part : Part) → IsPart store.rows x part → joined part.events.pieces ≡ trace l (number_of l x)
  part_events x part p =
      let c = stood rules l x store h p.number p.row p.found p.here in
      p.events ∙ c.is.events ∙ ap (trace l) (sym (ap number_in c.named))

  parts_in : (names : List Name) (parts : List Part) → AllZip (IsPart store.rows) names parts → AllZip (IsPartIn l) names parts
  parts_in [] [] p = tt
  parts_in [] (part ∷ parts) p = elim p [ ]
  parts_in (x ∷ names) [] p = elim p [ ]
  parts_in (x ∷ names) (part ∷ parts) p = ((p.0.name, part_events x part p.0), parts_in names parts p.1)

-- the row of a part: its name, and the report's answer over its events
abbrev IsPlainRow : Declared → Report → List (Option Value) → Part → Name × plain.Answer → Type 0
IsPlainRow declared q args part row = (row.0 ≡ part.name) × IsAnswer declared q args (joined part.events.pieces) row.1

plain_rows : (declared : Declared) (q : Report) (args : List (Option Value)) (parts : List Part) (rows : List (Name × Answer)) → AllZip (IsRow declared q args) parts rows →
    AllZip (IsPlainRow declared q args) parts (map folio_row_of rows)
plain_rows declared q args [] [] r = tt
plain_rows declared q args [] (row ∷ rows) r = elim r [ ]
plain_rows declared q args (part ∷ parts) [] r = elim r [ ]
plain_rows declared q args (part ∷ parts) (row ∷ rows) r = (r.0, plain_rows declared q args parts rows r.1)

-- each part has a row
rows_exist : (declared : Declared) (q : Report) (args : List (Option Value)) (parts : List Part) →
    (rows : List (Name × plain.Answer)) × AllZip (IsPlainRow declared q args) parts rows
rows_exist declared q args [] = ([], tt)
rows_exist declared q args (part ∷ parts) =
    let here = every_answer declared q args (joined part.events.pieces) in
    let more = rows_exist declared q args parts in
    ((part.name, here.0) ∷ more.0, ((refl, here.1), more.1))

folio_rows : (f : Frame) (l : Ledger) (q : Report) (args : List Expression) (over : List Name) (parts : List Part) (rows : List (Name × plain.Answer)) →
    AllZip (IsPartIn l) over parts → AllZip (IsPlainRow f.book.declared q (argument_values f args)) parts rows → AreFolioRows f l q args over rows
folio_rows f l q args [] [] [] p r = tt
folio_rows f l q args [] [] (row ∷ rows) p r = elim r [ ]
folio_rows f l q args [] (part ∷ parts) rows p r = elim p [ ]
folio_rows f l q args (x ∷ over) [] rows p r = elim p [ ]
folio_rows f l q args (x ∷ over) (part ∷ parts) [] p r = elim r [ ]
folio_rows f l q args (x ∷ over) (part ∷ parts) (row ∷ rows) p r = (
  (r.0.0 ∙ p.0.0, subst (λ s. IsAnswer f.book.declared q (argument_values f args) s row.1) p.0.1 r.0.1),
  folio_rows f l q args over parts rows p.1 r.1,
)

-- the rows of what was prepared are the right reply
module _ (book : _) (reports : List Report) (l : Ledger) (x : Name) (args : List Expression) (over : List Name) (work : FolioWork)
    (h : HoldsPortfolio book reports l x args over work) where
  abbrev asked : Report
  asked = report_of (arc_value work.report)

  abbrev f : Frame
  f = frame_of book reports

  gives : (rows : List (Name × plain.Answer)) →
      AllZip (IsPlainRow (declared_of (arc_value work.decls).names) asked work.args.items) work.parts.items rows →
      Replies f l (Command.Portfolio x args over) (Reply.Folio rows (total_of asked rows))
  gives rows answers =
      let valued = subst (λ vs. AllZip (IsPlainRow (declared_of (arc_value work.decls).names) asked vs) work.parts.items rows) h.values answers in
      let here = subst (λ d. AllZip (IsPlainRow d asked (argument_values f args)) work.parts.items rows) h.decls valued in
      Replies.Folio h.there h.report (folio_rows f l asked args over work.parts.items rows h.parts here)

-- what `finish` makes of the work answers whatever command the work is owed to
pub folio_fulfils : (place : ℕ) (work : FolioWork) (rows : List (Name × Answer)) (total : Option (Option Value)) →
    AllZip (IsRow (declared_of (arc_value work.decls).names) (report_of (arc_value work.report)) work.args.items) work.parts.items rows →
    total ≡ total_of (report_of (arc_value work.report)) (map folio_row_of rows) →
    Fulfils (record { place = place; body = Folio work }) (Reply.Folio (map folio_row_of rows) total)
folio_fulfils place work rows total r totalled = λ book reports calls command owes.
    let o = owes.reply in
    let f = frame_of book reports in
    let q = report_of (arc_value work.report) in
    let plain = plain_rows (declared_of (arc_value work.decls).names) q work.args.items work.parts.items rows r in
    let made = gives book reports (ledger_of o.history) o.report o.args o.over work o.holds (map folio_row_of rows) plain in
    let asked = subst (λ c. Replies f (ledger_of o.history) c (Reply.Folio (map folio_row_of rows) (total_of q (map folio_row_of rows)))) (sym o.asked) made in
    record {
      history = o.history;
      legal = o.legal;
      same = o.same;
      reply = subst (λ t. Replies f (ledger_of o.history) command (Reply.Folio (map folio_row_of rows) t)) (sym totalled) asked;
    }

-- what was prepared has a reply
prepared_makes : (rules : Rules) (command : Command) (store : StoreView) (work : FolioWork) → Prepares rules command store work →
    (given_reply : Reply) × Makes rules command store store given_reply
prepared_makes rules command store work p =
    let q = report_of (arc_value work.report) in
    let found = rows_exist (declared_of (arc_value work.decls).names) q work.args.items work.parts.items in
    let reply = Reply.Folio found.0 (total_of q found.0) in (
      reply,
      subst (λ c. Makes rules c store store reply) (sym p.asked) (leaves rules (Command.Portfolio p.report p.args p.over) reply store (λ l. refl)
          (λ l h. gives (book_of_rules rules) (reports_of_rules rules) l p.report p.args p.over work (p.holds l h) found.0 found.1)),
    )

module _ (rules : Rules) (command : Command) (old new : StoreView) where
  -- a command that was made has a reply, also where it is still owed
  pub body_makes : (body : Body) → MakesBody rules command old new body → (given_reply : Reply) × Makes rules command old new given_reply
  body_makes (Done reply) m = (reply_of reply, m)
  body_makes (Folio work) m =
      let made = prepared_makes rules command old work m.1 in
      (made.0, subst (λ s. Makes rules command old s made.0) (sym m.0) made.1)

  -- and without it nothing changed
  pub body_refused : (body : Body) → MakesBody rules command old new body → has_changed body ≡ false → new ≡ old
  body_refused (Done reply) m refusal = m.refused refusal
  body_refused (Folio work) m refusal = m.0

  -- and the body owes it
  pub body_owes : (calls : List Call) (body : Body) → IsStoreOf rules calls old → MakesBody rules command old new body →
      OwesReply (book_of_rules rules) (reports_of_rules rules) calls command body
  body_owes calls (Done reply) h m = answered rules calls command (reply_of reply) old new h m
  body_owes calls (Folio work) h m = record {
    history = h.history;
    legal = h.legal;
    same = h.same;
    report = m.1.report;
    args = m.1.args;
    over = m.1.over;
    asked = m.1.asked;
    holds = m.1.holds (ledger_of h.history) h.ledger;
  }

module _ (rules : Rules) (x : Name) (args : List Expression) (over : List Name) (store : StoreView) where
  pub portfolio_absent : (y : Name) → absent_from store.rows over ≡ Some y → Makes rules (Command.Portfolio x args over) store store (Reply.NoContract y)
  portfolio_absent y e =
      leaves rules (Command.Portfolio x args over) (Reply.NoContract y) store (λ l. refl) (λ l h. Replies.PortfolioOfNone (sym (absent_same rules l store h over) ∙ e))

  pub portfolio_prepared : (work : FolioWork) → absent_from store.rows over ≡ None → declared_of (arc_value work.decls).names ≡ (book_of_rules rules).declared →
      report_in (reports_of_rules rules) x ≡ Some (report_of (arc_value work.report)) → work.args.items ≡ values_by rules args → AllZip (IsPart store.rows) over work.parts.items →
      Prepares rules (Command.Portfolio x args over) store work
  portfolio_prepared work e declared found valued p = record {
    report = x;
    args = args;
    over = over;
    asked = refl;
    holds = λ l h. record {
      there = sym (absent_same rules l store h over) ∙ e;
      decls = declared;
      report = found;
      values = valued;
      parts = parts_in rules l store h over work.parts.items p;
    };
  }
