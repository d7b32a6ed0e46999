-- A registration is made.
use Rattle.std.proofs.Common.{◌≡◌, ℕ, ◌+◌, ◌≤◌, Bool, true, false, List, [], ◌∷◌, ◌++◌, Some, None, map, length, refl, sym, ◌∙◌, ap, subst, arith}
use Rattle.std.proofs.lemmas.List.{map-append, length-append, length-map}
use Rattle.std.proofs.lemmas.List.Elements.{All-weaker}
use Rattle.poets_value.specs.declared.value.Name.{Name}
use Rattle.poets_syntax.specs.Contract.{Contract, contract_of}
use Rattle.poets_syntax.specs.declared.term.Term.{Term}
use Rattle.poets_syntax.specs.WellFormed.{IsWellFormed}
use Rattle.poets_syntax.specs.Whole.{IsWholeContract}
use Rattle.poets_syntax.specs.Applied.{CountsFit}
use Rattle.poets_meaning.specs.Studied.{marks_of}
use Rattle.poets_meaning.specs.Marks.{Hopeful}
use Rattle.poets_calculus.specs.Normal.{normal}
use Rattle.poets_residue.specs.Limits.{is_past_limit_in}
use Rattle.poets_cons.specs.declared.node.Node.{Node}
use Rattle.poets_cons.specs.Table.{contract_of_rows}
use Rattle.poets_table.specs.TableView.{new_row, number_named}
use Rattle.poets_command.specs.Plain.{Command, Reply}
use Rattle.poets_command.specs.Taken.{IsTaken}
use Rattle.poets_command.proofs.TypedCommands.{typed_registration}
use Rattle.poets_rules.specs.declared.rules.Rules.{Rules}
use Rattle.poets_rules.specs.Rules.{book_of_rules, reports_of_rules}
use Rattle.poets_history.specs.Ledger.{Ledger, contract_named}
use Rattle.poets_history.specs.Replies.{Replies}
use Rattle.poets_engine.specs.Store.{StoreView}
use Rattle.poets_engine.specs.code.Changes.{AddsRow}
use Rattle.poets_engine.specs.Rows.{IsLedger, RowsAre, RowIs}
use Rattle.poets_engine.specs.code.Judgements.{Refused, Owed, is_failure, judge, judged}
use Rattle.poets_engine.specs.code.Makes.{Makes}
use Rattle.poets_engine.proofs.Named.{named}
use Rattle.poets_engine.proofs.Rows.{with_contract, rows_added, new_row_is}
use Rattle.poets_engine.proofs.Standing.{frame_by, study, is_too_large, is_in_limit, leaves, changes, absent, taken}
use Rattle.poets_engine.proofs.WatchLedgers.{watches_same}
use Rattle.poets_engine.proofs.Owed.{normal_hopeless, normal_kept, normal_hopeful, failure_is, no_failure}

module _ (rules : Rules) (x : Name) (c : Contract) (old : StoreView) where
  pub register_taken : (n : ℕ) → number_named x old.rows ≡ Some n → Makes rules (Command.Register x c) old old (Reply.NameTaken n)
  register_taken n found = leaves rules (Command.Register x c) (Reply.NameTaken n) old (λ l. refl)
      (λ l h. Replies.NameTaken (taken rules l x old h n found).1)

  module _ (is_taken : IsTaken (book_of_rules rules) (reports_of_rules rules) (Command.Register x c)) (free : number_named x old.rows ≡ None) where
    formed : IsWellFormed (book_of_rules rules).declared c
    formed = (typed_registration (book_of_rules rules) (reports_of_rules rules) x c is_taken.typed).0

    fit : CountsFit (book_of_rules rules) c
    fit = (typed_registration (book_of_rules rules) (reports_of_rules rules) x c is_taken.typed).1

    -- the original's normal form
    abbrev form : Contract
    form = normal (book_of_rules rules) (marks_of rules.studied) c

    abbrev is_past : Bool
    is_past = is_past_limit_in rules.studied form

    none : (l : Ledger) → IsLedger rules l old → contract_named l x ≡ None
    none l h = absent rules l x old h free

    hopeful : (l : Ledger) → IsLedger rules l old → is_failure form ≡ false → Hopeful (book_of_rules rules) c
    hopeful l h failed = normal_hopeful (book_of_rules rules) (marks_of rules.studied) (study rules l old h) c formed fit (no_failure form failed)

    registers_refused : (failed large : Bool) → is_failure form ≡ failed → is_past ≡ large →
        (refusal : Reply) → Refused refusal ≡ judged Reply.Hopeless failed large form → Makes rules (Command.Register x c) old old refusal
    registers_refused true large e k refusal q = subst (Makes rules (Command.Register x c) old old) (let z : Reply.Hopeless ≡ refusal = cc in z)
        (leaves rules (Command.Register x c) Reply.Hopeless old (λ l. refl)
        (λ l h. Replies.Hopeless (none l h)
        (normal_hopeless (book_of_rules rules) (marks_of rules.studied) (study rules l old h) c formed (failure_is form e))))
    registers_refused false true e k refusal q = subst (Makes rules (Command.Register x c) old old) (let z : Reply.TooLarge ≡ refusal = cc in z)
        (leaves rules (Command.Register x c) Reply.TooLarge old (λ l. refl)
        (λ l h. Replies.RegisterTooLarge (none l h) (hopeful l h e) (is_too_large rules l old h c [] k)))
    registers_refused false false e k refusal q = absurd cc

    pub register_refused : (made : Contract) (refusal : Reply) → made ≡ form → Refused refusal ≡ judge rules.studied Reply.Hopeless made →
        Makes rules (Command.Register x c) old old refusal
    register_refused made refusal same q =
        registers_refused (is_failure form) is_past refl refl refusal (q ∙ ap (judge rules.studied Reply.Hopeless) same)

    module _ (original : Term) (current : List Node) (o : contract_of original ≡ c) (new : StoreView)
        (added : AddsRow (new_row x original current) old new) where
      adds : contract_of_rows current ≡ form → is_failure form ≡ false → is_past ≡ false → (l : Ledger) → IsLedger rules l old →
          IsLedger rules (with_contract l x c) new
      adds t failed within_limit l h =
          let hope = normal_kept (book_of_rules rules) (marks_of rules.studied) (study rules l old h) c fit (no_failure form failed) in
          let row : RowIs rules.studied (with_contract l x c) (1 + length old.rows) (new_row x original current) =
          new_row_is rules.studied l x c (length old.rows) original current h.logged h.ended
          (subst (IsWellFormed (book_of_rules rules).declared) (sym o) formed) (subst (CountsFit (book_of_rules rules)) (sym o) fit)
          (t ∙ ap (normal (book_of_rules rules) (marks_of rules.studied)) (sym o)) (subst (Hopeful (book_of_rules rules)) (sym t) hope) (subst (λ d. is_past_limit_in rules.studied d ≡ false) (sym t) within_limit)
          (subst IsWholeContract (sym o) is_taken.whole) in
          let longer : length new.rows ≡ length old.rows + 1 = ap length added.rows ∙ simp length-append refl in
          record {
            studied = h.studied;
            whole = h.whole;
            contracts = ap (map named) added.rows ∙ map-append named old.rows (new_row x original current ∷ []) ∙ ap (λ ps. ps ++ (x, contract_of original) ∷ []) h.contracts
                ∙ ap (λ d. l.contracts ++ (x, d) ∷ []) o;
            log = added.log ∙ h.log;
            rows = subst (RowsAre rules.studied (with_contract l x c) 1) (sym added.rows) (rows_added rules.studied l x c 1 old.rows (new_row x original current) h.rows row);
            watches = watches_same rules l (with_contract l x c) refl old new added.watches h.watches;
            logged = All-weaker (λ p. p.0 ≤ length old.rows) (λ p. p.0 ≤ length new.rows) (λ p q. omega (arith, longer, q)) l.log h.logged;
            ended = All-weaker (λ m. m ≤ length old.rows) (λ m. m ≤ length new.rows) (λ m q. omega (arith, longer, q)) l.ends h.ended;
          }

      registers_kept : (failed large : Bool) → is_failure form ≡ failed → is_past ≡ large →
          Owed (contract_of_rows current) ≡ judged Reply.Hopeless failed large form → Makes rules (Command.Register x c) old new (Reply.Registered (length old.rows + 1))
      registers_kept true large e k q = absurd cc
      registers_kept false true e k q = absurd cc
      registers_kept false false e k q =
          let same : contract_of_rows current ≡ form = cc in
          changes rules (Command.Register x c) (Reply.Registered (length old.rows + 1)) old new refl
          (λ l h.
          let count : length old.rows ≡ length l.contracts = sym (length-map old.rows named) ∙ ap length h.contracts in
          subst (λ n. Replies (frame_by rules) l (Command.Register x c) (Reply.Registered (n + 1))) (sym count)
          (Replies.Registered (none l h) (hopeful l h e) (is_in_limit rules l old h c [] k)))
          (adds same e k)

      pub register_kept : (made : Contract) (n : ℕ) → made ≡ form → Owed (contract_of_rows current) ≡ judge rules.studied Reply.Hopeless made → n ≡ length old.rows + 1 →
          Makes rules (Command.Register x c) old new (Reply.Registered n)
      register_kept made n same q number =
          subst (λ m. Makes rules (Command.Register x c) old new (Reply.Registered m)) (sym number)
          (registers_kept (is_failure form) is_past refl refl (q ∙ ap (judge rules.studied Reply.Hopeless) same))
