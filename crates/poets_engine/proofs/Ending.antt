-- An end is made.
use Rattle.std.proofs.Common.{◌≡◌, ℕ, ◌+◌, ◌-◌, ◌≤◌, Bool, true, false, List, [], ◌∷◌, ◌++◌, Some, None, map, length, slice_get, refl, sym, ◌∙◌, ap, subst, arith}
use Rattle.std.specs.Prelude.{IsTrue, ◌↔◌}
use Rattle.std.specs.List.{All}
use Rattle.std.proofs.lemmas.List.Elements.{All-nil, All-cons, All-append}
use Rattle.poets_value.specs.declared.value.Name.{Name}
use Rattle.poets_syntax.specs.declared.term.Term.{Term}
use Rattle.poets_syntax.specs.Contract.{contract_of}
use Rattle.poets_meaning.specs.Perf.{Perf}
use Rattle.poets_cons.specs.declared.node.Node.{Node}
use Rattle.poets_cons.specs.Table.{contract_of_rows}
use Rattle.poets_table.specs.TableView.{RowView, changed_at, finished, number_named}
use Rattle.poets_command.specs.Plain.{Command, Reply}
use Rattle.poets_rules.specs.declared.rules.Rules.{Rules}
use Rattle.poets_rules.specs.Rules.{book_of_rules}
use Rattle.poets_history.specs.Ledger.{Ledger, with_entry, number_in, trace}
use Rattle.poets_history.specs.Replies.{Replies}
use Rattle.poets_engine.specs.Store.{StoreView}
use Rattle.poets_engine.specs.Rows.{IsLedger, RowsAre}
use Rattle.poets_engine.specs.code.Makes.{Makes}
use Rattle.poets_engine.proofs.Named.{named}
use Rattle.poets_engine.proofs.Rows.{with_end, place_below, rows_ended, named-changed_at, length-changed_at}
use Rattle.poets_engine.proofs.Standing.{Stood, running, study, leaves, changes, stood, absent, told_end}
use Rattle.poets_engine.proofs.WatchLedgers.{watches_same}

module _ (rules : Rules) (x : Name) (old : StoreView) where
  pub end_absent : number_named x old.rows ≡ None → Makes rules (Command.End x) old old (Reply.NoContract x)
  end_absent none =
      leaves rules (Command.End x) (Reply.NoContract x) old (λ l. refl) (λ l h. Replies.EndOfNone (absent rules l x old h none))

  module _ (n : ℕ) (r : RowView Term (List Node)) (found : number_named x old.rows ≡ Some n) (row : slice_get old.rows (n - 1) ≡ Some r) where
    standing : (l : Ledger) → IsLedger rules l old → Stood rules.studied l x old.rows n r
    standing l h = stood rules l x old h n r found row

    pub end_over : r.ended ≡ true → Makes rules (Command.End x) old old Reply.AlreadyEnded
    end_over e = leaves rules (Command.End x) Reply.AlreadyEnded old (λ l. refl) (λ l h.
        let c = standing l h in
        Replies.AlreadyEnded c.named (sym c.is.ended ∙ e))

    module _ (goes_on : r.ended ≡ false) (may_end : Bool)
        (tells : IsTrue may_end ↔ Perf (book_of_rules rules) [] (contract_of_rows r.current) []) where
      told : (l : Ledger) → IsLedger rules l old → (c : Stood rules.studied l x old.rows n r) → IsTrue may_end ↔ Perf (book_of_rules rules) [] (contract_of r.original) (trace l (1 + c.place))
      told l h c = told_end rules.studied (study rules l old h) l (1 + c.place) r c.is may_end tells

      pub end_owes : may_end ≡ false → Makes rules (Command.End x) old old Reply.NotPerformed
      end_owes fails = leaves rules (Command.End x) Reply.NotPerformed old (λ l. refl) (λ l h.
          let c = standing l h in
          Replies.NotPerformed (running rules.studied l x old.rows n r c goes_on) (λ p. let z : true ≡ false = sym ((told l h c).1 p) ∙ fails in cc))

      -- the rows with the one ended
      module _ (new : StoreView) (changed : new.rows ≡ changed_at finished (n - 1) old.rows) (log : new.log ≡ old.log) (watches : new.watches ≡ old.watches) where
        finishes : (l : Ledger) → IsLedger rules l old → IsLedger rules (with_entry l (Command.End x) Reply.EndedNow) new
        finishes l h =
            let c = standing l h in
            let number = c.number in
            let rows : new.rows ≡ changed_at finished c.place old.rows = changed ∙ ap (λ i. changed_at finished i old.rows) (let z : n - 1 ≡ c.place = omega (arith, number) in z) in
            let below : 1 + c.place ≤ length old.rows = place_below old.rows c.place r c.found in
            let longer : length new.rows ≡ length old.rows = ap length rows ∙ length-changed_at finished c.place old.rows in
            subst (λ m. IsLedger rules m new) (sym (ap (with_end l) (ap number_in c.named))) (record {
              studied = h.studied;
              whole = h.whole;
              contracts = ap (map named) rows ∙ named-changed_at finished (λ r. refl) c.place old.rows ∙ h.contracts;
              log = log ∙ h.log;
              rows = subst (RowsAre rules.studied (with_end l (1 + c.place)) 1) (sym rows) (rows_ended rules.studied l c.place old.rows r h.rows c.found c.is);
              watches = watches_same rules l (with_end l (1 + c.place)) refl old new watches h.watches;
              logged = subst (λ m. All (λ p. p.0 ≤ m) l.log) (sym longer) h.logged;
              ended = subst (λ m. All (λ n. n ≤ m) (l.ends ++ (1 + c.place) ∷ [])) (sym longer)
                  (All-append (λ n. n ≤ length old.rows) l.ends ((1 + c.place) ∷ []) h.ended
                  (All-cons (λ n. n ≤ length old.rows) (1 + c.place) [] below (All-nil (λ n. n ≤ length old.rows))));
            })

        pub end_now : may_end ≡ true → Makes rules (Command.End x) old new Reply.EndedNow
        end_now holds = changes rules (Command.End x) Reply.EndedNow old new refl (λ l h.
            let c = standing l h in
            Replies.EndedNow (running rules.studied l x old.rows n r c goes_on) ((told l h c).0 holds)) finishes
