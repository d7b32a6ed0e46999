-- A look is made.
use Rattle.std.proofs.Common.{◌≡◌, ℕ, ◌+◌, ◌-◌, Bool, List, [], Some, None, length, slice_get, refl, sym, ◌∙◌, ap, ap₂, subst}
use Rattle.std.specs.Prelude.{IsTrue, ◌↔◌}
use Rattle.poets_value.specs.declared.value.Name.{Name}
use Rattle.poets_syntax.specs.Contract.{Contract, contract_of}
use Rattle.poets_syntax.specs.declared.term.Term.{Term}
use Rattle.poets_meaning.specs.Perf.{Perf}
use Rattle.poets_meaning.specs.Studied.{marks_of}
use Rattle.poets_calculus.specs.Residual.{residual_after}
use Rattle.poets_cons.specs.declared.node.Node.{Node}
use Rattle.poets_cons.specs.Table.{contract_of_rows}
use Rattle.poets_table.specs.TableView.{RowView, number_named}
use Rattle.poets_command.specs.Plain.{Command, Reply}
use Rattle.poets_rules.specs.declared.rules.Rules.{Rules}
use Rattle.poets_rules.specs.Rules.{book_of_rules}
use Rattle.poets_history.specs.Ledger.{trace}
use Rattle.poets_history.specs.Replies.{Replies}
use Rattle.poets_engine.specs.Store.{StoreView}
use Rattle.poets_engine.specs.code.Makes.{Makes}
use Rattle.poets_engine.proofs.Standing.{frame_by, study, residual_is_owed, leaves, stood, absent, told_end}

module _ (rules : Rules) (x : Name) (t : StoreView) where
  pub show_absent : number_named x t.rows ≡ None → Makes rules (Command.Show x) t t (Reply.NoContract x)
  show_absent none =
      leaves rules (Command.Show x) (Reply.NoContract x) t (λ l. refl) (λ l h. Replies.ShowOfNone (absent rules l x t h none))

  pub show_found : (n : ℕ) (r : RowView Term (List Node)) (may_end : Bool) (residual : Contract) (count : ℕ) → number_named x t.rows ≡ Some n → slice_get t.rows (n - 1) ≡ Some r →
      IsTrue may_end ↔ Perf (book_of_rules rules) [] (contract_of_rows r.current) [] → residual ≡ contract_of_rows r.current → count ≡ length r.events →
      Makes rules (Command.Show x) t t (Reply.Shown residual count may_end r.ended)
  show_found n r may_end residual count found row tells same counted =
      leaves rules (Command.Show x) (Reply.Shown residual count may_end r.ended) t (λ l. refl) (λ l h.
      let c = stood rules l x t h n r found row in
      let owed = same ∙ c.is.current ∙ ap (residual_after (book_of_rules rules) (marks_of rules.studied) (contract_of r.original)) c.is.events in
      let reply = ap₂ (λ d n. Reply.Shown d n may_end r.ended) owed (counted ∙ ap length c.is.events)
      ∙ ap (Reply.Shown (residual_after (book_of_rules rules) (marks_of rules.studied) (contract_of r.original) (trace l (1 + c.place))) (length (trace l (1 + c.place))) may_end) c.is.ended in
      subst (Replies (frame_by rules) l (Command.Show x)) (sym reply)
      (Replies.Shown c.named (residual_is_owed rules l t h (contract_of r.original) (trace l (1 + c.place))) (told_end rules.studied (study rules l t h) l (1 + c.place) r c.is may_end tells)))
