-- The contract with a name, in the rows and in the ledger; and commands that leave or change what is kept.
use Rattle.std.proofs.Common.{◌≡◌, ℕ, ◌+◌, Bool, true, false, ◌-◌, List, [], Option, Some, None, slice_get, option_map, refl, sym, ◌∙◌, ap, subst, arith}
use Rattle.std.specs.Prelude.{IsTrue, ◌↔◌}
use Rattle.std.specs.List.{position}
use Rattle.std.proofs.lemmas.Bool.{false≢true}
use Rattle.poets_value.specs.declared.event.Event.{Event}
use Rattle.poets_value.specs.declared.value.Name.{Name}
use Rattle.poets_syntax.specs.Contract.{Contract, contract_of}
use Rattle.poets_syntax.specs.declared.term.Term.{Term}
use Rattle.poets_meaning.specs.Perf.{Perf}
use Rattle.poets_meaning.specs.Studied.{StudiedBook, marks_of}
use Rattle.poets_calculus.specs.Residual.{residual_after}
use Rattle.poets_residue.specs.Limits.{is_past_limit_in}
use Rattle.poets_residue.specs.Unfolding.{IsStudied}
use Rattle.poets_residue.proofs.Studies.{IsStudied-book}
use Rattle.poets_cons.specs.declared.node.Node.{Node}
use Rattle.poets_cons.specs.Table.{contract_of_rows}
use Rattle.poets_table.specs.TableView.{RowView, number_named}
use Rattle.poets_command.specs.Plain.{Command, Reply}
use Rattle.poets_rules.specs.declared.rules.Rules.{Rules}
use Rattle.poets_rules.specs.Rules.{book_of_rules, reports_of_rules}
use Rattle.poets_history.specs.Ledger.{Ledger, with_entry, contract_named, contract_from, trace}
use Rattle.poets_history.specs.Frame.{Frame, frame_of}
use Rattle.poets_history.specs.Owed.{Owed}
use Rattle.poets_history.specs.Replies.{Replies, IsOpen, IsTooLarge}
use Rattle.poets_history.proofs.Owing.{residual_owed, large, found_large}
use Rattle.poets_engine.specs.Store.{StoreView}
use Rattle.poets_engine.specs.Rows.{IsLedger, RowIs}
use Rattle.poets_history.specs.Ledger.{is_accepted}
use Rattle.poets_engine.specs.code.Makes.{Makes}
use Rattle.poets_engine.proofs.Named.{has_name, contract_from-none, contract_from-found, contract_from-some, row_is}
use Rattle.poets_engine.proofs.Owed.{residual_performed}
use Rattle.poets_engine.proofs.Rows.{book_in}

-- the frame of rules
abbrev pub frame_by : Rules → Frame
frame_by rules = frame_of (book_of_rules rules) (reports_of_rules rules)

-- the book of rules was studied
pub study : (rules : Rules) (l : Ledger) (store : StoreView) → IsLedger rules l store → IsStudied (book_of_rules rules) (marks_of rules.studied)
study rules l store h = IsStudied-book (book_of_rules rules) rules.studied.marks h.studied

module _ (rules : Rules) (l : Ledger) (store : StoreView) (h : IsLedger rules l store) (o : Contract) (s : List Event) where
  abbrev left : Contract
  left = residual_after (book_of_rules rules) (marks_of rules.studied) o s

  -- the residual by the marks of the studied book is owed, and its measures decide whether it is too large
  pub residual_is_owed : Owed (book_of_rules rules) o s left
  residual_is_owed = residual_owed (book_of_rules rules) (marks_of rules.studied) (study rules l store h).right o s

  pub is_too_large : is_past_limit_in rules.studied left ≡ true → IsTooLarge (frame_by rules) o s
  is_too_large e = large (book_of_rules rules) (marks_of rules.studied) (study rules l store h).right o s (frame_by rules) refl e

  pub is_in_limit : is_past_limit_in rules.studied left ≡ false → IsTooLarge (frame_by rules) o s → ⊥
  is_in_limit e past =
      false≢true (sym e ∙ found_large (book_of_rules rules) (marks_of rules.studied) (study rules l store h).right o s (frame_by rules) refl past)

module _ (rules : Rules) (command : Command) (given_reply : Reply) where
  -- the reply is right after the ledger of what is kept
  abbrev pub RepliesAfter : StoreView → Type 0
  RepliesAfter store = (l : Ledger) → IsLedger rules l store → Replies (frame_by rules) l command given_reply

  -- a command that leaves what is kept and the ledger
  pub leaves : (store : StoreView) → ((l : Ledger) → with_entry l command given_reply ≡ l) → RepliesAfter store → Makes rules command store store given_reply
  leaves store same reply = record {
    reply = reply;
    store = λ l h. subst (λ m. IsLedger rules m store) (sym (same l)) h;
    refused = λ _. refl;
  }

  -- a command that changes it
  pub changes : (old new : StoreView) → is_accepted given_reply ≡ true → RepliesAfter old →
      ((l : Ledger) → IsLedger rules l old → IsLedger rules (with_entry l command given_reply) new) → Makes rules command old new given_reply
  changes old new accepted reply store = record { reply = reply; store = store; refused = λ e. absurd cc }

-- the contract with the name, and its row
pub record Stood (s : StudiedBook) (l : Ledger) (x : Name) (rows : List (RowView Term (List Node))) (n : ℕ) (r : RowView Term (List Node)) : Type 0 where
  pub place : ℕ
  pub number : n ≡ 1 + place
  pub found : slice_get rows place ≡ Some r
  pub named : contract_named l x ≡ Some (1 + place, contract_of r.original)
  pub is : RowIs s l (1 + place) r

-- a contract whose row was not ended is open
pub running : (s : StudiedBook) (l : Ledger) (x : Name) (rows : List (RowView Term (List Node))) (n : ℕ) (r : RowView Term (List Node)) (c : Stood s l x rows n r) → r.ended ≡ false →
    IsOpen l x (1 + c.place) (contract_of r.original)
running s l x rows n r c e = (c.named, λ y. let z : true ≡ false = sym y ∙ sym c.is.ended ∙ e in cc)

module _ (rules : Rules) (l : Ledger) (x : Name) (store : StoreView) (h : IsLedger rules l store) where
  abbrev rows : List (RowView Term (List Node))
  rows = store.rows

  at_place : (o : Option ℕ) (n : ℕ) (r : RowView Term (List Node)) → position (has_name x) rows ≡ o → option_map (λ i. i + 1) o ≡ Some n → slice_get rows (n - 1) ≡ Some r →
      Stood rules.studied l x rows n r
  at_place None n r p e g = absurd cc
  at_place (Some k) n r p e g =
      let number : k + 1 ≡ n = cc in
      let found : slice_get rows k ≡ Some r = subst (λ i. slice_get rows i ≡ Some r) (let z : n - 1 ≡ k = omega (arith, number) in z) g in
      record {
        place = k;
        number = omega (arith, number);
        found = found;
        named = ap (contract_from 1 x) (sym h.contracts) ∙ contract_from-some x 1 k rows r p found;
        is = row_is rules.studied l 1 k rows r h.rows found;
      }

  -- the row with the name is that of the contract with the name
  pub stood : (n : ℕ) (r : RowView Term (List Node)) → number_named x rows ≡ Some n → slice_get rows (n - 1) ≡ Some r → Stood rules.studied l x rows n r
  stood n r e g = at_place (position (has_name x) rows) n r refl e g

  no_place : (o : Option ℕ) → position (has_name x) rows ≡ o → option_map (λ i. i + 1) o ≡ None → contract_named l x ≡ None
  no_place None p e = ap (contract_from 1 x) (sym h.contracts) ∙ contract_from-none x 1 rows p
  no_place (Some k) p e = absurd cc

  -- where no row has the name, no contract has it
  pub absent : number_named x rows ≡ None → contract_named l x ≡ None
  absent e = no_place (position (has_name x) rows) refl e

  taken_place : (o : Option ℕ) (n : ℕ) → position (has_name x) rows ≡ o → option_map (λ i. i + 1) o ≡ Some n → (c : Contract) × (contract_named l x ≡ Some (n, c))
  taken_place None n p e = absurd cc
  taken_place (Some k) n p e =
      let number : k + 1 ≡ n = cc in
      let there = contract_from-found x 1 k rows p in
      (there.0, ap (contract_from 1 x) (sym h.contracts) ∙ there.1 ∙ ap (λ m. Some (m, there.0)) (let z : 1 + k ≡ n = omega (arith, number) in z))

  -- where a row has the name, a contract has its number
  pub taken : (n : ℕ) → number_named x rows ≡ Some n → (c : Contract) × (contract_named l x ≡ Some (n, c))
  taken n e = taken_place (position (has_name x) rows) n refl e

-- whether what is still owed on a contract may end is whether its events perform it
pub told_end : (s : StudiedBook) → IsStudied (book_in s) (marks_of s) → (l : Ledger) (n : ℕ) (r : RowView Term (List Node)) → RowIs s l n r → (may_end : Bool) →
    IsTrue may_end ↔ Perf (book_in s) [] (contract_of_rows r.current) [] → IsTrue may_end ↔ Perf (book_in s) [] (contract_of r.original) (trace l n)
told_end s study l n r row may_end t =
    let law = residual_performed (book_in s) (marks_of s) study (contract_of r.original) r.events row.formed row.fit row.declared in
    subst (λ events. IsTrue may_end ↔ Perf (book_in s) [] (contract_of r.original) events) row.events (
      λ y. law.0 (subst (λ c. Perf (book_in s) [] c []) row.current (t.0 y)),
      λ p. t.1 (subst (λ c. Perf (book_in s) [] c []) (sym row.current) (law.1 p)),
    )
