-- The text that a source gave, and the lines of texts that are no sessions.
use Rattle.std.proofs.Common.{◌≡◌, ℕ, ◌≤◌, List, [], length, Some, None, sym, ◌∙◌, ap, subst, inl, inr}
use Rattle.std.specs.Prelude.{option_map}
use Rattle.poets_io.specs.Streams.{GivesAll, LosesFront}
use Rattle.poets_command.specs.Plain.{Entry}
use Rattle.poets_session.specs.Causes.{refusal_of, IsFirstFault}
use Rattle.poets_session.specs.Sessions.{Text}
use Rattle.poets_session.specs.Texts.{refusal_text}
use Rattle.poets_session.specs.declared.form.Form.{Form}
use Rattle.poets_session.specs.declared.fault.SessionFault.{SessionFault}
use Rattle.poets_writing.specs.Writing.{Stream, HasFailed}
use Rattle.poets_opening.specs.Limits.{longest}
use Rattle.poets_opening.specs.Unread.{EndsUnread, Gave, RefusesSource}

-- what was read whole is the text that the source gave
pub gave_text : (source source' : Stream) (items text : List ℕ) → items ≡ text → GivesAll source.bytes source'.bytes items → length items ≤ longest →
    source'.faults ≡ source.faults → Gave source source' text
gave_text source source' items text same whole few kept = subst (Gave source source') same (record { all = whole; short = few; faultless = kept })

module _ (form : Form) (source source' : Stream) where
  -- the line of a fault that is not want of memory
  pub refuses_fault : (text : Text) (fault : SessionFault) (line : List ℕ) → Gave source source' text →
      option_map (refusal_text fault.names) (refusal_of fault.what) ≡ Some line → IsFirstFault text form fault → RefusesSource form source source' 1 [] line
  refuses_fault text fault line gave told (inl memory) =
      let none : option_map (refusal_text fault.names) (refusal_of fault.what) ≡ None = ap (λ cause. option_map (refusal_text fault.names) (refusal_of cause)) memory in
      absurd cc
  refuses_fault text fault line gave told (inr found) =
      let some : Some (refusal_text fault.names found.0) ≡ Some line = sym (ap (option_map (refusal_text fault.names)) found.1) ∙ told in
      let same : refusal_text fault.names found.0 ≡ line = cc in
      subst (RefusesSource form source source' 1 []) same (RefusesSource.Refused gave found.2)

  -- the source failed
  pub ends_unread : (sink sink' : Stream) (status : ℕ) (h : List Entry) → status ≡ 4 → h ≡ [] → HasFailed source source' → LosesFront 0 longest source.bytes source'.bytes → sink' ≡ sink →
      EndsUnread form source source' sink sink' status h
  ends_unread sink sink' status h four empty failed front same =
      subst (λ s. EndsUnread form source source' sink sink' s h) (sym four) (subst (EndsUnread form source source' sink sink' 4) (sym empty) (EndsUnread.ReadFailed failed front same))
