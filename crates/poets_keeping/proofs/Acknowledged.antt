-- What is acknowledged of a history whose calls are put behind earlier texts.
use Rattle.std.proofs.Common.{◌≡◌, ◌≢◌, ℕ, ◌+◌, ◌<◌, Bool, true, false, List, [], ◌∷◌, ◌++◌, append-nil, length, refl, sym, ◌∙◌, subst, arith, ◌⊎◌, inl, inr}
use Rattle.std.proofs.lemmas.List.{length-map, take_all}
use Rattle.poets_io.specs.Causes.{Rose}
use Rattle.poets_lex.specs.Table.{Table}
use Rattle.poets_command.specs.Calls.{Call, calls_of}
use Rattle.poets_command.specs.Plain.{Entry}
use Rattle.poets_disk.specs.Disks.{During, MayLeave, Seen}
use Rattle.poets_disk.proofs.Moments.{during_both}
use Rattle.poets_journal.specs.Texts.{HoldsTexts, Texts}
use Rattle.poets_journal.specs.Journals.{AllHold}
use Rattle.poets_journal.specs.Keeping.{HoldsFirst, HoldsFront, IsKept}
use Rattle.poets_journal.specs.Starts.{StaysOrIsShort}
use Rattle.poets_printed.specs.Numbered.{numbered_text}
use Rattle.poets_keeping.specs.Journals.{AreAcknowledged, HeldTexts, OnlyStarted, texts_of}

pub texts_long : (names : Table) (h : List Entry) → length (texts_of names h) ≡ length h
texts_long names h =
    length-map (calls_of h) (λ (call : Call). numbered_text names call.0 call.1) ∙ length-map h (λ (e : Entry). (e.clerk, e.command))

-- at a moment of the start of a journal an image holds the texts of before and no new one
started_front : (disk made : Seen) (earlier texts : Texts) → (earlier ≢ [] → During disk made (MayLeave disk)) → AllHold disk earlier → During disk made (StaysOrIsShort disk made) →
    During disk made (HoldsFront earlier texts)
started_front disk made [] texts still all during image since = by (during image since)
  where
    by : StaysOrIsShort disk made image → HoldsFront [] texts image
    by (inl left) = (0, (omega arith, all image left))
    by (inr short) = (0, (omega arith, inl (short.0, refl)))
started_front disk made (text ∷ earlier) texts still all during image since =
    (0, (omega arith, subst (HoldsTexts image) (sym (append-nil (text ∷ earlier))) (all image (still (λ none. absurd cc) image since))))

module _ (names : Table) (earlier : Texts) (disk made disk' : Seen) (faults begun faults' stored : ℕ) (h : List Entry) (held : HeldTexts disk made faults begun earlier) where
  pub acknowledged : (failed : Bool) → OnlyStarted disk made → IsKept made disk' begun faults' failed stored (texts_of names h) → AreAcknowledged names earlier disk disk' stored h
  acknowledged failed started kept =
      let long = texts_long names h in
      let first = kept.first in
      record {
        within = omega (arith, first, long);
        survive = kept.now_holds earlier held.all;
        during = λ all.
            during_both disk made disk' (HoldsFront earlier (texts_of names h)) kept.time
            (started_front disk made earlier (texts_of names h) held.still all started.during) (kept.since earlier held.all);
      }

  -- where a call is not acknowledged, the disk failed
  pub unacknowledged : (failed : Bool) → IsKept made disk' begun faults' failed stored (texts_of names h) → stored < length h → Rose faults faults'
  unacknowledged true kept few = subst (λ n. Rose n faults') held.faultless (kept.cause refl)
  unacknowledged false kept few = let all = kept.whole refl in let long = texts_long names h in absurd (omega (arith, all, long, few))

-- where all calls are acknowledged, an image has them all
pub all_survive : (names : Table) (earlier : Texts) (disk disk' : Seen) (h : List Entry) → AreAcknowledged names earlier disk disk' (length h) h → (image : List ℕ) → MayLeave disk' image →
    HoldsTexts image (earlier ++ texts_of names h)
all_survive names earlier disk disk' h ack image left = whole (ack.survive image left)
  where
    texts : Texts
    texts = texts_of names h

    whole : HoldsFirst earlier texts (length h) image ⊎ HoldsFirst earlier texts (length h + 1) image → HoldsTexts image (earlier ++ texts)
    whole (inl held) = subst (λ ts. HoldsTexts image (earlier ++ ts)) (take_all (length h) texts (let long = texts_long names h in omega (arith, long))) held.1
    whole (inr more) = let long = texts_long names h in let past = more.0 in absurd (omega (arith, long, past))
