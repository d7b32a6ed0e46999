-- How what a machine with a journal keeps goes on.
use Rattle.std.proofs.Common.{◌≡◌, inl, inr, ⊎_elim, ℕ, ◌+◌, ◌≤◌, Bool, true, false, true≢false, List, [], ◌∷◌, ◌++◌, length, refl, sym, ◌∙◌, ap, subst, arith, append_assoc, zero-le, le_refl, le_trans}
use Rattle.std.proofs.lemmas.List.{append-nil, take_all, take_at, take-append-le, length_push, map_push}
use Rattle.poets_io.specs.Causes.{Rose}
use Rattle.poets_disk.specs.Disks.{Seen, Since, GoesOn, During}
use Rattle.poets_journal.specs.Texts.{HoldsTexts, Text, Texts}
use Rattle.poets_journal.specs.Journals.{AllHold, HoldsOrMore}
use Rattle.poets_journal.specs.Keeping.{IsKept, HoldsFirst, HoldsFront, texts_by}
use Rattle.poets_disk.proofs.Moments.{left_now, since_both, goes_on, stands, only_now}

module _ (earlier texts : Texts) where
  -- the first ones of the texts are the first ones of the texts and one more
  pub first_more : (text : Text) (count : ℕ) (file : List ℕ) → HoldsFirst earlier texts count file → HoldsFirst earlier (texts ++ text ∷ []) count file
  first_more text count file h = (
    omega (arith, h.0, length_push texts text),
    subst (λ ts. HoldsTexts file (earlier ++ ts)) (sym (take-append-le count texts (text ∷ []) h.0)) h.1,
  )

  -- all texts are so many first ones of them and one more
  pub first_all : (text : Text) (file : List ℕ) → HoldsTexts file (earlier ++ texts) → HoldsFirst earlier (texts ++ text ∷ []) (length texts) file
  first_all text file h = (
    omega (arith, length_push texts text),
    subst (λ ts. HoldsTexts file (earlier ++ ts)) (sym (take_at texts (text ∷ []) (length texts) refl)) h,
  )

  pub first_whole : (file : List ℕ) → HoldsTexts file (earlier ++ texts) → HoldsFirst earlier texts (length texts) file
  first_whole file h = (omega arith, subst (λ ts. HoldsTexts file (earlier ++ ts)) (sym (take_all (length texts) texts (omega arith))) h)

  -- the texts and one more, behind the earlier ones
  pub first_next : (text : Text) (file : List ℕ) → HoldsTexts file ((earlier ++ texts) ++ text ∷ []) → HoldsTexts file (earlier ++ (texts ++ text ∷ []))
  first_next text file h = subst (HoldsTexts file) (append_assoc earlier texts (text ∷ [])) h

-- where the journal has not failed, each image holds all texts
pub all_held : (made disk : Seen) (before now stored : ℕ) (texts : Texts) → IsKept made disk before now false stored texts → (earlier : Texts) → AllHold made earlier → AllHold disk (earlier ++ texts)
all_held made disk before now stored texts k earlier held image left = ⊎_elim
    (λ here. subst (λ ts. HoldsTexts image (earlier ++ ts)) (take_all stored texts (omega (arith, k.whole refl))) here.1)
    (λ past. absurd (omega (arith, past.0, k.whole refl)))
    (k.now_holds earlier held image left)

-- a call after the journal failed
pub kept_skipped : (made disk : Seen) (before now stored : ℕ) (texts : Texts) (text : Text) → IsKept made disk before now true stored texts → IsKept made disk before now true stored (texts ++ text ∷ [])
kept_skipped made disk before now stored texts text k = record {
  time = k.time;
  first = omega (arith, k.first, length_push texts text);
  now_holds = λ earlier held image left. ⊎_elim
      (λ here. inl (first_more earlier texts text stored image here))
      (λ past. inr (first_more earlier texts text (stored + 1) image past))
      (k.now_holds earlier held image left);
  since = λ earlier held image since. let h = k.since earlier held image since in (h.0, first_more earlier texts text h.0 image h.1);
  whole = λ e. absurd (true≢false e);
  later = k.later;
  sound = λ e. absurd (true≢false e);
  cause = k.cause;
}

module _ (made old new : Seen) (before now next stored : ℕ) (texts : Texts) (text : Text) (k : IsKept made old before now false stored texts) (time : GoesOn old new)
    (during : (earlier : Texts) → AllHold made earlier → During old new (HoldsOrMore (earlier ++ texts) text)) where
  -- the images at the moments of an append
  front_of_more : (earlier : Texts) (image : List ℕ) → HoldsOrMore (earlier ++ texts) text image → HoldsFront earlier (texts ++ text ∷ []) image
  front_of_more earlier image (inl h) = (length texts, first_all earlier texts text image h)
  front_of_more earlier image (inr h) = (length (texts ++ text ∷ []), first_whole earlier (texts ++ text ∷ []) image (first_next earlier texts text image h))

  since_more : (earlier : Texts) → AllHold made earlier → (image : List ℕ) → Since new made.clock image → HoldsFront earlier (texts ++ text ∷ []) image
  since_more earlier held = since_both old new made.clock (HoldsFront earlier (texts ++ text ∷ [])) time
      (λ image since. let h = k.since earlier held image since in (h.0, first_more earlier texts text h.0 image h.1))
      (λ image since. front_of_more earlier image (during earlier held image since))

  count : length (texts ++ text ∷ []) ≡ stored + 1
  count = omega (arith, k.whole refl, length_push texts text)

  -- a call whose text was appended
  pub kept_stored : ((earlier : Texts) → AllHold made earlier → AllHold new ((earlier ++ texts) ++ text ∷ [])) → next ≡ now → IsKept made new before next false (stored + 1) (texts ++ text ∷ [])
  kept_stored all same = record {
    time = goes_on made old new k.time time;
    first = omega (arith, k.first, length_push texts text);
    now_holds = λ earlier held image left.
        inl (subst (λ n. HoldsFirst earlier (texts ++ text ∷ []) n image) count
        (first_whole earlier (texts ++ text ∷ []) image (first_next earlier texts text image (all earlier held image left))));
    since = since_more;
    whole = λ e. sym count;
    later = omega (arith, k.later, same);
    sound = λ e. same ∙ k.sound refl;
    cause = λ e. absurd (true≢false (sym e));
  }

  -- a call whose text may have been appended, and then the journal failed
  pub kept_failed : now ≤ next → Rose now next → IsKept made new before next true stored (texts ++ text ∷ [])
  kept_failed later rose = record {
    time = goes_on made old new k.time time;
    first = omega (arith, k.first, length_push texts text);
    now_holds = λ earlier held image left. ⊎_elim
        (λ h. inl (subst (λ n. HoldsFirst earlier (texts ++ text ∷ []) n image) (sym (k.whole refl)) (first_all earlier texts text image h)))
        (λ h. inr (subst (λ n. HoldsFirst earlier (texts ++ text ∷ []) n image) count
        (first_whole earlier (texts ++ text ∷ []) image (first_next earlier texts text image h))))
        (during earlier held image (left_now old new time image left));
    since = since_more;
    whole = λ e. absurd (true≢false e);
    later = le_trans k.later later;
    sound = λ e. absurd (true≢false e);
    cause = λ e. subst (λ n. Rose n next) (k.sound refl) rose;
  }

-- a machine that took no call yet
pub kept_new : (disk : Seen) (faults : ℕ) (failed : Bool) → failed ≡ false → IsKept disk disk faults faults failed 0 []
kept_new disk faults failed works = record {
  time = stands disk;
  first = omega arith;
  now_holds = λ earlier held image left. inl (none earlier image (held image left));
  since = λ earlier held image since. (0, none earlier image (held image (only_now disk image since)));
  whole = λ e. refl;
  later = le_refl faults;
  sound = λ e. refl;
  cause = λ e. absurd (true≢false (sym e ∙ works));
}
  where
    none : (earlier : Texts) (image : List ℕ) → HoldsTexts image earlier → HoldsFirst earlier [] 0 image
    none earlier image h = (zero-le, subst (HoldsTexts image) (sym (append-nil earlier)) h)

-- the texts of a history with one call more
pub texts_more : {C : Type 0} (text : ℕ → C → List ℕ) (old new : List (ℕ × C)) (clerk : ℕ) (call : C) → new ≡ old ++ (clerk, call) ∷ [] → texts_by text new ≡ texts_by text old ++ text clerk call ∷ []
texts_more text old new clerk call is = ap (λ l. texts_by text l) is ∙ map_push (λ e. text e.0 e.1) old (clerk, call)
