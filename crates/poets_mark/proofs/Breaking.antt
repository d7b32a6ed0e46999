-- Line ends around a place of a text.
use Rattle.std.proofs.Common.{◌≡◌, ℕ, ◌+◌, ◌-◌, ◌<◌, ◌≤◌, ◌==◌, true, List, length, take, drop, slice_index, inl, inr, refl, sym, ap, subst, ◌∙◌, arith}
use Rattle.std.proofs.lemmas.List.{get_or-take, get_or-drop, length-take-le, length-drop}
use Rattle.memchr.specs.Find.{Nowhere, NoneBefore, NoneAfter}
use Rattle.poets_mark.specs.Spots.{IsBreak, IsLineBegin, IsLineEnd}

module _ (text : List ℕ) (place : ℕ) (inside : place ≤ length text) where
  -- a byte ahead of the place
  ahead : (k : ℕ) → k < place → slice_index (take place text) k ≡ slice_index text k
  ahead k h = get_or-take place text k 0 h

  -- a byte from the place on
  behind : (k : ℕ) → slice_index (drop place text) k ≡ slice_index text (place + k)
  behind k = get_or-drop place text k 0

  moved : (a b : ℕ) → a ≡ b → (a == 10) ≡ true → (b == 10) ≡ true
  moved a b e = subst (λ byte. (byte == 10) ≡ true) e

  -- the last line end ahead of the place, and the begin of the text where there is none
  pub begins_after : (last : ℕ) → NoneAfter (IsBreak (take place text)) 0 (length (take place text)) last → IsBreak (take place text) last → IsLineBegin text place (last + 1)
  begins_after last h p =
      let size = length-take-le place text inside in
      let below : last < place = omega (arith, size, h.high) in
      let same : last + 1 - 1 ≡ last = omega arith in
      record {
        before = omega (arith, below);
        first = inr (subst (IsBreak text) (sym same) (moved _ _ (ahead last below) p));
        unbroken = λ k low high q. h.after k low (omega (arith, size, high)) (moved _ _ (sym (ahead k high)) q);
      }

  pub begins_first : Nowhere (IsBreak (take place text)) 0 (length (take place text)) → IsLineBegin text place 0
  begins_first h = let size = length-take-le place text inside in record {
    before = omega arith;
    first = inl refl;
    unbroken = λ k low high q. h k low (omega (arith, size, high)) (moved _ _ (sym (ahead k high)) q);
  }

  -- the first line end from the place on, and the end of the text where there is none
  pub ends_before : (next : ℕ) → NoneBefore (IsBreak (drop place text)) 0 (length (drop place text)) next → IsBreak (drop place text) next → IsLineEnd text place (place + next)
  ends_before next h p =
      let size = length-drop place text in
      record {
        after = omega arith;
        inside = omega (arith, size, h.high);
        last = inr (moved _ _ (behind next) p);
        unbroken = λ k low high q.
            let at : place + (k - place) ≡ k = omega (arith, low) in
            h.before (k - place) (omega arith) (omega (arith, low, high)) (moved _ _ (sym (behind (k - place) ∙ ap (slice_index text) at)) q);
      }

  pub ends_last : Nowhere (IsBreak (drop place text)) 0 (length (drop place text)) → IsLineEnd text place (length text)
  ends_last h = let size = length-drop place text in record {
    after = inside;
    inside = omega arith;
    last = inl refl;
    unbroken = λ k low high q.
        let at : place + (k - place) ≡ k = omega (arith, low) in
        h (k - place) (omega arith) (omega (arith, size, low, high, inside)) (moved _ _ (sym (behind (k - place) ∙ ap (slice_index text) at)) q);
  }
