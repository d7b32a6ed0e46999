-- How a start goes.
use Rattle.std.proofs.Common.{◌≡◌, inl, inr, ℕ, ◌<◌, ◌≤◌, List, [], ◌∷◌, ◌++◌, length, Option, Some, None, IfSome, option_map, refl, sym, ◌∙◌, ap, subst, arith, zero-le}
use Rattle.std.proofs.lemmas.List.{drop_all}
use Rattle.poets_disk.specs.Disks.{Seen, MayLeave, GoesOn, During, Rests, Writes, IsTorn, IsSure, over, longest_file}
use Rattle.poets_journal.specs.Texts.{BeginsWith, AreRecords, IsClosed, HoldsTexts, IsCutShort, IsDamaged}
use Rattle.poets_journal.specs.Journals.{AllHold}
use Rattle.poets_journal.specs.Starts.{StaysOrIsShort, with_gate}
use Rattle.poets_journal.specs.code.Gates.{HasGateAt, IsReady}
use Rattle.poets_journal.specs.code.Opens.{IsOpened}
use Rattle.poets_journal.proofs.Held.{not_open, gate_of, same_text}
use Rattle.poets_disk.proofs.Moments.{left_now, during_both}
use Rattle.poets_journal.proofs.Crash.{told}

-- a file that is cut short after some records holds no texts
pub damaged_none : (bytes : List ℕ) (texts : List (List ℕ)) (rest : List ℕ) (others : List (List ℕ)) (last : List ℕ) → AreRecords bytes texts rest → IsCutShort rest → AreRecords bytes others last → IsClosed last → ⊥
damaged_none bytes [] rest [] last r cut q closed = not_open last cut.rest closed (sym q ∙ r ∙ cut.begun)
damaged_none bytes [] rest (u ∷ us) last r cut q closed = ends q.0 us last q.1 q.2 closed
  where
    whole : (more : List ℕ) → BeginsWith u bytes more → (next : ℕ) (rest' : List ℕ) → more ≡ next ∷ rest' → ⊥
    whole more b next rest' is = cut.short u rest' next (subst₂' b is)
      where
        subst₂' : BeginsWith u bytes more → more ≡ next ∷ rest' → BeginsWith u rest (next ∷ rest')
        subst₂' b is = subst (λ l. BeginsWith u l (next ∷ rest')) r (subst (λ l. BeginsWith u bytes l) is b)

    ends : (more : List ℕ) (us : List (List ℕ)) (last : List ℕ) → BeginsWith u bytes more → AreRecords more us last → IsClosed last → ⊥
    ends [] [] last b a closed = absurd (subst IsClosed (sym a) closed)
    ends [] (v ∷ vs) last b a closed = omega (arith, ap length a.1.is)
    ends (x ∷ xs) us last b a closed = whole (x ∷ xs) b x xs refl
damaged_none bytes (t ∷ ts) rest [] last r cut q closed = let b = r.1 in not_open last (b.a ∷ b.b ∷ b.c ∷ b.d ∷ t ++ r.0) closed (sym q ∙ b.is)
damaged_none bytes (t ∷ ts) rest (u ∷ us) last r cut q closed =
    let same = same_text t u bytes r.0 q.0 r.1 q.1 in
    damaged_none r.0 ts rest us last r.2 cut (subst (λ l. AreRecords l us last) (sym same.1) q.2) closed

pub damaged_holds_none : (file : List ℕ) (number : ℕ) → IsDamaged file number → (texts : List (List ℕ)) → HoldsTexts file texts → ⊥
damaged_holds_none file number d texts (inl h) = omega (arith, d.long, h.0)
damaged_holds_none file number d texts (inr h) = damaged_none file d.texts d.rest texts h.rest d.records d.cut h.records h.closed

pub damaged_bytes : (bytes : Option (List ℕ)) (number : ℕ) → IfSome bytes (λ file. IsDamaged file number) → IfSome bytes (λ file. (texts : List (List ℕ)) → HoldsTexts file texts → ⊥)
damaged_bytes None number d = tt
damaged_bytes (Some file) number d = damaged_holds_none file number d

-- what is read is the file
pub same_file : (P : List ℕ → Type 0) (bytes : Option (List ℕ)) (list : List ℕ) → IfSome bytes (λ file. list ≡ file) → P list → IfSome bytes P
same_file P None list same p = tt
same_file P (Some file) list same p = subst P same p

-- the first byte of a file of at most one, written and perhaps cut short
pub torn_short : (old new : List ℕ) → IsTorn 0 1 old new → length old ≤ 1 → length new ≤ 1
torn_short old new torn short = omega (arith, torn.no_longer, short)

pub zero_written : (old : List ℕ) → length old ≤ 1 → over 0 (0 ∷ []) old ≡ 0 ∷ []
zero_written old short = ap (λ (l : List ℕ). 0 ∷ l) (drop_all 1 old short)

zero_gate : HasGateAt 0 (0 ∷ [])
zero_gate = record { texts = []; front = []; gate = 0; rest = []; has = record { is = refl; records = λ other. refl; closed = omega arith }; place = refl }

pub zero_bytes : (old new : Option (List ℕ)) → IfSome old (λ file. length file ≤ 1) → new ≡ option_map (over 0 (0 ∷ [])) old → IfSome new (λ file. file ≡ 0 ∷ [])
zero_bytes None new short e = subst (λ o. IfSome o (λ file. file ≡ 0 ∷ [])) (sym e) tt
zero_bytes (Some file) new short e = subst (λ o. IfSome o (λ file. file ≡ 0 ∷ [])) (sym e) (zero_written file short)

pub zero_gates : (bytes : Option (List ℕ)) → IfSome bytes (λ file. file ≡ 0 ∷ []) → IfSome bytes (HasGateAt 0)
zero_gates None is = tt
zero_gates (Some file) is = subst (HasGateAt 0) (sym is) zero_gate

pub zero_short : (bytes : Option (List ℕ)) → IfSome bytes (λ file. file ≡ 0 ∷ []) → IfSome bytes (λ file. length file ≤ 1)
zero_short None is = tt
zero_short (Some file) is = omega (arith, ap length is)

-- an opened file has its gate there
pub opened_gates : (file : List ℕ) (texts : List (List ℕ)) (gate : ℕ) → IsOpened file texts gate → HasGateAt gate file
opened_gates file texts gate o = gate_of file texts o.rest gate o.records o.closed o.place

pub opened_held : (file : List ℕ) (texts : List (List ℕ)) (gate : ℕ) → IsOpened file texts gate → HoldsTexts file texts
opened_held file texts gate o = inr (record { rest = o.rest; records = o.records; closed = o.closed })

pub zero_in : (bytes : Option (List ℕ)) → IfSome bytes (λ file. 0 ≤ length file)
zero_in None = tt
zero_in (Some file) = zero-le

pub each_told : (P : List ℕ → Type 0) (bytes : Option (List ℕ)) → ((file : List ℕ) → bytes ≡ Some file → P file) → IfSome bytes P
each_told P None each = tt
each_told P (Some file) each = each file refl

-- the write of the closed gate, at each moment
pub gate_during : (old new : Seen) → IfSome old.bytes (λ file. length file ≤ 1) → IsSure old → Writes 0 (0 ∷ []) old new → During old new (λ image. length image ≤ 1)
gate_during old new short sure w image since =
    let t = w.during image since in
    torn_short t.whole image t.torn (told (λ file. length file ≤ 1) old.bytes t.whole short (sure t.whole t.left))

closed_long : (rest : List ℕ) → IsClosed rest → 0 < length rest
closed_long [] closed = absurd closed
closed_long (gate ∷ rest) closed = omega arith

-- the bytes that were read, where they are told, are those of a disk that rests
pub ready_of : (disk : Seen) (list : List ℕ) (texts : List (List ℕ)) (gate : ℕ) → IsOpened list texts gate → length list ≤ longest_file → IfSome disk.bytes (λ file. list ≡ file) → IsSure disk → IsReady disk gate
ready_of disk list texts gate o long same sure = record {
  within = omega (arith, o.place, closed_long o.rest o.closed, long);
  file = same_file (HasGateAt gate) disk.bytes list same (opened_gates list texts gate o);
  sure = sure;
}

pub held_of : (disk : Seen) (list : List ℕ) (texts : List (List ℕ)) (gate : ℕ) → IsOpened list texts gate → IfSome disk.bytes (λ file. list ≡ file) → IsSure disk → AllHold disk texts
held_of disk list texts gate o same sure image left =
    told (λ file. HoldsTexts file texts) disk.bytes image (same_file (λ file. HoldsTexts file texts) disk.bytes list same (opened_held list texts gate o)) (sure image left)

pub texts_of_bytes : (bytes : Option (List ℕ)) (list : List ℕ) (texts : List (List ℕ)) (gate : ℕ) → IsOpened list texts gate → IfSome bytes (λ file. list ≡ file) → IfSome bytes (λ file. HoldsTexts file texts)
texts_of_bytes bytes list texts gate o same = same_file (λ file. HoldsTexts file texts) bytes list same (opened_held list texts gate o)

pub none_held : (bytes : Option (List ℕ)) (list : List ℕ) → length list ≤ 1 → IfSome bytes (λ file. list ≡ file) → IfSome bytes (λ file. HoldsTexts file [])
none_held bytes list short same = same_file (λ file. HoldsTexts file []) bytes list same (inl (short, refl))

-- both at once, for the shorter of two files: the start of a file of at most one byte
pub short_during : (a b c : Seen) → Rests a b → GoesOn b c → During b c (λ image. length image ≤ 1) → IfSome c.bytes (λ file. length file ≤ 1) → During a c (StaysOrIsShort a c)
short_during a b c rests time during short = during_both a b c (StaysOrIsShort a c) time (λ image since. inl (rests.during image since)) (λ image since. inr (during image since, short))

pub short_bytes : (old new : Seen) → GoesOn old new → During old new (λ image. length image ≤ 1) → ((file : List ℕ) → new.bytes ≡ Some file → MayLeave new file) → IfSome new.bytes (λ file. length file ≤ 1)
short_bytes old new time during reads = each_told (λ file. length file ≤ 1) new.bytes (λ file is. during file (left_now old new time file (reads file is)))

-- the file once its gate was closed
pub zero_file : (old new : Option (List ℕ)) → IfSome old (λ file. length file ≤ 1) → new ≡ option_map (over 0 (0 ∷ [])) old → new ≡ option_map (λ file. 0 ∷ []) old
zero_file None new short e = e
zero_file (Some file) new short e = e ∙ ap Some (zero_written file short)

gate_short : (file : List ℕ) → length file ≤ 1 → 0 ∷ [] ≡ with_gate file
gate_short [] short = refl
gate_short (byte ∷ []) short = refl
gate_short (byte ∷ next ∷ rest) short = absurd (omega (arith, short))

gate_long : (file : List ℕ) → 1 < length file → file ≡ with_gate file
gate_long [] long = absurd (omega (arith, long))
gate_long (byte ∷ []) long = absurd (omega (arith, long))
gate_long (byte ∷ next ∷ rest) long = refl

pub short_gate : (bytes : Option (List ℕ)) (list : List ℕ) → length list ≤ 1 → IfSome bytes (λ file. list ≡ file) → option_map (λ file. 0 ∷ []) bytes ≡ option_map with_gate bytes
short_gate None list short same = refl
short_gate (Some file) list short same = ap Some (gate_short file (omega (arith, short, ap length same)))

pub long_gate : (bytes : Option (List ℕ)) (list : List ℕ) → 1 < length list → IfSome bytes (λ file. list ≡ file) → bytes ≡ option_map with_gate bytes
long_gate None list long same = refl
long_gate (Some file) list long same = ap Some (gate_long file (omega (arith, long, ap length same)))
