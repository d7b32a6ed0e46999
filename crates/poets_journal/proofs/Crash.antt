-- What a crash leaves in each of the two steps by which a record is put.
use Rattle.std.proofs.Common.{◌≡◌, inl, inr, ℕ, ◌+◌, ◌≤◌, List, [], ◌∷◌, ◌++◌, length, get_or, take, drop, Option, Some, None, IfSome, option_map, refl, sym, ◌∙◌, ap, subst, arith, append_assoc, length-append, take-append-drop}
use Rattle.std.proofs.lemmas.Bool.{cases_eq}
use Rattle.std.proofs.lemmas.List.{take_at, drop_at, drop_more}
use Rattle.poets_disk.specs.Disks.{Seen, MayLeave, During, Writes, IsTorn, IsSure, over}
use Rattle.poets_journal.specs.Texts.{BeginsWith, AreRecords, IsClosed, HoldsFrom, HoldsTexts, IsFrame}
use Rattle.poets_journal.specs.Journals.{AllHold, HoldsOrMore, with_record}
use Rattle.poets_journal.specs.code.Gates.{HasGateAt, HasStaged, IsReady, IsStaged}
use Rattle.poets_journal.proofs.Held.{records_more, same_held, held_by_gate, gate_of}

-- the front of a file up to its gate, and the gate
take_gate : (at : ℕ) (file front : List ℕ) (gate : ℕ) (rest : List ℕ) → file ≡ front ++ gate ∷ rest → at ≡ length front → take (at + 1) file ≡ front ++ gate ∷ []
take_gate at file front gate rest is place =
    ap (λ (l : List ℕ). take (at + 1) l) (is ∙ sym (append_assoc front (gate ∷ []) rest))
    ∙ take_at (front ++ gate ∷ []) rest (at + 1) (omega (arith, place, length-append front (gate ∷ [])))

drop_gate : (at : ℕ) (file front : List ℕ) (gate : ℕ) (rest : List ℕ) → file ≡ front ++ gate ∷ rest → at ≡ length front → drop (at + 1) file ≡ rest
drop_gate at file front gate rest is place =
    ap (λ (l : List ℕ). drop (at + 1) l) (is ∙ sym (append_assoc front (gate ∷ []) rest))
    ∙ drop_at (front ++ gate ∷ []) rest (at + 1) (omega (arith, place, length-append front (gate ∷ [])))

take_front : (at : ℕ) (file front : List ℕ) (gate : ℕ) (rest : List ℕ) → file ≡ front ++ gate ∷ rest → at ≡ length front → take at file ≡ front
take_front at file front gate rest is place = ap (λ (l : List ℕ). take at l) is ∙ take_at front (gate ∷ rest) at (sym place)

-- the gate stands in each outcome of the first write
pub torn_behind : (at count : ℕ) (file image : List ℕ) (texts : List (List ℕ)) → HasGateAt at file → IsTorn (at + 1) count file image → HoldsTexts file texts → HoldsTexts image texts
torn_behind at count file image texts g torn held =
    let front : take (at + 1) image ≡ g.front ++ g.gate ∷ [] = torn.before ∙ take_gate at file g.front g.gate g.rest g.has.is g.place in
    let is : image ≡ g.front ++ g.gate ∷ drop (at + 1) image =
    sym (take-append-drop (at + 1) image) ∙ ap (λ (l : List ℕ). l ++ drop (at + 1) image) front ∙ append_assoc g.front (g.gate ∷ []) (drop (at + 1) image) in
    let same : g.texts ≡ texts = same_held file g.texts texts (inr (held_by_gate file g.texts g.front g.gate g.rest g.has)) held in
    let holds : HoldsFrom image g.texts = held_by_gate image g.texts g.front g.gate (drop (at + 1) image) (record { is = is; records = g.has.records; closed = g.has.closed }) in
    inr (subst (λ ts. HoldsFrom image ts) same holds)

-- the record stands behind the gate after it
pub written_behind : (at : ℕ) (text frame file : List ℕ) → HasGateAt at file → IsFrame text frame → HasStaged at text (over (at + 1) frame file)
written_behind at text frame file g framed = record {
  texts = g.texts;
  front = g.front;
  gate = g.gate;
  frame = frame;
  rest = drop (at + 1 + length frame) file;
  has = record {
    is = ap (λ (l : List ℕ). l ++ (frame ++ drop (at + 1 + length frame) file)) (take_gate at file g.front g.gate g.rest g.has.is g.place)
        ∙ append_assoc g.front (g.gate ∷ []) (frame ++ drop (at + 1 + length frame) file);
    records = g.has.records;
    closed = g.has.closed;
  };
  place = g.place;
  framed = framed;
}

-- with the gate open the record counts
opened : (text frame rest : List ℕ) → IsFrame text frame → BeginsWith text (1 ∷ (frame ++ rest)) (0 ∷ rest)
opened text frame rest f = record {
  a = f.a;
  b = f.b;
  c = f.c;
  d = f.d;
  is = ap (λ (l : List ℕ). l ++ rest) f.is ∙ ap (λ (l : List ℕ). 1 ∷ f.a ∷ f.b ∷ f.c ∷ f.d ∷ l) (append_assoc text (0 ∷ []) rest);
  size = f.size;
}

-- the records of a file whose gate was opened
pub opened_records : (at : ℕ) (text file image : List ℕ) (s : HasStaged at text file) → image ≡ s.front ++ (1 ∷ (s.frame ++ s.rest)) → AreRecords image (s.texts ++ text ∷ []) (0 ∷ s.rest)
opened_records at text file image s is =
    records_more image s.texts text (1 ∷ (s.frame ++ s.rest)) (0 ∷ s.rest)
    (subst (λ l. AreRecords l s.texts (1 ∷ (s.frame ++ s.rest))) (sym is) (s.has.records (1 ∷ (s.frame ++ s.rest)))) (opened text s.frame s.rest s.framed)

zero_closed : (rest : List ℕ) → IsClosed (0 ∷ rest)
zero_closed rest = omega arith

staged_texts : (at : ℕ) (text file : List ℕ) (texts : List (List ℕ)) (s : HasStaged at text file) → HoldsTexts file texts → s.texts ≡ texts
staged_texts at text file texts s held = same_held file s.texts texts (inr (held_by_gate file s.texts s.front s.gate (s.frame ++ s.rest) s.has)) held

-- in each outcome of the second write the record counts or it does not
pub torn_gate : (at : ℕ) (text file image : List ℕ) (texts : List (List ℕ)) → HasStaged at text file → IsTorn at 1 file image → HoldsTexts file texts → HoldsOrMore texts text image
torn_gate at text file image texts s torn held =
    let long : length file ≡ at + 1 + length (s.frame ++ s.rest) = ap length s.has.is ∙ length-append s.front (s.gate ∷ (s.frame ++ s.rest)) ∙ omega (arith, s.place) in
    let gate : ℕ = get_or image at 0 in
    let front : take at image ≡ s.front = torn.before ∙ take_front at file s.front s.gate (s.frame ++ s.rest) s.has.is s.place in
    let rest : drop at image ≡ gate ∷ (s.frame ++ s.rest) =
    drop_more image at 0 (omega (arith, long, torn.no_shorter)) ∙ ap (λ (l : List ℕ). gate ∷ l) (torn.after ∙ drop_gate at file s.front s.gate (s.frame ++ s.rest) s.has.is s.place) in
    let is : image ≡ s.front ++ (gate ∷ (s.frame ++ s.rest)) =
    sym (take-append-drop at image) ∙ ap (λ (l : List ℕ). l ++ drop at image) front ∙ ap (λ (l : List ℕ). s.front ++ l) rest in
    let same : s.texts ≡ texts = staged_texts at text file texts s held in
    subst (λ ts. HoldsOrMore ts text image) same (elim (cases_eq gate 1) [
      | inl is_open ↦
          let is' : image ≡ s.front ++ (1 ∷ (s.frame ++ s.rest)) = is ∙ ap (λ (x : ℕ). s.front ++ (x ∷ (s.frame ++ s.rest))) is_open in
          inr (inr (record { rest = 0 ∷ s.rest; records = opened_records at text file image s is'; closed = zero_closed s.rest }))
      | inr shut ↦ inl (inr (held_by_gate image s.texts s.front gate (s.frame ++ s.rest) (record { is = is; records = s.has.records; closed = shut })))
    ])

-- the file with its gate opened
over_gate : (at : ℕ) (text file : List ℕ) (s : HasStaged at text file) → over at (1 ∷ []) file ≡ s.front ++ (1 ∷ (s.frame ++ s.rest))
over_gate at text file s =
    ap (λ (l : List ℕ). l ++ (1 ∷ drop (at + 1) file)) (take_front at file s.front s.gate (s.frame ++ s.rest) s.has.is s.place)
    ∙ ap (λ (l : List ℕ). s.front ++ (1 ∷ l)) (drop_gate at file s.front s.gate (s.frame ++ s.rest) s.has.is s.place)

pub opened_holds : (at : ℕ) (text file : List ℕ) (texts : List (List ℕ)) → HasStaged at text file → HoldsTexts file texts → HoldsTexts (over at (1 ∷ []) file) (texts ++ text ∷ [])
opened_holds at text file texts s held =
    let same : s.texts ≡ texts = staged_texts at text file texts s held in
    inr (subst (λ ts. HoldsFrom (over at (1 ∷ []) file) (ts ++ text ∷ [])) same (record {
      rest = 0 ∷ s.rest;
      records = opened_records at text file (over at (1 ∷ []) file) s (over_gate at text file s);
      closed = zero_closed s.rest;
    }))

pub opened_gate : (at : ℕ) (text file : List ℕ) → HasStaged at text file → HasGateAt (at + 5 + length text) (over at (1 ∷ []) file)
opened_gate at text file s =
    let long : length (1 ∷ s.frame) ≡ 5 + length text + 1 = ap length s.framed.is ∙ omega (arith, length-append text (0 ∷ [])) in
    let whole : length (over at (1 ∷ []) file) ≡ at + 1 + length s.frame + length s.rest =
    ap length (over_gate at text file s) ∙ omega (arith, length-append s.front (1 ∷ (s.frame ++ s.rest)), length-append s.frame s.rest, s.place) in
    gate_of (over at (1 ∷ []) file) (s.texts ++ text ∷ []) (0 ∷ s.rest) (at + 5 + length text)
    (opened_records at text file (over at (1 ∷ []) file) s (over_gate at text file s)) (zero_closed s.rest) (omega (arith, long, whole))

-- what is told of the bytes after a write
pub staged_bytes : (at : ℕ) (text frame : List ℕ) (old new : Option (List ℕ)) → IsFrame text frame → IfSome old (HasGateAt at) → new ≡ option_map (over (at + 1) frame) old → IfSome new (HasStaged at text)
staged_bytes at text frame None new framed g e = subst (λ o. IfSome o (HasStaged at text)) (sym e) tt
staged_bytes at text frame (Some file) new framed g e = subst (λ o. IfSome o (HasStaged at text)) (sym e) (written_behind at text frame file g framed)

pub opened_bytes : (at : ℕ) (text : List ℕ) (old new : Option (List ℕ)) → IfSome old (HasStaged at text) → new ≡ option_map (over at (1 ∷ [])) old → IfSome new (HasGateAt (at + 5 + length text))
opened_bytes at text None new s e = subst (λ o. IfSome o (HasGateAt (at + 5 + length text))) (sym e) tt
opened_bytes at text (Some file) new s e = subst (λ o. IfSome o (HasGateAt (at + 5 + length text))) (sym e) (opened_gate at text file s)

-- the place behind the gate is in the file
pub behind_gate : (at : ℕ) (bytes : Option (List ℕ)) → IfSome bytes (HasGateAt at) → IfSome bytes (λ file. at + 1 ≤ length file)
behind_gate at None g = tt
behind_gate at (Some file) g = omega (arith, ap length g.has.is, length-append g.front (g.gate ∷ g.rest), g.place)

pub at_gate : (at : ℕ) (text : List ℕ) (bytes : Option (List ℕ)) → IfSome bytes (HasStaged at text) → IfSome bytes (λ file. at ≤ length file)
at_gate at text None s = tt
at_gate at text (Some file) s = omega (arith, ap length s.has.is, length-append s.front (s.gate ∷ (s.frame ++ s.rest)), s.place)

pub told : (P : List ℕ → Type 0) (bytes : Option (List ℕ)) (file : List ℕ) → IfSome bytes P → bytes ≡ Some file → P file
told P bytes file p e = subst (λ o. IfSome o P) e p

-- the first write, at each moment
pub stage_during : (old new : Seen) (at : ℕ) (frame : List ℕ) (texts : List (List ℕ)) → IsReady old at → Writes (at + 1) frame old new → AllHold old texts → During old new (λ image. HoldsTexts image texts)
stage_during old new at frame texts ready writes held image since =
    let t = writes.during image since in
    torn_behind at (length frame) t.whole image texts (told (HasGateAt at) old.bytes t.whole ready.file (ready.sure t.whole t.left)) t.torn (held t.whole t.left)

-- the second write, at each moment
pub open_during : (old new : Seen) (at : ℕ) (text : List ℕ) (texts : List (List ℕ)) → IsStaged old at text → Writes at (1 ∷ []) old new → AllHold old texts → During old new (HoldsOrMore texts text)
open_during old new at text texts staged writes held image since =
    let t = writes.during image since in
    torn_gate at text t.whole image texts (told (HasStaged at text) old.bytes t.whole staged.file (staged.sure t.whole t.left)) t.torn (held t.whole t.left)

abbrev is_none : Option (List ℕ) → Type 0
is_none None = Unit {0}
is_none (Some file) = ⊥

none_absurd : (file : List ℕ) → None ≡ Some file → ⊥
none_absurd file e = subst is_none e tt

-- after both, whatever a crash leaves has the new text
pub opened_image : (bytes : Option (List ℕ)) (next : Option (List ℕ)) (at : ℕ) (text image : List ℕ) (texts : List (List ℕ)) → IfSome bytes (HasStaged at text) → IfSome bytes (λ file. HoldsTexts file texts)
    → next ≡ option_map (over at (1 ∷ [])) bytes → next ≡ Some image → HoldsTexts image (texts ++ text ∷ [])
opened_image None next at text image texts s held e is = absurd (none_absurd image (sym e ∙ is))
opened_image (Some file) next at text image texts s held e is =
    told (λ l. HoldsTexts l (texts ++ text ∷ [])) (option_map (over at (1 ∷ [])) (Some file)) image (opened_holds at text file texts s held) (sym e ∙ is)

pub held_bytes : (disk : Seen) (bytes : Option (List ℕ)) (texts : List (List ℕ)) → AllHold disk texts → ((file : List ℕ) → bytes ≡ Some file → MayLeave disk file) → IfSome bytes (λ file. HoldsTexts file texts)
held_bytes disk None texts held left = tt
held_bytes disk (Some file) texts held left = held file (left file refl)

pub opened_all : (old new : Seen) (at : ℕ) (text : List ℕ) (texts : List (List ℕ)) → IsStaged old at text → AllHold old texts → ((file : List ℕ) → old.bytes ≡ Some file → MayLeave old file)
    → new.bytes ≡ option_map (over at (1 ∷ [])) old.bytes → IsSure new → AllHold new (texts ++ text ∷ [])
opened_all old new at text texts staged held left is sure image now =
    opened_image old.bytes new.bytes at text image texts staged.file (held_bytes old old.bytes texts held left) is (sure image now)

-- how long a frame is
pub frame_long : (text frame : List ℕ) → IsFrame text frame → length frame ≡ 5 + length text
frame_long text frame framed =
    let long : length (1 ∷ frame) ≡ 5 + length (text ++ 0 ∷ []) = ap length framed.is ∙ omega arith in
    omega (arith, long, length-append text (0 ∷ []))

-- the frame behind the gate, and then the gate opened
pub recorded : (at : ℕ) (frame : List ℕ) (old staged new : Option (List ℕ)) → staged ≡ option_map (over (at + 1) frame) old → new ≡ option_map (over at (1 ∷ [])) staged → new ≡ option_map (with_record at frame) old
recorded at frame None staged new first second = second ∙ ap (option_map (over at (1 ∷ []))) first
recorded at frame (Some file) staged new first second = second ∙ ap (option_map (over at (1 ∷ []))) first
