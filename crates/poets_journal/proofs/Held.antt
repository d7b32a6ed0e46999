-- What files of records hold.
use Rattle.std.proofs.Common.{◌≡◌, inl, inr, ℕ, ◌+◌, ◌≤◌, List, [], ◌∷◌, ◌++◌, length, get_or, take, drop, refl, sym, ◌∙◌, ap, subst, arith, append_assoc, length-append}
use Rattle.std.proofs.lemmas.List.{take_at, drop_at}
use Rattle.poets_journal.specs.Texts.{number_of, BeginsWith, AreRecords, IsClosed, HoldsFrom, HoldsTexts}
use Rattle.poets_journal.specs.code.Gates.{HasGate, HasGateAt}

-- what stands ahead of the rest
pub record Front (bytes : List ℕ) (texts : List (List ℕ)) (rest : List ℕ) : Type 0 where
  pub front : List ℕ
  pub is : bytes ≡ front ++ rest
  pub records : (other : List ℕ) → AreRecords (front ++ other) texts other

pub front_of : (bytes : List ℕ) (texts : List (List ℕ)) (rest : List ℕ) → AreRecords bytes texts rest → Front bytes texts rest
front_of bytes [] rest r = record { front = []; is = r; records = λ other. refl }
front_of bytes (t ∷ ts) rest r =
    let f = front_of r.0 ts rest r.2 in let b = r.1 in
    let size : List ℕ → List ℕ = λ l. 1 ∷ b.a ∷ b.b ∷ b.c ∷ b.d ∷ l in
    record {
      front = 1 ∷ b.a ∷ b.b ∷ b.c ∷ b.d ∷ t ++ f.front;
      is = b.is ∙ ap size (ap (λ (l : List ℕ). t ++ l) f.is ∙ sym (append_assoc t f.front rest));
      records = λ other. (
        f.front ++ other,
        record { a = b.a; b = b.b; c = b.c; d = b.d; is = ap size (append_assoc t f.front other); size = b.size },
        f.records other,
      );
    }

-- one record more
pub records_more : (bytes : List ℕ) (texts : List (List ℕ)) (text rest last : List ℕ) → AreRecords bytes texts rest → BeginsWith text rest last → AreRecords bytes (texts ++ text ∷ []) last
records_more bytes [] text rest last r b = (last, subst (λ l. BeginsWith text l last) (sym r) b, refl)
records_more bytes (t ∷ ts) text rest last r b = (r.0, r.1, records_more r.0 ts text rest last r.2 b)

-- bytes begin with a record of one text alone
pub same_text : (text other bytes more rest : List ℕ) → BeginsWith text bytes more → BeginsWith other bytes rest → (text ≡ other) × (more ≡ rest)
same_text text other bytes more rest b c =
    let e : 1 ∷ b.a ∷ b.b ∷ b.c ∷ b.d ∷ text ++ more ≡ 1 ∷ c.a ∷ c.b ∷ c.c ∷ c.d ∷ other ++ rest = sym b.is ∙ c.is in
    let a_is : b.a ≡ c.a = ap (λ (l : List ℕ). get_or l 1 0) e in
    let b_is : b.b ≡ c.b = ap (λ (l : List ℕ). get_or l 2 0) e in
    let c_is : b.c ≡ c.c = ap (λ (l : List ℕ). get_or l 3 0) e in
    let d_is : b.d ≡ c.d = ap (λ (l : List ℕ). get_or l 4 0) e in
    let number : number_of b.a b.b b.c b.d ≡ number_of c.a c.b c.c c.d = λ i. number_of (a_is i) (b_is i) (c_is i) (d_is i) in
    let long : length text ≡ length other = sym b.size ∙ number ∙ c.size in
    let tail : text ++ more ≡ other ++ rest = ap (λ (l : List ℕ). drop 5 l) e in (
      sym (take_at text more (length text) refl) ∙ ap (λ (l : List ℕ). take (length text) l) tail ∙ take_at other rest (length text) (sym long),
      sym (drop_at text more (length text) refl) ∙ ap (λ (l : List ℕ). drop (length text) l) tail ∙ drop_at other rest (length text) (sym long),
    )

pub not_open : (bytes rest : List ℕ) → IsClosed bytes → bytes ≡ 1 ∷ rest → ⊥
not_open bytes rest closed e = (subst IsClosed e closed) refl

-- bytes hold the texts of one list alone
pub same_records : (bytes : List ℕ) (texts others : List (List ℕ)) (rest last : List ℕ) → AreRecords bytes texts rest → IsClosed rest → AreRecords bytes others last → IsClosed last → texts ≡ others
same_records bytes [] [] rest last r closed q ends = refl
same_records bytes [] (u ∷ us) rest last r closed q ends = let c = q.1 in absurd (not_open rest (c.a ∷ c.b ∷ c.c ∷ c.d ∷ u ++ q.0) closed (sym r ∙ c.is))
same_records bytes (t ∷ ts) [] rest last r closed q ends = let b = r.1 in absurd (not_open last (b.a ∷ b.b ∷ b.c ∷ b.d ∷ t ++ r.0) ends (sym q ∙ b.is))
same_records bytes (t ∷ ts) (u ∷ us) rest last r closed q ends =
    let same = same_text t u bytes r.0 q.0 r.1 q.1 in
    let others : AreRecords r.0 us last = subst (λ l. AreRecords l us last) (sym same.1) q.2 in
    let more : ts ≡ us = same_records r.0 ts us rest last r.2 closed others ends in
    λ i. same.0 i ∷ more i

short_none : (bytes : List ℕ) (texts : List (List ℕ)) → length bytes ≤ 1 → HoldsFrom bytes texts → texts ≡ []
short_none bytes [] short h = refl
short_none bytes (t ∷ ts) short h = absurd (omega (arith, short, ap length h.records.1.is))

pub same_held : (bytes : List ℕ) (texts others : List (List ℕ)) → HoldsTexts bytes texts → HoldsTexts bytes others → texts ≡ others
same_held bytes texts others (inl h) (inl k) = h.1 ∙ sym k.1
same_held bytes texts others (inl h) (inr k) = h.1 ∙ sym (short_none bytes others h.0 k)
same_held bytes texts others (inr h) (inl k) = short_none bytes texts k.0 h ∙ sym k.1
same_held bytes texts others (inr h) (inr k) = same_records bytes texts others h.rest k.rest h.records h.closed k.records k.closed

-- a file with a gate holds the texts ahead of it
pub held_by_gate : (file : List ℕ) (texts : List (List ℕ)) (front : List ℕ) (gate : ℕ) (rest : List ℕ) → HasGate file texts front gate rest → HoldsFrom file texts
held_by_gate file texts front gate rest h = record {
  rest = gate ∷ rest;
  records = subst (λ l. AreRecords l texts (gate ∷ rest)) (sym h.is) (h.records (gate ∷ rest));
  closed = h.closed;
}

-- where the gate of a file is
pub gate_of : (file : List ℕ) (texts : List (List ℕ)) (rest : List ℕ) (at : ℕ) → AreRecords file texts rest → IsClosed rest → at + length rest ≡ length file → HasGateAt at file
gate_of file texts [] at r closed place = absurd closed
gate_of file texts (gate ∷ rest) at r closed place =
    let f = front_of file texts (gate ∷ rest) r in
    record {
      texts = texts;
      front = f.front;
      gate = gate;
      rest = rest;
      has = record { is = f.is; records = f.records; closed = closed };
      place = omega (arith, place, ap length f.is, length-append f.front (gate ∷ rest));
    }
