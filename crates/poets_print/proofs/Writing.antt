-- What a written text is: its tokens, and what they are by a rule of the grammar.
use Rattle.std.proofs.Common.{◌≡◌, ℕ, zero, suc, ◌≤◌, Bool, true, false, List, [], ◌∷◌, ◌++◌, refl, sym, subst, arith, ◌⊎◌, inl, inr, append_assoc}
use Rattle.std.specs.Prelude.{All, codes}
use Rattle.std.proofs.lemmas.List.Elements.{All-head, All-tail}
use Rattle.poets_lex.specs.declared.token.Sign.TheVariants as S
use Rattle.poets_lex.specs.declared.token.Tok.{Tok}
use Rattle.poets_lex.specs.declared.token.Tok.TheVariants as K
use Rattle.poets_lex.specs.Bytes.{is_in_name, BeginsWithout}
use Rattle.poets_lex.specs.Table.{Table}
use Rattle.poets_lex.proofs.CutTexts.{IsCutInto, cut_sign, cut_space}
use Rattle.poets_grammar.specs.Lists.{ReadsList, ReadsBracketed}
use Rattle.poets_print.specs.Texts.{bracketed, behind_commas, listed}

-- the text is tokens that are x by the rule, and then the tokens after
pub record IsTextOf {A : Type 0} (table : Table) (Rule : List Tok → A → List Tok → Type 0) (text : List ℕ) (x : A) (behind : List Tok) : Type 0 where
  pub tokens : List Tok
  pub cut : IsCutInto table text tokens
  pub reads : Rule tokens x behind

-- so is the text before any rest that would not make its last token longer
abbrev pub Writes : {A : Type 0} → Table → (List Tok → A → List Tok → Type 0) → List ℕ → A → Type 0
Writes table Rule text x = (rest : List ℕ) (behind : List Tok) → IsCutInto table rest behind → BeginsWithout is_in_name rest → IsTextOf table Rule (text ++ rest) x behind

order : (n k : ℕ) → n ≤ suc k → (n ≤ k) ⊎ (n ≡ suc k)
order n k h = grind (arith, h)

-- rules of levels: the next tighter rule is one of a level, and a whole in brackets is one of the tightest
module _ {A : Type 0} (Rule : ℕ → List Tok → A → List Tok → Type 0) (top : ℕ)
    (looser : (n : ℕ) (ts : List Tok) (x : A) (rest : List Tok) → Rule (suc n) ts x rest → Rule n ts x rest)
    (brackets : (ts : List Tok) (x : A) (rest : List Tok) → Rule 0 ts x (K.Sign S.RightParen ∷ rest) → Rule top (K.Sign S.LeftParen ∷ ts) x rest) where
  pub looser_by : (k n : ℕ) (ts : List Tok) (x : A) (rest : List Tok) → n ≤ k → Rule k ts x rest → Rule n ts x rest
  looser_by zero n ts x rest le h = subst (λ (i : ℕ). Rule i ts x rest) (omega arith) h
  looser_by (suc k) n ts x rest le h = elim (order n k le) [
    | inl less ↦ looser_by k n ts x rest less (looser k ts x rest h)
    | inr same ↦ subst (λ (i : ℕ). Rule i ts x rest) (sym same) h
  ]

  pub writes_looser : (table : Table) (k n : ℕ) (text : List ℕ) (x : A) → n ≤ k → Writes table (Rule k) text x → Writes table (Rule n) text x
  writes_looser table k n text x le h rest behind cut end =
      let written = h rest behind cut end in
      record { tokens = written.tokens; cut = written.cut; reads = looser_by k n written.tokens x behind le written.reads }

  -- a part of level k where level n is wanted, in brackets or not
  pub writes_bracketed : (table : Table) (k n : ℕ) (text : List ℕ) (x : A) (b : Bool) → n ≤ top → (b ≡ false → n ≤ k) → Writes table (Rule k) text x → Writes table (Rule n) (bracketed b text) x
  writes_bracketed table k n text x false high enough h = writes_looser table k n text x (enough refl) h
  writes_bracketed table k n text x true high enough h = λ rest behind cut end.
      let inside = writes_looser table k 0 text x (omega arith) h (41 ∷ rest) (K.Sign S.RightParen ∷ behind) (cut_sign S.RightParen refl cut) refl in
      rw append_assoc (record {
        tokens = K.Sign S.LeftParen ∷ inside.tokens;
        cut = cut_sign S.LeftParen refl inside.cut;
        reads = looser_by top n (K.Sign S.LeftParen ∷ inside.tokens) x behind high (brackets inside.tokens x behind inside.reads);
      })

-- lists of what P holds of, where the rule has the text of each
module _ {A : Type 0} (table : Table) (Rule : List Tok → A → List Tok → Type 0) (text_of : A → List ℕ) (P : A → Type 0) (each : (x : A) → P x → Writes table Rule (text_of x) x) where
  pub writes_listed : (x : A) (xs : List A) → All P (x ∷ xs) → Writes table (ReadsList Rule) (listed text_of (x ∷ xs)) (x ∷ xs)
  writes_listed x [] h rest behind cut end =
      let one = each x (All-head P x [] h) rest behind cut end in
      rw append_assoc (record { tokens = one.tokens; cut = one.cut; reads = ReadsList.One one.reads })
  writes_listed x (y ∷ ys) h rest behind cut end =
      let others = writes_listed y ys (All-tail P x (y ∷ ys) h) rest behind cut end in
      let first = each x (All-head P x (y ∷ ys) h) (44 ∷ 32 ∷ (listed text_of (y ∷ ys) ++ rest)) (K.Sign S.Comma ∷ others.tokens) (cut_sign S.Comma refl (cut_space others.cut)) refl in
      rw (append_assoc (text_of x) (behind_commas text_of (y ∷ ys)) rest) (record { tokens = first.tokens; cut = first.cut; reads = ReadsList.More first.reads others.reads })

  -- the same in brackets, where there may be none
  pub writes_in_brackets : (xs : List A) → All P xs → Writes table (ReadsBracketed Rule) (codes "(" ++ listed text_of xs ++ codes ")") xs
  writes_in_brackets [] h rest behind cut end = record { tokens = _; cut = cut_sign S.LeftParen refl (cut_sign S.RightParen refl cut); reads = ReadsBracketed.Empty }
  writes_in_brackets (x ∷ xs) h rest behind cut end =
      let inside = writes_listed x xs h (41 ∷ rest) (K.Sign S.RightParen ∷ behind) (cut_sign S.RightParen refl cut) refl in
      rw append_assoc (record { tokens = _; cut = cut_sign S.LeftParen refl inside.cut; reads = ReadsBracketed.Full inside.reads })
