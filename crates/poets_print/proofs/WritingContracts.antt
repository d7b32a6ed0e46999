-- What the text of a contract is: that contract.
use Rattle.std.proofs.Common.{◌≡◌, ℕ, zero, suc, ◌≤◌, Bool, false, List, [], ◌∷◌, ◌++◌, refl, arith, append_assoc}
use Rattle.std.specs.Prelude.{All, codes, nat_lt, nat_le}
use Rattle.std.proofs.lemmas.Bool.{ltb-false, leb-false}
use Rattle.poets_value.specs.declared.value.Name.{Name}
use Rattle.poets_expr.specs.Expression.{Expression}
use Rattle.poets_expr.specs.Whole.{IsWholeExpression}
use Rattle.poets_syntax.specs.Contract as C
use Rattle.poets_syntax.specs.Contract.{Contract}
use Rattle.poets_syntax.specs.Whole.{IsWholeContract}
use Rattle.poets_lex.specs.declared.token.Word.TheVariants as W
use Rattle.poets_lex.specs.declared.token.Sign.TheVariants as S
use Rattle.poets_lex.specs.declared.token.Tok.{Tok}
use Rattle.poets_lex.specs.declared.token.Tok.TheVariants as K
use Rattle.poets_lex.specs.Table.{Table, IsTable}
use Rattle.poets_lex.proofs.CutTexts.{cut_space, cut_word, cut_name, cut_sign, cut_spaced}
use Rattle.poets_grammar.specs.Lists.{ReadsList, ReadsName, ReadsNames}
use Rattle.poets_grammar.specs.Expressions.{ReadsExpression, Disjunction, ReadsArguments}
use Rattle.poets_grammar.specs.ContractGrammar.{ContractRule, Choice, Parallel, Sequence, Simple, ReadsBinders, ReadsContract}
use Rattle.poets_print.specs.Levels.{contract_level}
use Rattle.poets_print.specs.Texts.{bracketed, binders_text, name_text, listed, call_text, expression_text, contract_text}
use Rattle.poets_print.specs.Laws.{IsListed, CanWrite, CanWriteContract}
use Rattle.poets_print.proofs.Writing.{Writes, writes_looser, writes_bracketed, writes_listed, writes_in_brackets}
use Rattle.poets_print.proofs.WritingExpressions.{writes_expression}

-- the rule of a level
rule : ℕ → ContractRule
rule zero = Choice
rule (suc zero) = Choice
rule (suc (suc zero)) = Parallel
rule (suc (suc (suc zero))) = Sequence
rule (suc (suc (suc (suc n)))) = Simple

ReadsLevel : ℕ → List Tok → Contract → List Tok → Type 0
ReadsLevel n = ReadsContract (rule n)

looser : (n : ℕ) (ts : List Tok) (c : Contract) (rest : List Tok) → ReadsLevel (suc n) ts c rest → ReadsLevel n ts c rest
unfolding rule ReadsLevel
looser zero ts c rest r = r
looser (suc zero) ts c rest r = ReadsContract.OneParallel r
looser (suc (suc zero)) ts c rest r = ReadsContract.OneSequence r
looser (suc (suc (suc zero))) ts c rest r = ReadsContract.OneSimple r
looser (suc (suc (suc (suc n)))) ts c rest r = r

brackets : (ts : List Tok) (c : Contract) (rest : List Tok) → ReadsLevel 0 ts c (K.Sign S.RightParen ∷ rest) → ReadsLevel 4 (K.Sign S.LeftParen ∷ ts) c rest
unfolding rule ReadsLevel
brackets ts c rest r = ReadsContract.Brackets r

four : {s r w d : Name} {ts rest : List Tok} → ReadsNames ts (s ∷ r ∷ w ∷ d ∷ []) rest → ReadsBinders ts (record { sender = s; receiver = r; what = w; day = d }) rest
four (ReadsList.More ReadsName.AName (ReadsList.More ReadsName.AName (ReadsList.More ReadsName.AName (ReadsList.One ReadsName.AName)))) = ReadsBinders.Four
four (ReadsList.More ReadsName.AName (ReadsList.More ReadsName.AName (ReadsList.More ReadsName.AName (ReadsList.More _ none)))) = elim none [ ]

-- the pieces of the text of a transmit, one after the other
transmit_shape : (b p c rest : List ℕ) → (codes "transmit(" ++ b ++ codes " | " ++ p ++ codes "). " ++ c) ++ rest ≡ codes "transmit(" ++ (b ++ (codes " | " ++ (p ++ (codes "). " ++ (c ++ rest)))))
transmit_shape b p c rest = simp append_assoc

module _ (table : Table) (all : IsTable table) where
  pub writes_call : (f : Name) (args : List Expression) → IsListed table f → All IsWholeExpression args → All (CanWrite table) args →
      Writes table (λ ts xs rest. (us : List Tok) × (ts ≡ K.Name f ∷ us) × ReadsArguments us xs rest) (call_text table f args) args
  writes_call f args known whole can rest behind cut end =
      let p = writes_in_brackets table (ReadsExpression Disjunction) (expression_text table) (λ e. IsWholeExpression e × CanWrite table e) (λ e h. writes_expression table all e h.0 h.1)
      args (λ k d low. (whole k d low, can k d low)) rest behind cut end in
      let behind_name = simp append_assoc at p.cut in
      simp append_assoc (record { tokens = K.Name f ∷ p.tokens; cut = cut_name f all known behind_name refl; reads = (p.tokens, refl, p.reads) })

  pub writes_names : (x : Name) (xs : List Name) → All (IsListed table) (x ∷ xs) → Writes table ReadsNames (listed (name_text table) (x ∷ xs)) (x ∷ xs)
  writes_names = writes_listed table ReadsName (name_text table) (IsListed table) (λ x known rest behind cut end. record { tokens = _; cut = cut_name x all known cut end; reads = ReadsName.AName })

  -- a part, with brackets where the level wants them
  part : (c : Contract) (n : ℕ) (b : Bool) → n ≤ 4 → (b ≡ false → n ≤ contract_level c) → Writes table (ReadsLevel (contract_level c)) (contract_text table c) c →
      Writes table (ReadsLevel n) (bracketed b (contract_text table c)) c
  part c n b = writes_bracketed ReadsLevel 4 looser brackets table (contract_level c) n (contract_text table c) c b

  left : (c : Contract) (n : ℕ) → n ≤ 4 → Writes table (ReadsLevel (contract_level c)) (contract_text table c) c →
      Writes table (ReadsLevel n) (bracketed (nat_lt (contract_level c) n) (contract_text table c)) c
  left c n high = part c n (nat_lt (contract_level c) n) high (ltb-false (contract_level c) n)

  right : (c : Contract) (n : ℕ) → n ≤ 3 → Writes table (ReadsLevel (contract_level c)) (contract_text table c) c →
      Writes table (ReadsLevel (suc n)) (bracketed (nat_le (contract_level c) n) (contract_text table c)) c
  right c n high = part c (suc n) (nat_le (contract_level c) n) (omega arith) (λ no. omega (arith, leb-false (contract_level c) n no))

  writes_level : (c : Contract) → IsWholeContract c → CanWriteContract table c → Writes table (ReadsLevel (contract_level c)) (contract_text table c) c
  unfolding rule ReadsLevel
  writes_level C.Success whole can = λ rest behind cut end. record { tokens = _; cut = cut_word W.Success cut end; reads = ReadsContract.Success }
  writes_level C.Failure whole can = λ rest behind cut end. record { tokens = _; cut = cut_word W.Failure cut end; reads = ReadsContract.Failure }
  writes_level (C.Transmit b p c) whole can = λ rest behind cut end.
      let after = left c 4 (omega arith) (writes_level c whole.1 can.2) rest behind cut end in
      let when = writes_expression table all p whole.0 can.1 _ _ (cut_sign S.RightParen refl (cut_sign S.Dot refl (cut_space after.cut))) refl in
      let names = writes_names b.sender (b.receiver ∷ b.what ∷ b.day ∷ []) can.0 _ _ (cut_space (cut_spaced S.Bar when.cut)) refl in
      let reads = ReadsContract.Transmit (four names.reads) when.reads after.reads in
      rw (transmit_shape (binders_text table b) (expression_text table p) (bracketed (nat_lt (contract_level c) 4) (contract_text table c)) rest)
      (record { tokens = _; cut = cut_word W.Transmit (cut_sign S.LeftParen refl names.cut) refl; reads = reads })
  writes_level (C.Plus a b) whole can = λ rest behind cut end.
      let q = right b 1 (omega arith) (writes_level b whole.1 can.1) rest behind cut end in
      let p = left a 1 (omega arith) (writes_level a whole.0 can.0) _ _ (cut_space (cut_spaced S.Plus q.cut)) refl in
      simp append_assoc (record { tokens = p.tokens; cut = p.cut; reads = ReadsContract.MoreParallels p.reads q.reads })
  writes_level (C.Par a b) whole can = λ rest behind cut end.
      let q = right b 2 (omega arith) (writes_level b whole.1 can.1) rest behind cut end in
      let p = left a 2 (omega arith) (writes_level a whole.0 can.0) _ _ (cut_space (cut_spaced S.DoubleBar q.cut)) refl in
      simp append_assoc (record { tokens = p.tokens; cut = p.cut; reads = ReadsContract.MoreSequences p.reads q.reads })
  writes_level (C.Seq a b) whole can = λ rest behind cut end.
      let q = right b 3 (omega arith) (writes_level b whole.1 can.1) rest behind cut end in
      let p = left a 3 (omega arith) (writes_level a whole.0 can.0) _ _ (cut_space (cut_spaced S.Semicolon q.cut)) refl in
      simp append_assoc (record { tokens = p.tokens; cut = p.cut; reads = ReadsContract.MoreSimples p.reads q.reads })
  writes_level (C.App f args) whole can = λ rest behind cut end.
      let p = writes_call f args can.0 whole can.1 rest behind cut end in
      record { tokens = _; cut = p.cut; reads = rw p.reads.1 (ReadsContract.Application p.reads.2) }

  -- the text of a contract is the contract
  pub writes_contract : (c : Contract) → IsWholeContract c → CanWriteContract table c → Writes table (ReadsContract Choice) (contract_text table c) c
  unfolding rule ReadsLevel
  writes_contract c whole can = writes_looser ReadsLevel 4 looser brackets table (contract_level c) 0 (contract_text table c) c (omega arith) (writes_level c whole can)
