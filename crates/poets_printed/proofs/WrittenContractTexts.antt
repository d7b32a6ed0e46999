-- The text of a contract is cut into its written tokens.
use Rattle.std.proofs.Common.{◌≡◌, ℕ, List, [], ◌∷◌, ◌++◌, refl, append_assoc}
use Rattle.std.specs.Prelude.{All, codes, nat_lt, nat_le}
use Rattle.std.proofs.lemmas.List.Elements.{All-head, All-tail}
use Rattle.poets_value.specs.declared.value.Name.{Name}
use Rattle.poets_expr.specs.Expression.{Expression}
use Rattle.poets_expr.specs.Whole.{IsWholeExpression}
use Rattle.poets_syntax.specs.Contract as C
use Rattle.poets_syntax.specs.Contract.{Contract}
use Rattle.poets_syntax.specs.Whole.{IsWholeContract}
use Rattle.poets_lex.specs.declared.token.Word.TheVariants as W
use Rattle.poets_lex.specs.declared.token.Sign.TheVariants as S
use Rattle.poets_lex.specs.declared.token.Tok.TheVariants as K
use Rattle.poets_lex.specs.Table.{Table, IsTable}
use Rattle.poets_lex.proofs.CutTexts.{cut_space, cut_word, cut_name, cut_sign, cut_spaced}
use Rattle.poets_print.specs.Levels.{contract_level}
use Rattle.poets_print.specs.Texts.{bracketed, binders_text, name_text, listed, behind_commas, call_text}
use Rattle.poets_print.specs.Texts.{expression_text, contract_text}
use Rattle.poets_print.specs.Laws.{IsListed, CanWrite, CanWriteContract}
use Rattle.poets_printed.proofs.WrittenContracts.{written_listed, written_call, written_contract}
use Rattle.poets_printed.proofs.WrittenCommands.{written_names}
use Rattle.poets_printed.proofs.WrittenTexts.{Cuts, cut_closed, cut_written}

-- the pieces of the text of a transmit, one after the other
transmit_shape :
    (b p c rest : List ℕ) →
    (codes "transmit(" ++ b ++ codes " | " ++ p ++ codes "). " ++ c) ++ rest
    ≡ codes "transmit(" ++ (b ++ (codes " | " ++ (p ++ (codes "). " ++ (c ++ rest)))))
transmit_shape b p c rest = simp append_assoc

module _ (table : Table) (all : IsTable table) where
  cut_listed :
      (e : Expression) (es : List Expression) → All IsWholeExpression (e ∷ es) → All (CanWrite table) (e ∷ es) →
      Cuts table (listed (expression_text table) (e ∷ es)) (written_listed (e ∷ es))
  cut_listed e [] whole can rest behind cut end =
      let is = All-head IsWholeExpression e [] whole in
      rw append_assoc (cut_written table all e is (All-head (CanWrite table) e [] can) rest behind cut end)
  cut_listed e (x ∷ xs) whole can rest behind cut end =
      let is = All-head IsWholeExpression e (x ∷ xs) whole in
      let may = All-head (CanWrite table) e (x ∷ xs) can in
      let are = All-tail IsWholeExpression e (x ∷ xs) whole in
      let others = cut_listed x xs are (All-tail (CanWrite table) e (x ∷ xs) can) rest behind cut end in
      rw (append_assoc (expression_text table e) (behind_commas (expression_text table) (x ∷ xs)) rest)
      (cut_written table all e is may _ _ (cut_sign S.Comma refl (cut_space others)) refl)

  cut_arguments :
      (es : List Expression) → All IsWholeExpression es → All (CanWrite table) es →
      Cuts table (codes "(" ++ listed (expression_text table) es ++ codes ")")
      (λ ts. K.Sign S.LeftParen ∷ written_listed es (K.Sign S.RightParen ∷ ts))
  cut_arguments [] whole can rest behind cut end = cut_sign S.LeftParen refl (cut_sign S.RightParen refl cut)
  cut_arguments (e ∷ es) whole can rest behind cut end =
      let close = cut_sign S.RightParen refl cut in
      let inside = cut_listed e es whole can (41 ∷ rest) (K.Sign S.RightParen ∷ behind) close refl in
      rw append_assoc (cut_sign S.LeftParen refl inside)

  pub cut_call :
      (f : Name) (es : List Expression) → IsListed table f → All IsWholeExpression es → All (CanWrite table) es →
      Cuts table (call_text table f es) (written_call f es)
  cut_call f es known whole can rest behind cut end =
      let inside = simp append_assoc at (cut_arguments es whole can rest behind cut end) in
      simp append_assoc (cut_name f all known inside refl)

  pub cut_names :
      (x : Name) (xs : List Name) → All (IsListed table) (x ∷ xs) →
      Cuts table (listed (name_text table) (x ∷ xs)) (written_names (x ∷ xs))
  cut_names x [] known rest behind cut end =
      rw append_assoc (cut_name x all (All-head (IsListed table) x [] known) cut end)
  cut_names x (y ∷ ys) known rest behind cut end =
      let others = cut_names y ys (All-tail (IsListed table) x (y ∷ ys) known) rest behind cut end in
      rw (append_assoc (name_text table x) (behind_commas (name_text table) (y ∷ ys)) rest)
      (cut_name x all (All-head (IsListed table) x (y ∷ ys) known) (cut_sign S.Comma refl (cut_space others)) refl)

  pub cut_contract :
      (c : Contract) → IsWholeContract c → CanWriteContract table c →
      Cuts table (contract_text table c) (written_contract c)
  cut_contract C.Success whole can rest behind cut end = cut_word W.Success cut end
  cut_contract C.Failure whole can rest behind cut end = cut_word W.Failure cut end
  cut_contract (C.Transmit b p c) whole can rest behind cut end =
      let r = cut_contract c whole.1 can.2 in
      let after = cut_closed table all (nat_lt (contract_level c) 4) (contract_text table c) (written_contract c) r in
      let dot = cut_sign S.RightParen refl (cut_sign S.Dot refl (cut_space (after rest behind cut end))) in
      let bar = cut_space (cut_spaced S.Bar (cut_written table all p whole.0 can.1 _ _ dot refl)) in
      let names = cut_names b.sender (b.receiver ∷ b.what ∷ b.day ∷ []) can.0 _ _ bar refl in
      let text = bracketed (nat_lt (contract_level c) 4) (contract_text table c) in
      rw (transmit_shape (binders_text table b) (expression_text table p) text rest)
      (cut_word W.Transmit (cut_sign S.LeftParen refl names) refl)
  cut_contract (C.Plus a b) whole can rest behind cut end =
      let p = cut_contract a whole.0 can.0 in
      let q = cut_contract b whole.1 can.1 in
      let left = cut_closed table all (nat_lt (contract_level a) 1) (contract_text table a) (written_contract a) p in
      let right = cut_closed table all (nat_le (contract_level b) 1) (contract_text table b) (written_contract b) q in
      simp append_assoc (left _ _ (cut_space (cut_spaced S.Plus (right rest behind cut end))) refl)
  cut_contract (C.Par a b) whole can rest behind cut end =
      let p = cut_contract a whole.0 can.0 in
      let q = cut_contract b whole.1 can.1 in
      let left = cut_closed table all (nat_lt (contract_level a) 2) (contract_text table a) (written_contract a) p in
      let right = cut_closed table all (nat_le (contract_level b) 2) (contract_text table b) (written_contract b) q in
      simp append_assoc (left _ _ (cut_space (cut_spaced S.DoubleBar (right rest behind cut end))) refl)
  cut_contract (C.Seq a b) whole can rest behind cut end =
      let p = cut_contract a whole.0 can.0 in
      let q = cut_contract b whole.1 can.1 in
      let left = cut_closed table all (nat_lt (contract_level a) 3) (contract_text table a) (written_contract a) p in
      let right = cut_closed table all (nat_le (contract_level b) 3) (contract_text table b) (written_contract b) q in
      simp append_assoc (left _ _ (cut_space (cut_spaced S.Semicolon (right rest behind cut end))) refl)
  cut_contract (C.App f args) whole can rest behind cut end =
      cut_call f args can.0 whole can.1 rest behind cut end
