-- The text of an expression is cut into its written tokens.
use Rattle.std.proofs.Common.{◌≡◌, ℕ, suc, Bool, true, false, List, ◌∷◌, ◌++◌, refl, arith, append_assoc, ℤ, pos}
use Rattle.std.proofs.Common.{negsuc}
use Rattle.std.specs.Bool.{IsTrue}
use Rattle.std.specs.Fmt.{signed_decimal}
use Rattle.std.proofs.lemmas.Int.{ints}
use Rattle.poets_value.specs.declared.value.Ty.{Ty}
use Rattle.poets_value.specs.declared.value.Ty.TheVariants as T
use Rattle.poets_value.specs.declared.value.Value.{Value}
use Rattle.poets_value.specs.declared.value.Value.TheVariants as V
use Rattle.poets_value.specs.Civil.{day_text}
use Rattle.poets_value.specs.Whole.{is_whole, IsWholeValue}
use Rattle.poets_value.proofs.EachDay.{IsDayText-day_text}
use Rattle.poets_expr.specs.declared.expr.Op.{Op}
use Rattle.poets_expr.specs.declared.expr.Op.TheVariants as O
use Rattle.poets_expr.specs.Expression.{Expression, Minus, Not, AmountOf, KindOf, Literal, Undefined, Named, Unary}
use Rattle.poets_expr.specs.Expression.{Make, Binary, If}
use Rattle.poets_expr.specs.Whole.{IsWholeExpression}
use Rattle.poets_lex.specs.declared.token.Word.TheVariants as W
use Rattle.poets_lex.specs.declared.token.Sign.TheVariants as S
use Rattle.poets_lex.specs.declared.token.Tok.{Tok}
use Rattle.poets_lex.specs.declared.token.Tok.TheVariants as K
use Rattle.poets_lex.specs.Bytes.{is_in_name, BeginsWithout}
use Rattle.poets_lex.specs.Texts.{word_text}
use Rattle.poets_lex.specs.Table.{Table, IsTable}
use Rattle.poets_lex.proofs.CutTexts.{IsCutInto, cut_space, cut_word, cut_name, cut_number, cut_day, cut_sign}
use Rattle.poets_lex.proofs.CutTexts.{cut_spaced}
use Rattle.poets_print.specs.Levels.{left_in_brackets, right_in_brackets, negated_in_brackets, denied_in_brackets}
use Rattle.poets_print.specs.Texts.{bracketed, op_text, type_text, value_text, expression_text}
use Rattle.poets_print.specs.Laws.{HasLiteral, CanWrite}
use Rattle.poets_printed.proofs.Written.{written, written_value, written_number, type_word, operator_token, closed}

-- the text is cut into these tokens, ahead of any rest that would not make its last token longer
abbrev pub Cuts : Table → List ℕ → (List Tok → List Tok) → Type 0
Cuts table text f =
    (rest : List ℕ) (behind : List Tok) → IsCutInto table rest behind → BeginsWithout is_in_name rest →
    IsCutInto table (text ++ rest) (f behind)

type_word_text : (t : Ty) → type_text t ≡ word_text (type_word t)
type_word_text T.Int = refl
type_word_text T.Bool = refl
type_word_text T.Agent = refl
type_word_text T.Kind = refl
type_word_text T.Resource = refl
type_word_text T.Day = refl

cut_operator :
    {table : Table} {rest : List ℕ} {behind : List Tok} (o : Op) → IsCutInto table rest behind →
    IsCutInto table (32 ∷ (op_text o ++ 32 ∷ rest)) (operator_token o ∷ behind)
cut_operator O.Add cut = cut_space (cut_spaced S.Plus cut)
cut_operator O.Sub cut = cut_space (cut_spaced S.Minus cut)
cut_operator O.Mul cut = cut_space (cut_spaced S.Star cut)
cut_operator O.Div cut = cut_space (cut_spaced S.Slash cut)
cut_operator O.Rem cut = cut_space (cut_spaced S.Percent cut)
cut_operator O.Eq cut = cut_space (cut_spaced S.Equal cut)
cut_operator O.Ne cut = cut_space (cut_spaced S.NotEqual cut)
cut_operator O.Lt cut = cut_space (cut_spaced S.Less cut)
cut_operator O.Le cut = cut_space (cut_spaced S.LessEqual cut)
cut_operator O.Gt cut = cut_space (cut_spaced S.Greater cut)
cut_operator O.Ge cut = cut_space (cut_spaced S.GreaterEqual cut)
cut_operator O.And cut = cut_space (cut_word W.And (cut_space cut) refl)
cut_operator O.Or cut = cut_space (cut_word W.Or (cut_space cut) refl)

module _ (table : Table) (all : IsTable table) where
  pub cut_closed :
      (b : Bool) (text : List ℕ) (f : List Tok → List Tok) → Cuts table text f →
      Cuts table (bracketed b text) (closed b f)
  cut_closed false text f k rest behind cut end = k rest behind cut end
  cut_closed true text f k rest behind cut end =
      let inside = k (41 ∷ rest) (K.Sign S.RightParen ∷ behind) (cut_sign S.RightParen refl cut) refl in
      rw append_assoc (cut_sign S.LeftParen refl inside)

  cut_integer : (z : ℤ) → IsTrue (is_whole z) → Cuts table (signed_decimal z) (written_number z)
  cut_integer (pos n) whole rest behind cut end = cut_number n (grind (arith, ints)) cut end
  cut_integer (negsuc n) whole rest behind cut end =
      cut_sign S.Minus refl (cut_number (suc n) (grind (arith, ints)) cut end)

  cut_value : (v : Value) → IsWholeValue v → HasLiteral table v → Cuts table (value_text table v) (written_value v)
  cut_value (V.Int z) whole can rest behind cut end = cut_integer z whole rest behind cut end
  cut_value (V.Bool true) whole can rest behind cut end = cut_word W.True cut end
  cut_value (V.Bool false) whole can rest behind cut end = cut_word W.False cut end
  cut_value (V.Agent x) whole can rest behind cut end = absurd can
  cut_value (V.Kind x) whole can rest behind cut end = absurd can
  cut_value (V.Day d) whole can rest behind cut end =
      cut_day (day_text d) d (IsDayText-day_text d (grind (arith, ints), grind (arith, ints))) cut
  cut_value (V.Resource r) whole can rest behind cut end =
      let kind = cut_space (cut_name r.kind all can (cut_sign S.RightBracket refl cut) refl) in
      simp append_assoc (cut_sign S.LeftBracket refl (cut_integer r.amount whole _ _ kind refl))

  pub cut_written :
      (e : Expression) → IsWholeExpression e → CanWrite table e → Cuts table (expression_text table e) (written e)
  cut_written (Literal v) whole can rest behind cut end = cut_value v whole can rest behind cut end
  cut_written (Undefined t) whole can rest behind cut end =
      rw (type_word_text t) (cut_word W.Undefined (cut_space (cut_word (type_word t) cut end)) refl)
  cut_written (Named x) whole can rest behind cut end = cut_name x all can cut end
  cut_written (Unary Minus a) whole can rest behind cut end =
      let inside = cut_written a whole can in
      let part = cut_closed (negated_in_brackets a) (expression_text table a) (written a) inside in
      cut_sign S.Minus refl (part rest behind cut end)
  cut_written (Unary Not a) whole can rest behind cut end =
      let inside = cut_written a whole can in
      let part = cut_closed (denied_in_brackets a) (expression_text table a) (written a) inside in
      cut_word W.Not (cut_space (part rest behind cut end)) refl
  cut_written (Unary AmountOf a) whole can rest behind cut end =
      let inside = cut_written a whole can _ _ (cut_sign S.RightParen refl cut) refl in
      simp append_assoc (cut_word W.Amount (cut_sign S.LeftParen refl inside) refl)
  cut_written (Unary KindOf a) whole can rest behind cut end =
      let inside = cut_written a whole can _ _ (cut_sign S.RightParen refl cut) refl in
      simp append_assoc (cut_word W.Kind (cut_sign S.LeftParen refl inside) refl)
  cut_written (Make a b) whole can rest behind cut end =
      let q = cut_written b whole.1 can.1 _ _ (cut_sign S.RightParen refl cut) refl in
      let p = cut_written a whole.0 can.0 _ _ (cut_sign S.Comma refl (cut_space q)) refl in
      simp append_assoc (cut_word W.Res (cut_sign S.LeftParen refl p) refl)
  cut_written (Binary o a b) whole can rest behind cut end =
      let p = cut_written a whole.0 can.0 in
      let q = cut_written b whole.1 can.1 in
      let right = cut_closed (right_in_brackets o b) (expression_text table b) (written b) q rest behind cut end in
      let left = cut_closed (left_in_brackets o a) (expression_text table a) (written a) p in
      simp append_assoc (left _ _ (cut_operator o right) refl)
  cut_written (If a b c) whole can rest behind cut end =
      let r = cut_written c whole.2 can.2 _ _ (cut_space (cut_word W.End cut end)) refl in
      let q = cut_written b whole.1 can.1 _ _ (cut_space (cut_word W.Else (cut_space r) refl)) refl in
      let p = cut_written a whole.0 can.0 _ _ (cut_space (cut_word W.Then (cut_space q) refl)) refl in
      simp append_assoc (cut_word W.If (cut_space p) refl)
