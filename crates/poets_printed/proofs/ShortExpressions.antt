-- Printed expressions are short.
use Rattle.std.proofs.Common.{◌+◌, ◌*◌, ◌≤◌, List, ◌∷◌, length, arith, length-append, pos, neg_ℤ}
use Rattle.std.specs.Prelude.{All, codes}
use Rattle.std.specs.Fmt.{signed_decimal}
use Rattle.poets_value.specs.declared.value.Name.{Name}
use Rattle.poets_value.specs.Civil.{day_text}
use Rattle.poets_expr.specs.declared.expr.Op.{Op}
use Rattle.poets_expr.specs.Expression.{Expression, Binary}
use Rattle.poets_expr.specs.Whole.{IsWholeExpression}
use Rattle.poets_lex.specs.declared.token.Tok.{Tok}
use Rattle.poets_lex.specs.Table.{Table, IsTable}
use Rattle.poets_grammar.specs.Lists.{ReadsBracketed}
use Rattle.poets_grammar.specs.Expressions.{Rule, Disjunction, ReadsExpression, ReadsArguments}
use Rattle.poets_print.specs.Levels.{left_in_brackets, right_in_brackets, negated_in_brackets, denied_in_brackets}
use Rattle.poets_print.specs.Texts.{name_text, bracketed, listed, type_text, op_text, expression_text, call_text}
use Rattle.poets_printed.proofs.ShortPieces.{IsShort, length_three, length_four, length_five, length_seven, length_bracketed, length_op, length_type, length_whole, length_day, length_name}
use Rattle.poets_printed.proofs.ShortLists.{short_list}

module _ (names : Table) (all : IsTable names) where
  -- two operands, each perhaps in brackets
  joined : (o : Op) (a b : Expression) {ts mid rest : List Tok} {t : Tok} → IsShort (expression_text names a) ts (t ∷ mid) →
      IsShort (expression_text names b) mid rest → IsShort (expression_text names (Binary o a b)) ts rest
  joined o a b h k =
      let left = bracketed (left_in_brackets o a) (expression_text names a) in
      let right = bracketed (right_in_brackets o b) (expression_text names b) in
      record {
        bytes = omega (
          arith,
          h.bytes,
          k.bytes,
          length_op o,
          length_five left (codes " ") (op_text o) (codes " ") right,
          length_bracketed (left_in_brackets o a) (expression_text names a),
          length_bracketed (right_in_brackets o b) (expression_text names b),
        );
      }

  -- an expression that was read by a rule
  pub short_expression : {rule : Rule} {ts rest : List Tok} {e : Expression} → ReadsExpression rule ts e rest → IsWholeExpression e →
      IsShort (expression_text names e) ts rest
  short_expression (ReadsExpression.OneConjunction r) h = short_expression r h
  short_expression (ReadsExpression.MoreConjunctions {a = a} {b = b} {o = o} i r q) h = joined o a b (short_expression r h.0) (short_expression q h.1)
  short_expression (ReadsExpression.OneNegation r) h = short_expression r h
  short_expression (ReadsExpression.MoreNegations {a = a} {b = b} {o = o} i r q) h = joined o a b (short_expression r h.0) (short_expression q h.1)
  short_expression (ReadsExpression.Not {e = a} r) h =
      let below = short_expression r h in
      record {
        bytes = omega (
          arith,
          below.bytes,
          length-append (codes "not ") (bracketed (denied_in_brackets a) (expression_text names a)),
          length_bracketed (denied_in_brackets a) (expression_text names a),
        );
      }
  short_expression (ReadsExpression.OneComparison r) h = short_expression r h
  short_expression (ReadsExpression.OneSum r) h = short_expression r h
  short_expression (ReadsExpression.TwoSums {a = a} {b = b} {o = o} i r q) h = joined o a b (short_expression r h.0) (short_expression q h.1)
  short_expression (ReadsExpression.OneProduct r) h = short_expression r h
  short_expression (ReadsExpression.MoreProducts {a = a} {b = b} {o = o} i r q) h = joined o a b (short_expression r h.0) (short_expression q h.1)
  short_expression (ReadsExpression.OnePrefixed r) h = short_expression r h
  short_expression (ReadsExpression.MorePrefixed {a = a} {b = b} {o = o} i r q) h = joined o a b (short_expression r h.0) (short_expression q h.1)
  short_expression (ReadsExpression.NegativeNumber {n}) h = record { bytes = omega (arith, length_whole (neg_ℤ (pos n)) h) }
  short_expression (ReadsExpression.Minus {e = a} i r) h =
      let below = short_expression r h in
      record {
        bytes = omega (
          arith,
          below.bytes,
          length-append (codes "-") (bracketed (negated_in_brackets a) (expression_text names a)),
          length_bracketed (negated_in_brackets a) (expression_text names a),
        );
      }
  short_expression (ReadsExpression.OnePrimary r) h = short_expression r h
  short_expression (ReadsExpression.Number {n}) h = record { bytes = omega (arith, length_whole (pos n) h) }
  short_expression (ReadsExpression.ADay {d}) h = record { bytes = omega (arith, length_day d, length-append (codes "@") (day_text d)) }
  short_expression ReadsExpression.True h = record { bytes = omega arith }
  short_expression ReadsExpression.False h = record { bytes = omega arith }
  short_expression (ReadsExpression.AName {x}) h = record { bytes = omega (arith, length_name names all x) }
  short_expression (ReadsExpression.Undefined {t = t} i) h =
      record { bytes = omega (arith, length_type t, length-append (codes "undefined ") (type_text t)) }
  short_expression (ReadsExpression.Resource {n} {x}) h =
      record {
        bytes = omega (
          arith,
          length_whole (pos n) h,
          length_name names all x,
          length_five (codes "[") (signed_decimal (pos n)) (codes " ") (name_text names x) (codes "]"),
        );
      }
  short_expression (ReadsExpression.NegativeResource {n} {x}) h =
      record {
        bytes = omega (
          arith,
          length_whole (neg_ℤ (pos n)) h,
          length_name names all x,
          length_five (codes "[") (signed_decimal (neg_ℤ (pos n))) (codes " ") (name_text names x) (codes "]"),
        );
      }
  short_expression (ReadsExpression.AmountOf {e = a} r) h =
      let below = short_expression r h in
      record { bytes = omega (arith, below.bytes, length_three (codes "amount(") (expression_text names a) (codes ")")) }
  short_expression (ReadsExpression.KindOf {e = a} r) h =
      let below = short_expression r h in
      record { bytes = omega (arith, below.bytes, length_three (codes "kind(") (expression_text names a) (codes ")")) }
  short_expression (ReadsExpression.Make {a = a} {b = b} r q) h =
      let first = short_expression r h.0 in
      let second = short_expression q h.1 in
      record {
        bytes = omega (
          arith,
          first.bytes,
          second.bytes,
          length_five (codes "res(") (expression_text names a) (codes ", ") (expression_text names b) (codes ")"),
        );
      }
  short_expression (ReadsExpression.If {a = a} {b = b} {c = c} r q p) h =
      let first = short_expression r h.0 in
      let second = short_expression q h.1 in
      let third = short_expression p h.2 in
      record {
        bytes = omega (
          arith,
          first.bytes,
          second.bytes,
          third.bytes,
          length_seven (codes "if ") (expression_text names a) (codes " then ") (expression_text names b) (codes " else ") (expression_text names c) (codes " end"),
        );
      }
  short_expression (ReadsExpression.Brackets r) h =
      let below = short_expression r h in
      record { bytes = omega (arith, below.bytes) }

  -- arguments, with two brackets: they have two tokens more
  pub short_arguments : (ts rest : List Tok) (args : List Expression) → ReadsArguments ts args rest → All IsWholeExpression args →
      length (listed (expression_text names) args) + 80 + 80 * length rest ≤ 80 * length ts
  short_arguments ts rest args (ReadsBracketed.Empty) h = omega arith
  short_arguments ts rest args (ReadsBracketed.Full q) h =
      let others = short_list (ReadsExpression Disjunction) (expression_text names) IsWholeExpression (λ ts x rest r k. short_expression r k) q h in
      omega (arith, others.bytes)

  -- a name and its arguments, with two brackets
  pub length_call : (f : Name) (args : List Expression) → length (call_text names f args) ≤ 66 + length (listed (expression_text names) args)
  length_call f args = omega (arith, length_name names all f, length_four (name_text names f) (codes "(") (listed (expression_text names) args) (codes ")"))
