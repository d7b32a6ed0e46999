-- Normal forms of whole contracts are whole.
use Rattle.std.proofs.Common.{List, [], ◌∷◌}
use Rattle.std.specs.List.{All}
use Rattle.std.proofs.lemmas.List.Elements.{All-cons, All-head, All-tail}
use Rattle.poets_expr.specs.Env.{Declared}
use Rattle.poets_expr.specs.Expression.{Expression}
use Rattle.poets_expr.specs.Fold.{fold_closed}
use Rattle.poets_expr.specs.Whole.{IsWholeExpression}
use Rattle.poets_expr.proofs.WholeResults.{IsWhole-fold_closed}
use Rattle.poets_syntax.specs.declared.term.Param.{Param}
use Rattle.poets_syntax.specs.Contract.{Contract}
use Rattle.poets_syntax.specs.Plain.{Book}
use Rattle.poets_syntax.specs.Whole.{IsWholeContract}
use Rattle.poets_meaning.specs.Marks.{Marks}
use Rattle.poets_calculus.specs.Normal.{folded, params_in, normal}
use Rattle.poets_norm.proofs.Parts.{IsOfParts, kept_by_normal}

pub IsWhole-of_parts : IsOfParts IsWholeContract
IsWhole-of_parts = record {
  failure = tt;
  plus = λ a b h k. (h, k);
  par = λ a b h k. (h, k);
  seq = λ a b h k. (h, k);
  plus_parts = λ a b h. h;
  par_parts = λ a b h. h;
  seq_parts = λ a b h. h;
}

IsWhole-folded : (declared : Declared) (params : List Param) (args : List Expression) → All IsWholeExpression args →
    All IsWholeExpression (folded declared params args)
IsWhole-folded declared [] [] h = h
IsWhole-folded declared [] (a ∷ args) h = h
IsWhole-folded declared (p ∷ params) [] h = h
IsWhole-folded declared (p ∷ params) (a ∷ args) h =
    All-cons IsWholeExpression (fold_closed declared a p.ty) (folded declared params args)
    (IsWhole-fold_closed declared a p.ty (All-head IsWholeExpression a args h))
    (IsWhole-folded declared params args (All-tail IsWholeExpression a args h))

pub IsWhole-normal : (book : Book) (marks : Marks) (c : Contract) → IsWholeContract c → IsWholeContract (normal book marks c)
IsWhole-normal book marks = kept_by_normal book marks IsWholeContract (record {
  of_parts = IsWhole-of_parts;
  below = λ b p c h. h.1;
  before = λ b p c d h k. (h.0, k);
  folded = λ f args h. IsWhole-folded book.declared (params_in book f) args h;
})
