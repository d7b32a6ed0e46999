-- Normal forms are well-formed.
use Rattle.std.proofs.Common.{not, ◌&&◌, List, [], ◌∷◌, inl, inr}
use Rattle.poets_value.specs.declared.value.Ty.{Ty}
use Rattle.poets_expr.specs.Env.{Declared}
use Rattle.poets_expr.specs.Expression.{Expression}
use Rattle.poets_expr.specs.Val.{val}
use Rattle.poets_expr.specs.Fold.{HasDeclaredLiterals, fold_closed, is_closed, is_literal}
use Rattle.poets_expr.proofs.FoldClosed.{known-val}
use Rattle.poets_syntax.specs.declared.term.Param.{Param}
use Rattle.poets_syntax.specs.Contract.{Contract}
use Rattle.poets_syntax.specs.Plain.{Book}
use Rattle.poets_syntax.specs.WellFormed.{HaveDeclaredLiterals, IsWellFormed}
use Rattle.poets_syntax.proofs.Replacing.{truth}
use Rattle.poets_syntax.proofs.WellFormedness.{HasDeclaredLiterals-literal}
use Rattle.poets_meaning.specs.Marks.{Marks}
use Rattle.poets_calculus.specs.Normal.{folded, params_in, normal}
use Rattle.poets_norm.proofs.Parts.{IsOfParts, kept_by_normal}

module _ (declared : Declared) where
  pub IsWellFormed-of_parts : IsOfParts (IsWellFormed declared)
  IsWellFormed-of_parts = record {
    failure = tt;
    plus = λ a b h k. (h, k);
    par = λ a b h k. (h, k);
    seq = λ a b h k. (h, k);
    plus_parts = λ a b h. h;
    par_parts = λ a b h. h;
    seq_parts = λ a b h. h;
  }

  HasDeclaredLiterals-fold_closed : (e : Expression) (t : Ty) → HasDeclaredLiterals declared e → HasDeclaredLiterals declared (fold_closed declared e t)
  HasDeclaredLiterals-fold_closed e t h = elim (truth (is_closed declared e && not (is_literal declared e))) [
    | inl q ↦ rw q (HasDeclaredLiterals-literal declared (val declared [] e) t (known-val declared e h))
    | inr q ↦ rw q h
  ]

  HaveDeclaredLiterals-folded : (params : List Param) (args : List Expression) → HaveDeclaredLiterals declared args →
      HaveDeclaredLiterals declared (folded declared params args)
  HaveDeclaredLiterals-folded [] [] h = tt
  HaveDeclaredLiterals-folded [] (a ∷ args) h = h
  HaveDeclaredLiterals-folded (p ∷ params) [] h = tt
  HaveDeclaredLiterals-folded (p ∷ params) (a ∷ args) h =
      (HasDeclaredLiterals-fold_closed a p.ty h.0, HaveDeclaredLiterals-folded params args h.1)

pub IsWellFormed-normal : (book : Book) (marks : Marks) (c : Contract) → IsWellFormed book.declared c →
    IsWellFormed book.declared (normal book marks c)
IsWellFormed-normal book marks = kept_by_normal book marks (IsWellFormed book.declared) (record {
  of_parts = IsWellFormed-of_parts book.declared;
  below = λ b p c h. h.1;
  before = λ b p c d h k. (h.0, k);
  folded = λ f args h. HaveDeclaredLiterals-folded book.declared (params_in book f) args h;
})
