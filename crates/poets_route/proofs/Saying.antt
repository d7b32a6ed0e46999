-- Contracts that say the same are performed in the same ways.
use Rattle.std.proofs.Common.{◌≡◌, List, [], ◌∷◌, ◌++◌, map, sym, ◌∙◌, ap₂, subst, refl, append-nil}
use Rattle.poets_value.specs.declared.value.Name.{Name}
use Rattle.poets_value.specs.declared.event.Event.{Event}
use Rattle.poets_expr.specs.Env.{Declared, Env}
use Rattle.poets_expr.specs.Expression.{Expression}
use Rattle.poets_expr.specs.Fold.{KeepsDeclared}
use Rattle.poets_expr.specs.Val.{val}
use Rattle.poets_expr.proofs.FoldClosed.{fold-val}
use Rattle.poets_expr.specs.Subst.{Givens}
use Rattle.poets_syntax.specs.declared.term.Param.{Param}
use Rattle.poets_syntax.specs.Contract.{Contract, App}
use Rattle.poets_syntax.specs.Plain.{Book}
use Rattle.poets_syntax.specs.Book.{values_of, parameter_env}
use Rattle.poets_syntax.specs.Replace.{replace, env_of}
use Rattle.poets_syntax.specs.WellFormed.{HaveDeclaredLiterals, IsWellFormed}
use Rattle.poets_syntax.proofs.Replacing.{Agrees-pairs}
use Rattle.poets_syntax.proofs.Givens.{HaveDeclaredNames, AreDeclared-values}
use Rattle.poets_syntax.proofs.WellFormedness.{BindersAreUndeclared-of}
use Rattle.poets_meaning.proofs.Saying.{SaysSame}
use Rattle.poets_meaning.proofs.Replacing.{SaysSame-replace}
use Rattle.poets_calculus.specs.Normal.{folded, params_in}
use Rattle.poets_norm.proofs.Counts.{length-folded}
use Rattle.poets_way.specs.Way.{Way}
use Rattle.poets_way.specs.Ways.{Ways}

pub SaysSame-Ways : {book : Book} {e₁ e₂ : Env} {c₁ c₂ : Contract} {s : List Event} {w : Way} →
    SaysSame book.declared e₁ c₁ e₂ c₂ → Ways book e₁ c₁ s w → Ways book e₂ c₂ s w
SaysSame-Ways SaysSame.Success Ways.Nothing = Ways.Nothing
SaysSame-Ways SaysSame.Failure h = elim h [ ]
SaysSame-Ways (SaysSame.Transmit h k) (Ways.Take {e = e} q w) = Ways.Take (sym (h (values_of e)) ∙ q) (SaysSame-Ways (k (values_of e)) w)
SaysSame-Ways (SaysSame.Plus h k) (Ways.Left w) = Ways.Left (SaysSame-Ways h w)
SaysSame-Ways (SaysSame.Plus h k) (Ways.Right w) = Ways.Right (SaysSame-Ways k w)
SaysSame-Ways (SaysSame.Par h k) (Ways.Both l v u) = Ways.Both l (SaysSame-Ways h v) (SaysSame-Ways k u)
SaysSame-Ways (SaysSame.Seq h k) (Ways.Then l v u) = Ways.Then l (SaysSame-Ways h v) (SaysSame-Ways k u)
SaysSame-Ways {book} (SaysSame.App l h) (Ways.Enter {t = t} {s = s} {w = w} q r v) =
    Ways.Enter q (r ∙ l) (subst (λ vs. Ways book (parameter_env t.params vs) t.body s w) h v)

-- a contract with its names replaced is performed in the ways of the contract under their values
module _ (book : Book) (given : Givens) (c : Contract)
    (values : HaveDeclaredNames book.declared given) (formed : IsWellFormed book.declared c) where
  pub replaced_way : {s : List Event} {w : Way} → Ways book [] (replace given c) s w → Ways book (env_of given) c s w
  replaced_way {s} {w} h =
      subst (λ env. Ways book env c s w) (append-nil (env_of given))
      (SaysSame-Ways (SaysSame-replace book.declared c [] given (env_of given ++ []) (BindersAreUndeclared-of book.declared c formed)
      (AreDeclared-values book.declared given values)
      (Agrees-pairs book.declared [] (λ x k. refl) given (AreDeclared-values book.declared given values))) h)

-- an application with its arguments folded is alike
folded_vals : (declared : Declared) (env : Env) → KeepsDeclared declared env → (params : List Param) (args : List Expression) → HaveDeclaredLiterals declared args →
    map (val declared env) (folded declared params args) ≡ map (val declared env) args
folded_vals declared env k [] [] h = refl
folded_vals declared env k [] (a ∷ args) h = refl
folded_vals declared env k (p ∷ params) [] h = refl
folded_vals declared env k (p ∷ params) (a ∷ args) h =
    ap₂ (λ x xs. x ∷ xs) (fold-val declared env k a p.ty h.0) (folded_vals declared env k params args h.1)

pub folded_alike : (book : Book) (env : Env) → KeepsDeclared book.declared env → (f : Name) (args : List Expression) →
    HaveDeclaredLiterals book.declared args → SaysSame book.declared env (App f (folded book.declared (params_in book f) args)) env (App f args)
folded_alike book env k f args h =
    SaysSame.App (length-folded book.declared (params_in book f) args) (folded_vals book.declared env k (params_in book f) args h)
