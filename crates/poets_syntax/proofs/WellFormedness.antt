-- Replacing names keeps contracts well-formed.
use Rattle.std.proofs.Common.{List, [], ◌∷◌, map, Option, Some, None, inl, inr}
use Rattle.poets_value.specs.declared.value.Name.{Name}
use Rattle.poets_value.specs.declared.value.Ty.{Ty}
use Rattle.poets_value.specs.declared.value.Value.{Value}
use Rattle.poets_value.specs.declared.value.Value.TheVariants as V
use Rattle.poets_expr.specs.Expression.{Expression}
use Rattle.poets_expr.specs.Env.{Declared, same_name}
use Rattle.poets_expr.specs.Subst.{Givens, subst, replaced, literal_of}
use Rattle.poets_expr.specs.Fold.{HasDeclaredNames, HasDeclaredLiterals}
use Rattle.poets_syntax.specs.Contract.{Contract, Success, Failure, Transmit, Plus, Par, Seq, App}
use Rattle.poets_syntax.specs.Replace.{without, replace, BindersAreUndeclared}
use Rattle.poets_syntax.specs.WellFormed.{HaveDeclaredLiterals, IsWellFormed}
use Rattle.poets_syntax.proofs.Replacing.{truth}
use Rattle.poets_syntax.proofs.Givens.{HaveDeclaredNames, HaveDeclaredNames-without}

pub HasDeclaredLiterals-literal : (declared : Declared) (o : Option Value) (t : Ty) → HasDeclaredNames declared o → HasDeclaredLiterals declared (literal_of o t)
HasDeclaredLiterals-literal declared None t h = tt
HasDeclaredLiterals-literal declared (Some (V.Int n)) t h = h
HasDeclaredLiterals-literal declared (Some (V.Bool n)) t h = h
HasDeclaredLiterals-literal declared (Some (V.Agent n)) t h = tt
HasDeclaredLiterals-literal declared (Some (V.Kind n)) t h = tt
HasDeclaredLiterals-literal declared (Some (V.Resource r)) t h = h
HasDeclaredLiterals-literal declared (Some (V.Day n)) t h = h

HasDeclaredLiterals-replaced : (declared : Declared) (given : Givens) → HaveDeclaredNames declared given → (x : Name) →
    HasDeclaredLiterals declared (replaced given x)
HasDeclaredLiterals-replaced declared [] h x = tt
HasDeclaredLiterals-replaced declared (p ∷ given) h x =
    let rest = HasDeclaredLiterals-replaced declared given h.1 x in
    let here = HasDeclaredLiterals-literal declared p.1.value p.1.ty h.0 in
    elim (truth (same_name p.0 x)) [ inl e ↦ rw e here | inr e ↦ rw e rest ]

HasDeclaredLiterals-subst : (declared : Declared) (given : Givens) → HaveDeclaredNames declared given → (e : Expression) →
    HasDeclaredLiterals declared e → HasDeclaredLiterals declared (subst given e)
HasDeclaredLiterals-subst declared given g (Expression.Literal v) h = h
HasDeclaredLiterals-subst declared given g (Expression.Undefined t) h = tt
HasDeclaredLiterals-subst declared given g (Expression.Named x) h = HasDeclaredLiterals-replaced declared given g x
HasDeclaredLiterals-subst declared given g (Expression.Unary o a) h = HasDeclaredLiterals-subst declared given g a h
HasDeclaredLiterals-subst declared given g (Expression.Make a b) h =
    (HasDeclaredLiterals-subst declared given g a h.0, HasDeclaredLiterals-subst declared given g b h.1)
HasDeclaredLiterals-subst declared given g (Expression.Binary o a b) h =
    (HasDeclaredLiterals-subst declared given g a h.0, HasDeclaredLiterals-subst declared given g b h.1)
HasDeclaredLiterals-subst declared given g (Expression.If a b c) h =
    (HasDeclaredLiterals-subst declared given g a h.0, HasDeclaredLiterals-subst declared given g b h.1, HasDeclaredLiterals-subst declared given g c h.2)

HaveDeclaredLiterals-subst : (declared : Declared) (given : Givens) → HaveDeclaredNames declared given → (args : List Expression) →
    HaveDeclaredLiterals declared args → HaveDeclaredLiterals declared (map (subst given) args)
HaveDeclaredLiterals-subst declared given g [] h = tt
HaveDeclaredLiterals-subst declared given g (a ∷ args) h =
    (HasDeclaredLiterals-subst declared given g a h.0, HaveDeclaredLiterals-subst declared given g args h.1)

pub IsWellFormed-replace : (declared : Declared) (given : Givens) → HaveDeclaredNames declared given → (c : Contract) →
    IsWellFormed declared c → IsWellFormed declared (replace given c)
IsWellFormed-replace declared given g Success h = tt
IsWellFormed-replace declared given g Failure h = tt
IsWellFormed-replace declared given g (Transmit b p c) h =
    (h.0, IsWellFormed-replace declared (without b given) (HaveDeclaredNames-without declared b given g) c h.1)
IsWellFormed-replace declared given g (Plus a b) h = (IsWellFormed-replace declared given g a h.0, IsWellFormed-replace declared given g b h.1)
IsWellFormed-replace declared given g (Par a b) h = (IsWellFormed-replace declared given g a h.0, IsWellFormed-replace declared given g b h.1)
IsWellFormed-replace declared given g (Seq a b) h = (IsWellFormed-replace declared given g a h.0, IsWellFormed-replace declared given g b h.1)
IsWellFormed-replace declared given g (App f args) h = HaveDeclaredLiterals-subst declared given g args h

-- well-formed contracts bind no declared name
pub BindersAreUndeclared-of : (declared : Declared) (c : Contract) → IsWellFormed declared c → BindersAreUndeclared declared c
BindersAreUndeclared-of declared Success h = tt
BindersAreUndeclared-of declared Failure h = tt
BindersAreUndeclared-of declared (Transmit b p c) h = (h.0, BindersAreUndeclared-of declared c h.1)
BindersAreUndeclared-of declared (Plus a b) h = (BindersAreUndeclared-of declared a h.0, BindersAreUndeclared-of declared b h.1)
BindersAreUndeclared-of declared (Par a b) h = (BindersAreUndeclared-of declared a h.0, BindersAreUndeclared-of declared b h.1)
BindersAreUndeclared-of declared (Seq a b) h = (BindersAreUndeclared-of declared a h.0, BindersAreUndeclared-of declared b h.1)
BindersAreUndeclared-of declared (App f args) h = tt
