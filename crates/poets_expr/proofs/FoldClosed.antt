-- Folding closed expressions keeps their values.
use Rattle.std.proofs.Common.{◌≡◌, Bool, true, false, not, ◌&&◌, is_some, List, [], ◌∷◌, ◌++◌, filter, refl, sym, ◌∙◌, ap, ap₂, Option, Some, None, IfSome, inl, inr}
use Rattle.std.specs.List.{list_all}
use Rattle.std.proofs.lemmas.List.Folds.{list_all-append}
use Rattle.poets_value.specs.declared.value.Name.{Name}
use Rattle.poets_value.specs.declared.value.Ty.{Ty}
use Rattle.poets_value.specs.declared.value.Ty.TheVariants as T
use Rattle.poets_value.specs.declared.value.Value.{Value}
use Rattle.poets_value.specs.declared.value.Value.TheVariants as V
use Rattle.poets_expr.specs.declared.expr.Expr.{Expr}
use Rattle.poets_expr.specs.declared.expr.Expr.TheVariants as E
use Rattle.poets_expr.specs.Expression.{Expression, Literal, Undefined, Named, Unary, Make, Binary, If, EachLiteral, expression_of}
use Rattle.poets_expr.specs.Env.{Declared, Env, same_name, value_in, itself, PairsAreUndeclared}
use Rattle.poets_expr.specs.Val.{val, unary, binary, strict, resource_of}
use Rattle.poets_expr.specs.Subst.{literal_of, IsDeclared}
use Rattle.poets_expr.specs.Free.{names_of, distinct, free_names_of}
use Rattle.poets_expr.specs.Fold.{is_closed, is_literal, is_folded, fold_closed, HasDeclaredNames, HasDeclaredLiterals, KeepsDeclared}
use Rattle.poets_expr.proofs.SameTrees.{both_true, name_one}
use Rattle.poets_expr.proofs.ValSubst.{truth_of, val-literal_of, KeepsDeclared-undeclared}
use Rattle.poets_expr.proofs.Values.{IsKept, val-kept}

pub declared_some : (o : Option Ty) → is_some o ≡ true → (o ≡ None → ⊥)
declared_some None h e = cc
declared_some (Some t) h e = cc

-- a closed expression has one value
pub closed-val : (declared : Declared) (env : Env) → KeepsDeclared declared env → (e : Expression) → is_closed declared e ≡ true →
    val declared env e ≡ val declared [] e
closed-val declared env k (Literal v) h = refl
closed-val declared env k (Undefined t) h = refl
closed-val declared env k (Named x) h = k x (declared_some (declared x) h)
closed-val declared env k (Unary o a) h = ap (unary o) (closed-val declared env k a h)
closed-val declared env k (Make a b) h =
    let p = both_true (is_closed declared a) (is_closed declared b) h in
    ap₂ (strict resource_of) (closed-val declared env k a p.0) (closed-val declared env k b p.1)
closed-val declared env k (Binary o a b) h =
    let p = both_true (is_closed declared a) (is_closed declared b) h in
    ap₂ (binary o) (closed-val declared env k a p.0) (closed-val declared env k b p.1)
closed-val declared env k (If a b c) h =
    let p = both_true (is_closed declared a && is_closed declared b) (is_closed declared c) h in
    let q = both_true (is_closed declared a) (is_closed declared b) p.0 in
    rw (closed-val declared env k a q.0, closed-val declared env k b q.1, closed-val declared env k c p.1) refl

-- folding keeps the value, where the value that is folded is declared
fold-val_declared : (declared : Declared) (env : Env) → KeepsDeclared declared env → (e : Expression) (t : Ty) →
    (is_closed declared e ≡ true → IsDeclared declared (val declared [] e)) →
    val declared env (fold_closed declared e t) ≡ val declared env e
fold-val_declared declared env k e t h =
    elim (truth_of (is_folded declared e)) [
      | inl q ↦ (let closed = (both_true (is_closed declared e) (not (is_literal declared e)) q).0 in
          rw q (val-literal_of declared env k (val declared [] e) t (h closed) ∙ sym (closed-val declared env k e closed)))
      | inr q ↦ rw q refl
    ]

pub fold-val_undeclared : (declared : Declared) (env : Env) (e : Expression) (t : Ty) → PairsAreUndeclared declared env →
    (is_closed declared e ≡ true → IsDeclared declared (val declared [] e)) →
    val declared env (fold_closed declared e t) ≡ val declared env e
fold-val_undeclared declared env e t k h = fold-val_declared declared env (KeepsDeclared-undeclared declared env k) e t h

-- which values have declared names
module _ (declared : Declared) where
  declared_kept : IsKept (λ v. HasDeclaredNames declared (Some v))
  declared_kept = record {
    number = λ n h. tt;
    truth = λ b. tt;
    day = λ n h. tt;
    made = λ n k h i. i;
    amount = λ r h. tt;
    kind = λ r h. h;
  }

  declared_itself : (x : Name) (o : Option Ty) → declared x ≡ o → HasDeclaredNames declared (itself x o)
  declared_itself x None e = tt
  declared_itself x (Some T.Agent) e = e
  declared_itself x (Some T.Kind) e = e
  declared_itself x (Some _) e = tt

  has_declared : (o : Option Value) → IfSome o (λ v. HasDeclaredNames declared (Some v)) → HasDeclaredNames declared o
  has_declared None h = tt
  has_declared (Some v) h = h

  if_some : (o : Option Value) → HasDeclaredNames declared o → IfSome o (λ v. HasDeclaredNames declared (Some v))
  if_some None h = tt
  if_some (Some v) h = h

  -- where the names have declared values, each value of an expression with declared literals is declared
  pub known-val_under : (env : Env) → ((x : Name) → HasDeclaredNames declared (value_in declared env x)) → (e : Expression) → HasDeclaredLiterals declared e →
      HasDeclaredNames declared (val declared env e)
  known-val_under env known e h = has_declared (val declared env e)
      (val-kept (λ v. HasDeclaredNames declared (Some v)) declared_kept declared env (λ x. if_some (value_in declared env x) (known x)) e h)

  -- so it is with no pairs
  pub known-name : (x : Name) → HasDeclaredNames declared (value_in declared [] x)
  known-name x = declared_itself x (declared x) refl

  pub known-val : (e : Expression) → HasDeclaredLiterals declared e → HasDeclaredNames declared (val declared [] e)
  known-val e h = known-val_under [] known-name e h

  pub IsDeclared-names : (o : Option Value) → HasDeclaredNames declared o → IsDeclared declared o
  IsDeclared-names None h = tt
  IsDeclared-names (Some (V.Int n)) h = tt
  IsDeclared-names (Some (V.Bool b)) h = tt
  IsDeclared-names (Some (V.Agent x)) h = h
  IsDeclared-names (Some (V.Kind x)) h = h
  IsDeclared-names (Some (V.Resource r)) h = tt
  IsDeclared-names (Some (V.Day d)) h = tt

  pub IsDeclared-val : (e : Expression) → HasDeclaredLiterals declared e → IsDeclared declared (val declared [] e)
  IsDeclared-val e h = IsDeclared-names (val declared [] e) (known-val e h)

-- the literal of a known value has that value
pub known-literal : (declared : Declared) (env : Env) → KeepsDeclared declared env → (o : Option Value) (t : Ty) → HasDeclaredNames declared o →
    val declared env (literal_of o t) ≡ o
known-literal declared env k o t h = val-literal_of declared env k o t (IsDeclared-names declared o h)

-- folding keeps the value
pub fold-val : (declared : Declared) (env : Env) → KeepsDeclared declared env → (e : Expression) (t : Ty) → HasDeclaredLiterals declared e →
    val declared env (fold_closed declared e t) ≡ val declared env e
fold-val declared env k e t h = fold-val_declared declared env k e t (λ _. IsDeclared-val declared e h)

-- agents come from declared names alone
module _ (declared : Declared) where
  abbrev AgentIsDeclared : Value → Type 0
  AgentIsDeclared (V.Agent x) = declared x ≡ Some T.Agent
  AgentIsDeclared _ = Unit {0}

  agents_kept : IsKept AgentIsDeclared
  agents_kept = record {
    number = λ n h. tt;
    truth = λ b. tt;
    day = λ n h. tt;
    made = λ n k h i. tt;
    amount = λ r h. tt;
    kind = λ r h. tt;
  }

  agent_itself : (x : Name) (o : Option Ty) → declared x ≡ o → IfSome (itself x o) AgentIsDeclared
  agent_itself x None e = tt
  agent_itself x (Some T.Agent) e = e
  agent_itself x (Some T.Kind) e = tt
  agent_itself x (Some _) e = tt

  -- no literal of an `Expr` is an agent
  no_agents : (e : Expr) → EachLiteral AgentIsDeclared (expression_of e)
  no_agents (E.Int n) = tt
  no_agents (E.Bool b) = tt
  no_agents (E.Day d) = tt
  no_agents (E.Res r) = tt
  no_agents (E.Undefined t) = tt
  no_agents (E.Name n) = tt
  no_agents (E.Neg' p a) = no_agents a
  no_agents (E.Not' p a) = no_agents a
  no_agents (E.Amount' p a) = no_agents a
  no_agents (E.KindOf' p a) = no_agents a
  no_agents (E.Make' p a q b) = (no_agents a, no_agents b)
  no_agents (E.Op' o p a q b) = (no_agents a, no_agents b)
  no_agents (E.If' p a q b r c) = (no_agents a, no_agents b, no_agents c)

  kinds_suffice : (o : Option Value) → IfSome o AgentIsDeclared → ((k : Name) → o ≡ Some (V.Kind k) → declared k ≡ Some T.Kind) → IsDeclared declared o
  kinds_suffice None h i = tt
  kinds_suffice (Some (V.Int n)) h i = tt
  kinds_suffice (Some (V.Bool b)) h i = tt
  kinds_suffice (Some (V.Agent x)) h i = h
  kinds_suffice (Some (V.Kind x)) h i = i x refl
  kinds_suffice (Some (V.Resource r)) h i = tt
  kinds_suffice (Some (V.Day d)) h i = tt

  pub IsDeclared-kinds : (e : Expr) → ((k : Name) → val declared [] (expression_of e) ≡ Some (V.Kind k) → declared k ≡ Some T.Kind) →
      IsDeclared declared (val declared [] (expression_of e))
  IsDeclared-kinds e h = kinds_suffice (val declared [] (expression_of e))
      (val-kept AgentIsDeclared agents_kept declared [] (λ x. agent_itself x (declared x) refl) (expression_of e) (no_agents e)) h

-- the tests of the free names of the parts make that of the whole
is_closed-names : (declared : Declared) (e : Expression) → is_closed declared e ≡ list_all (λ x. is_some (declared x)) (names_of e)
is_closed-names declared (Literal v) = refl
is_closed-names declared (Undefined t) = refl
is_closed-names declared (Named x) = elim (is_some (declared x)) as (λ b. b ≡ (b && true)) [ true ↦ refl | false ↦ refl ]
is_closed-names declared (Unary o a) = is_closed-names declared a
is_closed-names declared (Make a b) =
    ap₂ (λ x y. x && y) (is_closed-names declared a) (is_closed-names declared b) ∙ sym (list_all-append (λ x. is_some (declared x)) (names_of a) (names_of b))
is_closed-names declared (Binary o a b) =
    ap₂ (λ x y. x && y) (is_closed-names declared a) (is_closed-names declared b) ∙ sym (list_all-append (λ x. is_some (declared x)) (names_of a) (names_of b))
is_closed-names declared (If a b c) =
    ap₂ (λ x y. x && y)
    (ap₂ (λ x y. x && y) (is_closed-names declared a) (is_closed-names declared b) ∙ sym (list_all-append (λ x. is_some (declared x)) (names_of a) (names_of b)))
    (is_closed-names declared c)
    ∙ sym (list_all-append (λ x. is_some (declared x)) (names_of a ++ names_of b) (names_of c))

-- leaving out what is equal to a name that passes changes no answer
all_other : (p : Name → Bool) (x : Name) → p x ≡ true → (ys : List Name) → list_all p (filter (λ y. not (same_name x y)) ys) ≡ list_all p ys
all_other p x h [] = refl
all_other p x h (y ∷ ys) =
    let rest = all_other p x h ys in
    elim (truth_of (same_name x y)) [
      | inl e ↦ (let k : p y ≡ true = ap p (sym (name_one x y e)) ∙ h in rw (e, k) rest)
      | inr e ↦ rw (e, rest) refl
    ]

list_all-distinct : (p : Name → Bool) (xs : List Name) → list_all p (distinct xs) ≡ list_all p xs
list_all-distinct p [] = refl
list_all-distinct p (x ∷ xs) =
    elim (truth_of (p x)) [
      | inl h ↦ rw h (all_other p x h (distinct xs) ∙ list_all-distinct p xs)
      | inr h ↦ rw h refl
    ]

pub is_closed-free_names : (declared : Declared) (e : Expression) → is_closed declared e ≡ list_all (λ x. is_some (declared x)) (free_names_of e)
is_closed-free_names declared e = is_closed-names declared e ∙ sym (list_all-distinct (λ x. is_some (declared x)) (names_of e))
