-- What replacing names does to names and their values.
use Rattle.std.proofs.Common.{◌≡◌, suc, Bool, true, false, ◌||◌, List, [], ◌∷◌, length, map, refl, sym, ◌∙◌, ap, None, inl, inr, if◌then◌else◌}
use Rattle.poets_value.specs.declared.value.Name.{Name}
use Rattle.poets_expr.specs.Expression.{Expression}
use Rattle.poets_expr.specs.Env.{Declared, Env, same_name, value_in}
use Rattle.poets_expr.specs.Subst.{Givens, subst, replaced}
pub use Rattle.poets_expr.proofs.ValSubst.{Agrees-pairs, truth_of as truth}
use Rattle.poets_expr.proofs.SameTrees.{name_one}
use Rattle.poets_syntax.specs.declared.term.Binders.{Binders}
use Rattle.poets_syntax.specs.Book.{BinderValues, bound}
use Rattle.poets_syntax.specs.Replace.{binds, without, AreUndeclared}

-- one of four tests, or what comes after
unfoldable pub first_of_four : {A : Type 0} → Bool → Bool → Bool → Bool → A → A → A → A → A → A
first_of_four p q r s a b c d z = if p then a else (if q then b else (if r then c else (if s then d else z)))

pub none_of_four : {A : Type 0} (p q r s : Bool) (a b c d z : A) → (p || q || r || s) ≡ false → first_of_four p q r s a b c d z ≡ z
unfolding first_of_four
none_of_four false false false false a b c d z h = refl
none_of_four true _ _ _ a b c d z h = absurd cc
none_of_four false true _ _ a b c d z h = absurd cc
none_of_four false false true _ a b c d z h = absurd cc
none_of_four false false false true a b c d z h = absurd cc

pub one_of_four : {A : Type 0} (p q r s : Bool) (a b c d y z : A) → (p || q || r || s) ≡ true →
    first_of_four p q r s a b c d y ≡ first_of_four p q r s a b c d z
unfolding first_of_four
one_of_four true _ _ _ a b c d y z h = refl
one_of_four false true _ _ a b c d y z h = refl
one_of_four false false true _ a b c d y z h = refl
one_of_four false false false true a b c d y z h = refl
one_of_four false false false false a b c d y z h = absurd cc

-- a name that is not bound has its value from outside
pub bound-free : (declared : Declared) (b : Binders) (v : BinderValues) (env : Env) (x : Name) → binds b x ≡ false →
    value_in declared (bound b v env) x ≡ value_in declared env x
unfolding first_of_four
bound-free declared b v env x h =
    none_of_four (same_name b.day x) (same_name b.what x) (same_name b.receiver x) (same_name b.sender x) v.day v.what v.receiver v.sender _ h

-- a bound name has the same value whatever stands outside
pub bound-same : (declared : Declared) (b : Binders) (v : BinderValues) (env env' : Env) (x : Name) → binds b x ≡ true →
    value_in declared (bound b v env) x ≡ value_in declared (bound b v env') x
unfolding first_of_four
bound-same declared b v env env' x h =
    one_of_four (same_name b.day x) (same_name b.what x) (same_name b.receiver x) (same_name b.sender x) v.day v.what v.receiver v.sender _ _ h

-- a name that is declared is not bound
pub declared_free : (declared : Declared) (b : Binders) (x : Name) → AreUndeclared declared b → ((declared x ≡ None) → ⊥) → binds b x ≡ false
declared_free declared b x f h = go (same_name b.day x) (same_name b.what x) (same_name b.receiver x) (same_name b.sender x)
    (λ e. h (ap declared (sym (name_one b.day x e)) ∙ f.day)) (λ e. h (ap declared (sym (name_one b.what x e)) ∙ f.what))
    (λ e. h (ap declared (sym (name_one b.receiver x e)) ∙ f.receiver)) (λ e. h (ap declared (sym (name_one b.sender x e)) ∙ f.sender))
  where
    go : (p q r s : Bool) → (p ≡ true → ⊥) → (q ≡ true → ⊥) → (r ≡ true → ⊥) → (s ≡ true → ⊥) → (p || q || r || s) ≡ false
    go false false false false i j k l = refl
    go true _ _ _ i j k l = absurd (i refl)
    go false true _ _ i j k l = absurd (j refl)
    go false false true _ i j k l = absurd (k refl)
    go false false false true i j k l = absurd (l refl)

-- below binders a name is replaced as outside, unless it is bound
pub replaced-free : (b : Binders) (given : Givens) (x : Name) → binds b x ≡ false → replaced (without b given) x ≡ replaced given x
replaced-free b [] x h = refl
replaced-free b (p ∷ given) x h =
    let rest = replaced-free b given x h in
    elim (truth (same_name p.0 x)) [
      | inl e ↦ (let k : binds b p.0 ≡ false = ap (binds b) (name_one p.0 x e) ∙ h in rw (k, e) refl)
      | inr e ↦ elim (truth (binds b p.0)) [ inl k ↦ rw (k, e) rest | inr k ↦ rw (k, e) rest ]
    ]

pub replaced-bound : (b : Binders) (given : Givens) (x : Name) → binds b x ≡ true → replaced (without b given) x ≡ Expression.Named x
replaced-bound b [] x h = refl
replaced-bound b (p ∷ given) x h =
    let rest = replaced-bound b given x h in
    elim (truth (same_name p.0 x)) [
      | inl e ↦ (let k : binds b p.0 ≡ true = ap (binds b) (name_one p.0 x e) ∙ h in rw k rest)
      | inr e ↦ elim (truth (binds b p.0)) [ inl k ↦ rw k rest | inr k ↦ rw (k, e) rest ]
    ]

pub args_count : (given : Givens) (args : List Expression) → length (map (subst given) args) ≡ length args
args_count given [] = refl
args_count given (a ∷ args) = ap suc (args_count given args)
