-- What normal forms are made of, so that the normal form of a normal form is itself.
use Rattle.std.proofs.Common.{◌≡◌, Bool, true, false, not, ◌&&◌, List, [], ◌∷◌, ◌++◌, fold, refl, sym, ◌∙◌, ap, ap₂, subst, Option, Some, None, inl, inr, is_some}
use Rattle.std.specs.List.{All}
use Rattle.std.proofs.lemmas.List.Elements.{All-nil, All-cons, All-head, All-tail, All-append}
use Rattle.poets_value.specs.declared.value.Name.{Name}
use Rattle.poets_value.specs.declared.value.Ty.{Ty}
use Rattle.poets_value.specs.declared.value.Value.{Value}
use Rattle.poets_value.specs.declared.value.Value.TheVariants as V
use Rattle.poets_expr.specs.Env.{Declared}
use Rattle.poets_expr.specs.Expression.{Expression}
use Rattle.poets_expr.specs.Val.{val}
use Rattle.poets_expr.specs.Subst.{literal_of}
use Rattle.poets_expr.specs.Fold.{is_folded, fold_closed}
use Rattle.poets_syntax.specs.declared.term.Binders.{Binders}
use Rattle.poets_syntax.specs.declared.term.Param.{Param}
use Rattle.poets_syntax.specs.Contract.{Contract, Success, Failure, Transmit, Plus, Par, Seq, App}
use Rattle.poets_syntax.specs.Plain.{Book}
use Rattle.poets_syntax.proofs.Replacing.{truth}
use Rattle.poets_meaning.specs.Marks.{Marks}
use Rattle.poets_calculus.specs.Normal.{alternatives, plus, par, seq, send, folded, params_in, app, normal}
use Rattle.poets_calculus.specs.Alike.{parts}
use Rattle.poets_calculus.proofs.AlikeTests.{IsPart}
use Rattle.poets_calculus.proofs.Regrouping.{first_part, regrouped-last}
use Rattle.poets_norm.specs.Choices.{IsDistinctChoice, regrouped}
use Rattle.poets_norm.proofs.Alternatives.{alternatives-one, alternatives-distinct_choice, IsGrouped, IsGrouped-distinct_choice, distinct_choice-grouped}
use Rattle.poets_norm.proofs.Parts.{All-distinct, FailureOr, FailureOr-alternatives, FailureOr-par, FailureOr-seq, FailureOr-send, IsKeptOrFailure, IsProper, par_joined}

-- what a normal form is, where it is not `Failure`: each part is as its builder would make it
abbrev pub IsBuilt : Book → Marks → Contract → Type 0
IsBuilt book marks Success = Unit {0}
IsBuilt book marks Failure = ⊥
IsBuilt book marks (Transmit b p c) = IsBuilt book marks c
IsBuilt book marks (Plus c₁ c₂) = IsBuilt book marks c₁ × IsBuilt book marks c₂ × (plus c₁ c₂ ≡ Plus c₁ c₂)
IsBuilt book marks (Par c₁ c₂) = IsBuilt book marks c₁ × IsBuilt book marks c₂ × IsProper c₁ × IsProper c₂ × IsPart c₂
IsBuilt book marks (Seq c₁ c₂) = IsBuilt book marks c₁ × IsBuilt book marks c₂ × (seq c₁ c₂ ≡ Seq c₁ c₂)
IsBuilt book marks (App f args) = app book marks f args ≡ App f args

All-parts : (P : Contract → Type 0) (xs ys : List Contract) → All P (xs ++ ys) → All P xs × All P ys
All-parts P [] ys h = (All-nil P, h)
All-parts P (x ∷ xs) ys h =
    let rest = All-parts P xs ys (All-tail P x (xs ++ ys) h) in
    (All-cons P x xs (All-head P x (xs ++ ys) h) rest.0, rest.1)

module _ (book : Book) (marks : Marks) where
  built_choice : (c : Contract) → IsGrouped c → All (IsBuilt book marks) (alternatives c) → FailureOr (IsBuilt book marks) c
  built_choice Failure h each = inl refl
  built_choice (Plus c d) h each =
      let parts = All-parts (IsBuilt book marks) (alternatives c) (alternatives d) each in
      let last = subst (All (IsBuilt book marks)) (alternatives-one d h.2) parts.1 in
      elim (built_choice c h.0 parts.0) [
        | inl e ↦ absurd (h.1 e)
        | inr k ↦ inr (k, All-head (IsBuilt book marks) d [] last, distinct_choice-grouped (Plus c d) h)
      ]
  built_choice c h each = inr (All-head (IsBuilt book marks) c [] each)

  -- the builders
  built-plus : (a b : Contract) → FailureOr (IsBuilt book marks) a → FailureOr (IsBuilt book marks) b → FailureOr (IsBuilt book marks) (plus a b)
  built-plus a b h k =
      let each = FailureOr-alternatives (IsBuilt book marks) (λ e. e) (λ x y i. (i.0, i.1)) in
      built_choice (plus a b) (IsGrouped-distinct_choice (Plus a b))
      (rw (alternatives-distinct_choice (Plus a b)) (All-distinct (IsBuilt book marks) (alternatives a ++ alternatives b)
      (All-append (IsBuilt book marks) (alternatives a) (alternatives b) (each a h) (each b k))))

  built-send : (b : Binders) (p : Expression) (c : Contract) → IsBuilt book marks c → IsBuilt book marks (send b p c)
  built-send b p Failure h = h
  built-send b p _ h = h

  -- parts side by side
  abbrev IsBuiltPart : Contract → Type 0
  IsBuiltPart c = IsBuilt book marks c × IsProper c × IsPart c

  built_parts : (c : Contract) → IsBuilt book marks c → IsProper c → All IsBuiltPart (parts c)
  built_parts (Par a b) h k = All-append IsBuiltPart (parts a) (parts b) (built_parts a h.0 h.2) (built_parts b h.1 h.3)
  built_parts Success h k = absurd k
  built_parts Failure h k = absurd h
  built_parts c h k = All-cons IsBuiltPart c [] (h, k, tt) (All-nil IsBuiltPart)

  built_beside : (c : Contract) (cs : List Contract) → IsBuilt book marks c → IsProper c → All IsBuiltPart cs → IsBuilt book marks (fold Par c cs)
  built_beside c [] h k each = h
  built_beside c (d ∷ cs) h k each =
      let one = All-head IsBuiltPart d cs each in
      built_beside (Par c d) cs (h, one.0, k, one.1, one.2) tt (All-tail IsBuiltPart d cs each)

  built_sides : (a b : Contract) → IsBuilt book marks a → IsBuilt book marks b → IsProper a → IsProper b →
      IsBuilt book marks (regrouped (Par a b))
  built_sides a b h k m n =
      let f = first_part (Par a b) in
      let all = subst (λ xs. All IsBuiltPart xs) f.2 (All-append IsBuiltPart (parts a) (parts b) (built_parts a h m) (built_parts b k n)) in
      let one = All-head IsBuiltPart f.0 f.1 all in
      rw f.2 (built_beside f.0 f.1 one.0 one.1 (All-tail IsBuiltPart f.0 f.1 all))

  pub IsBuilt-kept : IsKeptOrFailure (IsBuilt book marks)
  IsBuilt-kept = record {
    plus = built-plus;
    par = FailureOr-par (IsBuilt book marks) built_sides;
    seq = FailureOr-seq (IsBuilt book marks) (λ a b h k e. (h, k, e));
    plus_parts = λ a b h. (h.0, h.1);
    par_parts = λ a b h. (h.0, h.1);
    seq_parts = λ a b h. (h.0, h.1);
  }

-- what was folded stays
not_folded : (b : Bool) → (b && not b) ≡ false
not_folded true = refl
not_folded false = refl

is_folded-literal : (declared : Declared) (o : Option Value) (t : Ty) → is_folded declared (literal_of o t) ≡ false
is_folded-literal declared None t = refl
is_folded-literal declared (Some (V.Int n)) t = refl
is_folded-literal declared (Some (V.Bool n)) t = refl
is_folded-literal declared (Some (V.Agent x)) t = not_folded (is_some (declared x))
is_folded-literal declared (Some (V.Kind x)) t = not_folded (is_some (declared x))
is_folded-literal declared (Some (V.Resource r)) t = refl
is_folded-literal declared (Some (V.Day d)) t = refl

fold_closed-twice : (declared : Declared) (e : Expression) (t : Ty) → fold_closed declared (fold_closed declared e t) t ≡ fold_closed declared e t
fold_closed-twice declared e t = elim (truth (is_folded declared e)) [
  | inl k ↦ rw (k, is_folded-literal declared (val declared [] e) t) refl
  | inr k ↦ rw (k, k) refl
]

folded-twice : (declared : Declared) (params : List Param) (args : List Expression) →
    folded declared params (folded declared params args) ≡ folded declared params args
folded-twice declared [] [] = refl
folded-twice declared [] (a ∷ args) = refl
folded-twice declared (p ∷ params) [] = refl
folded-twice declared (p ∷ params) (a ∷ args) = ap₂ (λ x xs. x ∷ xs) (fold_closed-twice declared a p.ty) (folded-twice declared params args)

module _ (book : Book) (marks : Marks) where
  built-app : (f : Name) (args : List Expression) → FailureOr (IsBuilt book marks) (app book marks f args)
  built-app f args = elim (truth (marks.hopeful f)) [
    | inl e ↦ rw e (inr (rw e (ap (App f) (folded-twice book.declared (params_in book f) args))))
    | inr e ↦ rw e (inl refl)
  ]

  pub built-normal : (c : Contract) → FailureOr (IsBuilt book marks) (normal book marks c)
  built-normal Success = inr tt
  built-normal Failure = inl refl
  built-normal (Transmit b p c) = FailureOr-send (IsBuilt book marks) (built-send book marks) b p (normal book marks c) (built-normal c)
  built-normal (Plus a b) = (IsBuilt-kept book marks).plus (normal book marks a) (normal book marks b) (built-normal a) (built-normal b)
  built-normal (Par a b) = (IsBuilt-kept book marks).par (normal book marks a) (normal book marks b) (built-normal a) (built-normal b)
  built-normal (Seq a b) = (IsBuilt-kept book marks).seq (normal book marks a) (normal book marks b) (built-normal a) (built-normal b)
  built-normal (App f args) = built-app f args

  send-built : (b : Binders) (p : Expression) (c : Contract) → IsBuilt book marks c → send b p c ≡ Transmit b p c
  send-built b p Failure h = absurd h
  send-built b p _ h = refl

  regrouped-built : (c : Contract) → IsBuilt book marks c → regrouped c ≡ c
  regrouped-built (Par a b) h = regrouped-last a b h.4 ∙ ap (λ x. Par x b) (regrouped-built a h.0)
  regrouped-built _ h = refl

  -- a contract so built is its normal form
  normal-built : (c : Contract) → IsBuilt book marks c → normal book marks c ≡ c
  normal-built Success h = refl
  normal-built Failure h = refl
  normal-built (Transmit b p c) h = ap (send b p) (normal-built c h) ∙ send-built b p c h
  normal-built (Plus a b) h = ap₂ plus (normal-built a h.0) (normal-built b h.1) ∙ h.2
  normal-built (Par a b) h =
      ap₂ par (normal-built a h.0) (normal-built b h.1) ∙ par_joined a b h.2 h.3 ∙ regrouped-built (Par a b) h
  normal-built (Seq a b) h = ap₂ seq (normal-built a h.0) (normal-built b h.1) ∙ h.2
  normal-built (App f args) h = h

  pub normal_of_built : (c : Contract) → FailureOr (IsBuilt book marks) c → normal book marks c ≡ c
  normal_of_built c (inl e) = ap (normal book marks) e ∙ sym e
  normal_of_built c (inr h) = normal-built c h

  -- and a choice of distinct alternatives
  distinct_choice-built : (c : Contract) → IsBuilt book marks c → IsDistinctChoice c
  distinct_choice-built (Plus a b) h = h.2
  distinct_choice-built _ h = refl

  pub normal_is_distinct : (c : Contract) → IsDistinctChoice (normal book marks c)
  normal_is_distinct c = elim (built-normal c) [
    | inl e ↦ rw e refl
    | inr h ↦ distinct_choice-built (normal book marks c) h
  ]

  -- and a contract that is its normal form is so built
  pub built_of_normal : (c : Contract) → normal book marks c ≡ c → FailureOr (IsBuilt book marks) c
  built_of_normal c e = subst (FailureOr (IsBuilt book marks)) e (built-normal c)
