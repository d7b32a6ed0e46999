-- What follows an event: one contract is performed by exactly the traces that may follow the event in another.
use Rattle.std.proofs.Common.{◌≡◌, ℕ, List, [], ◌∷◌, ◌++◌, map, length, refl, sym, ap, subst, Some, None, append-nil, ◌↔◌}
use Rattle.poets_value.specs.declared.value.Name.{Name}
use Rattle.poets_value.specs.declared.event.Event.{Event}
use Rattle.poets_expr.specs.Expression.{Expression}
use Rattle.poets_expr.specs.Val.{val}
use Rattle.poets_expr.specs.Subst.{Givens}
use Rattle.poets_syntax.specs.declared.term.Binders.{Binders}
use Rattle.poets_syntax.specs.Contract.{Contract}
use Rattle.poets_syntax.specs.Contract as C
use Rattle.poets_syntax.specs.Plain.{Book, Template}
use Rattle.poets_syntax.specs.Book.{template_in, taken, parameter_env}
use Rattle.poets_syntax.specs.Replace.{replace, env_of}
use Rattle.poets_syntax.specs.WellFormed.{IsWellFormed, IsDeclaredEvent, HaveDeclaredLiterals}
use Rattle.poets_syntax.specs.Givens.{event_givens, argument_givens}
use Rattle.poets_syntax.proofs.Replacing.{Agrees-pairs}
use Rattle.poets_syntax.proofs.Givens.{HaveDeclaredNames, AreDeclared-values, HaveDeclaredNames-event, HaveDeclaredNames-arguments, env_of-arguments}
use Rattle.poets_syntax.proofs.WellFormedness.{IsWellFormed-replace, BindersAreUndeclared-of}
use Rattle.poets_meaning.specs.Between.{Between}
use Rattle.poets_meaning.specs.Perf.{Holds}
use Rattle.poets_meaning.specs.May.{May}
use Rattle.poets_meaning.specs.Marks.{Marks, AreRight, Nullable}
use Rattle.poets_meaning.proofs.Granting.{May-Perf, Perf-May}
use Rattle.poets_meaning.proofs.Inversions.{of_plus, of_par, of_seq}
use Rattle.poets_meaning.proofs.Saying.{SaysSame, SaysSame-May, SaysSame-sym}
use Rattle.poets_meaning.proofs.Replacing.{SaysSame-replace}
use Rattle.poets_calculus.specs.Normal.{normal, plus, par, seq}
use Rattle.poets_norm.proofs.Builders.{plus_in, plus_out, par_in, par_out, seq_in, seq_out}
use Rattle.poets_norm.proofs.Meaning.{normal_in, normal_out}

-- the traces of the second contract are those that may follow the event in the first
abbrev pub Follows : Book → Event → Contract → Contract → Type 0
Follows book e c r = (s : List Event) (n : ℕ) → May book [] r s n ↔ May book [] c (e ∷ s) n

-- the first event of a trace goes to the first part, or the first part is over
pub first_event : {e : Event} {s : List Event} {s₁ s₂ : List Event} → e ∷ s ≡ s₁ ++ s₂ → {P : Type 0} →
    (s₁ ≡ [] → e ∷ s ≡ s₂ → P) → ((s' : List Event) → s₁ ≡ e ∷ s' → s ≡ s' ++ s₂ → P) → P
first_event {s₁ = []} q none some = none refl q
first_event {e = e} {s = s} {s₁ = x ∷ s₁} {s₂ = s₂} q none some =
    let head : x ∷ s₁ ≡ e ∷ s₁ = cc in
    let tail : s ≡ s₁ ++ s₂ = cc in
    some s₁ head tail

module _ (book : Book) (marks : Marks) (right : AreRight book marks) (given : Givens) (c : Contract)
    (values : HaveDeclaredNames book.declared given) (formed : IsWellFormed book.declared c) where
  alike : SaysSame book.declared [] (replace given c) (env_of given ++ []) c
  alike = SaysSame-replace book.declared c [] given (env_of given ++ []) (BindersAreUndeclared-of book.declared c formed)
      (AreDeclared-values book.declared given values) (Agrees-pairs book.declared [] (λ x k. refl) given (AreDeclared-values book.declared given values))

  -- the normal form of a contract with replaced names says what the contract says under their values
  pub replaced_in : {s : List Event} {n : ℕ} → May book (env_of given) c s n → May book [] (normal book marks (replace given c)) s n
  replaced_in {s} {n} m =
      normal_in book marks right (replace given c) (IsWellFormed-replace book.declared given values c formed) [] (λ x k. refl) s n
      (SaysSame-May (SaysSame-sym alike) (subst (λ env. May book env c s n) (sym (append-nil (env_of given))) m))

  pub replaced_out : {s : List Event} {n : ℕ} → May book [] (normal book marks (replace given c)) s n → May book (env_of given) c s n
  replaced_out {s} {n} m =
      subst (λ env. May book env c s n) (append-nil (env_of given))
      (SaysSame-May alike (normal_out book marks right (replace given c) (IsWellFormed-replace book.declared given values c formed) [] (λ x k. refl) s n m))

module _ (book : Book) (e : Event) where
  pub Follows-success : Follows book e C.Success C.Failure
  Follows-success s n = ((λ m. elim m [ ]), (λ m. done m))
    where
      done : {s : List Event} {n : ℕ} → May book [] C.Success (e ∷ s) n → May book [] C.Failure s n
      done m = elim m [ ]

  pub Follows-failure : Follows book e C.Failure C.Failure
  Follows-failure s n = ((λ m. elim m [ ]), (λ m. elim m [ ]))

  pub Follows-refused : (b : Binders) (p : Expression) (c : Contract) → (Holds book (taken b e []) p → ⊥) → Follows book e (C.Transmit b p c) C.Failure
  Follows-refused b p c no_hold s n = ((λ m. elim m [ ]), (λ m. refused m))
    where
      refused : {s : List Event} {n : ℕ} → May book [] (C.Transmit b p c) (e ∷ s) n → May book [] C.Failure s n
      refused (May.Taken h m) = absurd (no_hold h)

  pub Follows-plus : {a b r t : Contract} → Follows book e a r → Follows book e b t → Follows book e (C.Plus a b) (plus r t)
  Follows-plus {a} {b} {r} {t} f g s n = (
    (λ m. of_plus (plus_out r t m) (λ k. May.Left ((f s n).0 k)) (λ k. May.Right ((g s n).0 k))),
    (λ m. of_plus m (λ k. plus_in r t (May.Left ((f s n).1 k))) (λ k. plus_in r t (May.Right ((g s n).1 k)))),
  )

  pub Follows-par : {a b r t : Contract} → Follows book e a r → Follows book e b t → Follows book e (C.Par a b) (plus (par r b) (par a t))
  Follows-par {a} {b} {r} {t} f g s n = (
    (λ m. of_plus (plus_out (par r b) (par a t) m)
        (λ k. of_par (par_out r b k) (λ s₁ s₂ n₁ n₂ i q m₁ m₂. May.Beside (Between.First i) q ((f s₁ n₁).0 m₁) m₂))
        (λ k. of_par (par_out a t k) (λ s₁ s₂ n₁ n₂ i q m₁ m₂. May.Beside (Between.Second i) q m₁ ((g s₂ n₂).0 m₂)))),
    (λ m. split m),
  )
    where
      split : {s : List Event} {n : ℕ} → May book [] (C.Par a b) (e ∷ s) n → May book [] (plus (par r b) (par a t)) s n
      split (May.Beside {s₁ = _ ∷ s₁} {n₁ = n₁} (Between.First i) q m₁ m₂) =
          plus_in (par r b) (par a t) (May.Left (par_in r b (May.Beside i q ((f s₁ n₁).1 m₁) m₂)))
      split (May.Beside {s₂ = _ ∷ s₂} {n₂ = n₂} (Between.Second i) q m₁ m₂) =
          plus_in (par r b) (par a t) (May.Right (par_in a t (May.Beside i q m₁ ((g s₂ n₂).1 m₂))))

  -- the event went to the first part
  began : {a b r : Contract} → Follows book e a r → {s : List Event} {n : ℕ} → May book [] (seq r b) s n → May book [] (C.Seq a b) (e ∷ s) n
  began {a} {b} {r} f {s} {n} m =
      of_seq (seq_out r b m)
      (λ s₁ s₂ q m₁ m₂. May.Then (ap (λ u. e ∷ u) q) ((f s₁ 0).0 m₁) m₂)
      (λ n₁ n₂ q m₁ m₂. May.ThenGranted q ((f s n₁).0 m₁) m₂)

  pub Follows-seq : {a b r : Contract} → (Nullable book a → ⊥) → Follows book e a r → Follows book e (C.Seq a b) (seq r b)
  Follows-seq {a} {b} {r} going f s n = (
    (λ m. began f m),
    (λ m. of_seq m
        (λ s₁ s₂ q m₁ m₂. first_event q
        (λ i _. absurd (going (May-Perf (subst (λ u. May book [] a u 0) i m₁) refl)))
        (λ s' i j. seq_in r b (May.Then j ((f s' 0).1 (subst (λ u. May book [] a u 0) i m₁)) m₂)))
        (λ n₁ n₂ q m₁ m₂. seq_in r b (May.ThenGranted q ((f s n₁).1 m₁) m₂))),
  )

  pub Follows-over : {a b r t : Contract} → Nullable book a → Follows book e a r → Follows book e b t → Follows book e (C.Seq a b) (plus (seq r b) t)
  Follows-over {a} {b} {r} {t} over f g s n = (
    (λ m. of_plus (plus_out (seq r b) t m) (λ k. began f k) (λ k. May.Then refl (Perf-May over) ((g s n).0 k))),
    (λ m. of_seq m
        (λ s₁ s₂ q m₁ m₂. first_event q
        (λ _ j. plus_in (seq r b) t (May.Right ((g s n).1 (subst (λ u. May book [] b u n) (sym j) m₂))))
        (λ s' i j. plus_in (seq r b) t (May.Left (seq_in r b (May.Then j ((f s' 0).1 (subst (λ u. May book [] a u 0) i m₁)) m₂)))))
        (λ n₁ n₂ q m₁ m₂. plus_in (seq r b) t (May.Left (seq_in r b (May.ThenGranted q ((f s n₁).1 m₁) m₂))))),
  )

  -- an application without a template is performed by nothing
  pub Follows-none : (f : Name) (args : List Expression) → template_in book.templates f ≡ None → Follows book e (C.App f args) C.Failure
  Follows-none f args none s n = ((λ m. elim m [ ]), (λ m. body m))
    where
      body : {s : List Event} {n : ℕ} → May book [] (C.App f args) (e ∷ s) n → May book [] C.Failure s n
      body (May.Body q l m) = absurd cc

module _ (book : Book) (marks : Marks) (right : AreRight book marks) (e : Event) where
  pub Follows-taken : IsDeclaredEvent book.declared e → (b : Binders) (p : Expression) (c : Contract) → IsWellFormed book.declared c →
      Holds book (taken b e []) p → Follows book e (C.Transmit b p c) (normal book marks (replace (event_givens b e) c))
  Follows-taken declared b p c formed h s n = (
    (λ m. May.Taken h (replaced_out book marks right (event_givens b e) c (HaveDeclaredNames-event book.declared b e declared) formed m)),
    (λ m. took m),
  )
    where
      took : {s : List Event} {n : ℕ} → May book [] (C.Transmit b p c) (e ∷ s) n → May book [] (normal book marks (replace (event_givens b e) c)) s n
      took (May.Taken _ m) = replaced_in book marks right (event_givens b e) c (HaveDeclaredNames-event book.declared b e declared) formed m

  pub Follows-body : (f : Name) (args : List Expression) (t : Template) {r : Contract} → IsWellFormed book.declared t.body →
      HaveDeclaredLiterals book.declared args → template_in book.templates f ≡ Some t → length t.params ≡ length args →
      Follows book e (normal book marks (replace (argument_givens book.declared t.params args) t.body)) r → Follows book e (C.App f args) r
  Follows-body f args t {r} formed literals q l follows s n =
      let given = argument_givens book.declared t.params args in
      let values = HaveDeclaredNames-arguments book.declared t.params args literals in (
        (λ m. May.Body q l (subst (λ env. May book env t.body (e ∷ s) n) (env_of-arguments book.declared t.params args)
            (replaced_out book marks right given t.body values formed ((follows s n).0 m)))),
        (λ m. (follows s n).1 (replaced_in book marks right given t.body values formed (body m))),
      )
    where
      body : {s : List Event} {n : ℕ} → May book [] (C.App f args) s n → May book (env_of (argument_givens book.declared t.params args)) t.body s n
      body {s} {n} (May.Body {t = u} k _ m) =
          let same : u ≡ t = cc in
          let m' = subst (λ v. May book (parameter_env v.params (map (val book.declared []) args)) v.body s n) same m in
          subst (λ env. May book env t.body s n) (sym (env_of-arguments book.declared t.params args)) m'
