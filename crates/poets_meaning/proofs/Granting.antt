-- The laws of `Perf` and `May`.
use Rattle.std.proofs.Common.{◌≡◌, ℕ, ◌+◌, List, [], ◌∷◌, ◌++◌, length, refl, sym, ◌∙◌, ap, subst, arith, append-nil, length-append, ◌⊎◌, inl, inr}
use Rattle.poets_value.specs.declared.event.Event.{Event}
use Rattle.poets_expr.specs.Env.{Env}
use Rattle.poets_syntax.specs.Contract.{Contract, Transmit, Seq}
use Rattle.poets_syntax.specs.Plain.{Book}
use Rattle.poets_meaning.specs.Perf.{Perf}
use Rattle.poets_meaning.specs.May.{May}
use Rattle.poets_meaning.specs.Between.{Between}
use Rattle.poets_meaning.proofs.Lists.{parts_of_nil, Between-nil, Between-length, two_cuts, Between-cut}

pub May-Perf : {book : Book} {env : Env} {c : Contract} {s : List Event} {n : ℕ} → May book env c s n → n ≡ 0 → Perf book env c s
May-Perf May.Done e = Perf.Done
May-Perf (May.Taken h m) e = Perf.Taken h (May-Perf m e)
May-Perf (May.Granted m) e = absurd (omega arith)
May-Perf (May.Left m) e = Perf.Left (May-Perf m e)
May-Perf (May.Right m) e = Perf.Right (May-Perf m e)
May-Perf (May.Beside b q m₁ m₂) e = Perf.Beside b (May-Perf m₁ (omega arith)) (May-Perf m₂ (omega arith))
May-Perf (May.Then q m₁ m₂) e = Perf.Then q (May-Perf m₁ refl) (May-Perf m₂ e)
May-Perf (May.ThenGranted q m₁ m₂) e = Perf.Then (sym (append-nil _)) (May-Perf m₁ (omega arith)) (May-Perf m₂ (omega arith))
May-Perf (May.Body t l m) e = Perf.Body t l (May-Perf m e)

pub Perf-May : {book : Book} {env : Env} {c : Contract} {s : List Event} → Perf book env c s → May book env c s 0
Perf-May Perf.Done = May.Done
Perf-May (Perf.Taken h m) = May.Taken h (Perf-May m)
Perf-May (Perf.Left m) = May.Left (Perf-May m)
Perf-May (Perf.Right m) = May.Right (Perf-May m)
Perf-May (Perf.Beside b m₁ m₂) = May.Beside b refl (Perf-May m₁) (Perf-May m₂)
Perf-May (Perf.Then q m₁ m₂) = May.Then q (Perf-May m₁) (Perf-May m₂)
Perf-May (Perf.Body t l m) = May.Body t l (Perf-May m)

recounted : {book : Book} {env : Env} {c : Contract} {s : List Event} {m n : ℕ} → m ≡ n → May book env c s m → May book env c s n
recounted {book} {env} {c} {s} e m = subst (λ k. May book env c s k) e m

pub May-anywhere : {book : Book} {env : Env} {c : Contract} {s : List Event} {n : ℕ} → May book env c s n → s ≡ [] → (env' : Env) → May book env' c [] n
May-anywhere May.Done e env' = May.Done
May-anywhere (May.Taken h m) e env' = absurd cc
May-anywhere (May.Granted m) e env' = May.Granted (May-anywhere m refl _)
May-anywhere (May.Left m) e env' = May.Left (May-anywhere m e env')
May-anywhere (May.Right m) e env' = May.Right (May-anywhere m e env')
May-anywhere (May.Beside b q m₁ m₂) e env' =
    let p = Between-nil b e in
    May.Beside Between.Empty q (May-anywhere m₁ p.0 env') (May-anywhere m₂ p.1 env')
May-anywhere (May.Then {s₁ = s₁} {s₂ = s₂} q m₁ m₂) e env' =
    let p = parts_of_nil s₁ s₂ (sym e ∙ q) in
    May.Then refl (May-anywhere m₁ p.0 env') (May-anywhere m₂ p.1 env')
May-anywhere (May.ThenGranted q m₁ m₂) e env' = May.ThenGranted q (May-anywhere m₁ e env') (May-anywhere m₂ refl env')
May-anywhere (May.Body t l m) e env' = May.Body t l (May-anywhere m e _)

pub May-granted : {book : Book} {env : Env} {c : Contract} {s : List Event} {n : ℕ} → May book env c s n → May book env c [] (length s + n)
May-granted May.Done = recounted (omega arith) May.Done
May-granted (May.Taken h m) = recounted (omega arith) (May.Granted (May-anywhere (May-granted m) refl _))
May-granted (May.Granted m) = recounted (omega arith) (May.Granted m)
May-granted (May.Left m) = May.Left (May-granted m)
May-granted (May.Right m) = May.Right (May-granted m)
May-granted (May.Beside b q m₁ m₂) = May.Beside Between.Empty (omega (arith, Between-length b)) (May-granted m₁) (May-granted m₂)
May-granted (May.Then {s₁ = s₁} {s₂ = s₂} q m₁ m₂) =
    May.ThenGranted (omega (arith, ap length q, length-append s₁ s₂)) (May-granted m₁) (May-granted m₂)
May-granted (May.ThenGranted q m₁ m₂) = May.ThenGranted (omega arith) (May-granted m₁) m₂
May-granted (May.Body t l m) = May.Body t l (May-granted m)

-- the whole of a performing trace may be granted
none_taken : {book : Book} {env : Env} {c : Contract} {s : List Event} → Perf book env c s → May book env c [] (length s)
none_taken p = recounted (omega arith) (May-granted (Perf-May p))

-- the cut of a trace falls into the first part, or into the second
rest_of_then : {book : Book} {env : Env} {c₁ c₂ : Contract} {s₁ s₂ s rest : List Event} →
    Perf book env c₁ s₁ → Perf book env c₂ s₂ →
    ((m : List Event) → s₁ ≡ s ++ m → May book env c₁ s (length m)) →
    ((m : List Event) → s₂ ≡ m ++ rest → May book env c₂ m (length rest)) →
    ((m : List Event) × (s₁ ≡ s ++ m) × (rest ≡ m ++ s₂)) ⊎ ((m : List Event) × (s ≡ s₁ ++ m) × (s₂ ≡ m ++ rest)) →
    May book env (Seq c₁ c₂) s (length rest)
rest_of_then {s₂ = s₂} p₁ p₂ first second (inl t) =
    May.ThenGranted (ap length t.2 ∙ length-append t.0 s₂) (first t.0 t.1) (none_taken p₂)
rest_of_then p₁ p₂ first second (inr t) = May.Then t.1 (Perf-May p₁) (second t.0 t.2)

pub Perf-rest : {book : Book} {env : Env} {c : Contract} {u : List Event} → Perf book env c u → (s rest : List Event) → u ≡ s ++ rest → May book env c s (length rest)
Perf-rest p [] rest e = recounted (ap length e) (none_taken p)
Perf-rest Perf.Done (x ∷ s) rest e = absurd cc
Perf-rest {book} {env} (Perf.Taken {b = b} {p = q} {c = c} {e = y} h p) (x ∷ s) rest e =
    let same : y ≡ x = cc in
    subst (λ z. May book env (Transmit b q c) (z ∷ s) (length rest)) same (May.Taken h (Perf-rest p s rest cc))
Perf-rest (Perf.Left p) (x ∷ s) rest e = May.Left (Perf-rest p (x ∷ s) rest e)
Perf-rest (Perf.Right p) (x ∷ s) rest e = May.Right (Perf-rest p (x ∷ s) rest e)
Perf-rest (Perf.Beside b p₁ p₂) (x ∷ s) rest e =
    let c = Between-cut b (x ∷ s) rest e in
    May.Beside c.front (Between-length c.back) (Perf-rest p₁ c.first c.first_rest c.one) (Perf-rest p₂ c.second c.second_rest c.two)
Perf-rest (Perf.Then {s₁ = s₁} {s₂ = s₂} q p₁ p₂) (x ∷ s) rest e =
    rest_of_then p₁ p₂ (λ m f. Perf-rest p₁ (x ∷ s) m f) (λ m g. Perf-rest p₂ m rest g) (two_cuts s₁ s₂ (x ∷ s) rest (sym q ∙ e))
Perf-rest (Perf.Body t l p) (x ∷ s) rest e = May.Body t l (Perf-rest p (x ∷ s) rest e)
