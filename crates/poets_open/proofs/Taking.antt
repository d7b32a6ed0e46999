-- Steps that take an event.
use Rattle.std.proofs.Common.{◌≡◌, ◌<◌, ℕ, zero, suc, arith, not, List, [], ◌∷◌, ◌++◌, filter, length, refl, sym, subst, inl, inr, ◌⊎◌}
use Rattle.std.specs.List.{slice_index_or}
use Rattle.poets_value.specs.declared.event.Event.{Event}
use Rattle.poets_syntax.specs.Plain.{Book}
use Rattle.poets_syntax.specs.Book.{taken}
use Rattle.poets_syntax.proofs.Replacing.{truth}
use Rattle.poets_meaning.specs.Perf.{Holds}
use Rattle.poets_open.specs.Laws.{SomeStepHolds}
use Rattle.poets_open.specs.Next.{Step, same_step, each_once}
use Rattle.poets_open.proofs.Listing.{step_one}

module _ (book : Book) (e : Event) where
  -- the predicate of the step holds of the event
  abbrev pub Takes : Step → Type 0
  Takes t = Holds book (taken t.binders e []) t.when

  -- the predicate of the first holds of it, or that of a later one
  abbrev pub TakesSome : List Step → Type 0
  TakesSome [] = ⊥
  TakesSome (t ∷ steps) = Takes t ⊎ TakesSome steps

  pub takes_first : (xs ys : List Step) → TakesSome xs → TakesSome (xs ++ ys)
  takes_first [] ys h = absurd h
  takes_first (x ∷ xs) ys (inl h) = inl h
  takes_first (x ∷ xs) ys (inr h) = inr (takes_first xs ys h)

  pub takes_second : (xs ys : List Step) → TakesSome ys → TakesSome (xs ++ ys)
  takes_second [] ys h = h
  takes_second (x ∷ xs) ys h = inr (takes_second xs ys h)

  pub takes_either : (xs ys : List Step) → TakesSome (xs ++ ys) → TakesSome xs ⊎ TakesSome ys
  takes_either [] ys h = inr h
  takes_either (x ∷ xs) ys (inl h) = inl (inl h)
  takes_either (x ∷ xs) ys (inr h) = elim (takes_either xs ys h) [ inl i ↦ inl (inr i) | inr i ↦ inr i ]

  -- it is one of those of which equal ones were left out, or equal to the first
  kept : (s : Step) (ys : List Step) → TakesSome ys → Takes s ⊎ TakesSome (filter (λ t. not (same_step s t)) ys)
  kept s [] h = absurd h
  kept s (y ∷ ys) (inl h) = elim (truth (same_step s y)) [
    | inl same ↦ inl (subst Takes (sym (step_one s y same)) h)
    | inr other ↦ inr (rw other (inl h))
  ]
  kept s (y ∷ ys) (inr h) = elim (kept s ys h) [
    | inl here ↦ inl here
    | inr later ↦ elim (truth (same_step s y)) [
      | inl same ↦ inr (rw same later)
      | inr other ↦ inr (rw other (inr later))
    ]
  ]

  unkept : (s : Step) (ys : List Step) → TakesSome (filter (λ t. not (same_step s t)) ys) → TakesSome ys
  unkept s [] h = absurd h
  unkept s (y ∷ ys) h = elim (truth (same_step s y)) [
    | inl same ↦ inr (unkept s ys (rw same at h))
    | inr other ↦ (
        let either : Takes y ⊎ TakesSome (filter (λ t. not (same_step s t)) ys) = rw other at h in
        elim either [ inl i ↦ inl i | inr i ↦ inr (unkept s ys i) ]
        )
  ]

  some_once : (xs : List Step) → TakesSome xs → TakesSome (each_once xs)
  some_once [] h = absurd h
  some_once (x ∷ xs) (inl h) = inl h
  some_once (x ∷ xs) (inr h) = kept x (each_once xs) (some_once xs h)

  once_some : (xs : List Step) → TakesSome (each_once xs) → TakesSome xs
  once_some [] h = absurd h
  once_some (x ∷ xs) (inl h) = inl h
  once_some (x ∷ xs) (inr h) = inr (once_some xs (unkept x (each_once xs) h))

  is_taken : (xs : List Step) → TakesSome xs → SomeStepHolds book e xs
  is_taken [] h = absurd h
  is_taken (x ∷ xs) (inl h) = (0, x, omega arith, refl, h)
  is_taken (x ∷ xs) (inr h) = let a = is_taken xs h in (suc a.0, a.1, omega (arith, a.2), a.3, a.4)

  takes_at : (xs : List Step) (k : ℕ) (t : Step) → k < length xs → slice_index_or xs k t ≡ t → Takes t → TakesSome xs
  takes_at [] k t l q h = absurd (omega (arith, l))
  takes_at (x ∷ xs) zero t l q h = inl (subst Takes (sym q) h)
  takes_at (x ∷ xs) (suc k) t l q h = inr (takes_at xs k t (omega (arith, l)) q h)

  -- one of the steps takes the event exactly where one of them does of which equal ones were left out
  pub taken_once : (xs : List Step) → TakesSome xs → SomeStepHolds book e (each_once xs)
  taken_once xs h = is_taken (each_once xs) (some_once xs h)

  pub once_taken : (xs : List Step) → SomeStepHolds book e (each_once xs) → TakesSome xs
  once_taken xs h = once_some xs (takes_at (each_once xs) h.0 h.1 h.2 h.3 h.4)
