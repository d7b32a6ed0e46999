-- What holds of the contracts, the events, the watches and the reports holds of those that are found among them.
use Rattle.std.proofs.Common.{◌≡◌, ℕ, zero, suc, ◌-◌, Bool, true, false, nat_eq, List, [], ◌∷◌, ◌++◌, filter, Option, Some, None, IfSome, sym, ◌∙◌, ap, subst, ◌⊎◌, inl, inr}
use Rattle.std.specs.Prelude.{if◌then◌else◌, ℤ, int_lt, slice_get}
use Rattle.std.specs.List.{All}
use Rattle.std.proofs.lemmas.List.Elements.{All-nil, All-cons, All-head, All-tail, All-map, All-filter}
use Rattle.poets_value.specs.declared.event.Event.{Event}
use Rattle.poets_value.specs.declared.value.Name.{Name}
use Rattle.poets_expr.specs.Env.{same_name}
use Rattle.poets_expr.specs.Expression.{Expression}
use Rattle.poets_syntax.specs.Contract.{Contract}
use Rattle.poets_syntax.specs.Plain.{Book}
use Rattle.poets_syntax.specs.Typing.{Fit}
use Rattle.poets_report.specs.Plain.{Report}
use Rattle.poets_command.specs.Reports.{report_in}
use Rattle.poets_command.specs.Typing.{IsTypedCall}
use Rattle.poets_history.specs.Ledger.{Ledger, contract_from, contract_named, without, trace, last_day, if_after, absent_or, first_absent, watch_at}

-- a chosen value is the first or the later one
first_or_later : {A : Type 0} (b : Bool) (first : A) (later : Option A) (x : A) → (if b then Some first else later) ≡ Some x → (first ≡ x) ⊎ (later ≡ Some x)
first_or_later true first later x e = inl cc
first_or_later false first later x e = inr e

-- what holds of each pair of a log holds of each that is left
pub All-without : (P : ℕ × Event → Type 0) (n k : ℕ) (log : List (ℕ × Event)) → All P log → All P (without n k log)
All-without P n k [] h = h
All-without P n k (p ∷ log) h = by_number (nat_eq p.0 n) (nat_eq k 1) (λ j. All-without P n j log (All-tail P p log h))
  where
    by_number : (b c : Bool) → ((j : ℕ) → All P (without n j log)) →
        All P (if b then (if c then log else p ∷ without n (k - 1) log) else p ∷ without n k log)
    by_number true true left = All-tail P p log h
    by_number true false left = All-cons P p (without n (k - 1) log) (All-head P p log h) (left (k - 1))
    by_number false c left = All-cons P p (without n k log) (All-head P p log h) (left k)

-- what holds of each registered contract holds of one that has a name
pub All-named : (P : Contract → Type 0) (i : ℕ) (x : Name) (contracts : List (Name × Contract)) (n : ℕ) (o : Contract) → All (λ p. P p.1) contracts →
    contract_from i x contracts ≡ Some (n, o) → P o
All-named P i x [] n o h e = absurd cc
All-named P i x (c ∷ contracts) n o h e = elim (first_or_later (same_name c.0 x) (i, c.1) (contract_from (suc i) x contracts) (n, o) e) [
  | inl here ↦ subst P (ap (λ p. p.1) here) (All-head (λ p. P p.1) c contracts h)
  | inr later ↦ All-named P (suc i) x contracts n o (All-tail (λ p. P p.1) c contracts h) later
]

pub All-trace : (P : Event → Type 0) (l : Ledger) (n : ℕ) → All (λ p. P p.1) l.log → All P (trace l n)
All-trace P l n h = All-map P (λ p. p.1) (filter (λ p. nat_eq p.0 n) l.log) (All-filter (λ p. nat_eq p.0 n) (λ p. P p.1) l.log h)

-- the last day of a trace is that of an event
pub All-last : (P : ℤ → Type 0) (s : List Event) → All (λ e. P e.day) s → IfSome (last_day s) P
All-last P [] h = tt
All-last P (e ∷ []) h = All-head (λ e. P e.day) e [] h
All-last P (e ∷ e' ∷ s) h = All-last P (e' ∷ s) (All-tail (λ e. P e.day) e (e' ∷ s) h)

pub late_is : (P : ℤ → Type 0) (day last : ℤ) (o : Option ℤ) → IfSome o P → if_after day o ≡ Some last → P last
late_is P day last None h e = absurd cc
late_is P day last (Some d) h e = by_test (int_lt day d) e
  where
    by_test : (b : Bool) → (if b then Some d else None) ≡ Some last → P last
    by_test true q = let same : d ≡ last = cc in subst P same h
    by_test false q = absurd cc

pub All-absent : (P : Name → Type 0) (l : Ledger) (over : List Name) (absent : Name) → All P over → first_absent l over ≡ Some absent → P absent
All-absent P l [] absent h e = absurd cc
All-absent P l (x ∷ over) absent h e =
    by_case (contract_named l x) (All-absent P l over absent (All-tail P x over h)) e
  where
    by_case : (o : Option (ℕ × Contract)) → (first_absent l over ≡ Some absent → P absent) → absent_or x o (first_absent l over) ≡ Some absent → P absent
    by_case None later q = let same : x ≡ absent = cc in subst P same (All-head P x over h)
    by_case (Some c) later q = later q

All-got : {A : Type 0} (P : A → Type 0) (xs : List A) (i : ℕ) (x : A) → All P xs → slice_get xs i ≡ Some x → P x
All-got P [] i x h e = absurd cc
All-got P (y ∷ xs) zero x h e = let same : y ≡ x = cc in subst P same (All-head P y xs h)
All-got P (y ∷ xs) (suc i) x h e = All-got P xs i x (All-tail P y xs h) e

pub All-watch : (P : Name × List Expression → Type 0) (l : Ledger) (n : ℕ) (w : Name × List Expression) → All P l.watches → watch_at l n ≡ Some w → P w
All-watch P l zero w h e = absurd cc
All-watch P l (suc n) w h e = All-got P l.watches n w h e

pub All-report : (P : Report → Type 0) (reports : List Report) (x : Name) (q : Report) → All P reports → report_in reports x ≡ Some q → P q
All-report P [] x q h e = absurd cc
All-report P (r ∷ reports) x q h e = elim (first_or_later (same_name r.name x) r (report_in reports x) q e) [
  | inl here ↦ subst P here (All-head P r reports h)
  | inr later ↦ All-report P reports x q (All-tail P r reports h) later
]

pub All-before : {A : Type 0} (P : A → Type 0) (xs : List A) (x : A) → All P (xs ++ x ∷ []) → All P xs × P x
All-before P [] x h = (All-nil P, All-head P x [] h)
All-before P (y ∷ xs) x h =
    let rest = All-before P xs x (All-tail P y (xs ++ x ∷ []) h) in
    (All-cons P y xs (All-head P y (xs ++ x ∷ []) h) rest.0, rest.1)

-- a typed call is of the report with the name
pub fit_of : (book : Book) (reports : List Report) (x : Name) (args : List Expression) (q : Report) → IsTypedCall book reports x args →
    report_in reports x ≡ Some q → Fit book.declared [] q.params args
fit_of book reports x args q call e =
    let same : call.report ≡ q = some_one call.report q (sym call.found ∙ e) in
    subst (λ r. Fit book.declared [] r.params args) same call.fit
  where
    some_one : {A : Type 0} (a b : A) → Some a ≡ Some b → a ≡ b
    some_one a b k = cc
