-- The rows of applications in unguarded positions, noted one after the other.
use Rattle.std.proofs.Common.{◌≡◌, ◌<◌, ℕ, Bool, true, false, ◌||◌, nat_eq, arith, List, [], ◌∷◌, ◌++◌, length, map, refl, sym, ◌∙◌, ap, if◌then◌else◌, append-nil, eqb-true, inl, inr}
use Rattle.std.specs.List.{All, list_any}
use Rattle.std.proofs.lemmas.Bool.{or_left, or_right}
use Rattle.std.proofs.lemmas.List.{map-append}
use Rattle.std.proofs.lemmas.List.Elements.{All-push}
use Rattle.std.proofs.lemmas.List.Folds.{list_any-append}
use Rattle.indexmap.specs.IndexSet.{insert_key}
use Rattle.poets_value.specs.declared.value.Name.{Name}
use Rattle.poets_expr.specs.Expression.{Expression}
use Rattle.poets_syntax.specs.Contract.{Contract, App}
use Rattle.poets_syntax.specs.Same.{same_contract}
use Rattle.poets_syntax.proofs.Replacing.{truth}
use Rattle.poets_meaning.specs.Marks.{nullable}
use Rattle.poets_meaning.specs.Spread.{exposed}
use Rattle.poets_meaning.specs.Studied.{StudiedBook, marks_of}
use Rattle.poets_cons.specs.declared.node.Node.{Node}
use Rattle.poets_cons.specs.Row.{row_of, contract_by}
use Rattle.poets_cons.specs.Table.{contract_at}
use Rattle.poets_residue.specs.code.Limits.{stands_among, AddsExposed}

or_not : (x : Bool) → (x || false) ≡ x
or_not true = refl
or_not false = refl

or_grouped : (x y z : Bool) → ((x || y) || z) ≡ (x || (y || z))
or_grouped true y z = refl
or_grouped false y z = refl

-- what is known already adds nothing
or_known : (x y : Bool) → (y ≡ true → x ≡ true) → x ≡ (x || y)
or_known true y h = refl
or_known false true h = h refl
or_known false false h = refl

module _ (s : StudiedBook) (nodes : List Node) where
  abbrev exposed_at : ℕ → List Contract
  exposed_at place = exposed (marks_of s) (contract_at nodes place)

  -- what is exposed in a row, from its node
  pub node_exposed : (place : ℕ) {node form : Node} → contract_at nodes place ≡ contract_by (contract_at nodes) (row_of node) → node ≡ form →
      exposed_at place ≡ exposed (marks_of s) (contract_by (contract_at nodes) (row_of form))
  node_exposed place e is = ap (exposed (marks_of s)) (e ∙ ap (λ n. contract_by (contract_at nodes) (row_of n)) is)

  -- the second of two in sequence stands in an unguarded position where the first may end
  pub seq_exposed : (place a b : ℕ) {v : Bool} →
      exposed_at place ≡ exposed_at a ++ (if nullable (marks_of s) (contract_at nodes a) then exposed_at b else []) →
      nullable (marks_of s) (contract_at nodes a) ≡ v → exposed_at place ≡ exposed_at a ++ (if v then exposed_at b else [])
  seq_exposed place a b e h = e ∙ ap (λ w. exposed_at a ++ (if w then exposed_at b else [])) h

  pub both_exposed : {place a b : ℕ} {old mid new : List ℕ} → exposed_at place ≡ exposed_at a ++ exposed_at b →
      AddsExposed s nodes a old mid → AddsExposed s nodes b mid new → AddsExposed s nodes place old new
  both_exposed {place} {a} {b} {old} {mid} {new} e x y = record {
    within = λ h. y.within (x.within h);
    among = λ c.
        let first = list_any (same_contract c) (exposed_at a) in
        let second = list_any (same_contract c) (exposed_at b) in
        let whole : list_any (same_contract c) (exposed_at place) ≡ (first || second) =
        ap (list_any (same_contract c)) e ∙ list_any-append (same_contract c) (exposed_at a) (exposed_at b) in
        y.among c ∙ ap (λ v. v || second) (x.among c) ∙ or_grouped (stands_among nodes old c) first second
        ∙ ap (λ v. stands_among nodes old c || v) (sym whole);
  }

  pub first_exposed : {place a : ℕ} {old new : List ℕ} → exposed_at place ≡ exposed_at a ++ [] →
      AddsExposed s nodes a old new → AddsExposed s nodes place old new
  first_exposed {place} {a} {old} {new} e x = record {
    within = x.within;
    among = λ c.
        x.among c
        ∙ ap (λ ds. stands_among nodes old c || list_any (same_contract c) ds) (sym (append-nil (exposed_at a)) ∙ sym e);
  }

  -- a row that is there stands among the rows
  there_among : (places : List ℕ) (place : ℕ) (c : Contract) → list_any (nat_eq place) places ≡ true → same_contract c (contract_at nodes place) ≡ true →
      stands_among nodes places c ≡ true
  there_among [] place c e h = absurd cc
  there_among (p ∷ places) place c e h = by (nat_eq place p) refl e (λ k. there_among places place c k h)
    where
      by : (b : Bool) → nat_eq place p ≡ b → (b || list_any (nat_eq place) places) ≡ true → (list_any (nat_eq place) places ≡ true → stands_among nodes places c ≡ true) →
          (same_contract c (contract_at nodes p) || stands_among nodes places c) ≡ true
      by true t k rest = or_left (same_contract c (contract_at nodes p)) (stands_among nodes places c) (ap (λ j. same_contract c (contract_at nodes j)) (sym (eqb-true place p t)) ∙ h)
      by false t k rest = or_right (same_contract c (contract_at nodes p)) (stands_among nodes places c) (rest k)

  inserted_among : (old : List ℕ) (place : ℕ) (c : Contract) →
      stands_among nodes (insert_key nat_eq old place) c ≡ (stands_among nodes old c || same_contract c (contract_at nodes place))
  inserted_among old place c = elim (truth (list_any (nat_eq place) old)) [
    | inl t ↦ rw t (or_known (stands_among nodes old c) (same_contract c (contract_at nodes place)) (λ h. there_among old place c t h))
    | inr t ↦ (
        let last : list_any (same_contract c) (contract_at nodes place ∷ []) ≡ same_contract c (contract_at nodes place) = or_not _ in
        rw t (ap (list_any (same_contract c)) (map-append (contract_at nodes) old (place ∷ []))
        ∙ list_any-append (same_contract c) (map (contract_at nodes) old) (contract_at nodes place ∷ [])
        ∙ ap (λ v. stands_among nodes old c || v) last)
        )
  ]

  all_with : (old : List ℕ) (place : ℕ) → place < length nodes → All (λ k. k < length nodes) old → All (λ k. k < length nodes) (old ++ place ∷ [])
  all_with old place l h = All-push (λ k. k < length nodes) old place h l

  inserted_within : (old : List ℕ) (place : ℕ) → place < length nodes → All (λ k. k < length nodes) old →
      All (λ k. k < length nodes) (insert_key nat_eq old place)
  inserted_within old place l h = elim (truth (list_any (nat_eq place) old)) [
    | inl t ↦ rw t h
    | inr t ↦ rw t (all_with old place l h)
  ]

  pub application_exposed : (place : ℕ) (f : Name) (args : List Expression) (old new : List ℕ) → contract_at nodes place ≡ App f args →
      place < length nodes → new ≡ insert_key nat_eq old place → AddsExposed s nodes place old new
  application_exposed place f args old new e l made = rw made (record {
    within = inserted_within old place l;
    among = λ c.
        let here : list_any (same_contract c) (exposed (marks_of s) (contract_at nodes place)) ≡ same_contract c (contract_at nodes place) =
        ap (λ d. list_any (same_contract c) (exposed (marks_of s) d)) e ∙ or_not (same_contract c (App f args)) ∙ ap (same_contract c) (sym e) in
        inserted_among old place c ∙ ap (λ v. stands_among nodes old c || v) (sym here);
  })

  -- from no rows
  pub from_nothing : (place : ℕ) (old new : List ℕ) → length old ≡ 0 → AddsExposed s nodes place old new → AddsExposed s nodes place [] new
  from_nothing place [] new e h = h
  from_nothing place (k ∷ old) new e h = absurd (omega (arith, e))
