-- The rows of a contract are its different subterms.
use Rattle.std.proofs.Common.{◌≡◌, ℕ, zero, suc, ◌-◌, ◌<◌, Bool, true, false, ◌||◌, arith, List, ◌++◌, length, get_or, refl, sym, ◌∙◌, subst, inl, inr, ◌⊎◌}
use Rattle.std.specs.List.{list_any, IsDistinct}
use Rattle.std.specs.Cmp.{both_ways}
use Rattle.std.proofs.lemmas.List.{length-map}
use Rattle.std.proofs.lemmas.List.Folds.{list_any-append, list_any_at}
use Rattle.std.proofs.lemmas.Option.{slice_get-get_or, get_or_from_slice_get}
use Rattle.std.proofs.lemmas.Map.Keys.{IsDistinct-from_apart}
use Rattle.std.proofs.lemmas.Map.Made.{length-from_keys}
use Rattle.std.proofs.lemmas.Map.Views.{Contains-from_any}
use Rattle.poets_syntax.specs.Contract.{Contract}
use Rattle.poets_syntax.specs.Contract as C
use Rattle.poets_syntax.specs.Same.{same_contract}
use Rattle.poets_syntax.proofs.Replacing.{truth}
use Rattle.poets_syntax.proofs.SameContracts.{contract_one, contract_itself}
use Rattle.poets_cons.specs.declared.node.Node.{Node}
use Rattle.poets_cons.specs.Row.{Row, Success, Failure, Transmit, Plus, Par, Seq, App, row_of, contract_by, IsPart, AreBelow}
use Rattle.poets_cons.specs.code.SameRows.{contract_laws}
use Rattle.poets_cons.specs.Parts.{subterms, subterm_count}
use Rattle.poets_cons.specs.Table.{rows_of, contracts_of, contract_at, contract_of_rows, IsTable, IsRooted, Reached}
use Rattle.poets_cons.proofs.Places.{contract-at, one_place}
use Rattle.poets_cons.proofs.Standing.{length-contracts}

-- whether the contract is a subterm
abbrev In : Contract → Contract → Type 0
In q c = list_any (same_contract q) (subterms c) ≡ true

or_left : (x y : Bool) → x ≡ true → (x || y) ≡ true
or_left x y e = rw e refl

or_right : (x y : Bool) → y ≡ true → (x || y) ≡ true
or_right true y e = refl
or_right false y e = e

or_one : (x y : Bool) → (x || y) ≡ true → (x ≡ true) ⊎ (y ≡ true)
or_one true y e = inl refl
or_one false y e = inr e

in_itself : (c : Contract) → In c c
in_itself C.Success = refl
in_itself C.Failure = refl
in_itself c = or_left _ _ (contract_itself c)

in_two : (q a b : Contract) → In q a ⊎ In q b → list_any (same_contract q) (subterms a ++ subterms b) ≡ true
in_two q a b m =
    let x = list_any (same_contract q) (subterms a) in
    let y = list_any (same_contract q) (subterms b) in
    list_any-append (same_contract q) (subterms a) (subterms b) ∙ elim m [ inl e ↦ or_left x y e | inr e ↦ or_right x y e ]

of_two : (q a b : Contract) → list_any (same_contract q) (subterms a ++ subterms b) ≡ true → In q a ⊎ In q b
of_two q a b e =
    or_one (list_any (same_contract q) (subterms a)) (list_any (same_contract q) (subterms b)) (sym (list_any-append (same_contract q) (subterms a) (subterms b)) ∙ e)

-- a subterm of a part is one of the whole
along : (part : ℕ → Contract) (q : Contract) (a b k : ℕ) → (k ≡ a) ⊎ (k ≡ b) → In q (part k) → In q (part a) ⊎ In q (part b)
along part q a b k m h = elim m [ inl e ↦ inl (subst (λ x. In q (part x)) e h) | inr e ↦ inr (subst (λ x. In q (part x)) e h) ]

in_part : (part : ℕ → Contract) (q : Contract) (r : Row) (k : ℕ) → IsPart r k → In q (part k) → In q (contract_by part r)
in_part part q (Transmit b p c) k m h = or_right _ _ (subst (λ x. In q (part x)) m h)
in_part part q (Plus a b) k m h = or_right _ _ (in_two q (part a) (part b) (along part q a b k m h))
in_part part q (Par a b) k m h = or_right _ _ (in_two q (part a) (part b) (along part q a b k m h))
in_part part q (Seq a b) k m h = or_right _ _ (in_two q (part a) (part b) (along part q a b k m h))
in_part part q _ k m h = absurd m

module _ (nodes : List Node) (table : IsTable nodes) where
  -- what stands at a row that is reached
  reached_in : {p k : ℕ} → Reached (rows_of nodes) p k → (q : Contract) → In q (contract_at nodes k) → In q (contract_at nodes p)
  reached_in Reached.Root q h = h
  reached_in (Reached.Part {i = i} {k = k} {r = r} g e m) q h =
      reached_in g q (subst (In q) (sym (contract-at (rows_of nodes) table.earlier table.distinct i r e)) (in_part (contract_at nodes) q r k m h))

  -- the contract stands at some row
  abbrev Found : Contract → Type 0
  Found q = (k : ℕ) × (k < length nodes) × (same_contract q (contract_at nodes k) ≡ true)

  -- here, or in the rest
  found_or : (q c : Contract) (p : ℕ) (rest : Bool) → p < length nodes → contract_at nodes p ≡ c → (same_contract q c || rest) ≡ true → (rest ≡ true → Found q) → Found q
  found_or q c p rest w made h f = elim (or_one (same_contract q c) rest h) [
    | inl e ↦ (p, w, subst (λ x. same_contract q x ≡ true) (sym made) e)
    | inr e ↦ f e
  ]

  found_row : (q : Contract) (p : ℕ) → p < length nodes → ((k : ℕ) → k < p → In q (contract_at nodes k) → Found q) →
      (r : Row) → contract_at nodes p ≡ contract_by (contract_at nodes) r → AreBelow p r → In q (contract_by (contract_at nodes) r) → Found q
  found_row q p w f Success made b h = found_or q C.Success p false w made h (λ e. absurd cc)
  found_row q p w f Failure made b h = found_or q C.Failure p false w made h (λ e. absurd cc)
  found_row q p w f (Transmit x y c) made b h =
      found_or q (C.Transmit x y (contract_at nodes c)) p (list_any (same_contract q) (subterms (contract_at nodes c))) w made h (f c b)
  found_row q p w f (Plus a c) made b h =
      found_or q (C.Plus (contract_at nodes a) (contract_at nodes c)) p
      (list_any (same_contract q) (subterms (contract_at nodes a) ++ subterms (contract_at nodes c))) w made h
      (λ e. elim (of_two q (contract_at nodes a) (contract_at nodes c) e) [ inl m ↦ f a b.0 m | inr m ↦ f c b.1 m ])
  found_row q p w f (Par a c) made b h =
      found_or q (C.Par (contract_at nodes a) (contract_at nodes c)) p
      (list_any (same_contract q) (subterms (contract_at nodes a) ++ subterms (contract_at nodes c))) w made h
      (λ e. elim (of_two q (contract_at nodes a) (contract_at nodes c) e) [ inl m ↦ f a b.0 m | inr m ↦ f c b.1 m ])
  found_row q p w f (Seq a c) made b h =
      found_or q (C.Seq (contract_at nodes a) (contract_at nodes c)) p
      (list_any (same_contract q) (subterms (contract_at nodes a) ++ subterms (contract_at nodes c))) w made h
      (λ e. elim (of_two q (contract_at nodes a) (contract_at nodes c) e) [ inl m ↦ f a b.0 m | inr m ↦ f c b.1 m ])
  found_row q p w f (App x args) made b h = found_or q (C.App x args) p false w made h (λ e. absurd cc)

  found_below : (n p : ℕ) (q : Contract) → p < n → p < length nodes → In q (contract_at nodes p) → Found q
  found_below zero p q l w h = absurd (omega arith)
  found_below (suc n) p q l w h =
      let r = get_or (rows_of nodes) p Success in
      let e = slice_get-get_or (rows_of nodes) p Success (omega (arith, w, length-map nodes row_of)) in
      let made = contract-at (rows_of nodes) table.earlier table.distinct p r e in
      found_row q p w (λ k m g. found_below n k q (omega arith) (omega arith) g) r made (table.earlier p r e) (subst (In q) made h)

  -- a read within the list, whatever the default is
  read : (i : ℕ) (d : Contract) → i < length (contracts_of nodes) → get_or (contracts_of nodes) i d ≡ contract_at nodes i
  read i d l = sym (get_or_from_slice_get (contracts_of nodes) i (get_or (contracts_of nodes) i d) C.Failure (slice_get-get_or (contracts_of nodes) i d l))

  pub contracts_apart : IsDistinct same_contract (contracts_of nodes)
  contracts_apart = IsDistinct-from_apart same_contract (contracts_of nodes) (λ i j d l m.
      let n = length-contracts nodes in
      let k = length-map nodes row_of in
      elim (truth (same_contract (get_or (contracts_of nodes) i d) (get_or (contracts_of nodes) j d))) [
        | inr e ↦ e
        | inl e ↦ (
            let same = contract_one (get_or (contracts_of nodes) i d) (get_or (contracts_of nodes) j d) e in
            let x = read i d (omega arith) in
            let y = read j d m in
            let z = one_place (rows_of nodes) table.earlier table.distinct i j (omega arith) (omega arith) (sym x ∙ same ∙ y) in
            absurd (omega arith)
            )
      ])

  module _ (root : IsRooted nodes) where
    pub contracts_member : (q : Contract) → list_any (same_contract q) (contracts_of nodes) ≡ list_any (same_contract q) (subterms (contract_of_rows nodes))
    contracts_member q =
        let n = length-contracts nodes in
        both_ways (list_any (same_contract q) (contracts_of nodes)) (list_any (same_contract q) (subterms (contract_of_rows nodes)))
        (λ h.
        let found = Contains-from_any contract_one q (contracts_of nodes) h in
        let here : contract_at nodes found.0 ≡ q = sym (read found.0 q found.1) ∙ found.2 in
        reached_in (root.reached found.0 (omega (arith, n, found.1))) q (subst (In q) (sym here) (in_itself q)))
        (λ h.
        let some = root.some in
        let found = found_below (length nodes) (length nodes - 1) q (omega arith) (omega arith) h in
        list_any_at (same_contract q) (contracts_of nodes) found.0 C.Failure (omega (arith, n, found.1)) found.2)

    pub counted : length nodes ≡ subterm_count (contract_of_rows nodes)
    counted = sym (length-contracts nodes) ∙ length-from_keys contract_laws (contracts_of nodes) (subterms (contract_of_rows nodes)) contracts_apart contracts_member
