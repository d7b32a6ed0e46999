-- Which shapes the forms of contracts have.
use Rattle.std.proofs.Common.{◌≡◌, ℕ, ◌<◌, ◌≤◌, arith, List, [], ◌∷◌, ◌++◌, length, map, fold, refl, sym, ◌∙◌, ap, subst, append-nil, append_assoc}
use Rattle.std.specs.List.{AllByRecursion}
use Rattle.poets_value.specs.declared.value.Name.{Name}
use Rattle.poets_expr.specs.Expression.{Expression}
use Rattle.poets_syntax.specs.declared.term.Binders.{Binders}
use Rattle.poets_syntax.specs.Contract.{Contract}
use Rattle.poets_syntax.specs.Contract as C
use Rattle.poets_calculus.specs.Normal.{side_by_side}
use Rattle.poets_cons.specs.Row.{Success, Failure, Transmit, Plus, Par, Seq, App}
use Rattle.poets_calculus.specs.Alike.{parts}
use Rattle.poets_cons.specs.code.Classes.{Shape, Single, Parallel, contract_of_shape, IsSingle, AreSingles, IsShapeAt}

-- the contract is a `||`
abbrev pub IsPar : Contract → Type 0
IsPar c = (x : Contract) × (y : Contract) × (c ≡ C.Par x y)

folded_par : (c : Contract) (cs : List Contract) → IsPar c → IsPar (fold C.Par c cs)
folded_par c [] h = h
folded_par c (d ∷ cs) h = folded_par (C.Par c d) cs (c, d, refl)

-- two contracts or more side by side
pub side_par : (part : ℕ → Contract) (ks : List ℕ) → 2 ≤ length ks → IsPar (side_by_side (map part ks))
side_par part [] l = absurd (omega arith)
side_par part (k ∷ []) l = absurd (omega arith)
side_par part (k ∷ m ∷ ks) l = folded_par (C.Par (part k) (part m)) (map part ks) (part k, part m, refl)

-- the contract of a single shape is its own one part
pub single_parts : (part : ℕ → Contract) (s : Shape) → IsSingle s → parts (contract_of_shape part s) ≡ contract_of_shape part s ∷ []
single_parts part (Single (Par a b)) h = absurd h
single_parts part (Parallel ks) h = absurd h
single_parts part (Single r) h = refl

module _ (part : ℕ → Contract) (shape : ℕ → Shape) (i : ℕ) where
  -- a `||` is no other form
  no_par : {c : Contract} → IsPar c → (d : Contract) → c ≡ d → IsPar d
  no_par h d e = (h.0, h.1, sym e ∙ h.2)

  pub of_success : (s : Shape) → IsShapeAt shape i s → contract_of_shape part s ≡ C.Success → s ≡ Single Success
  of_success (Single Success) h e = refl
  of_success (Parallel ks) h e = let p = no_par (side_par part ks h.0) C.Success e in let q = p.2 in absurd cc
  of_success _ h e = absurd cc

  pub of_failure : (s : Shape) → IsShapeAt shape i s → contract_of_shape part s ≡ C.Failure → s ≡ Single Failure
  of_failure (Single Failure) h e = refl
  of_failure (Parallel ks) h e = let p = no_par (side_par part ks h.0) C.Failure e in let q = p.2 in absurd cc
  of_failure _ h e = absurd cc

  pub of_transmit : (s : Shape) → IsShapeAt shape i s → (b : Binders) (p : Expression) (c : Contract) → contract_of_shape part s ≡ C.Transmit b p c →
      (k : ℕ) × (k < i) × (s ≡ Single (Transmit b p k)) × (c ≡ part k)
  of_transmit (Single (Transmit d q k)) h b p c e =
      let x : d ≡ b = cc in
      let y : q ≡ p = cc in
      (k, h.1, cc, cc)
  of_transmit (Parallel ks) h b p c e = let r = no_par (side_par part ks h.0) (C.Transmit b p c) e in let q = r.2 in absurd cc
  of_transmit _ h b p c e = absurd cc

  pub of_plus : (s : Shape) → IsShapeAt shape i s → (a b : Contract) → contract_of_shape part s ≡ C.Plus a b →
      (k : ℕ) × (m : ℕ) × (k < i) × (m < i) × (s ≡ Single (Plus k m)) × (a ≡ part k) × (b ≡ part m)
  of_plus (Single (Plus k m)) h a b e = (k, m, h.1.0, h.1.1, refl, cc, cc)
  of_plus (Parallel ks) h a b e = let r = no_par (side_par part ks h.0) (C.Plus a b) e in let q = r.2 in absurd cc
  of_plus _ h a b e = absurd cc

  pub of_seq : (s : Shape) → IsShapeAt shape i s → (a b : Contract) → contract_of_shape part s ≡ C.Seq a b →
      (k : ℕ) × (m : ℕ) × (k < i) × (m < i) × (s ≡ Single (Seq k m)) × (a ≡ part k) × (b ≡ part m)
  of_seq (Single (Seq k m)) h a b e = (k, m, h.1.0, h.1.1, refl, cc, cc)
  of_seq (Parallel ks) h a b e = let r = no_par (side_par part ks h.0) (C.Seq a b) e in let q = r.2 in absurd cc
  of_seq _ h a b e = absurd cc

  pub of_app : (s : Shape) → IsShapeAt shape i s → (f : Name) (args : List Expression) → contract_of_shape part s ≡ C.App f args → s ≡ Single (App f args)
  of_app (Single (App g others)) h f args e =
      let x : g ≡ f = cc in
      let y : others ≡ args = cc in
      cc
  of_app (Parallel ks) h f args e = let r = no_par (side_par part ks h.0) (C.App f args) e in let q = r.2 in absurd cc
  of_app _ h f args e = absurd cc

-- parts of contracts side by side that are each one part
module _ (n : ℕ) (part : ℕ → Contract) (shape : ℕ → Shape) (stands : (k : ℕ) → k < n → part k ≡ contract_of_shape part (shape k)) where
  part_parts : (k : ℕ) → k < n → IsSingle (shape k) → parts (part k) ≡ part k ∷ []
  part_parts k l h = ap parts (stands k l) ∙ single_parts part (shape k) h ∙ ap (λ c. c ∷ []) (sym (stands k l))

  parts_folded : (c : Contract) (ks : List ℕ) → AreSingles shape n ks → parts (fold C.Par c (map part ks)) ≡ parts c ++ map part ks
  parts_folded c [] h = sym (append-nil (parts c))
  parts_folded c (k ∷ ks) h =
      parts_folded (C.Par c (part k)) ks h.1
      ∙ ap (λ ps. (parts c ++ ps) ++ map part ks) (part_parts k h.0.0 h.0.1)
      ∙ append_assoc (parts c) (part k ∷ []) (map part ks)

  pub side_parts : (ks : List ℕ) → AreSingles shape n ks → 1 ≤ length ks → parts (side_by_side (map part ks)) ≡ map part ks
  side_parts [] h l = absurd (omega arith)
  side_parts (k ∷ ks) h l = parts_folded (part k) ks h.1 ∙ ap (λ ps. ps ++ map part ks) (part_parts k h.0.0 h.0.1)

-- ---- single classes

-- what follows of each
each_weaker : {X : Type 0} (P Q : X → Type 0) → ((x : X) → P x → Q x) → (xs : List X) → AllByRecursion P xs → AllByRecursion Q xs
each_weaker P Q f [] h = tt
each_weaker P Q f (x ∷ xs) h = (f x h.0, each_weaker P Q f xs h.1)

pub singles_below : (shape : ℕ → Shape) (n : ℕ) (ks : List ℕ) → AreSingles shape n ks → AllByRecursion (λ k. k < n) ks
singles_below shape n ks h = each_weaker (λ k. (k < n) × IsSingle (shape k)) (λ k. k < n) (λ k x. x.0) ks h

-- of more classes, whose shapes are the same as far as both go
pub singles_within : (shape more : ℕ → Shape) (i n : ℕ) (ks : List ℕ) → i ≤ n → ((k : ℕ) → k < i → more k ≡ shape k) → AreSingles shape i ks →
    AreSingles more n ks
singles_within shape more i n ks l same h = each_weaker (λ k. (k < i) × IsSingle (shape k)) (λ k. (k < n) × IsSingle (more k))
    (λ k x. (omega (arith, l, x.0), subst IsSingle (sym (same k x.0)) x.1)) ks h

pub singles_append : (shape : ℕ → Shape) (n : ℕ) (ks ls : List ℕ) → AreSingles shape n ks → AreSingles shape n ls → AreSingles shape n (ks ++ ls)
singles_append shape n [] ls h g = g
singles_append shape n (k ∷ ks) ls h g = (h.0, singles_append shape n ks ls h.1 g)
