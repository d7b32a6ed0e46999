-- The graph of a book has exactly its unguarded edges.
use Rattle.std.proofs.Common.{◌≡◌, Bool, true, false, ◌||◌, List, [], ◌∷◌, ◌++◌, refl, sym, ◌∙◌, ap, subst, Option, Some, None, ◌⊎◌, inl, inr, ◌↔◌}
use Rattle.std.specs.Prelude.{option_map, if◌then◌else◌}
use Rattle.std.specs.BTreeMap.{BTreeMap, get}
use Rattle.std.proofs.lemmas.List.Folds.{list_any-append}
use Rattle.poets_value.specs.declared.value.Name.{Name}
use Rattle.poets_value.specs.Names.{name_cmp}
use Rattle.poets_expr.specs.Env.{same_name}
use Rattle.poets_expr.proofs.SameTrees.{name_one}
use Rattle.poets_syntax.specs.Contract.{Contract}
use Rattle.poets_syntax.specs.Plain.{Book, Template}
use Rattle.poets_syntax.specs.Book.{template_in}
use Rattle.poets_syntax.specs.Applied.{ApplicationsFit, BodiesFit}
use Rattle.poets_syntax.specs.Typed.{is_among}
use Rattle.poets_syntax.proofs.Replacing.{truth}
use Rattle.poets_meaning.specs.Marks.{Nullable, Hopeful}
use Rattle.poets_meaning.specs.Guarded.{Exposes, UnguardedEdge, IsPath}
use Rattle.poets_meaning.proofs.Granting.{May-Perf, Perf-May}
use Rattle.poets_guard.specs.declared.graph.Node.{Node}
use Rattle.poets_guard.specs.code.Endings.{ends, MayEnd, IsExact}
use Rattle.poets_guard.specs.code.Graph.{exposures, held, holding, IsGraph, HasEdge}
use Rattle.poets_guard.proofs.Places.{same_name-self}
use Rattle.poets_guard.proofs.Marking.{either_true, or_second, ends-sound, ends-complete}

-- no granted step, or some number of them
pub MayEnd-nullable : (book : Book) (c : Contract) → MayEnd book false c ↔ Nullable book c
MayEnd-nullable book c = (λ m. May-Perf m.1 (m.2 refl), λ p. (0, Perf-May p, λ _. refl))

pub MayEnd-hopeful : (book : Book) (c : Contract) → MayEnd book true c ↔ Hopeful book c
MayEnd-hopeful book c = (λ m. (m.0, m.1), λ m. (m.0, m.1, λ e. absurd cc))

is_among-append : (xs ys : List Name) (f : Name) → is_among (xs ++ ys) f ≡ (is_among xs f || is_among ys f)
is_among-append xs ys f = list_any-append (same_name f) xs ys

in_first : (xs ys : List Name) (f : Name) → is_among xs f ≡ true → is_among (xs ++ ys) f ≡ true
in_first xs ys f h = is_among-append xs ys f ∙ rw h refl

in_second : (xs ys : List Name) (f : Name) → is_among ys f ≡ true → is_among (xs ++ ys) f ≡ true
in_second xs ys f h = is_among-append xs ys f ∙ or_second (is_among xs f) (is_among ys f) h

in_either : (xs ys : List Name) (f : Name) → is_among (xs ++ ys) f ≡ true → (is_among xs f ≡ true) ⊎ (is_among ys f ≡ true)
in_either xs ys f h = either_true (is_among xs f) (is_among ys f) (sym (is_among-append xs ys f) ∙ h)

module _ (book : Book) (fit : BodiesFit book) (says : Name → Bool) (exact : IsExact book false says) where
  null_in : (c : Contract) → ApplicationsFit book c → ends false says c ≡ true → Nullable book c
  null_in c a h = (MayEnd-nullable book c).0 (ends-sound book false says (λ f. (exact f).0) c a h)

  null_out : (c : Contract) → Nullable book c → ends false says c ≡ true
  null_out c p =
      ends-complete book false says (λ f t i e. (exact f).1 (t, i, ends-sound book false says (λ x. (exact x).0) t.body (fit f t i) e)) (Perf-May p) refl (λ _. refl)

  -- what is exposed is listed
  pub listed : {c : Contract} {g : Name} → Exposes book c g → is_among (exposures says c) g ≡ true
  listed (Exposes.Here {f = f}) = rw (same_name-self f) refl
  listed (Exposes.PlusLeft {c₁ = a} {c₂ = b} {f = g} x) = in_first (exposures says a) (exposures says b) g (listed x)
  listed (Exposes.PlusRight {c₁ = a} {c₂ = b} {f = g} x) = in_second (exposures says a) (exposures says b) g (listed x)
  listed (Exposes.ParLeft {c₁ = a} {c₂ = b} {f = g} x) = in_first (exposures says a) (exposures says b) g (listed x)
  listed (Exposes.ParRight {c₁ = a} {c₂ = b} {f = g} x) = in_second (exposures says a) (exposures says b) g (listed x)
  listed (Exposes.SeqFirst {c₁ = a} {c₂ = b} {f = g} x) = in_first (exposures says a) (if ends false says a then exposures says b else []) g (listed x)
  listed (Exposes.SeqSecond {c₁ = a} {c₂ = b} {f = g} n x) =
      let k = listed x in in_second (exposures says a) (if ends false says a then exposures says b else []) g (rw (null_out a n) k)

  -- what is listed is exposed
  pub exposed : (c : Contract) (g : Name) → ApplicationsFit book c → is_among (exposures says c) g ≡ true → Exposes book c g
  exposed Contract.Success g a h = absurd cc
  exposed Contract.Failure g a h = absurd cc
  exposed (Contract.Transmit b p c) g a h = absurd cc
  exposed (Contract.Plus a b) g l h = elim (in_either (exposures says a) (exposures says b) g h) [
    | inl k ↦ Exposes.PlusLeft (exposed a g l.0 k)
    | inr k ↦ Exposes.PlusRight (exposed b g l.1 k)
  ]
  exposed (Contract.Par a b) g l h = elim (in_either (exposures says a) (exposures says b) g h) [
    | inl k ↦ Exposes.ParLeft (exposed a g l.0 k)
    | inr k ↦ Exposes.ParRight (exposed b g l.1 k)
  ]
  exposed (Contract.Seq a b) g l h = elim (in_either (exposures says a) (if ends false says a then exposures says b else []) g h) [
    | inl k ↦ Exposes.SeqFirst (exposed a g l.0 k)
    | inr k ↦ elim (truth (ends false says a)) [
      | inl e ↦ Exposes.SeqSecond (null_in a l.0 e) (exposed b g l.1 (rw e at k))
      | inr e ↦ (let m : false ≡ true = rw e at k in absurd cc)
    ]
  ]
  exposed (Contract.App f args) g l h = elim (either_true (same_name g f) false h) [
    | inl k ↦ subst (λ x. Exposes book (Contract.App f args) x) (sym (name_one g f k)) Exposes.Here
    | inr k ↦ absurd cc
  ]

  module _ (graph : BTreeMap Name Node) (is : IsGraph book.templates says graph) where
    -- the node of a template
    pub node_in : (f : Name) (o : Option Template) (n : Node) → option_map held (Some n) ≡ option_map (holding says) o →
        (t : Template) × (o ≡ Some t) × (held n ≡ holding says t)
    node_in f None n e = absurd cc
    node_in f (Some t) n e = (t, refl, cc)

    pub node_out : (o : Option Node) (t : Template) → option_map held o ≡ option_map (holding says) (Some t) →
        (n : Node) × (o ≡ Some n) × (held n ≡ holding says t)
    node_out None t e = absurd cc
    node_out (Some n) t e = (n, refl, cc)

    pub edge_in : (f g : Name) → HasEdge graph f g → UnguardedEdge book f g
    edge_in f g e =
        let t = node_in f (template_in book.templates f) e.0 (ap (option_map held) (sym e.1) ∙ is f) in
        (t.0, t.1, exposed t.0.body g (fit f t.0 t.1) (subst (λ xs. is_among xs g ≡ true) (ap (λ p. p.1) t.2) e.2))

    pub edge_out : (f g : Name) → UnguardedEdge book f g → HasEdge graph f g
    edge_out f g e =
        let n = node_out (get name_cmp graph f) e.0 (is f ∙ ap (option_map (holding says)) e.1) in
        (n.0, n.1, subst (λ xs. is_among xs g ≡ true) (sym (ap (λ p. p.1) n.2)) (listed e.2))

-- paths of edges that are also other edges
pub IsPath-alike : (Edge Edge' : Name → Name → Type 0) → ((f g : Name) → Edge f g → Edge' f g) → (f : Name) (names : List Name) (goal : Name) →
    IsPath Edge f names goal → IsPath Edge' f names goal
IsPath-alike Edge Edge' to f [] goal p = to f goal p
IsPath-alike Edge Edge' to f (g ∷ names) goal p = (to f g p.0, IsPath-alike Edge Edge' to g names goal p.1)
