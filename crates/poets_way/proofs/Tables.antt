-- Tables of ways: what a number stands for, and that it stays where the table grows.
use Rattle.std.proofs.Common.{◌≡◌, ℕ, zero, suc, ◌+◌, ◌<◌, ◌≤◌, arith, Bool, true, false, List, [], ◌∷◌, ◌++◌, length, get_or, slice_get, Some, refl, sym, ◌∙◌, ap, ap₂, subst, length-append}
use Rattle.std.proofs.Math.ListN.{get_or-append}
use Rattle.std.proofs.Math.Seq.{get_or-append_seam}
use Rattle.poets_way.specs.Way.{Way}
use Rattle.poets_way.specs.Way as W
use Rattle.poets_way.specs.Trails.{TrailsView, seconds, way_at, sides_at, way_of_node, with_way, with_node, with_sides, NamesBelow, grown, grown_sides, sides_of, trails_of}
use Rattle.poets_way.specs.code.Table.{HaveCounts, IsTable, NodesAreEarlier, RestsAreEarlier}
use Rattle.poets_way.specs.declared.node.Node.{Node}
use Rattle.poets_way.specs.declared.node.Node.TheVariants as N
use Rattle.poets_way.specs.declared.node.Side.{Side}

-- ---- lists of sides

-- the list of a row, from the lists before it
abbrev list_of : List (List Bool) → Side → List Bool
list_of lists s = s.second ∷ get_or lists s.rest []

length-grown_sides : (lists : List (List Bool)) (rows : List Side) → length (grown_sides lists rows) ≡ length lists + length rows
length-grown_sides lists [] = omega arith
length-grown_sides lists (s ∷ rows) =
    let h = length-grown_sides (lists ++ list_of lists s ∷ []) rows in omega (arith, h, length-append lists (list_of lists s ∷ []))

grown_sides-append : (lists : List (List Bool)) (rs ss : List Side) → grown_sides lists (rs ++ ss) ≡ grown_sides (grown_sides lists rs) ss
grown_sides-append lists [] ss = refl
grown_sides-append lists (r ∷ rs) ss = grown_sides-append (lists ++ list_of lists r ∷ []) rs ss

-- what stands stays
grown_sides-old : (lists : List (List Bool)) (rows : List Side) (i : ℕ) → i < length lists → get_or (grown_sides lists rows) i [] ≡ get_or lists i []
grown_sides-old lists [] i h = refl
grown_sides-old lists (r ∷ rows) i h =
    grown_sides-old (lists ++ list_of lists r ∷ []) rows i (omega (arith, h, length-append lists (list_of lists r ∷ [])))
    ∙ get_or-append lists (list_of lists r ∷ []) [] i h

-- a row is a side in front of an earlier list
grown_sides-at : (lists : List (List Bool)) (rows : List Side) (n i : ℕ) (s : Side) → length lists ≡ n → RestsAreEarlier n rows → slice_get rows i ≡ Some s →
    (get_or (grown_sides lists rows) (n + i) [] ≡ list_of (grown_sides lists rows) s) × (s.rest < n + i)
grown_sides-at lists [] n i s l h e = absurd cc
grown_sides-at lists (r ∷ rows) n zero s l h e =
    let same : r ≡ s = cc in
    let all = grown_sides lists (r ∷ rows) in
    let place : n + 0 ≡ length lists = omega (arith, l) in
    let made : get_or all (length lists) [] ≡ list_of lists r =
    grown_sides-old (lists ++ list_of lists r ∷ []) rows (length lists) (omega (arith, length-append lists (list_of lists r ∷ [])))
    ∙ get_or-append_seam lists (list_of lists r) [] [] in
    let rest : get_or all r.rest [] ≡ get_or lists r.rest [] = grown_sides-old lists (r ∷ rows) r.rest (omega (arith, h.0, l)) in
    subst (λ (u : Side). (get_or all (n + 0) [] ≡ list_of all u) × (u.rest < n + 0)) same
    (ap (λ k. get_or all k []) place ∙ made ∙ ap (λ u. r.second ∷ u) (sym rest), omega (arith, h.0))
grown_sides-at lists (r ∷ rows) n (suc i) s l h e =
    let all = grown_sides lists (r ∷ rows) in
    let place : n + 1 + i ≡ n + suc i = omega arith in
    subst (λ k. (get_or all k [] ≡ list_of all s) × (s.rest < k)) place
    (grown_sides-at (lists ++ list_of lists r ∷ []) rows (n + 1) i s (omega (arith, l, length-append lists (list_of lists r ∷ []))) h.1 e)

pub rests-push : (n : ℕ) (rows : List Side) (s : Side) → RestsAreEarlier n rows → s.rest < n + length rows → RestsAreEarlier n (rows ++ s ∷ [])
rests-push n [] s h l = (omega (arith, l), tt)
rests-push n (r ∷ rows) s h l = (h.0, rests-push (n + 1) rows s h.1 (omega (arith, l)))

pub length-sides : (rows : List Side) → length (sides_of rows) ≡ length rows + 1
length-sides rows = let h = length-grown_sides ([] ∷ []) rows in omega (arith, h)

pub sides-push : (rows : List Side) (s : Side) → sides_of (rows ++ s ∷ []) ≡ sides_of rows ++ list_of (sides_of rows) s ∷ []
sides-push rows s = grown_sides-append ([] ∷ []) rows (s ∷ [])

pub no_sides : (rows : List Side) → get_or (sides_of rows) 0 [] ≡ []
no_sides rows = grown_sides-old ([] ∷ []) rows 0 (omega arith)

pub sides-at : (rows : List Side) → RestsAreEarlier 1 rows → (i : ℕ) (s : Side) → slice_get rows i ≡ Some s →
    (get_or (sides_of rows) (1 + i) [] ≡ list_of (sides_of rows) s) × (s.rest < 1 + i)
sides-at rows h i s e = grown_sides-at ([] ∷ []) rows 1 i s refl h e

-- ---- how many are second ones

pub counts-push : (lists : List (List Bool)) (rows : List Side) (s : Side) → HaveCounts lists rows →
    s.seconds ≡ seconds (list_of (grown_sides lists rows) s) → HaveCounts lists (rows ++ s ∷ [])
counts-push lists [] s h e = (e, tt)
counts-push lists (r ∷ rows) s h e = (h.0, counts-push (lists ++ list_of lists r ∷ []) rows s h.1 e)

grown_sides-count : (lists : List (List Bool)) (rows : List Side) (n i : ℕ) (s : Side) → length lists ≡ n → HaveCounts lists rows → slice_get rows i ≡ Some s →
    s.seconds ≡ seconds (get_or (grown_sides lists rows) (n + i) [])
grown_sides-count lists [] n i s l h e = absurd cc
grown_sides-count lists (r ∷ rows) n zero s l h e =
    let same : r ≡ s = cc in
    let place : length lists ≡ n + 0 = omega (arith, l) in
    let made : get_or (grown_sides lists (r ∷ rows)) (length lists) [] ≡ list_of lists r =
    grown_sides-old (lists ++ list_of lists r ∷ []) rows (length lists) (omega (arith, length-append lists (list_of lists r ∷ [])))
    ∙ get_or-append_seam lists (list_of lists r) [] [] in
    subst (λ (u : Side). u.seconds ≡ seconds (get_or (grown_sides lists (r ∷ rows)) (n + 0) [])) same
    (h.0 ∙ ap seconds (sym made) ∙ ap (λ k. seconds (get_or (grown_sides lists (r ∷ rows)) k [])) place)
grown_sides-count lists (r ∷ rows) n (suc i) s l h e =
    let place : n + 1 + i ≡ n + suc i = omega arith in
    subst (λ k. s.seconds ≡ seconds (get_or (grown_sides lists (r ∷ rows)) k [])) place
    (grown_sides-count (lists ++ list_of lists r ∷ []) rows (n + 1) i s (omega (arith, l, length-append lists (list_of lists r ∷ []))) h.1 e)

pub sides-count_at : (rows : List Side) → HaveCounts ([] ∷ []) rows → (i : ℕ) (s : Side) → slice_get rows i ≡ Some s →
    s.seconds ≡ seconds (get_or (sides_of rows) (1 + i) [])
sides-count_at rows h i s e = grown_sides-count ([] ∷ []) rows 1 i s refl h e

-- each list has at most as many as its number; the first list has the given number
abbrev AreFew : ℕ → List (List Bool) → Type 0
AreFew n [] = Unit {0}
AreFew n (x ∷ lists) = (seconds x ≤ n) × AreFew (n + 1) lists

few-push : (n : ℕ) (lists : List (List Bool)) (x : List Bool) → AreFew n lists → seconds x ≤ n + length lists → AreFew n (lists ++ x ∷ [])
few-push n [] x h l = (omega (arith, l), tt)
few-push n (y ∷ lists) x h l = (h.0, few-push (n + 1) lists x h.1 (omega (arith, l)))

few-at : (n : ℕ) (lists : List (List Bool)) (i : ℕ) → AreFew n lists → seconds (get_or lists i []) ≤ n + i
few-at n [] i h = omega arith
few-at n (x ∷ lists) zero h = let few = h.0 in omega (arith, few)
few-at n (x ∷ lists) (suc i) h = let few = few-at (n + 1) lists i h.1 in omega (arith, few)

seconds-more : (second : Bool) (sides : List Bool) → seconds (second ∷ sides) ≤ seconds sides + 1
seconds-more true sides = omega arith
seconds-more false sides = omega arith

few-grown : (lists : List (List Bool)) (rows : List Side) (n : ℕ) → length lists ≡ n → RestsAreEarlier n rows → AreFew 0 lists → AreFew 0 (grown_sides lists rows)
few-grown lists [] n l h few = few
few-grown lists (r ∷ rows) n l h few =
    let more = seconds-more r.second (get_or lists r.rest []) in
    let rest = few-at 0 lists r.rest few in
    let earlier = h.0 in
    few-grown (lists ++ list_of lists r ∷ []) rows (n + 1) (omega (arith, l, length-append lists (list_of lists r ∷ []))) h.1
    (few-push 0 lists (list_of lists r) few (omega (arith, more, rest, earlier, l)))

pub sides-few : (rows : List Side) → RestsAreEarlier 1 rows → (i : ℕ) → seconds (get_or (sides_of rows) i []) ≤ i
sides-few rows h i = let few = few-at 0 (sides_of rows) i (few-grown ([] ∷ []) rows 1 refl h (omega arith, tt)) in omega (arith, few)

-- ---- ways

grown-sides : (t : TrailsView) (nodes : List Node) → (grown t nodes).sides ≡ t.sides
grown-sides t [] = refl
grown-sides t (n ∷ nodes) = grown-sides (with_node t n) nodes

length-grown : (t : TrailsView) (nodes : List Node) → length (grown t nodes).ways ≡ length t.ways + length nodes
length-grown t [] = omega arith
length-grown t (n ∷ nodes) = let h = length-grown (with_node t n) nodes in omega (arith, h, length-append t.ways (way_of_node t n ∷ []))

grown-append : (t : TrailsView) (ms ns : List Node) → grown t (ms ++ ns) ≡ grown (grown t ms) ns
grown-append t [] ns = refl
grown-append t (m ∷ ms) ns = grown-append (with_node t m) ms ns

grown-old : (t : TrailsView) (nodes : List Node) (i : ℕ) → i < length t.ways → way_at (grown t nodes) i ≡ way_at t i
grown-old t [] i h = refl
grown-old t (n ∷ nodes) i h =
    grown-old (with_node t n) nodes i (omega (arith, h, length-append t.ways (way_of_node t n ∷ [])))
    ∙ get_or-append t.ways (way_of_node t n ∷ []) W.Nothing i h

-- a node's way depends on those that it names alone
way-alike : (t u : TrailsView) (n k : ℕ) → ((i : ℕ) → i < n → way_at t i ≡ way_at u i) → ((i : ℕ) → i < k → sides_at t i ≡ sides_at u i) →
    (node : Node) → NamesBelow n k node → way_of_node t node ≡ way_of_node u node
way-alike t u n k f g N.Nothing h = refl
way-alike t u n k f g (N.Enter w) h = ap W.Enter (f w h)
way-alike t u n k f g (N.Take w) h = ap W.Take (f w h)
way-alike t u n k f g (N.Left w) h = ap W.Left (f w h)
way-alike t u n k f g (N.Right w) h = ap W.Right (f w h)
way-alike t u n k f g (N.Both s v w) h =
    ap (λ x. W.Both x (way_at t v) (way_at t w)) (g s h.0) ∙ ap₂ (W.Both (sides_at u s)) (f v h.1) (f w h.2)
way-alike t u n k f g (N.Then m v w) h = ap₂ (W.Then m) (f v h.0) (f w h.1)

grown-at : (t : TrailsView) (nodes : List Node) (n i : ℕ) (node : Node) → length t.ways ≡ n → NodesAreEarlier n (length t.sides) nodes →
    slice_get nodes i ≡ Some node →
    (way_at (grown t nodes) (n + i) ≡ way_of_node (grown t nodes) node) × NamesBelow (n + i) (length t.sides) node
grown-at t [] n i node l h e = absurd cc
grown-at t (m ∷ nodes) n zero node l h e =
    let same : m ≡ node = cc in
    let all = grown t (m ∷ nodes) in
    let place : length t.ways ≡ n + 0 = omega (arith, l) in
    let made : way_at all (length t.ways) ≡ way_of_node t m =
    grown-old (with_node t m) nodes (length t.ways) (omega (arith, length-append t.ways (way_of_node t m ∷ [])))
    ∙ get_or-append_seam t.ways (way_of_node t m) [] W.Nothing in
    let names : NamesBelow (length t.ways) (length t.sides) m = subst (λ k. NamesBelow k (length t.sides) m) (sym l) h.0 in
    let later : way_of_node t m ≡ way_of_node all m =
    way-alike t all (length t.ways) (length t.sides) (λ j b. sym (grown-old t (m ∷ nodes) j b))
    (λ j b. sym (ap (λ lists. get_or lists j []) (grown-sides t (m ∷ nodes)))) m names in
    subst (λ u. (way_at all (n + 0) ≡ way_of_node all u) × NamesBelow (n + 0) (length t.sides) u) same
    (subst (λ k. (way_at all k ≡ way_of_node all m) × NamesBelow k (length t.sides) m) place (made ∙ later, names))
grown-at t (m ∷ nodes) n (suc i) node l h e =
    let all = grown t (m ∷ nodes) in
    let place : n + 1 + i ≡ n + suc i = omega arith in
    subst (λ k. (way_at all k ≡ way_of_node all node) × NamesBelow k (length t.sides) node) place
    (grown-at (with_node t m) nodes (n + 1) i node (omega (arith, l, length-append t.ways (way_of_node t m ∷ []))) h.1 e)

pub nodes-push : (n k : ℕ) (nodes : List Node) (node : Node) → NodesAreEarlier n k nodes → NamesBelow (n + length nodes) k node →
    NodesAreEarlier n k (nodes ++ node ∷ [])
nodes-push n k [] node h l = let place : n + 0 ≡ n = omega arith in (subst (λ m. NamesBelow m k node) place l, tt)
nodes-push n k (m ∷ nodes) node h l =
    let place : n + suc (length nodes) ≡ n + 1 + length nodes = omega arith in
    (h.0, nodes-push (n + 1) k nodes node h.1 (subst (λ j. NamesBelow j k node) place l))

-- with more lists of sides than there were
names-more : (n k : ℕ) (node : Node) → NamesBelow n k node → NamesBelow n (k + 1) node
names-more n k N.Nothing h = h
names-more n k (N.Enter w) h = h
names-more n k (N.Take w) h = h
names-more n k (N.Left w) h = h
names-more n k (N.Right w) h = h
names-more n k (N.Both s v u) h = (omega (arith, h.0), h.1, h.2)
names-more n k (N.Then m v u) h = h

pub nodes-more : (n k : ℕ) (nodes : List Node) → NodesAreEarlier n k nodes → NodesAreEarlier n (k + 1) nodes
nodes-more n k [] h = h
nodes-more n k (m ∷ nodes) h = (names-more n k m h.0, nodes-more (n + 1) k nodes h.1)

grown-more : (ways : List Way) (lists : List (List Bool)) (x : List Bool) (n : ℕ) (nodes : List Node) → NodesAreEarlier n (length lists) nodes →
    grown (record { ways = ways; sides = lists ++ x ∷ [] }) nodes ≡ with_sides (grown (record { ways = ways; sides = lists }) nodes) x
grown-more ways lists x n [] h = refl
grown-more ways lists x n (m ∷ nodes) h =
    let t : TrailsView = record { ways = ways; sides = lists } in
    let u : TrailsView = record { ways = ways; sides = lists ++ x ∷ [] } in
    let same : way_of_node u m ≡ way_of_node t m =
    way-alike u t n (length lists) (λ i b. refl) (λ i b. get_or-append lists (x ∷ []) [] i b) m h.0 in
    ap (λ w. grown (with_way u w) nodes) same ∙ grown-more (ways ++ way_of_node t m ∷ []) lists x (n + 1) nodes h.1

-- ---- the table

module _ (nodes : List Node) (rows : List Side) where
  abbrev empty : TrailsView
  empty = record { ways = []; sides = sides_of rows }

  pub ways-count : length (trails_of nodes rows).ways ≡ length nodes
  ways-count = let h = length-grown empty nodes in omega (arith, h)

  pub sides-are : (trails_of nodes rows).sides ≡ sides_of rows
  sides-are = grown-sides empty nodes

  pub sides-count : length (trails_of nodes rows).sides ≡ length rows + 1
  sides-count = ap length sides-are ∙ length-sides rows

  pub with-node : (node : Node) → trails_of (nodes ++ node ∷ []) rows ≡ with_node (trails_of nodes rows) node
  with-node node = grown-append empty nodes (node ∷ [])

  pub with-side : (s : Side) → IsTable nodes rows → trails_of nodes (rows ++ s ∷ []) ≡ with_sides (trails_of nodes rows) (s.second ∷ sides_at (trails_of nodes rows) s.rest)
  with-side s h =
      let x = list_of (sides_of rows) s in
      let below = subst (λ k. NodesAreEarlier 0 k nodes) (sym (length-sides rows)) h.0 in
      ap (λ lists. grown (record { ways = []; sides = lists }) nodes) (sides-push rows s) ∙ grown-more [] (sides_of rows) x 0 nodes below
      ∙ ap (λ lists. with_sides (trails_of nodes rows) (s.second ∷ get_or lists s.rest [])) (sym sides-are)

  pub node-at : IsTable nodes rows → (i : ℕ) (node : Node) → slice_get nodes i ≡ Some node →
      (way_at (trails_of nodes rows) i ≡ way_of_node (trails_of nodes rows) node) × NamesBelow i (length rows + 1) node
  node-at h i node e =
      let below = subst (λ k. NodesAreEarlier 0 k nodes) (sym (length-sides rows)) h.0 in
      let r = grown-at empty nodes 0 i node refl below e in
      let place : 0 + i ≡ i = omega arith in
      subst (λ k. (way_at (trails_of nodes rows) k ≡ way_of_node (trails_of nodes rows) node) × NamesBelow k (length rows + 1) node) place
      (r.0, subst (λ k. NamesBelow (0 + i) k node) (length-sides rows) r.1)
