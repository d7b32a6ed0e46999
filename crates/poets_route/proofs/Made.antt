-- Ways that are made in a table stay in it.
use Rattle.std.proofs.Common.{◌≡◌, ℕ, ◌+◌, ◌<◌, arith, Bool, List, [], ◌∷◌, ◌++◌, length, get_or, refl, sym, ◌∙◌, ap, subst, append_assoc, append-nil, length-append, Result, Ok, Err, Option, Some, None, IfOk, OnOk, IfNone}
use Rattle.std.proofs.Math.ListN.{get_or-append}
use Rattle.std.proofs.Math.Seq.{get_or-append_seam}
use Rattle.poets_way.specs.Way.{Way}
use Rattle.poets_way.specs.Way as W
use Rattle.poets_way.specs.Trails.{TrailsView, way_at, sides_at, with_way, with_sides, with_node, way_of_node}
use Rattle.poets_way.specs.declared.node.Node.{Node}
use Rattle.poets_route.specs.code.Making.{Grew, Makes, MakesSides, Gives}

-- tables that grow
pub grew_not : (t : TrailsView) → Grew t t
grew_not t = record { ways = ([], sym (append-nil t.ways)); sides = ([], sym (append-nil t.sides)) }

more_twice : {A : Type 0} (a b c : List A) → (m : List A) × (b ≡ a ++ m) → (m : List A) × (c ≡ b ++ m) → (m : List A) × (c ≡ a ++ m)
more_twice a b c x y = (x.0 ++ y.0, y.1 ∙ ap (λ z. z ++ y.0) x.1 ∙ append_assoc a x.0 y.0)

pub grew_twice : {t u v : TrailsView} → Grew t u → Grew u v → Grew t v
grew_twice {t} {u} {v} x y = record {
  ways = more_twice t.ways u.ways v.ways x.ways y.ways;
  sides = more_twice t.sides u.sides v.sides x.sides y.sides;
}

pub grew_way : (t : TrailsView) (w : Way) → Grew t (with_way t w)
grew_way t w = record { ways = (w ∷ [], refl); sides = ([], sym (append-nil t.sides)) }

pub grew_sides : (t : TrailsView) (sides : List Bool) → Grew t (with_sides t sides)
grew_sides t sides = record { ways = ([], sym (append-nil t.ways)); sides = (sides ∷ [], refl) }

-- numbers stay below the length
longer : {A : Type 0} (a b : List A) → (m : List A) × (b ≡ a ++ m) → (k : ℕ) → k < length a → k < length b
longer a b x k h = omega (arith, ap length x.1, length-append a x.0, h)

pub within_later : {t u : TrailsView} → Grew t u → (k : ℕ) → k < length t.ways → k < length u.ways
within_later {t} {u} x k h = longer t.ways u.ways x.ways k h

pub sides_within_later : {t u : TrailsView} → Grew t u → (k : ℕ) → k < length t.sides → k < length u.sides
sides_within_later {t} {u} x k h = longer t.sides u.sides x.sides k h

-- and keep what they stand for
pub way_later : {t u : TrailsView} → Grew t u → (k : ℕ) → k < length t.ways → way_at u k ≡ way_at t k
way_later {t} {u} x k h = ap (λ ws. get_or ws k W.Nothing) x.ways.1 ∙ get_or-append t.ways x.ways.0 W.Nothing k h

pub sides_later : {t u : TrailsView} → Grew t u → (k : ℕ) → k < length t.sides → sides_at u k ≡ sides_at t k
sides_later {t} {u} x k h = ap (λ ws. get_or ws k []) x.sides.1 ∙ get_or-append t.sides x.sides.0 [] k h

-- what was made is there later, and what is made later is made since
pub made_later : {t u v : TrailsView} {k : ℕ} {Is : Way → Type 0} → Makes t u k Is → Grew u v → Makes t v k Is
made_later {t} {u} {v} {k} {Is} m x = record {
  grew = grew_twice m.grew x;
  within = within_later x k m.within;
  made = subst Is (sym (way_later x k m.within)) m.made;
}

pub made_since : {t u v : TrailsView} {k : ℕ} {Is : Way → Type 0} → Grew t u → Makes u v k Is → Makes t v k Is
made_since x m = record { grew = grew_twice x m.grew; within = m.within; made = m.made }

pub made_as : {t u : TrailsView} {k : ℕ} {Is IsToo : Way → Type 0} → Makes t u k Is → ((w : Way) → Is w → IsToo w) → Makes t u k IsToo
made_as {t} {u} {k} m f = record { grew = m.grew; within = m.within; made = f (way_at u k) m.made }

-- a way that is there already
pub made_there : (t : TrailsView) (k : ℕ) (Is : Way → Type 0) → k < length t.ways → Is (way_at t k) → Makes t t k Is
made_there t k Is h i = record { grew = grew_not t; within = h; made = i }

pub sides_made_later : {t u v : TrailsView} {k : ℕ} {Are : List Bool → Type 0} → MakesSides t u k Are → Grew u v → MakesSides t v k Are
sides_made_later {t} {u} {v} {k} {Are} m x = record {
  grew = grew_twice m.grew x;
  within = sides_within_later x k m.within;
  made = subst Are (sym (sides_later x k m.within)) m.made;
}

-- the last item
last_within : {A : Type 0} (xs : List A) (x : A) (n : ℕ) → n ≡ length xs → n < length (xs ++ x ∷ [])
last_within xs x n e = omega (arith, length-append xs (x ∷ []), e)

last_is : {A : Type 0} (xs : List A) (x d : A) (n : ℕ) → n ≡ length xs → get_or (xs ++ x ∷ []) n d ≡ x
last_is xs x d n e = ap (λ k. get_or (xs ++ x ∷ []) k d) e ∙ get_or-append_seam xs x [] d

-- the way of a node is put at the end
pub made_node : {t u v : TrailsView} {r : ℕ} (node : Node) (Is : Way → Type 0) → Grew t u → r ≡ length u.ways → v ≡ with_node u node →
    Is (way_of_node u node) → Makes t v r Is
made_node {t} {u} {v} {r} node Is x number new is =
    let w = way_of_node u node in
    subst (λ z. Makes t z r Is) (sym new) (record {
      grew = grew_twice x (grew_way u w);
      within = last_within u.ways w r number;
      made = subst Is (sym (last_is u.ways w W.Nothing r number)) is;
    })

-- and so are sides
pub made_sides : {t u v : TrailsView} {r : ℕ} (sides : List Bool) (Are : List Bool → Type 0) → Grew t u → r ≡ length u.sides → v ≡ with_sides u sides →
    Are sides → MakesSides t v r Are
made_sides {t} {u} {v} {r} sides Are x number new are =
    subst (λ z. MakesSides t z r Are) (sym new) (record {
      grew = grew_twice x (grew_sides u sides);
      within = last_within u.sides sides r number;
      made = subst Are (sym (last_is u.sides sides [] r number)) are;
    })

-- the same of what a call gives
pub node_made : {E : Type 0} (t u v : TrailsView) (result : Result ℕ E) (node : Node) (Is : Way → Type 0) → Grew t u →
    IfOk result (λ n. n ≡ length u.ways) → OnOk result (v ≡ with_node u node) → Is (way_of_node u node) → Gives t v result Is
node_made t u v (Ok r) node Is x number new is = made_node node Is x number new is
node_made t u v (Err e) node Is x number new is = tt

-- what a call gives of a table that grew, of which something else is known
pub given_since : {E : Type 0} (t u v : TrailsView) (result : Result ℕ E) (Is IsToo : Way → Type 0) → Grew t u → Gives u v result Is →
    ((w : Way) → Is w → IsToo w) → Gives t v result IsToo
given_since t u v (Ok r) Is IsToo x g f = made_since x (made_as g f)
given_since t u v (Err e) Is IsToo x g f = tt

pub given_as : {E : Type 0} (t u : TrailsView) (result : Result ℕ E) (Is IsToo : Way → Type 0) → Gives t u result Is → ((w : Way) → Is w → IsToo w) →
    Gives t u result IsToo
given_as t u result Is IsToo g f = given_since t t u result Is IsToo (grew_not t) g f

-- what an option says where it is none
pub none_as : {A P Q : Type 0} (o : Option A) → (P → Q) → IfNone o P → IfNone o Q
none_as None f h = f h
none_as (Some x) f h = h

-- a way of two that were made one after the other
module _ (t u v : TrailsView) (n r : ℕ) (P Q : Way → Type 0) (m : Makes t u n P) (k : Makes u v r Q) where
  pub two_made : {E : Type 0} (w : TrailsView) (result : Result ℕ E) (node : Node) (Is : Way → Type 0) → IfOk result (λ k. k ≡ length v.ways) →
      OnOk result (w ≡ with_node v node) → (P (way_at v n) → Q (way_at v r) → Is (way_of_node v node)) → Gives t w result Is
  two_made w result node Is number new f =
      node_made t v w result node Is (grew_twice m.grew k.grew) number new (f (made_later {t = t} {u = u} {v = v} {k = n} {Is = P} m k.grew).made k.made)
