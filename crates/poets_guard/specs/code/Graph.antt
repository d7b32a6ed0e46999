-- The graph of unguarded edges: of each template what its body has in unguarded positions.
use Rattle.std.specs.Prelude.{◌≡◌, ℕ, ◌+◌, Bool, true, false, List, [], ◌∷◌, ◌++◌, Some, option_map}
use Rattle.std.specs.Prelude.{if◌then◌else◌}
use Rattle.std.specs.BTreeMap.{BTreeMap, get}
use Rattle.std.specs.BTreeSet.{BTreeSet, contains}
use Rattle.poets_value.specs.declared.value.Name.{Name}
use Rattle.poets_value.specs.Names.{name_cmp}
use Rattle.poets_expr.specs.Size.{nodes, nodes_of_all}
use Rattle.poets_syntax.specs.Contract.{Contract, contract_of, Success, Failure, Transmit, Plus}
use Rattle.poets_syntax.specs.Contract.{Par, Seq, App}
use Rattle.poets_syntax.specs.Plain.{Template}
use Rattle.poets_syntax.specs.declared.term.Book.{Book}
use Rattle.poets_syntax.specs.declared.term.Term.{Term}
use Rattle.poets_syntax.specs.Book.{book_of, template_in}
use Rattle.poets_syntax.specs.Typed.{is_among}
use Rattle.poets_meaning.specs.Width.{size, cut}
use Rattle.poets_guard.specs.declared.graph.Node.{Node}
use Rattle.poets_guard.specs.code.Endings.{ends}

-- the width of a contract without the bodies of the templates that it applies, where `says` tells
-- the nullable ones
abbrev pub own : (says : Name → Bool) → Contract → ℕ
own says Success = 1
own says Failure = 1
own says (Transmit b p c) = 1 + nodes p + size c
own says (Plus a b) = 1 + own says a + own says b
own says (Par a b) = 1 + own says a + own says b
own says (Seq a b) = 1 + own says a + (if ends false says a then own says b else size b)
own says (App f args) = 1 + nodes_of_all args

-- the names that the contract applies in unguarded positions, each as often as it does
abbrev pub exposures : (says : Name → Bool) → Contract → List Name
exposures says Success = []
exposures says Failure = []
exposures says (Transmit b p c) = []
exposures says (Plus a b) = exposures says a ++ exposures says b
exposures says (Par a b) = exposures says a ++ exposures says b
exposures says (Seq a b) = exposures says a ++ (if ends false says a then exposures says b else [])
exposures says (App f args) = f ∷ []

-- what a node holds, and what it ought to hold of a template
abbrev pub held : Node → ℕ × List Name
held n = (n.own, n.exposed.items)

abbrev pub holding : (says : Name → Bool) → Template → ℕ × List Name
holding says t = (cut (own says t.body), exposures says t.body)

-- each of the templates has its node, and nothing else has one
abbrev pub IsGraph : List Template → (says : Name → Bool) → BTreeMap Name Node → Type 0
IsGraph templates says graph =
    (f : Name) → option_map held (get name_cmp graph f) ≡ option_map (holding says) (template_in templates f)

-- an edge leads from a name to each that its node exposes
abbrev pub HasEdge : BTreeMap Name Node → Name → Name → Type 0
HasEdge graph f g = (n : Node) × (get name_cmp graph f ≡ Some n) × (is_among n.exposed.items g ≡ true)

-- whether the contract of a term may end by no step, where the set has the nullable templates
abbrev pub is_nullable : BTreeSet Name → Term → Bool
is_nullable nullable term = ends false (contains name_cmp nullable) (contract_of term)

-- the width of a term without the bodies of the templates that it applies, where the set has the
-- nullable ones
abbrev pub own_of : BTreeSet Name → Term → ℕ
own_of nullable term = own (contains name_cmp nullable) (contract_of term)

-- the names that a term applies in unguarded positions, each as often as it does, where the set has
-- the nullable ones
abbrev pub exposures_of : BTreeSet Name → Term → List Name
exposures_of nullable term = exposures (contains name_cmp nullable) (contract_of term)

-- the node exposes what it did, and then the names that the term applies in unguarded positions
abbrev pub ExposesMore : BTreeSet Name → Term → (old new : Node) → Type 0
ExposesMore nullable term old new = new.exposed.items ≡ old.exposed.items ++ exposures_of nullable term

-- each template of the book has its node, and nothing else has one
abbrev pub IsGraphOf : Book → BTreeSet Name → BTreeMap Name Node → Type 0
IsGraphOf book nullable graph = IsGraph (book_of book).templates (contains name_cmp nullable) graph
