-- Marks as they are found.
use Rattle.std.specs.Prelude.{◌≡◌, Bool, Option, IfSome}
use Rattle.std.specs.List.{AllZip}
use Rattle.std.specs.BTreeMap.{BTreeMap}
use Rattle.std.specs.BTreeSet.{BTreeSet, contains}
use Rattle.poets_value.specs.declared.value.Name.{Name}
use Rattle.poets_value.specs.Listed.{Listed}
use Rattle.poets_value.specs.Names.{name_cmp}
use Rattle.poets_syntax.specs.declared.term.Book.{Book}
use Rattle.poets_syntax.specs.declared.term.Template.{Template}
use Rattle.poets_meaning.specs.declared.studied.Mark.{Mark}
use Rattle.poets_guard.specs.declared.graph.Node.{Node}
use Rattle.poets_guard.specs.code.Walks.{HasWidth}

-- a template's mark says what is found of its name
pub record IsMarked (graph : BTreeMap Name Node) (is_nullable is_hopeful : Name → Bool) (t : Template) (m : Mark) :
    Type 0 where
  pub nullable : m.nullable ≡ is_nullable t.name
  pub hopeful : m.hopeful ≡ is_hopeful t.name
  pub wide : HasWidth graph t.name m.wide

-- the marks, if there are any, are those of the book's templates in their order, and say what is
-- found of their names
abbrev pub AreMarksIfAny : Book → (nullable hopeful : BTreeSet Name) → BTreeMap Name Node → Option (Listed Mark) →
    Type 0
AreMarksIfAny book nullable hopeful graph found =
    IfSome found (λ marks.
    AllZip (IsMarked graph (contains name_cmp nullable) (contains name_cmp hopeful)) book.templates.items marks.items)
