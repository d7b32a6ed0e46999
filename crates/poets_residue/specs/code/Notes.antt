-- What is noted of the rows that were derived.
use Rattle.std.specs.Prelude.{◌≡◌, ◌<◌, ℕ, List, length, Option, Some}
use Rattle.poets_value.specs.declared.event.Event.{Event}
use Rattle.poets_syntax.specs.Plain.{Book}
use Rattle.poets_meaning.specs.Marks.{Marks}
use Rattle.poets_calculus.specs.Residual.{after}
use Rattle.poets_cons.specs.declared.node.Node.{Node}
use Rattle.poets_cons.specs.Table.{contract_at, Stands}

-- each row that is noted has its residual at the row with the number noted
abbrev pub AreNotes : Book → Marks → Event → List Node → (ℕ → Option ℕ) → Type 0
AreNotes book marks e nodes notes =
    (k v : ℕ) → notes k ≡ Some v → (k < length nodes) × Stands nodes v (after book marks e (contract_at nodes k))
