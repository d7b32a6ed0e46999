-- Books that were checked.
use Rattle.std.specs.Prelude.{◌≡◌, ◌⊎◌, List, ◌++◌, All, Some, None, map}
use Rattle.std.specs.List.{IsDistinct}
use Rattle.poets_value.specs.declared.value.Name.{Name}
use Rattle.poets_value.specs.declared.value.Ty.{Ty}
use Rattle.poets_value.specs.declared.value.Ty.TheVariants as T
use Rattle.poets_expr.specs.Env.{same_name}
use Rattle.poets_syntax.specs.Plain.{Book}
use Rattle.poets_syntax.specs.Typing.{IsTypedBook}

-- the names of the templates, and those of reports beside them
abbrev pub names_of_templates_and : Book → (reports : List Name) → List Name
names_of_templates_and book reports = map (λ t. t.name) book.templates ++ reports

-- each template is typed, no two templates or reports have one name, and none has the name of an
-- agent or a kind
pub record IsCheckedBook (book : Book) (reports : List Name) : Type 0 where
  pub typed : IsTypedBook book reports
  pub distinct : IsDistinct same_name (names_of_templates_and book reports)
  pub undeclared : All (λ f. book.declared f ≡ None) (names_of_templates_and book reports)
  -- each declared name is an agent or a kind
  pub agent_or_kind : (x : Name) (ty : Ty) → book.declared x ≡ Some ty → (ty ≡ T.Agent) ⊎ (ty ≡ T.Kind)

-- the book is checked beside reports of some names
abbrev pub IsChecked : Book → Type 0
IsChecked book = (reports : List Name) × IsCheckedBook book reports
