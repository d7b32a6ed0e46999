-- What statements declare.
use Rattle.std.specs.Prelude.{◌≡◌, ◌++◌, List, map, None}
use Rattle.std.specs.BTreeMap.{IsOrdered}
use Rattle.std.specs.List.{flat_map}
use Rattle.std.specs.Option.{option_or}
use Rattle.poets_value.specs.declared.value.Name.{Name}
use Rattle.poets_value.specs.Names.{name_cmp}
use Rattle.poets_expr.specs.declared.env.Decls.{Decls}
use Rattle.poets_expr.specs.Env.{declared_of}
use Rattle.poets_syntax.specs.Book.{template_of}
use Rattle.poets_syntax.specs.TypeOf.{Scope, type_in}
use Rattle.poets_report.specs.Reports.{report_of}
use Rattle.poets_command.specs.Said.{Statement}
use Rattle.poets_command.specs.Declarations.{agents_and_kinds, declared_by, report_in_statement}
use Rattle.poets_command.specs.Declarations.{reports_of}
use Rattle.poets_command.specs.Declarations.{template_in_statement}
use Rattle.poets_import.specs.declared.book.Declared.{Declared}

-- the names are declared with these types, each where it was not declared
pub record Declares (types : Scope) (old new : Decls) : Type 0 where
  pub names : (x : Name) → declared_of new.names x ≡ option_or (declared_of old.names x) (type_in (λ _. None) types x)
  pub order : IsOrdered name_cmp old.names → IsOrdered name_cmp new.names

-- what the statement declares is added
pub record Adds (s : Statement) (old new : Declared) : Type 0 where
  pub names : Declares (agents_and_kinds s) old.book.decls new.book.decls
  pub templates :
      map template_of new.book.templates.items ≡ map template_of old.book.templates.items ++ template_in_statement s
  pub reports : map report_of new.reports.items ≡ map report_of old.reports.items ++ report_in_statement s

-- the statements declare this
pub record IsDeclaredBy (statements : List Statement) (declared : Declared) : Type 0 where
  pub names : (x : Name) → declared_of declared.book.decls.names x ≡ declared_by statements x
  pub order : IsOrdered name_cmp declared.book.decls.names
  pub templates : map template_of declared.book.templates.items ≡ flat_map template_in_statement statements
  pub reports : map report_of declared.reports.items ≡ reports_of statements
