-- The rules of typing: which reports and commands are typed.
use Rattle.std.specs.Prelude.{◌≡◌, ℕ, List, [], ◌∷◌, ◌++◌, map, Option, Some, None}
use Rattle.poets_value.specs.declared.value.Name.{Name}
use Rattle.poets_value.specs.declared.event.Event.{Event}
use Rattle.poets_value.specs.declared.value.Ty.{Ty}
use Rattle.poets_expr.specs.Expression.{Expression}
use Rattle.poets_expr.specs.Env.{Declared}
use Rattle.poets_syntax.specs.Contract.{Contract}
use Rattle.poets_syntax.specs.Plain.{Book}
use Rattle.poets_syntax.specs.TypeOf.{Scope}
use Rattle.poets_syntax.specs.Typed.{in_use, names_bound, types_bound, scope_of}
use Rattle.poets_syntax.specs.Typing.{Has, Fit, AreNew, IsTyped}
use Rattle.poets_syntax.specs.WellFormed.{IsDeclaredEvent}
use Rattle.poets_report.specs.Plain.{Report}
use Rattle.poets_command.specs.Plain.{Command, Register, Transmit as Transmission, Void, End, Show}
use Rattle.poets_command.specs.Plain.{Tally, Portfolio, Watch, Read}
use Rattle.poets_command.specs.Reports.{report_in}
use Rattle.poets_command.specs.TypedStatements.{report_names}

-- the key, if there is one, has a type, whichever it is
pub data HasKey (declared : Declared) (scope : Scope) : Option Expression → Type 0 where
  NoKey : HasKey declared scope None
  AKey : {e : Expression} {t : Ty} → Has declared scope e t → HasKey declared scope (Some e)

-- a typed report: new parameters; a start of its type; new names for the value so far and the parts
-- of an event; a step of its type; and a key, which does not see the value so far
pub record IsTypedReport (book : Book) (reports : List Name) (q : Report) : Type 0 where
  pub params : AreNew (in_use book reports) [] (map (λ p. p.name) q.params)
  pub start : Has book.declared (scope_of q.params) q.start q.ty
  pub names : AreNew (in_use book reports) [] (q.carry ∷ names_bound q.binders)
  pub step : Has book.declared (types_bound q.binders ++ (q.carry, q.ty) ∷ scope_of q.params) q.step q.ty
  pub key : HasKey book.declared (types_bound q.binders ++ scope_of q.params) q.key

-- a report with the name takes these arguments
pub record IsTypedCall (book : Book) (reports : List Report) (x : Name) (args : List Expression) : Type 0 where
  pub report : Report
  pub found : report_in reports x ≡ Some report
  pub fit : Fit book.declared [] report.params args

-- a typed command; contracts' names are a space of their own, in which nothing is declared
pub data IsTypedCommand (book : Book) (reports : List Report) : Command → Type 0 where
  Registers :
      {x : Name} {c : Contract} → IsTyped book (report_names reports) [] c →
      IsTypedCommand book reports (Register x c)
  Delivers : {x : Name} {e : Event} → IsDeclaredEvent book.declared e → IsTypedCommand book reports (Transmission x e)
  Withdraws : {x : Name} {k : ℕ} → IsTypedCommand book reports (Void x k)
  Ends : {x : Name} → IsTypedCommand book reports (End x)
  Looks : {x : Name} → IsTypedCommand book reports (Show x)
  Tallies :
      {x : Name} {args : List Expression} → IsTypedCall book reports x args →
      IsTypedCommand book reports (Tally x args)
  Lists :
      {x : Name} {args : List Expression} {over : List Name} → IsTypedCall book reports x args →
      IsTypedCommand book reports (Portfolio x args over)
  Watches :
      {x : Name} {args : List Expression} → IsTypedCall book reports x args →
      IsTypedCommand book reports (Watch x args)
  Reads : {n : ℕ} → IsTypedCommand book reports (Read n)
