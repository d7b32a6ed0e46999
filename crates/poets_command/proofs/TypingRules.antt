-- A check of a template, a report or a command passes exactly where the rules of typing hold.
use Rattle.std.proofs.Common.{◌≡◌, List, [], ◌∷◌, ◌++◌, map, Option, Some, None, refl, ap, sym, ◌∙◌}
use Rattle.poets_value.specs.declared.value.Name.{Name}
use Rattle.poets_value.specs.declared.event.Event.{Event}
use Rattle.poets_value.specs.declared.value.Ty.{Ty}
use Rattle.poets_value.specs.declared.value.Ty.TheVariants as T
use Rattle.poets_expr.specs.Expression.{Expression}
use Rattle.poets_expr.specs.Env.{Declared}
use Rattle.poets_syntax.specs.Plain.{Book}
use Rattle.poets_syntax.specs.TypeOf.{Passes, ◌>>=◌, Scope, must_be, name_type, type_of}
use Rattle.poets_syntax.specs.Typed.{in_use, check_new, names_bound, types_bound, check_type, check_contract, scope_of}
use Rattle.poets_syntax.specs.code.Passing.{TemplatePasses}
use Rattle.poets_syntax.proofs.Typedness.{passed}
use Rattle.poets_syntax.specs.WellFormed.{IsDeclaredEvent}
use Rattle.poets_syntax.proofs.TypingRules.{must_be_itself, must_one, has_type, type_passes, are_new, new_passes, has_wanted, wanted_passes, fits, arguments_pass, contract_typed, contract_passes, template_typed, template_passes}
use Rattle.poets_report.specs.Plain.{Report}
use Rattle.poets_command.specs.Plain.{Command}
use Rattle.poets_command.specs.Plain as plain
use Rattle.poets_command.specs.Reports.{report_in}
use Rattle.poets_command.specs.TypedStatements.{report_names, check_template, check_key, check_fold, check_report, check_declared, check_event, check_report_arguments, check_command}
use Rattle.poets_command.specs.Typing as R
use Rattle.poets_command.specs.Laws.{TemplatesByRules, ReportsByRules, CommandsByRules}

-- templates and reports

pub templates_by_rules : TemplatesByRules
templates_by_rules book reports t = (
  λ h. template_typed book reports t (parts h),
  λ r.
      let p = template_passes book reports t r in
      rw p.0 p.1,
)
  where
    parts : check_template book reports t ≡ Passes tt → TemplatePasses book reports t
    parts h =
        let p = passed (check_new (in_use book reports) [] (map (λ q. q.name) t.params)) (λ _. check_contract book reports (scope_of t.params) t.body) tt h in
        (p.1, p.2)

has_key : (declared : Declared) (scope : Scope) (key : Option Expression) → check_key declared scope key ≡ Passes tt → R.HasKey declared scope key
has_key declared scope None h = R.NoKey
has_key declared scope (Some e) h =
    let p = passed (type_of declared scope e) (λ _. Passes tt) tt h in
    R.AKey (has_type declared scope e p.0 p.1)

key_passes : (declared : Declared) (scope : Scope) (key : Option Expression) → R.HasKey declared scope key → check_key declared scope key ≡ Passes tt
key_passes declared scope None R.NoKey = refl
key_passes declared scope (Some e) (R.AKey {t = t} h) = rw (type_passes declared scope e t h) refl

pub report_typed : (book : Book) (reports : List Name) (q : Report) → check_report book reports q ≡ Passes tt → R.IsTypedReport book reports q
report_typed book reports q h =
    let outer = scope_of q.params in
    let names = check_new (in_use book reports) [] (q.carry ∷ names_bound q.binders) in
    let step = check_type book.declared (types_bound q.binders ++ (q.carry, q.ty) ∷ outer) q.ty q.step in
    let key = check_key book.declared (types_bound q.binders ++ outer) q.key in
    let p = passed (check_new (in_use book reports) [] (map (λ x. x.name) q.params)) (λ _. check_fold book reports outer q) tt h in
    let r = passed (check_type book.declared outer q.ty q.start) (λ _. names >>= λ _. step >>= λ _. key) tt p.2 in
    let s = passed names (λ _. step >>= λ _. key) tt r.2 in
    let u = passed step (λ _. key) tt s.2 in
    record {
      params = are_new (in_use book reports) [] (map (λ x. x.name) q.params) p.1;
      start = has_wanted book.declared outer q.ty q.start r.0 r.1;
      names = are_new (in_use book reports) [] (q.carry ∷ names_bound q.binders) s.1;
      step = has_wanted book.declared (types_bound q.binders ++ (q.carry, q.ty) ∷ outer) q.ty q.step u.0 u.1;
      key = has_key book.declared (types_bound q.binders ++ outer) q.key u.2;
    }

pub report_passes : (book : Book) (reports : List Name) (q : Report) → R.IsTypedReport book reports q → check_report book reports q ≡ Passes tt
report_passes book reports q r =
    rw (
      new_passes (in_use book reports) [] (map (λ x. x.name) q.params) r.params,
      wanted_passes book.declared (scope_of q.params) q.ty q.start r.start,
      new_passes (in_use book reports) [] (q.carry ∷ names_bound q.binders) r.names,
      wanted_passes book.declared (types_bound q.binders ++ (q.carry, q.ty) ∷ scope_of q.params) q.ty q.step r.step,
    )
    (key_passes book.declared (types_bound q.binders ++ scope_of q.params) q.key r.key)

pub reports_by_rules : ReportsByRules
reports_by_rules book reports q = (report_typed book reports q, report_passes book reports q)

-- commands

declared_as : (declared : Declared) (wanted : Ty) (x : Name) (u : Unit {0}) → check_declared declared wanted x ≡ Passes u → declared x ≡ Some wanted
declared_as declared wanted x u h = by (declared x) refl h
  where
    by : (o : Option Ty) → declared x ≡ o → (name_type x o >>= must_be wanted) ≡ Passes u → declared x ≡ Some wanted
    by None e k = absurd cc
    by (Some t) e k = e ∙ ap (λ s. Some s) (sym (must_one wanted t u k))

declared_passes : (declared : Declared) (wanted : Ty) (x : Name) → declared x ≡ Some wanted → check_declared declared wanted x ≡ Passes tt
declared_passes declared wanted x e = rw (e, must_be_itself wanted) refl

event_typed : (declared : Declared) (e : Event) → check_event declared e ≡ Passes tt → IsDeclaredEvent declared e
event_typed declared e h =
    let kind = check_declared declared T.Kind e.what.kind in
    let receiver = check_declared declared T.Agent e.receiver in
    let p = passed (check_declared declared T.Agent e.sender) (λ _. receiver >>= λ _. kind) tt h in
    let q = passed receiver (λ _. kind) tt p.2 in
    record {
      sender = declared_as declared T.Agent e.sender p.0 p.1;
      receiver = declared_as declared T.Agent e.receiver q.0 q.1;
      kind = declared_as declared T.Kind e.what.kind tt q.2;
    }

event_passes : (declared : Declared) (e : Event) → IsDeclaredEvent declared e → check_event declared e ≡ Passes tt
event_passes declared e r =
    rw (declared_passes declared T.Agent e.sender r.sender, declared_passes declared T.Agent e.receiver r.receiver) (declared_passes declared T.Kind e.what.kind r.kind)

asks : (book : Book) (reports : List Report) (x : Name) (args : List Expression) →
    check_report_arguments book.declared x (report_in reports x) args ≡ Passes tt → R.IsTypedCall book reports x args
asks book reports x args h = by (report_in reports x) refl h
  where
    by : (o : Option Report) → report_in reports x ≡ o → check_report_arguments book.declared x o args ≡ Passes tt → R.IsTypedCall book reports x args
    by None e k = absurd cc
    by (Some q) e k = record { report = q; found = e; fit = fits book.declared [] x q.params args k }

asks_pass : (book : Book) (reports : List Report) (x : Name) (args : List Expression) →
    R.IsTypedCall book reports x args → check_report_arguments book.declared x (report_in reports x) args ≡ Passes tt
asks_pass book reports x args a = rw (a.found) (arguments_pass book.declared [] x a.report.params args a.fit)

pub command_typed : (book : Book) (reports : List Report) (command : Command) → check_command book reports command ≡ Passes tt → R.IsTypedCommand book reports command
command_typed book reports (plain.Register x c) h = R.Registers (contract_typed book (report_names reports) [] c h)
command_typed book reports (plain.Transmit x e) h = R.Delivers (event_typed book.declared e h)
command_typed book reports (plain.Void x k) h = R.Withdraws
command_typed book reports (plain.End x) h = R.Ends
command_typed book reports (plain.Show x) h = R.Looks
command_typed book reports (plain.Tally x args) h = R.Tallies (asks book reports x args h)
command_typed book reports (plain.Portfolio x args over) h = R.Lists (asks book reports x args h)
command_typed book reports (plain.Watch x args) h = R.Watches (asks book reports x args h)
command_typed book reports (plain.Read n) h = R.Reads

pub command_passes : (book : Book) (reports : List Report) (command : Command) → R.IsTypedCommand book reports command → check_command book reports command ≡ Passes tt
command_passes book reports (plain.Register x c) (R.Registers h) = contract_passes book (report_names reports) [] c h
command_passes book reports (plain.Transmit x e) (R.Delivers h) = event_passes book.declared e h
command_passes book reports (plain.Void x k) R.Withdraws = refl
command_passes book reports (plain.End x) R.Ends = refl
command_passes book reports (plain.Show x) R.Looks = refl
command_passes book reports (plain.Tally x args) (R.Tallies h) = asks_pass book reports x args h
command_passes book reports (plain.Portfolio x args over) (R.Lists h) = asks_pass book reports x args h
command_passes book reports (plain.Watch x args) (R.Watches h) = asks_pass book reports x args h
command_passes book reports (plain.Read n) R.Reads = refl

pub commands_by_rules : CommandsByRules
commands_by_rules book reports command = (command_typed book reports command, command_passes book reports command)
