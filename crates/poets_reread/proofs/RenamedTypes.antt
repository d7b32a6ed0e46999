-- What is typed stays typed where its names are replaced by others, each by one of its own, and none that is declared.
use Rattle.std.proofs.Common.{◌≡◌, ℕ, Bool, true, false, List, [], ◌∷◌, map, Option, Some, None, refl, sym, ap, ◌∙◌, is_some, arith}
use Rattle.std.specs.Prelude.{◌||◌}
use Rattle.std.proofs.lemmas.Bool.{eq-eqb, eqb-true}
use Rattle.std.proofs.lemmas.Bool.Decides.{nat_tests}
use Rattle.poets_value.specs.declared.value.Name.{Name}
use Rattle.poets_value.specs.declared.value.Ty.{Ty}
use Rattle.poets_expr.specs.Env.{same_name}
use Rattle.poets_expr.specs.Expression.{Expression}
use Rattle.poets_syntax.specs.declared.term.Param.{Param}
use Rattle.poets_syntax.specs.Contract.{Contract}
use Rattle.poets_syntax.specs.Plain.{Book}
use Rattle.poets_syntax.specs.Book.{template_in}
use Rattle.poets_syntax.specs.TypeOf.{Scope, type_in}
use Rattle.poets_syntax.specs.Typed.{is_among, in_use}
use Rattle.poets_syntax.specs.Typing.{Has, Fit, AreNew, IsTyped}
use Rattle.poets_report.specs.Plain.{Report}
use Rattle.poets_command.specs.Plain.{Command}
use Rattle.poets_command.specs.Reports.{report_in}
use Rattle.poets_command.specs.Typing.{IsTypedCall, IsTypedCommand}
use Rattle.poets_command.specs.TypedStatements.{report_names}
use Rattle.poets_reread.proofs.Renamed.{renamed, renamed_args, renamed_contract, renamed_command}

-- the new names are equal where the old ones are, and a new name is declared as the old one is
pub record Keeps (book : Book) (reports : List Report) (new : Name → Name) : Type 0 where
  pub same : (x y : Name) → same_name (new x) (new y) ≡ same_name x y
  pub declared : (x : Name) → book.declared (new x) ≡ book.declared x
  pub template : (x : Name) → template_in book.templates (new x) ≡ template_in book.templates x
  pub report : (x : Name) → report_in reports (new x) ≡ report_in reports x
  pub among : (x : Name) → is_among (report_names reports) (new x) ≡ is_among (report_names reports) x

renamed_scope : (Name → Name) → Scope → Scope
renamed_scope new scope = map (λ p. (new p.0, p.1)) scope

module _ (book : Book) (reports : List Report) (new : Name → Name) (k : Keeps book reports new) where
  type_kept : (scope : Scope) (x : Name) →
      type_in book.declared (renamed_scope new scope) (new x) ≡ type_in book.declared scope x
  unfolding renamed_scope
  type_kept [] x = k.declared x
  type_kept (p ∷ scope) x = rw (k.same p.0 x, type_kept scope x) refl

  has_kept : {scope : Scope} {e : Expression} {t : Ty} → Has book.declared scope e t →
      Has book.declared (renamed_scope new scope) (renamed new e) t
  has_kept Has.ANumber = Has.ANumber
  has_kept Has.ATruth = Has.ATruth
  has_kept Has.ADate = Has.ADate
  has_kept (Has.AnAmount {r = r} h) = Has.AnAmount (k.declared r.kind ∙ h)
  has_kept Has.Unknown = Has.Unknown
  has_kept {scope = scope} (Has.AName {x = x} h) = Has.AName (type_kept scope x ∙ h)
  has_kept (Has.Negation a) = Has.Negation (has_kept a)
  has_kept (Has.Denial a) = Has.Denial (has_kept a)
  has_kept (Has.TheAmount a) = Has.TheAmount (has_kept a)
  has_kept (Has.TheKind a) = Has.TheKind (has_kept a)
  has_kept (Has.Made a b) = Has.Made (has_kept a) (has_kept b)
  has_kept (Has.Sum o n a b) = Has.Sum o n (has_kept a) (has_kept b)
  has_kept (Has.Days a b) = Has.Days (has_kept a) (has_kept b)
  has_kept (Has.Product o a b) = Has.Product o (has_kept a) (has_kept b)
  has_kept (Has.Equality o a b) = Has.Equality o (has_kept a) (has_kept b)
  has_kept (Has.Comparison o n a b) = Has.Comparison o n (has_kept a) (has_kept b)
  has_kept (Has.Connective o a b) = Has.Connective o (has_kept a) (has_kept b)
  has_kept (Has.Choice a b c) = Has.Choice (has_kept a) (has_kept b) (has_kept c)

  fit_kept : (scope : Scope) (params : List Param) (args : List Expression) → Fit book.declared scope params args →
      Fit book.declared (renamed_scope new scope) params (renamed_args new args)
  fit_kept scope [] [] h = tt
  fit_kept scope [] (a ∷ args) h = absurd h
  fit_kept scope (p ∷ params) [] h = absurd h
  fit_kept scope (p ∷ params) (a ∷ args) h = (has_kept h.0, fit_kept scope params args h.1)

  used_kept : (x : Name) → in_use book (report_names reports) (new x) ≡ in_use book (report_names reports) x
  used_kept x = rw (k.declared x, k.template x, k.among x) refl

  earlier_kept : (earlier : List Name) (x : Name) → is_among (map new earlier) (new x) ≡ is_among earlier x
  earlier_kept [] x = refl
  earlier_kept (y ∷ earlier) x = rw (k.same x y, earlier_kept earlier x) refl

  new_kept : {earlier names : List Name} → AreNew (in_use book (report_names reports)) earlier names →
      AreNew (in_use book (report_names reports)) (map new earlier) (map new names)
  new_kept AreNew.NoName = AreNew.NoName
  new_kept (AreNew.OneMore {earlier = earlier} {x = x} free other rest) =
      AreNew.OneMore (used_kept x ∙ free) (earlier_kept earlier x ∙ other) (new_kept rest)

  contract_kept : {scope : Scope} {c : Contract} → IsTyped book (report_names reports) scope c →
      IsTyped book (report_names reports) (renamed_scope new scope) (renamed_contract new c)
  unfolding renamed_scope
  contract_kept IsTyped.Succeeds = IsTyped.Succeeds
  contract_kept IsTyped.Fails = IsTyped.Fails
  contract_kept (IsTyped.Transmits fresh p c) = IsTyped.Transmits (new_kept fresh) (has_kept p) (contract_kept c)
  contract_kept (IsTyped.Chooses a b) = IsTyped.Chooses (contract_kept a) (contract_kept b)
  contract_kept (IsTyped.Joins a b) = IsTyped.Joins (contract_kept a) (contract_kept b)
  contract_kept (IsTyped.Follows a b) = IsTyped.Follows (contract_kept a) (contract_kept b)
  contract_kept {scope = scope} (IsTyped.Applies {f = f} {args = args} {t = t} found fit) =
      IsTyped.Applies (k.template f ∙ found) (fit_kept scope t.params args fit)

  call_kept : (x : Name) (args : List Expression) → IsTypedCall book reports x args →
      IsTypedCall book reports (new x) (renamed_args new args)
  unfolding renamed_scope
  call_kept x args h = record {
    report = h.report;
    found = k.report x ∙ h.found;
    fit = fit_kept [] h.report.params args h.fit;
  }

  pub command_kept : (command : Command) → IsTypedCommand book reports command →
      IsTypedCommand book reports (renamed_command new command)
  unfolding renamed_scope
  command_kept _ (IsTypedCommand.Registers c) = IsTypedCommand.Registers (contract_kept c)
  command_kept _ (IsTypedCommand.Delivers {e = e} h) = IsTypedCommand.Delivers (record {
    sender = k.declared e.sender ∙ h.sender;
    receiver = k.declared e.receiver ∙ h.receiver;
    kind = k.declared e.what.kind ∙ h.kind;
  })
  command_kept _ IsTypedCommand.Withdraws = IsTypedCommand.Withdraws
  command_kept _ IsTypedCommand.Ends = IsTypedCommand.Ends
  command_kept _ IsTypedCommand.Looks = IsTypedCommand.Looks
  command_kept _ (IsTypedCommand.Tallies {x = x} {args = args} h) = IsTypedCommand.Tallies (call_kept x args h)
  command_kept _ (IsTypedCommand.Lists {x = x} {args = args} h) = IsTypedCommand.Lists (call_kept x args h)
  command_kept _ (IsTypedCommand.Watches {x = x} {args = args} h) = IsTypedCommand.Watches (call_kept x args h)
  command_kept _ IsTypedCommand.Reads = IsTypedCommand.Reads

-- ---- names that are not replaced

none_of : {A B : Type 0} (a : Option A) (b : Option B) (c : Bool) → (is_some a || is_some b || c) ≡ false →
    (a ≡ None) × (b ≡ None) × (c ≡ false)
none_of None None false e = (refl, refl, refl)
none_of None None true e = absurd cc
none_of None (Some b) c e = absurd cc
none_of (Some a) b c e = absurd cc

or_none : (a b : Bool) → (a || b) ≡ false → (a ≡ false) × (b ≡ false)
or_none false b e = (refl, e)
or_none true b e = absurd cc

same_turned : (x y : Name) → same_name x y ≡ same_name y x
same_turned x y = grind (arith, nat_tests)

same_true : (x y : Name) → x ≡ y → same_name x y ≡ true
same_true x y e = eq-eqb x.id y.id (ap (λ (n : Name). n.id) e)

true_same : (x y : Name) → same_name x y ≡ true → x ≡ y
true_same x y e =
    let made : ℕ → Name = λ i. record { id = i } in
    let ids : x.id ≡ y.id = eqb-true x.id y.id e in
    ap made ids

no_report : (reports : List Report) (x : Name) → is_among (report_names reports) x ≡ false → report_in reports x ≡ None
no_report [] x e = refl
no_report (q ∷ reports) x e =
    let none = or_none (same_name x q.name) (is_among (report_names reports) x) e in
    rw (same_turned q.name x, none.0) (no_report reports x none.1)

-- new names are declared as the old ones are, where those that are in use stay, and equal ones come of equal ones alone
pub keeps :
    (book : Book) (reports : List Report) (new : Name → Name) →
    ((x y : Name) → same_name (new x) (new y) ≡ same_name x y) →
    ((x : Name) → in_use book (report_names reports) x ≡ true → new x ≡ x) → Keeps book reports new
keeps book reports new same fixed = record {
  same = same;
  declared = λ x. (kept x).0;
  template = λ x. (kept x).1;
  report = λ x. (kept x).2;
  among = λ x. (kept x).3;
}
  where
    stays : (x : Name) → in_use book (report_names reports) (new x) ≡ true → new x ≡ x
    stays x e =
        let again : new (new x) ≡ new x = fixed (new x) e in
        let one : same_name (new (new x)) (new x) ≡ true = same_true (new (new x)) (new x) again in
        true_same (new x) x (sym (same (new x) x) ∙ one)

    by_use : (x : Name) (b c : Bool) → in_use book (report_names reports) x ≡ b → in_use book (report_names reports) (new x) ≡ c →
        (book.declared (new x) ≡ book.declared x) × (template_in book.templates (new x) ≡ template_in book.templates x)
        × (report_in reports (new x) ≡ report_in reports x)
        × (is_among (report_names reports) (new x) ≡ is_among (report_names reports) x)
    by_use x true c e f =
        let s : new x ≡ x = fixed x e in
        (ap book.declared s, ap (template_in book.templates) s, ap (report_in reports) s, ap (is_among (report_names reports)) s)
    by_use x false true e f =
        let s : in_use book (report_names reports) x ≡ in_use book (report_names reports) (new x) = ap (in_use book (report_names reports)) (sym (stays x f)) in
        absurd (let no : false ≡ true = sym e ∙ s ∙ f in cc)
    by_use x false false e f =
        let old = none_of (book.declared x) (template_in book.templates x) (is_among (report_names reports) x) e in
        let now = none_of (book.declared (new x)) (template_in book.templates (new x)) (is_among (report_names reports) (new x)) f in (
          now.0 ∙ sym old.0,
          now.1 ∙ sym old.1,
          no_report reports (new x) now.2 ∙ sym (no_report reports x old.2),
          now.2 ∙ sym old.2,
        )

    kept : (x : Name) →
        (book.declared (new x) ≡ book.declared x) × (template_in book.templates (new x) ≡ template_in book.templates x)
        × (report_in reports (new x) ≡ report_in reports x)
        × (is_among (report_names reports) (new x) ≡ is_among (report_names reports) x)
    kept x =
        by_use x (in_use book (report_names reports) x) (in_use book (report_names reports) (new x)) refl refl
