-- What the literals of a report, its arguments and the events have, and the operators keep, its answers have.
use Rattle.std.proofs.Common.{List, [], ◌∷◌, map, fold, Option, Some, None, IfSome, inl, inr}
use Rattle.std.specs.List.{All, Contains}
use Rattle.std.proofs.lemmas.List.Elements.{All-nil, All-cons, All-head, All-tail, All-push, All-weaker, All-contains, All-contains_itself, All-filter}
use Rattle.poets_value.specs.declared.event.Event.{Event}
use Rattle.poets_value.specs.declared.value.Name.{Name}
use Rattle.poets_value.specs.declared.value.Value.{Value}
use Rattle.poets_value.specs.declared.value.Value.TheVariants as V
use Rattle.poets_expr.specs.Expression.{Expression, EachLiteral}
use Rattle.poets_expr.specs.Env.{Declared, Env, same_name, value_in, itself}
use Rattle.poets_expr.specs.Val.{val}
use Rattle.poets_expr.proofs.ValSubst.{truth_of}
use Rattle.poets_expr.proofs.Values.{IsKept, val-kept}
use Rattle.poets_syntax.specs.declared.term.Binders.{Binders}
use Rattle.poets_syntax.specs.declared.term.Param.{Param}
use Rattle.poets_syntax.specs.Book.{parameter_env, taken}
use Rattle.poets_report.specs.Answers.{IsAnswer, IsAnswer_by, IsFoldOfKey}
use Rattle.poets_report.specs.Keys.{same_key}
use Rattle.poets_report.specs.Plain.{Report, Answer, Single, Rows, KeyRow}
use Rattle.poets_report.specs.Reports.{given, start, stage, folded, key_on, with_key}
use Rattle.poets_named.specs.Written.{EachValue}

-- P holds of the parts of the event
pub record EachPart (P : Value → Type 0) (e : Event) : Type 0 where
  pub sender : P (V.Agent e.sender)
  pub receiver : P (V.Agent e.receiver)
  pub what : P (V.Resource e.what)
  pub day : P (V.Day e.day)

-- P holds of each literal in the key, where there is one
abbrev pub EachLiteralOfKey : (Value → Type 0) → Option Expression → Type 0
EachLiteralOfKey P None = Unit {0}
EachLiteralOfKey P (Some key) = EachLiteral P key

-- and of each in the report
pub record EachLiteralOf (P : Value → Type 0) (q : Report) : Type 0 where
  pub start : EachLiteral P q.start
  pub step : EachLiteral P q.step
  pub key : EachLiteralOfKey P q.key

-- P holds of each pair's value, where it has one
abbrev pub EachPair : (Value → Type 0) → Env → Type 0
EachPair P env = All (λ p. IfSome p.1 P) env

module _ (P : Value → Type 0) (kept : IsKept P) (declared : Declared) (names : (x : Name) → IfSome (itself x (declared x)) P) where
  kept_in : (env : Env) → EachPair P env → (x : Name) → IfSome (value_in declared env x) P
  kept_in [] h x = names x
  kept_in (p ∷ env) h x =
      let rest = kept_in env (All-tail (λ q. IfSome q.1 P) p env h) x in
      let here = All-head (λ q. IfSome q.1 P) p env h in
      elim (truth_of (same_name p.0 x)) [ inl e ↦ rw e here | inr e ↦ rw e rest ]

  pub val-kept_in : (env : Env) → EachPair P env → (e : Expression) → EachLiteral P e → IfSome (val declared env e) P
  val-kept_in env h e i = val-kept P kept declared env (kept_in env h) e i

  module _ (q : Report) (args : List (Option Value)) (of : EachLiteralOf P q) (of_args : All (λ v. IfSome v P) args) where
    kept_parameters : (params : List Param) (values : List (Option Value)) → All (λ v. IfSome v P) values → EachPair P (parameter_env params values)
    kept_parameters [] [] h = All-nil (λ p. IfSome p.1 P)
    kept_parameters [] (v ∷ values) h = All-nil (λ p. IfSome p.1 P)
    kept_parameters (p ∷ params) [] h = All-nil (λ p. IfSome p.1 P)
    kept_parameters (p ∷ params) (v ∷ values) h =
        All-push (λ p. IfSome p.1 P) (parameter_env params values) (p.name, v)
        (kept_parameters params values (All-tail (λ v. IfSome v P) v values h)) (All-head (λ v. IfSome v P) v values h)

    kept_given : EachPair P (given q args)
    kept_given = kept_parameters q.params args of_args

    kept_taken : (b : Binders) (e : Event) → EachPart P e → (env : Env) → EachPair P env → EachPair P (taken b e env)
    kept_taken b e parts env h =
        let one : Env = (b.sender, Some (V.Agent e.sender)) ∷ env in
        let two : Env = (b.receiver, Some (V.Agent e.receiver)) ∷ one in
        let three : Env = (b.what, Some (V.Resource e.what)) ∷ two in
        All-cons (λ p. IfSome p.1 P) (b.day, Some (V.Day e.day)) three parts.day
        (All-cons (λ p. IfSome p.1 P) (b.what, Some (V.Resource e.what)) two parts.what
        (All-cons (λ p. IfSome p.1 P) (b.receiver, Some (V.Agent e.receiver)) one parts.receiver
        (All-cons (λ p. IfSome p.1 P) (b.sender, Some (V.Agent e.sender)) env parts.sender h)))

    kept_stage : (carried : Option Value) (e : Event) → IfSome carried P → EachPart P e → IfSome (stage declared q args carried e) P
    kept_stage carried e h parts =
        val-kept_in (taken q.binders e ((q.carry, carried) ∷ given q args))
        (kept_taken q.binders e parts ((q.carry, carried) ∷ given q args) (All-cons (λ p. IfSome p.1 P) (q.carry, carried) (given q args) h kept_given))
        q.step of.step

    kept_fold : (carried : Option Value) (events : List Event) → IfSome carried P → All (EachPart P) events →
        IfSome (fold (stage declared q args) carried events) P
    kept_fold carried [] h all = h
    kept_fold carried (e ∷ events) h all =
        kept_fold (stage declared q args carried e) events (kept_stage carried e h (All-head (EachPart P) e events all)) (All-tail (EachPart P) e events all)

    kept_folded : (events : List Event) → All (EachPart P) events → IfSome (folded declared q args events) P
    kept_folded events all = kept_fold (start declared q args) events (val-kept_in (given q args) kept_given q.start of.start) all

    module _ (key : Expression) (of_key : EachLiteral P key) where
      kept_key : (e : Event) → EachPart P e → IfSome (key_on declared q args key e) P
      kept_key e parts = val-kept_in (taken q.binders e (given q args)) (kept_taken q.binders e parts (given q args) kept_given) key of_key

      kept_keys : (events : List Event) → All (EachPart P) events → All (λ k. IfSome k P) (map (key_on declared q args key) events)
      kept_keys [] all = All-nil (λ k. IfSome k P)
      kept_keys (e ∷ events) all =
          All-cons (λ k. IfSome k P) (key_on declared q args key e) (map (key_on declared q args key) events)
          (kept_key e (All-head (EachPart P) e events all)) (kept_keys events (All-tail (EachPart P) e events all))

      kept_row : (events : List Event) → All (EachPart P) events → (r : KeyRow) →
          IsFoldOfKey declared q args (key_on declared q args key) events r.0 r.1 → IfSome r.0 P × IfSome r.1 P
      kept_row events all r row =
          let of_events = All-filter (λ e. same_key r.0 (key_on declared q args key e)) (EachPart P) events all in (
            All-contains (λ k. IfSome k P) (map (key_on declared q args key) events) r.0 (kept_keys events all) row.0,
            rw row.1 (kept_folded (with_key (key_on declared q args key) r.0 events) of_events),
          )

    kept_by : (key : Option Expression) → EachLiteralOfKey P key → (events : List Event) → All (EachPart P) events → (a : Answer) →
        IsAnswer_by key declared q args events a → EachValue P a
    kept_by None k events all (Single v) is = rw is (kept_folded events all)
    kept_by None k events all (Rows rows) is = absurd is
    kept_by (Some key) k events all (Single v) is = absurd is
    kept_by (Some key) k events all (Rows rows) is =
        All-weaker (Contains rows) (λ r. IfSome r.0 P × IfSome r.1 P)
        (λ r found. kept_row key k events all r ((is.each r.0 r.1).0 found)) rows (All-contains_itself rows)

    pub answer-kept : (events : List Event) → All (EachPart P) events → (a : Answer) → IsAnswer declared q args events a → EachValue P a
    answer-kept events all a is = kept_by q.key of.key events all a is
