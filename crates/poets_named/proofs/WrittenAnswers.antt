-- What typed and whole reports answer is declared and whole.
use Rattle.std.proofs.Common.{◌≡◌, refl, List, [], ◌∷◌, map, Option, Some, None, IfSome}
use Rattle.std.specs.List.{All}
use Rattle.std.proofs.lemmas.List.Elements.{All-nil, All-cons, All-head, All-tail}
use Rattle.poets_value.specs.Whole.{IsWholeValue, IsWholeEvent, IsWholeTrace}
use Rattle.poets_value.specs.declared.event.Event.{Event}
use Rattle.poets_value.specs.declared.value.Name.{Name}
use Rattle.poets_value.specs.declared.value.Ty.{Ty}
use Rattle.poets_value.specs.declared.value.Ty.TheVariants as T
use Rattle.poets_value.specs.declared.value.Value.{Value}
use Rattle.poets_expr.specs.Expression.{Expression, EachLiteral, Literal, Undefined, Named, Unary, Make, Binary, If}
use Rattle.poets_expr.specs.Env.{Declared, itself}
use Rattle.poets_expr.specs.Fold.{HasDeclaredNames, HasDeclaredLiterals}
use Rattle.poets_expr.specs.Val.{val}
use Rattle.poets_expr.specs.Whole.{IsWholeExpression}
use Rattle.poets_expr.proofs.Values.{IsKept}
use Rattle.poets_syntax.specs.declared.term.Param.{Param}
use Rattle.poets_syntax.specs.TypeOf.{Scope}
use Rattle.poets_syntax.specs.Typing.{Has, Fit}
use Rattle.poets_syntax.specs.WellFormed.{IsDeclaredEvent}
use Rattle.poets_syntax.proofs.TypingRules.{type_passes}
use Rattle.poets_syntax.proofs.Typedness.{HasDeclaredLiterals-typed}
use Rattle.poets_command.specs.Typing.{HasKey, NoKey, AKey}
use Rattle.poets_books.specs.Laws.{IsWholeKey}
use Rattle.poets_named.specs.Laws.{AnswersAreDeclared}
use Rattle.poets_named.proofs.KeptAnswers.{EachPart, EachLiteralOf, EachLiteralOfKey, val-kept_in, answer-kept}

-- the value is whole, and its agents and kinds are declared as such
abbrev pub IsKnown : Declared → Value → Type 0
IsKnown declared v = IsWholeValue v × HasDeclaredNames declared (Some v)

module _ (declared : Declared) where
  known_kept : IsKept (IsKnown declared)
  known_kept = record {
    number = λ n h. (h, tt);
    truth = λ b. (tt, tt);
    day = λ n h. (h, tt);
    made = λ n k h i. (h.0, i.1);
    amount = λ r h. (h.0, tt);
    kind = λ r h. (tt, h.1);
  }

  known_name : (x : Name) (o : Option Ty) → declared x ≡ o → IfSome (itself x o) (IsKnown declared)
  known_name x None h = tt
  known_name x (Some T.Agent) h = (tt, h)
  known_name x (Some T.Kind) h = (tt, h)
  known_name x (Some _) h = tt

  known_itself : (x : Name) → IfSome (itself x (declared x)) (IsKnown declared)
  known_itself x = known_name x (declared x) refl

  known_both : (e : Expression) → IsWholeExpression e → HasDeclaredLiterals declared e → EachLiteral (IsKnown declared) e
  known_both (Literal v) h k = (h, k)
  known_both (Undefined t) h k = tt
  known_both (Named x) h k = tt
  known_both (Unary o a) h k = known_both a h k
  known_both (Make a b) h k = (known_both a h.0 k.0, known_both b h.1 k.1)
  known_both (Binary o a b) h k = (known_both a h.0 k.0, known_both b h.1 k.1)
  known_both (If a b c) h k = (known_both a h.0 k.0, known_both b h.1 k.1, known_both c h.2 k.2)

  known_typed : (scope : Scope) (e : Expression) (t : Ty) → IsWholeExpression e → Has declared scope e t → EachLiteral (IsKnown declared) e
  known_typed scope e t h typed = known_both e h (HasDeclaredLiterals-typed declared scope e t (type_passes declared scope e t typed))

  known_key : (scope : Scope) (key : Option Expression) → IsWholeKey key → HasKey declared scope key → EachLiteralOfKey (IsKnown declared) key
  known_key scope None h NoKey = tt
  known_key scope (Some key) h (AKey {t = t} typed) = known_typed scope key t h typed

  known_arguments : (params : List Param) (args : List Expression) → Fit declared [] params args → All IsWholeExpression args →
      All (λ v. IfSome v (IsKnown declared)) (map (val declared []) args)
  known_arguments [] [] f h = All-nil (λ v. IfSome v (IsKnown declared))
  known_arguments [] (a ∷ args) f h = absurd f
  known_arguments (p ∷ params) [] f h = absurd f
  known_arguments (p ∷ params) (a ∷ args) f h =
      All-cons (λ v. IfSome v (IsKnown declared)) (val declared [] a) (map (val declared []) args)
      (val-kept_in (IsKnown declared) known_kept declared known_itself [] (All-nil (λ q. IfSome q.1 (IsKnown declared))) a
      (known_typed [] a p.ty (All-head IsWholeExpression a args h) f.0))
      (known_arguments params args f.1 (All-tail IsWholeExpression a args h))

  known_event : (e : Event) → IsDeclaredEvent declared e → IsWholeEvent e → EachPart (IsKnown declared) e
  known_event e h whole = record {
    sender = (tt, h.sender);
    receiver = (tt, h.receiver);
    what = (whole.0, h.kind);
    day = (whole.1, tt);
  }

  known_events : (events : List Event) → All (IsDeclaredEvent declared) events → IsWholeTrace events → All (EachPart (IsKnown declared)) events
  known_events [] h whole = All-nil (EachPart (IsKnown declared))
  known_events (e ∷ events) h whole =
      All-cons (EachPart (IsKnown declared)) e events
      (known_event e (All-head (IsDeclaredEvent declared) e events h) (All-head IsWholeEvent e events whole))
      (known_events events (All-tail (IsDeclaredEvent declared) e events h) (All-tail IsWholeEvent e events whole))

pub answers_are_declared : AnswersAreDeclared
answers_are_declared book reports q args events a typed whole fit whole_args declared whole_events is =
    let known = IsKnown book.declared in
    let literals : EachLiteralOf known q = record {
      start = known_typed book.declared _ q.start q.ty whole.start typed.start;
      step = known_typed book.declared _ q.step q.ty whole.step typed.step;
      key = known_key book.declared _ q.key whole.key typed.key;
    } in
    answer-kept known (known_kept book.declared) book.declared (known_itself book.declared) q (map (val book.declared []) args) literals
    (known_arguments book.declared q.params args fit whole_args) events (known_events book.declared events declared whole_events) a is
