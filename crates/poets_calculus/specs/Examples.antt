-- Contracts worked by hand: what performs them, and what is left of them after events.
use Rattle.std.specs.Prelude.{◌↔◌, ℕ, zero, suc, ◌+◌, nat_lt, true, ◌||◌, List, [], ◌∷◌, Some, None}
use Rattle.std.specs.Prelude.{pos, if◌then◌else◌}
use Rattle.poets_value.specs.declared.value.Name.{Name}
use Rattle.poets_value.specs.declared.value.Ty.TheVariants as T
use Rattle.poets_value.specs.declared.value.Value.TheVariants as V
use Rattle.poets_value.specs.declared.event.Event.{Event}
use Rattle.poets_expr.specs.declared.expr.Op.TheVariants as O
use Rattle.poets_expr.specs.Expression.{Expression, AmountOf, KindOf}
use Rattle.poets_expr.specs.Env.{Declared, same_name}
use Rattle.poets_syntax.specs.declared.term.Binders.{Binders}
use Rattle.poets_syntax.specs.Contract.{Contract, Success, Transmit, Plus, Par, Seq, App}
use Rattle.poets_syntax.specs.Plain.{Book, Template}
use Rattle.poets_meaning.specs.Perf.{Perf}
use Rattle.poets_meaning.specs.Marks.{Marks}
use Rattle.poets_calculus.specs.Residual.{residual_after}

abbrev pub name : ℕ → Name
name n = record { id = n }

-- agents
abbrev pub ann : Name
ann = name 0

abbrev pub bob : Name
bob = name 1

-- kinds
abbrev pub oil : Name
oil = name 2

abbrev pub usd : Name
usd = name 3

-- templates
abbrev pub sale : Name
sale = name 4

abbrev pub again : Name
again = name 5

-- the names 0 and 1 are agents, 2 and 3 are kinds
abbrev pub traders : Declared
traders x = if nat_lt x.id 2 then Some T.Agent else (if nat_lt x.id 4 then Some T.Kind else None)

-- four binders with the names from a number on
abbrev pub binders : ℕ → Binders
binders n = record { sender = name n; receiver = name (n + 1); what = name (n + 2); day = name (n + 3) }

abbrev pub named : ℕ → Expression
named n = Expression.Named (name n)

abbrev pub number : ℕ → Expression
number n = Expression.Literal (V.Int (pos n))

abbrev pub equals : Expression → Expression → Expression
equals a b = Expression.Binary O.Eq a b

abbrev pub and : Expression → Expression → Expression
and a b = Expression.Binary O.And a b

-- transmit(a, b, r, t | kind(r) = k). c
abbrev pub of_kind : Name → Contract → Contract
of_kind k c = Transmit (binders 10) (equals (Expression.Unary KindOf (named 12)) (Expression.Named k)) c

-- transmit(a, b, r, t | amount(r) = n). c
abbrev pub of_amount : Expression → Contract → Contract
of_amount n c = Transmit (binders 10) (equals (Expression.Unary AmountOf (named 12)) n) c

-- the day number of 2006-05-03, and an event with so many days more
abbrev pub third_of_may : ℕ
third_of_may = 13271

abbrev pub event : Name → Name → ℕ → Name → ℕ → Event
event sender receiver amount kind days = record {
  sender = sender;
  receiver = receiver;
  what = record { amount = pos amount; kind = kind };
  day = pos (third_of_may + days);
}

abbrev pub delivery : Event
delivery = event ann bob 7 oil 0

abbrev pub payment : ℕ → Event
payment days = event bob ann 500 usd days

-- transmit(u, v, p, w | u = buyer and v = seller and kind(p) = USD and w <= day + 30). Success
abbrev pub paid : Expression → Expression → Expression → Contract
paid buyer seller day =
    Transmit (binders 14)
    (and
    (and
    (and (equals (named 14) buyer) (equals (named 15) seller))
    (equals (Expression.Unary KindOf (named 16)) (Expression.Named usd)))
    (Expression.Binary O.Le (named 17) (Expression.Binary O.Add day (number 30))))
    Success

-- template sale(s: Agent, b: Agent, n: Int) =
--   transmit(x, y, r, t | x = s and y = b and r = res(n, Oil)).
--   transmit(u, v, p, w | u = b and v = s and kind(p) = USD and w <= t + 30). Success;;
abbrev pub sale_template : Template
sale_template = record {
  name = sale;
  params =
      record { name = name 20; ty = T.Agent }
      ∷ record { name = name 21; ty = T.Agent }
      ∷ record { name = name 22; ty = T.Int }
      ∷ [];
  body =
      Transmit (binders 10)
      (and
      (and (equals (named 10) (named 20)) (equals (named 11) (named 21)))
      (equals (named 12) (Expression.Make (named 22) (Expression.Named oil))))
      (paid (named 21) (named 20) (named 13));
}

-- template again(n: Int) = Success + transmit(a, b, r, t | amount(r) = n). again(n / 0);;
abbrev pub again_template : Template
again_template = record {
  name = again;
  params = record { name = name 20; ty = T.Int } ∷ [];
  body =
      Plus Success (of_amount (named 20) (App again (Expression.Binary O.Div (named 20) (number 0) ∷ [])));
}

abbrev pub book : Book
book = record { declared = traders; templates = sale_template ∷ again_template ∷ [] }

-- `again` is nullable, and both are hopeful
abbrev pub marks : Marks
marks = record { nullable = λ f. same_name f again; hopeful = λ f. same_name f sale || same_name f again }

-- what is left of a contract after some events
abbrev pub left_of : Contract → List Event → Contract
left_of c s = residual_after book marks c s

-- the same traces perform both contracts
abbrev pub ArePerformedAlike : Contract → Contract → Type 0
ArePerformedAlike c d = (s : List Event) → Perf book [] c s ↔ Perf book [] d s

-- again(n)
abbrev pub again_with : Expression → Contract
again_with n = App again (n ∷ [])

-- sale(ann, bob, 7)
abbrev pub sold : Contract
sold = App sale (Expression.Named ann ∷ Expression.Named bob ∷ number 7 ∷ [])

-- O. Success || O. U. Success
abbrev pub beside : Contract
beside = Par (of_kind oil Success) (of_kind oil (of_kind usd Success))

-- O. U. Success + (O. Success || U. Success)
abbrev pub beside_after_oil : Contract
beside_after_oil = Plus (of_kind oil (of_kind usd Success)) (Par (of_kind oil Success) (of_kind usd Success))

-- oil or currency first, on either side
abbrev pub oil_or_usd : Contract
oil_or_usd = Par (of_kind oil Success) (of_kind usd Success)

abbrev pub usd_or_oil : Contract
usd_or_oil = Par (of_kind usd Success) (of_kind oil Success)

-- oil, and beside it currency and oil again
abbrev pub three_parts : Contract
three_parts = Par (of_kind oil Success) usd_or_oil

abbrev pub some_oil : Event
some_oil = event ann bob 1 oil 0

abbrev pub some_usd : Event
some_usd = event ann bob 1 usd 0

abbrev pub three_oil : Event
three_oil = event ann bob 3 oil 0

-- (Success + O. Success) ; U. Success
abbrev pub over : Contract
over = Seq (Plus Success (of_kind oil Success)) (of_kind usd Success)

-- transmit(a, b, r, t | true). transmit(a, c, q, w | a = bob). Success
abbrev pub inner : Contract
inner =
    Transmit
    (record { sender = name 10; receiver = name 30; what = name 31; day = name 32 })
    (equals (named 10) (Expression.Named bob))
    Success

abbrev pub rebound : Contract
rebound = Transmit (binders 10) (Expression.Literal (V.Bool true)) inner

-- the choice of `transmit(a, b, r, t | amount(r) = i). Success` for i from 1 on
abbrev pub amounts : ℕ → Contract
amounts zero = of_amount (number 1) Success
amounts (suc n) = Plus (amounts n) (of_amount (number (n + 2)) Success)

abbrev pub agent : Name → Expression
agent x = Expression.Named x

abbrev pub day_of : Event → Expression
day_of e = Expression.Literal (V.Day e.day)

-- bob owes ann the payment within thirty days of the delivery
abbrev pub payment_owed : Contract
payment_owed = paid (agent bob) (agent ann) (day_of delivery)

abbrev pub too_great : Expression
too_great = Expression.Binary O.Add (number 9_223_372_036_854_775_807) (number 1)

abbrev pub undefined_int : Expression
undefined_int = Expression.Undefined T.Int
