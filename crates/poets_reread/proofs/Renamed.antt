-- Trees with each name replaced by another.
use Rattle.std.proofs.Common.{List, map}
use Rattle.poets_value.specs.declared.event.Event.{Event}
use Rattle.poets_value.specs.declared.value.Name.{Name}
use Rattle.poets_value.specs.declared.value.Resource.{Resource}
use Rattle.poets_value.specs.declared.value.Value.{Value}
use Rattle.poets_value.specs.declared.value.Value.TheVariants as V
use Rattle.poets_expr.specs.Expression.{Expression, Literal, Undefined, Named, Unary, Make, Binary, If}
use Rattle.poets_syntax.specs.declared.term.Binders.{Binders}
use Rattle.poets_syntax.specs.Contract as C
use Rattle.poets_syntax.specs.Contract.{Contract}
use Rattle.poets_command.specs.Plain as plain
use Rattle.poets_command.specs.Plain.{Command}

abbrev pub renamed_resource : (Name → Name) → Resource → Resource
renamed_resource new r = record { kind = new r.kind; amount = r.amount }

abbrev pub renamed_value : (Name → Name) → Value → Value
renamed_value new (V.Int z) = V.Int z
renamed_value new (V.Bool b) = V.Bool b
renamed_value new (V.Agent x) = V.Agent (new x)
renamed_value new (V.Kind x) = V.Kind (new x)
renamed_value new (V.Resource r) = V.Resource (renamed_resource new r)
renamed_value new (V.Day d) = V.Day d

abbrev pub renamed : (Name → Name) → Expression → Expression
renamed new (Literal v) = Literal (renamed_value new v)
renamed new (Undefined t) = Undefined t
renamed new (Named x) = Named (new x)
renamed new (Unary o a) = Unary o (renamed new a)
renamed new (Make a b) = Make (renamed new a) (renamed new b)
renamed new (Binary o a b) = Binary o (renamed new a) (renamed new b)
renamed new (If a b c) = If (renamed new a) (renamed new b) (renamed new c)

abbrev pub renamed_args : (Name → Name) → List Expression → List Expression
renamed_args new args = map (renamed new) args

abbrev pub renamed_binders : (Name → Name) → Binders → Binders
renamed_binders new b = record { sender = new b.sender; receiver = new b.receiver; what = new b.what; day = new b.day }

abbrev pub renamed_contract : (Name → Name) → Contract → Contract
renamed_contract new C.Success = C.Success
renamed_contract new C.Failure = C.Failure
renamed_contract new (C.Transmit b p c) = C.Transmit (renamed_binders new b) (renamed new p) (renamed_contract new c)
renamed_contract new (C.Plus a b) = C.Plus (renamed_contract new a) (renamed_contract new b)
renamed_contract new (C.Par a b) = C.Par (renamed_contract new a) (renamed_contract new b)
renamed_contract new (C.Seq a b) = C.Seq (renamed_contract new a) (renamed_contract new b)
renamed_contract new (C.App f args) = C.App (new f) (renamed_args new args)

abbrev pub renamed_event : (Name → Name) → Event → Event
renamed_event new e =
    record { sender = new e.sender; receiver = new e.receiver; what = renamed_resource new e.what; day = e.day }

abbrev pub renamed_command : (Name → Name) → Command → Command
renamed_command new (plain.Register x c) = plain.Register (new x) (renamed_contract new c)
renamed_command new (plain.Transmit x e) = plain.Transmit (new x) (renamed_event new e)
renamed_command new (plain.Void x k) = plain.Void (new x) k
renamed_command new (plain.End x) = plain.End (new x)
renamed_command new (plain.Show x) = plain.Show (new x)
renamed_command new (plain.Tally q args) = plain.Tally (new q) (renamed_args new args)
renamed_command new (plain.Portfolio q args over) = plain.Portfolio (new q) (renamed_args new args) (map new over)
renamed_command new (plain.Watch q args) = plain.Watch (new q) (renamed_args new args)
renamed_command new (plain.Read n) = plain.Read n
