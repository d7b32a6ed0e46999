-- The calls of a journal, one after the other.
use Rattle.std.proofs.Common.{◌≡◌, ℕ, ◌+◌, ◌<◌, List, [], ◌∷◌, ◌++◌, length, get_or, map, take, sym, ◌∙◌, ap, arith, append_assoc, append-nil}
use Rattle.std.specs.Arc.{arc_value}
use Rattle.std.specs.declared.alloc.Global.{Global}
use Rattle.std.specs.declared.sync.Arc.{Arc}
use Rattle.std.proofs.lemmas.List.{map_more, length-map, length-take-le}
use Rattle.poets_value.specs.Listed.{Listed}
use Rattle.poets_command.specs.declared.call.Command.{Command as CodeCommand}
use Rattle.poets_command.specs.Plain.{Command}
use Rattle.poets_command.specs.Calls.{Call, command_of}
use Rattle.poets_session.specs.Sessions.{calls_in}

-- one call more
pub calls_more : (calls : List (ℕ × Arc CodeCommand Global)) (i : ℕ) (p : ℕ × Arc CodeCommand Global) (before : List Call) → i < length calls → p ≡ get_or calls i p →
    before ≡ calls_in (take i calls) → before ++ (p.0, command_of (arc_value p.1)) ∷ [] ≡ calls_in (take (i + 1) calls)
calls_more calls i p before lt at e =
    ap (λ b. b ++ (p.0, command_of (arc_value p.1)) ∷ []) e
    ∙ ap (λ (q : ℕ × Arc CodeCommand Global). calls_in (take i calls) ++ (q.0, command_of (arc_value q.1)) ∷ []) at
    ∙ sym (map_more (λ (q : ℕ × Arc CodeCommand Global). (q.0, command_of (arc_value q.1))) calls i p lt)
