-- The line of a demonstration.
use Rattle.std.specs.Prelude.{ℕ, ℤ, pos, ◌+ℤ◌, Bool, true, false, List, [], ◌∷◌, ◌++◌, Option, Some}
use Rattle.std.specs.Prelude.{map, fold, length}
use Rattle.std.specs.Prelude.{codes}
use Rattle.std.specs.Fmt.{decimal, signed_decimal}
use Rattle.std.specs.List.{count_by}
use Rattle.poets_value.specs.declared.value.Value.{Value}
use Rattle.poets_value.specs.declared.value.Value.TheVariants as V
use Rattle.poets_command.specs.Plain.{Reply, Entry}

-- a contract is registered
abbrev pub is_registered : Reply → Bool
is_registered (Reply.Registered n) = true
is_registered _ = false

-- an event is recorded
abbrev pub is_recorded : Reply → Bool
is_recorded (Reply.Recorded n may_end) = true
is_recorded _ = false

-- a contract is ended
abbrev pub is_ended : Reply → Bool
is_ended Reply.EndedNow = true
is_ended _ = false

-- an event is refused, because the contract cannot go on after it
abbrev pub is_refused : Reply → Bool
is_refused Reply.Unmatched = true
is_refused _ = false

-- what a total counts for: a whole number counts as itself, and a missing or undefined total, and
-- any other value, as 0
abbrev pub amount_of : (total : Option (Option Value)) → ℤ
amount_of (Some (Some (V.Int n))) = n
amount_of _ = pos 0

-- what a reply says was paid: the total of a portfolio
abbrev pub paid_in : Reply → ℤ
paid_in (Reply.Folio rows total) = amount_of total
paid_in _ = pos 0

-- how many replies in a history pass the test
abbrev pub count_replies : (such : Reply → Bool) → List Entry → ℕ
count_replies such h = count_by (λ e. such e.reply) h

-- what the replies of a history say was paid, all together
abbrev pub paid : List Entry → ℤ
paid h = fold ◌+ℤ◌ (pos 0) (map (λ e. paid_in e.reply) h)

-- `demo 1: entries 48, registered 8, recorded 16, ended 8, refused 8, paid 24`, and LF (10)
abbrev pub demo_line : (sales : ℕ) → List Entry → List ℕ
demo_line sales h =
    codes "demo " ++ decimal sales
    ++ codes ": entries " ++ decimal (length h)
    ++ codes ", registered " ++ decimal (count_replies is_registered h)
    ++ codes ", recorded " ++ decimal (count_replies is_recorded h)
    ++ codes ", ended " ++ decimal (count_replies is_ended h)
    ++ codes ", refused " ++ decimal (count_replies is_refused h)
    ++ codes ", paid " ++ signed_decimal (paid h)
    ++ 10 ∷ []
