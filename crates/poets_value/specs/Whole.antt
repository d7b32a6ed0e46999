-- What is whole: every number in it is a whole number of the language, and every day one of its
-- days.
use Rattle.std.specs.Prelude.{◌^◌, ◌-◌, Bool, ◌&&◌, List, All, IsTrue, ℤ, pos, neg_ℤ, int_le}
use Rattle.poets_value.specs.declared.value.Resource.{Resource}
use Rattle.poets_value.specs.declared.value.Value.{Value}
use Rattle.poets_value.specs.declared.value.Value.TheVariants as V
use Rattle.poets_value.specs.declared.event.Event.{Event}

-- the whole numbers: the greatest is 2^63 - 1, and the least is its opposite
abbrev pub is_whole : ℤ → Bool
is_whole z = int_le (neg_ℤ (pos (2 ^ 63 - 1))) z && int_le z (pos (2 ^ 63 - 1))

-- the days from 0001-01-01 to 9999-12-31, by their numbers
abbrev pub is_day : ℤ → Bool
is_day z = int_le (neg_ℤ (pos 719_162)) z && int_le z (pos 2_932_896)

-- the amount of the resource is a whole number of the language
abbrev pub IsWholeResource : Resource → Type 0
IsWholeResource r = IsTrue (is_whole r.amount)

-- each number in the value is a whole number of the language, and each day one of its days
abbrev pub IsWholeValue : Value → Type 0
IsWholeValue (V.Int n) = IsTrue (is_whole n)
IsWholeValue (V.Bool b) = Unit {0}
IsWholeValue (V.Agent a) = Unit {0}
IsWholeValue (V.Kind k) = Unit {0}
IsWholeValue (V.Resource r) = IsWholeResource r
IsWholeValue (V.Day d) = IsTrue (is_day d)

-- the amount of the event's resource is a whole number of the language, and its day one of its days
abbrev pub IsWholeEvent : Event → Type 0
IsWholeEvent e = IsWholeResource e.what × IsTrue (is_day e.day)

-- each event of the trace is whole
abbrev pub IsWholeTrace : List Event → Type 0
IsWholeTrace events = All IsWholeEvent events
