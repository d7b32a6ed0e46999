-- The text of a day is text.
use Rattle.std.proofs.Common.{◌≡◌, List, ℕ, ℤ, sym, subst}
use Rattle.std.specs.Str.{IsUtf8}
use Rattle.poets_value.specs.Civil.{day_text}
use Rattle.poets_value.proofs.DayTexts.{day_text-utf8}

pub of_day : (bytes : List ℕ) (n : ℤ) → bytes ≡ day_text n → IsUtf8 bytes
of_day bytes n e = subst IsUtf8 (sym e) (day_text-utf8 n)
