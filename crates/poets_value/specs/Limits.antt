-- Limits that several crates share.
use Rattle.std.specs.Prelude.{ℕ}
use Rattle.poets_value.specs.declared.limits.TheConstants.{LONGEST_TEXT, MOST_CLERKS, MOST_SALES}

-- the most bytes of a text
abbrev pub longest_text : ℕ
longest_text = LONGEST_TEXT

-- the most clerks that work at once
abbrev pub most_clerks : ℕ
most_clerks = MOST_CLERKS

-- the most sales of each clerk of a demonstration
abbrev pub most_sales : ℕ
most_sales = MOST_SALES
