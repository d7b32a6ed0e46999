-- Statements that keep the limits, one by one.
use Rattle.std.proofs.Common.{◌≡◌, ℕ, ◌+◌, ◌≤◌, Bool, true, false, List, [], ◌∷◌, ◌++◌, Some, All, length, take, refl, subst, arith}
use Rattle.std.specs.Prelude.{◌||◌, nat_le, nat_lt, count_by, cond}
use Rattle.std.proofs.Math.Seq.{take-append_seam}
use Rattle.std.proofs.lemmas.Bool.Decides.{nat_tests}
use Rattle.std.proofs.lemmas.List.Elements.{All-nil, All-push, All-pop, All-take}
use Rattle.std.proofs.lemmas.List.Sums.{sum_by-append}
use Rattle.poets_value.specs.Limits.{most_clerks}
use Rattle.poets_command.specs.Said.{Statement, Agents, Kinds, Template, Report, Clerk, Journal, Command, Numbered}
use Rattle.poets_session.specs.Places.{is_template, is_report, is_clerk, is_command, most_templates, most_reports, most_commands, HasClerk, KeepLimits}
use Rattle.poets_session.specs.code.Placing.{has_all, is_too_many}

pub limits_nothing : KeepLimits []
limits_nothing = record { clerks = omega arith; templates = omega arith; reports = omega arith; commands = omega arith; numbers = All-nil HasClerk }

counted : (is_one : Statement → Bool) (front more : List Statement) → count_by is_one (front ++ more) ≡ count_by is_one front + count_by is_one more
counted is_one front more = sum_by-append (λ (x : Statement). cond (is_one x) 1 0) front more

-- ---- statements in front of others

fewer : (is_one : Statement → Bool) (most : ℕ) (front more : List Statement) → count_by is_one (front ++ more) ≤ most → count_by is_one front ≤ most
fewer is_one most front more le = omega (arith, le, counted is_one front more)

pub limits_front : (front more : List Statement) → KeepLimits (front ++ more) → KeepLimits front
limits_front front more h = record {
  clerks = fewer is_clerk most_clerks front more h.clerks;
  templates = fewer is_template most_templates front more h.templates;
  reports = fewer is_report most_reports front more h.reports;
  commands = fewer is_command most_commands front more h.commands;
  numbers = subst (All HasClerk) (take-append_seam front more) (All-take HasClerk (length front) (front ++ more) h.numbers);
}

-- ---- one more statement

-- one more leaves those of a kind within the most, where it is not one too many
abbrev StaysWithin : (Statement → Bool) → ℕ → Type 0
StaysWithin is_one most =
    (before : List Statement) (s : Statement) → is_too_many before s ≡ false → count_by is_one before ≤ most → count_by is_one before + count_by is_one (s ∷ []) ≤ most

more_clerks : StaysWithin is_clerk most_clerks
more_clerks before Clerk few le = grind (arith, nat_tests)
more_clerks before s few le = omega (arith, le)

more_templates : StaysWithin is_template most_templates
more_templates before (Template t) few le = grind (arith, nat_tests)
more_templates before s few le = omega (arith, le)

more_reports : StaysWithin is_report most_reports
more_reports before (Report q) few le = grind (arith, nat_tests)
more_reports before s few le = omega (arith, le)

more_commands : StaysWithin is_command most_commands
more_commands before (Command command) few le = grind (arith, nat_tests)
more_commands before (Numbered clerk command) few le = grind (arith, nat_tests)
more_commands before s few le = omega (arith, le)

has_clerk : (before : List Statement) (s : Statement) → is_too_many before s ≡ false → HasClerk s
has_clerk before (Numbered clerk command) few = (grind (arith, nat_tests), grind (arith, nat_tests))
has_clerk before s few = tt

within : (is_one : Statement → Bool) (most : ℕ) → StaysWithin is_one most → (before : List Statement) (s : Statement) → is_too_many before s ≡ false →
    count_by is_one before ≤ most → count_by is_one (before ++ s ∷ []) ≤ most
within is_one most stays before s few le = omega (arith, stays before s few le, counted is_one before (s ∷ []))

pub limits_more : (before : List Statement) (s : Statement) → KeepLimits before → is_too_many before s ≡ false → KeepLimits (before ++ s ∷ [])
limits_more before s h few = record {
  clerks = within is_clerk most_clerks more_clerks before s few h.clerks;
  templates = within is_template most_templates more_templates before s few h.templates;
  reports = within is_report most_reports more_reports before s few h.reports;
  commands = within is_command most_commands more_commands before s few h.commands;
  numbers = All-push HasClerk before s h.numbers (has_clerk before s few);
}

-- ---- one too many

full : (most n m : ℕ) → nat_le most n ≡ true → m ≡ n + 1 → m ≤ most → ⊥
full most n m many e le = grind (arith, nat_tests)

not_below : (a b : ℕ) → nat_lt a b ≡ true → b ≤ a → ⊥
not_below a b less le = grind (arith, nat_tests)

none_of : (a b c : Bool) → (a || b || c) ≡ true → (a ≡ true → ⊥) → (b ≡ true → ⊥) → (c ≡ true → ⊥) → ⊥
none_of true b c e f g h = f refl
none_of false true c e f g h = g refl
none_of false false true e f g h = h refl
none_of false false false e f g h = absurd cc

pub limits_broken : (before : List Statement) (s : Statement) → is_too_many before s ≡ true → KeepLimits (before ++ s ∷ []) → ⊥
limits_broken before Clerk many h =
    full most_clerks (count_by is_clerk before) (count_by is_clerk (before ++ Clerk ∷ [])) many
    (omega (arith, counted is_clerk before (Clerk ∷ []))) h.clerks
limits_broken before (Template t) many h =
    full most_templates (count_by is_template before) (count_by is_template (before ++ Template t ∷ [])) many
    (omega (arith, counted is_template before (Template t ∷ []))) h.templates
limits_broken before (Report q) many h =
    full most_reports (count_by is_report before) (count_by is_report (before ++ Report q ∷ [])) many
    (omega (arith, counted is_report before (Report q ∷ []))) h.reports
limits_broken before (Command command) many h =
    full most_commands (count_by is_command before) (count_by is_command (before ++ Command command ∷ [])) many
    (omega (arith, counted is_command before (Command command ∷ []))) h.commands
limits_broken before (Numbered clerk command) many h =
    let s = Numbered clerk command in
    let has : HasClerk s = (All-pop HasClerk (before ++ s ∷ []) before (Some s) refl h.numbers).1 in
    none_of (nat_lt clerk 1) (nat_lt most_clerks clerk) (has_all most_commands is_command before) many
    (λ low. not_below clerk 1 low has.0) (λ high. not_below most_clerks clerk high has.1)
    (λ all.
    full most_commands (count_by is_command before) (count_by is_command (before ++ s ∷ [])) all
    (omega (arith, counted is_command before (s ∷ []))) h.commands)
limits_broken before s many h = absurd cc
