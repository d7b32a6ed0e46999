-- The line of a history by its numbers.
use Rattle.std.proofs.Common.{◌≡◌, ℕ, List, [], ◌∷◌, ◌++◌, length, refl}
use Rattle.std.specs.Prelude.{ℤ, codes}
use Rattle.std.specs.Fmt.{decimal, signed_decimal}
use Rattle.poets_command.specs.Plain.{Entry}
use Rattle.poets_demo.specs.Line.{count_replies, demo_line, is_ended, is_recorded, is_refused, is_registered, paid}

-- the line of these numbers
unfoldable pub line_of : (sales entries registered recorded ended refused : ℕ) (paid : ℤ) → List ℕ
line_of sales entries registered recorded ended refused paid =
    codes "demo " ++ decimal sales
    ++ codes ": entries " ++ decimal entries
    ++ codes ", registered " ++ decimal registered
    ++ codes ", recorded " ++ decimal recorded
    ++ codes ", ended " ++ decimal ended
    ++ codes ", refused " ++ decimal refused
    ++ codes ", paid " ++ signed_decimal paid
    ++ 10 ∷ []

whole_line : (sales : ℕ) (h : List Entry) →
    line_of sales (length h) (count_replies is_registered h) (count_replies is_recorded h) (count_replies is_ended h) (count_replies is_refused h) (paid h) ≡ demo_line sales h
unfolding line_of
whole_line sales h = refl

-- where the numbers are those of a history, the line is its line
module _ (sales : ℕ) (h : List Entry) where
  pub line_of_history : (entries registered recorded ended refused : ℕ) (sum : ℤ) → entries ≡ length h → registered ≡ count_replies is_registered h →
      recorded ≡ count_replies is_recorded h → ended ≡ count_replies is_ended h → refused ≡ count_replies is_refused h → sum ≡ paid h →
      line_of sales entries registered recorded ended refused sum ≡ demo_line sales h
  line_of_history entries registered recorded ended refused sum e₁ e₂ e₃ e₄ e₅ e₆ = rw (e₁, e₂, e₃, e₄, e₅, e₆) (whole_line sales h)
