-- The day of the last event.
use Rattle.std.proofs.Common.{◌≡◌, suc, ◌-◌, List, [], ◌∷◌, Option, length, slice_get, option_map, refl, sym, ◌∙◌, ap, arith}
use Rattle.poets_value.specs.declared.event.Event.{Event}
use Rattle.poets_history.specs.Ledger.{last_day}

pub last_day-slice_get : (s : List Event) → last_day s ≡ option_map (λ e. e.day) (slice_get s (length s - 1))
last_day-slice_get [] = refl
last_day-slice_get (e ∷ []) = refl
last_day-slice_get (e ∷ e' ∷ s) =
    let here : suc (length s) - 1 ≡ length s = omega arith in
    let there : suc (suc (length s)) - 1 ≡ suc (length s) = omega arith in
    last_day-slice_get (e' ∷ s) ∙ ap (λ i. option_map (λ e. e.day) (slice_get (e' ∷ s) i)) here
    ∙ sym (ap (λ i. option_map (λ e. e.day) (slice_get (e ∷ e' ∷ s) i)) there)

pub last_day_is : (s : List Event) (o : Option Event) → o ≡ slice_get s (length s - 1) → option_map (λ e. e.day) o ≡ last_day s
last_day_is s o h = ap (option_map (λ e. e.day)) h ∙ sym (last_day-slice_get s)
