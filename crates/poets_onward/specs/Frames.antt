-- What contracts see of the frame of a machine that goes on.
use Rattle.std.specs.Prelude.{ℕ, List, refl}
use Rattle.std.specs.Coded.{Coded, code_by, coded×, coded_list, coded_ℕ}

-- the frame of the machine, and the calls that it took before
pub record OnwardFrameOf (F C : Type 0) : Type 0 where
  pub inner : F
  pub earlier : List (ℕ × C)

abbrev pub onward_frame_code : {F C : Type 0} → Coded F → Coded C → Coded (OnwardFrameOf F C)
onward_frame_code {F} {C} f c =
    code_by (F × List (ℕ × C)) (coded× f (coded_list (coded× coded_ℕ c))) (λ r. (r.inner, r.earlier))
    (λ p. record { inner = p.0; earlier = p.1 }) (λ _. refl)
