-- What contracts see of a journal.
use Rattle.std.specs.Prelude.{ℕ, Bool, refl}
use Rattle.std.specs.Coded.{Coded, code_by, coded×, coded_ℕ, coded_bool}

-- what contracts see of a journal: its disk, how many bytes come before the gate after which the
-- next text goes, and whether an `append` failed
pub record JournalOf (D : Type 0) : Type 0 where
  pub disk : D
  pub gate : ℕ
  pub failed : Bool

abbrev pub journal_code : {D : Type 0} → Coded D → Coded (JournalOf D)
journal_code {D} code =
    code_by (D × (ℕ × Bool)) (coded× code (coded× coded_ℕ coded_bool))
    (λ j. (j.disk, (j.gate, j.failed))) (λ p. record { disk = p.0; gate = p.1.0; failed = p.1.1 }) (λ _. refl)
