-- Checks as the code answers them.
use Rattle.std.proofs.Common.{◌≡◌, Result, Ok, Err, refl}
use Rattle.std.specs.Prelude.{IfErr}
use Rattle.poets_syntax.specs.Plain.{Twice, Unknown, WrongCount, WrongType}
use Rattle.poets_syntax.specs.TypeOf.{Verdict, Passes, Fails, ◌>>=◌}
use Rattle.poets_types.specs.declared.cause.TypeCause.{TypeCause}
use Rattle.poets_types.specs.code.Answers.{IsToldBy}
use Rattle.poets_types.specs.code.Answers.{answer_of, IsAnswerOf}

pub passes_from_ok : {A : Type 0} (r : Verdict A) (a : A) → answer_of r ≡ Ok a → r ≡ Passes a
passes_from_ok (Passes b) a e = cc
passes_from_ok (Fails f) a e = absurd cc

-- the first check fails
pub fails_first : {A B : Type 0} (r : Verdict A) (next : A → Verdict B) (cause : TypeCause) → answer_of r ≡ Err cause → answer_of (r >>= next) ≡ Err cause
fails_first (Passes a) next cause e = absurd cc
fails_first (Fails f) next cause e = cc

-- the answer of a check tells it
pub answer_told : (check : Verdict (Unit {0})) (result : Result (Unit {0}) TypeCause) → result ≡ answer_of check → IsAnswerOf check result
answer_told check result e = rw e (by_check check)
  where
    by_check : (r : Verdict (Unit {0})) → IsAnswerOf r (answer_of r)
    by_check (Passes _) = refl
    by_check (Fails (Twice x)) = refl
    by_check (Fails (Unknown x)) = refl
    by_check (Fails (WrongCount x wanted found)) = refl
    by_check (Fails (WrongType wanted found)) = refl

pub fault_told : (check : Verdict (Unit {0})) (result : Result (Unit {0}) TypeCause) → result ≡ answer_of check → IfErr result (IsToldBy check)
fault_told check (Ok _) e = tt
fault_told check (Err cause) e = answer_told check (Err cause) e
