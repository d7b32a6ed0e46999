-- The book determines which marks are right, and so what is owed and what is past the limit.
use Rattle.std.proofs.Common.{◌≡◌, Bool, true, false, List, refl, sym, ◌∙◌, subst}
use Rattle.std.specs.Prelude.{IsTrue, ◌↔◌}
use Rattle.poets_value.specs.declared.event.Event.{Event}
use Rattle.poets_syntax.specs.Contract.{Contract}
use Rattle.poets_syntax.specs.Plain.{Book}
use Rattle.poets_meaning.specs.Marks.{Marks, AreRight}
use Rattle.poets_meaning.specs.Spread.{is_past_limit}
use Rattle.poets_calculus.specs.Residual.{residual_after}
use Rattle.poets_history.specs.Frame.{Frame}
use Rattle.poets_history.specs.Owed.{WithRightMarks, Owed, IsPastLimit}
use Rattle.poets_history.specs.Replies.{IsTooLarge}
use Rattle.poets_history.specs.Laws.{OneMarks, OneOwed, OwedIsResidual, PastLimitIs}

bool_one : (a b : Bool) → (a ≡ true → b ≡ true) → (b ≡ true → a ≡ true) → a ≡ b
bool_one true b f g = sym (f refl)
bool_one false true f g = g refl
bool_one false false f g = refl

-- truth values that tell the same are one
pub one_by : {P : Type 0} (a b : Bool) → IsTrue a ↔ P → IsTrue b ↔ P → a ≡ b
one_by a b h k = bool_one a b (λ e. k.1 (h.0 e)) (λ e. h.1 (k.0 e))

pub one_marks : OneMarks
one_marks book marks marks' h h' = λ i. record {
  nullable = λ f. one_by (marks.nullable f) (marks'.nullable f) (h.nullable f) (h'.nullable f) i;
  hopeful = λ f. one_by (marks.hopeful f) (marks'.hopeful f) (h.hopeful f) (h'.hopeful f) i;
}

module _ (book : Book) (marks : Marks) (right : AreRight book marks) where
  -- what holds for some right marks holds for these
  pub by_marks : (P : Marks → Type 0) → WithRightMarks book P → P marks
  by_marks P h = subst P (one_marks book h.marks marks h.right right) h.holds

  pub with_marks : (P : Marks → Type 0) → P marks → WithRightMarks book P
  with_marks P h = record { marks = marks; right = right; holds = h }

  module _ (o : Contract) (s : List Event) where
    -- the residual is owed
    pub residual_owed : Owed book o s (residual_after book marks o s)
    residual_owed = with_marks (λ m. residual_after book m o s ≡ residual_after book marks o s) refl

    -- what is owed is the residual
    pub owed_residual : (r : Contract) → Owed book o s r → residual_after book marks o s ≡ r
    owed_residual r h = by_marks (λ m. residual_after book m o s ≡ r) h

    -- whether what is owed is past the limit is asked of the residual
    pub large : (f : Frame) → f.book ≡ book → IsTrue (is_past_limit book marks (residual_after book marks o s)) → IsTooLarge f o s
    large f same e =
        subst (λ b. (r : Contract) × Owed b o s r × IsPastLimit b r) (sym same)
        (residual_after book marks o s, residual_owed, with_marks (λ m. IsTrue (is_past_limit book m (residual_after book marks o s))) e)

    pub found_large : (f : Frame) → f.book ≡ book → IsTooLarge f o s → IsTrue (is_past_limit book marks (residual_after book marks o s))
    found_large f same h =
        let here : (r : Contract) × Owed book o s r × IsPastLimit book r = subst (λ b. (r : Contract) × Owed b o s r × IsPastLimit b r) same h in
        subst (λ r. IsTrue (is_past_limit book marks r)) (sym (owed_residual here.0 here.1))
        (by_marks (λ m. IsTrue (is_past_limit book m here.0)) here.2)

pub one_owed : OneOwed
one_owed book o s r r' h k = sym h.holds ∙ owed_residual book h.marks h.right o s r' k

pub owed_is_residual : OwedIsResidual
owed_is_residual book marks o s r right = (
  owed_residual book marks right o s r,
  λ e. with_marks book marks right (λ m. residual_after book m o s ≡ r) e,
)

pub past_limit_is : PastLimitIs
past_limit_is book marks c right = (
  by_marks book marks right (λ m. IsTrue (is_past_limit book m c)),
  with_marks book marks right (λ m. IsTrue (is_past_limit book m c)),
)
