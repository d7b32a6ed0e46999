-- Worked histories: their replies were written by hand, and each is the right one.
use Rattle.std.proofs.Common.{arith, ◌≡◌, ℕ, zero, suc, ◌+◌, Bool, true, false, nat_lt, List, [], ◌∷◌, Some, None, if◌then◌else◌, take, refl, sym, ◌∙◌, subst, inl, inr}
use Rattle.std.specs.Prelude.{ℤ, pos, IsTrue, ◌↔◌}
use Rattle.std.proofs.lemmas.Bool.{false≢true}
use Rattle.std.proofs.lemmas.Option.{none-some}
use Rattle.poets_value.specs.declared.value.Name.{Name}
use Rattle.poets_value.specs.declared.event.Event.{Event}
use Rattle.poets_value.specs.declared.value.Ty.TheVariants as T
use Rattle.poets_value.specs.declared.value.Value.TheVariants as V
use Rattle.poets_expr.specs.declared.expr.Op.TheVariants as O
use Rattle.poets_expr.specs.Env.{Declared, Env, same_name}
use Rattle.poets_expr.proofs.SameTrees.{name_one}
use Rattle.poets_expr.specs.Expression.{Expression, Literal, Named, Unary, Binary, Not, AmountOf, KindOf}
use Rattle.poets_syntax.specs.declared.term.Binders.{Binders}
use Rattle.poets_syntax.specs.Contract.{Contract}
use Rattle.poets_syntax.specs.Plain.{Book, Template}
use Rattle.poets_syntax.specs.Book.{template_in}
use Rattle.poets_syntax.proofs.Replacing.{truth}
use Rattle.poets_meaning.specs.Between.{Between}
use Rattle.poets_meaning.specs.Perf.{Perf}
use Rattle.poets_meaning.specs.May.{May}
use Rattle.poets_meaning.specs.NoTemplates.{without_templates, no_marks}
use Rattle.poets_meaning.specs.Spread.{is_past_limit}
use Rattle.poets_calculus.specs.Residual.{residual_after}
use Rattle.poets_meaning.specs.Marks.{Marks, AreRight, BodySatisfies, Hopeful}
use Rattle.poets_report.specs.Keys.{Key, same_key}
use Rattle.poets_report.specs.Plain.{Report, Answer}
use Rattle.poets_report.specs.Reports.{folded, key_on, with_key}
use Rattle.poets_report.specs.Keyed.{row_at}
use Rattle.poets_report.proofs.FoldsByKey.{if_any, rows_by_key}
use Rattle.poets_command.specs.Plain.{Command, Reply, Entry}
use Rattle.poets_history.specs.Gathered.{log_of}
use Rattle.poets_history.specs.Frame.{Frame, frame_of}
use Rattle.poets_history.specs.Owed.{Owed}
use Rattle.poets_history.specs.Replies.{Replies, Legal, HasPlace, IsTooLarge, GrowsTooLarge}
use Rattle.poets_history.proofs.Owing.{residual_owed, large, found_large}

abbrev name : ℕ → Name
name n = record { id = n }

-- agents ann, bob;; kinds Oil, USD;;
abbrev ann : Name
ann = name 0

abbrev bob : Name
bob = name 1

abbrev oil : Name
oil = name 2

abbrev usd : Name
usd = name 3

abbrev declared : Declared
declared x = if nat_lt x.id 2 then Some T.Agent else (if nat_lt x.id 4 then Some T.Kind else None)

abbrev binders : Binders
binders = record { sender = name 10; receiver = name 11; what = name 12; day = name 13 }

-- report sum(): Int = fold x = 0 with (s, v, r, t) in x + amount(r)
abbrev sum : Report
sum = record {
  name = name 20;
  params = [];
  ty = T.Int;
  start = Literal (V.Int (pos 0));
  carry = name 14;
  binders = binders;
  step = Binary O.Add (Named (name 14)) (Unary AmountOf (Named (name 12)));
  key = None;
}

-- report moved(): the same by kind(r)
abbrev moved : Report
moved = record sum { name = name 21; key = Some (Unary KindOf (Named (name 12))) }

abbrev frame : Frame
frame = frame_of (without_templates declared) (sum ∷ moved ∷ [])

-- transmit(s, v, r, t | kind(r) = Oil). then
abbrev oil_then : Contract → Contract
oil_then c = Contract.Transmit binders (Binary O.Eq (Unary KindOf (Named (name 12))) (Named oil)) c

-- so much oil from ann to bob, on a day of January 2006
abbrev moves : ℤ → ℕ → Event
moves amount day = record { sender = ann; receiver = bob; what = record { kind = oil; amount = amount }; day = pos (13148 + day) }

abbrev by : ℕ → Command → Reply → Entry
by clerk command reply = record { clerk = clerk; command = command; reply = reply }

abbrev a : Name
a = name 30

abbrev c : Name
c = name 31

abbrev d : Name
d = name 32

abbrev plain : Book
plain = without_templates declared

-- no template is nullable or hopeful, for there is none
no_marks_right : AreRight plain no_marks
no_marks_right = record {
  nullable = λ f. (λ h. absurd (false≢true h), λ b. absurd (none-some b.0 b.1));
  hopeful = λ f. (λ h. absurd (false≢true h), λ b. absurd (none-some b.0 b.1));
}

-- the residual is owed
owed : (o : Contract) (s : List Event) → Owed plain o s (residual_after plain no_marks o s)
owed o s = residual_owed plain no_marks no_marks_right o s

is_not_too_large : (o : Contract) (s : List Event) → is_past_limit plain no_marks (residual_after plain no_marks o s) ≡ false → IsTooLarge frame o s → ⊥
is_not_too_large o s within large = false≢true (sym within ∙ found_large plain no_marks no_marks_right o s frame refl large)

-- a contract is registered, shown and ended once; a second one of its name, and an event that it does not want, are refused
abbrev first_day : List Entry
first_day =
    by 1 (Command.Register a Contract.Success) (Reply.Registered 1)
    ∷ by 2 (Command.Register a Contract.Failure) (Reply.NameTaken 1)
    ∷ by 2 (Command.Transmit a (moves (pos 1) 1)) Reply.Unmatched
    ∷ by 1 (Command.Show a) (Reply.Shown Contract.Success 0 true false)
    ∷ by 1 (Command.End a) Reply.EndedNow
    ∷ by 1 (Command.End a) Reply.AlreadyEnded
    ∷ by 2 (Command.Transmit a (moves (pos 1) 1)) Reply.Ended
    ∷ by 1 (Command.Show a) (Reply.Shown Contract.Success 0 true true)
    ∷ by 1 (Command.Register d (oil_then Contract.Failure)) Reply.Hopeless
    ∷ by 1 (Command.Show d) (Reply.NoContract d)
    ∷ []

success_is_over : {env : Env} {e : Event} {n : ℕ} → May (without_templates declared) env Contract.Success (e ∷ []) n → ⊥
success_is_over m = elim m [ ]

failure_is_hopeless : {env : Env} {n : ℕ} → May (without_templates declared) env (oil_then Contract.Failure) [] n → ⊥
failure_is_hopeless (May.Granted m) = elim m [ ]

success_is_performed : IsTrue true ↔ Perf (without_templates declared) [] Contract.Success []
success_is_performed = (λ _. Perf.Done, λ _. refl)

no : IsTrue false → ⊥
no e = absurd cc

pub first_day_is_legal : Legal frame first_day
first_day_is_legal =
    let h₁ : Legal frame (take 1 first_day) = Legal.More _ Legal.Empty (Replies.Registered refl (0, May.Done) (is_not_too_large Contract.Success [] refl)) in
    let h₂ : Legal frame (take 2 first_day) = Legal.More _ h₁ (Replies.NameTaken refl) in
    let h₃ : Legal frame (take 3 first_day) = Legal.More _ h₂ (Replies.Unmatched ((refl, no), refl) (λ m. success_is_over m.1)) in
    let h₄ : Legal frame (take 4 first_day) = Legal.More _ h₃ (Replies.Shown refl (owed Contract.Success []) success_is_performed) in
    let h₅ : Legal frame (take 5 first_day) = Legal.More _ h₄ (Replies.EndedNow (refl, no) Perf.Done) in
    let h₆ : Legal frame (take 6 first_day) = Legal.More _ h₅ (Replies.AlreadyEnded refl refl) in
    let h₇ : Legal frame (take 7 first_day) = Legal.More _ h₆ (Replies.TransmitToEnded refl refl) in
    let h₈ : Legal frame (take 8 first_day) = Legal.More _ h₇ (Replies.Shown refl (owed Contract.Success []) success_is_performed) in
    let h₉ : Legal frame (take 9 first_day) = Legal.More _ h₈ (Replies.Hopeless refl (λ m. failure_is_hopeless m.1)) in
    Legal.More _ h₉ (Replies.ShowOfNone refl)

-- two events are recorded, though not out of order, and told by a watch, a tally and a portfolio
abbrev trade : List Entry
trade =
    by 1 (Command.Register c (oil_then (oil_then Contract.Success))) (Reply.Registered 1)
    ∷ by 1 (Command.Register a Contract.Success) (Reply.Registered 2)
    ∷ by 2 (Command.Watch moved.name []) (Reply.Watching 1)
    ∷ by 1 (Command.Transmit c (moves (pos 5) 2)) (Reply.Recorded 1 false)
    ∷ by 1 (Command.Transmit c (moves (pos 2) 1)) (Reply.Late (pos 13150))
    ∷ by 1 (Command.Show c) (Reply.Shown (oil_then Contract.Success) 1 false false)
    ∷ by 1 (Command.End c) Reply.NotPerformed
    ∷ by 1 (Command.Transmit c (moves (pos 2) 2)) (Reply.Recorded 2 true)
    ∷ by 2 (Command.Read 1) (Reply.Answered (Answer.Rows ((Some (V.Kind oil), Some (V.Int (pos 7))) ∷ [])))
    ∷ by 2 (Command.Read 2) (Reply.NoWatch 2)
    ∷ by 2 (Command.Read 0) (Reply.NoWatch 0)
    ∷ by 2 (Command.Tally sum.name []) (Reply.Answered (Answer.Single (Some (V.Int (pos 7)))))
    ∷ by 2 (Command.Portfolio sum.name [] (c ∷ a ∷ c ∷ []))
    (Reply.Folio
    ((c, Answer.Single (Some (V.Int (pos 7)))) ∷ (a, Answer.Single (Some (V.Int (pos 0)))) ∷ (c, Answer.Single (Some (V.Int (pos 7)))) ∷ [])
    (Some (Some (V.Int (pos 14)))))
    ∷ by 2 (Command.Portfolio sum.name [] (c ∷ d ∷ [])) (Reply.NoContract d)
    ∷ by 1 (Command.End c) Reply.EndedNow
    ∷ []

one_is_too_few : Perf (without_templates declared) [] (oil_then (oil_then Contract.Success)) (moves (pos 5) 2 ∷ []) → ⊥
one_is_too_few (Perf.Taken h p) = none_is_too_few p
  where
    none_is_too_few : {env : Env} → Perf (without_templates declared) env (oil_then Contract.Success) [] → ⊥
    none_is_too_few p = elim p [ ]

two_are_enough : Perf (without_templates declared) [] (oil_then (oil_then Contract.Success)) (moves (pos 5) 2 ∷ moves (pos 2) 2 ∷ [])
two_are_enough = Perf.Taken refl (Perf.Taken refl Perf.Done)

is_not : (IsTrue false) ↔ Perf (without_templates declared) [] (oil_then (oil_then Contract.Success)) (moves (pos 5) 2 ∷ [])
is_not = (λ e. absurd (no e), λ p. absurd (one_is_too_few p))

-- the row of oil is the sum of both amounts, and there is no other row
abbrev AreSeven : Key → Type 0
AreSeven k =
    row_at k ((Some (V.Kind oil), Some (V.Int (pos 7))) ∷ [])
    ≡ if_any (folded declared moved []) (with_key (key_on declared moved [] (Unary KindOf (Named (name 12)))) k (moves (pos 5) 2 ∷ moves (pos 2) 2 ∷ []))

seven_moved : (k : Key) → AreSeven k
seven_moved k = at_oil (same_key k (Some (V.Kind oil))) refl
  where
    at_oil : (b : Bool) → same_key k (Some (V.Kind oil)) ≡ b → AreSeven k
    at_oil true e = rw e refl
    at_oil false e = rw e refl

pub trade_is_legal : Legal frame trade
trade_is_legal =
    let h₁ : Legal frame (take 1 trade) = Legal.More _ Legal.Empty
    (Replies.Registered refl (2, May.Granted (May.Granted May.Done)) (is_not_too_large (oil_then (oil_then Contract.Success)) [] refl)) in
    let h₂ : Legal frame (take 2 trade) = Legal.More _ h₁ (Replies.Registered refl (0, May.Done) (is_not_too_large Contract.Success [] refl)) in
    let h₃ : Legal frame (take 3 trade) = Legal.More _ h₂ Replies.Watching in
    let h₄ : Legal frame (take 4 trade) = Legal.More _ h₃
    (Replies.Recorded ((refl, no), refl) (1, May.Taken refl (May.Granted May.Done)) (is_not_too_large (oil_then (oil_then Contract.Success)) (moves (pos 5) 2 ∷ []) refl) is_not) in
    let h₅ : Legal frame (take 5 trade) = Legal.More _ h₄ (Replies.Late (refl, no) refl) in
    let h₆ : Legal frame (take 6 trade) = Legal.More _ h₅ (Replies.Shown refl (owed (oil_then (oil_then Contract.Success)) (moves (pos 5) 2 ∷ [])) is_not) in
    let h₇ : Legal frame (take 7 trade) = Legal.More _ h₆ (Replies.NotPerformed (refl, no) one_is_too_few) in
    let h₈ : Legal frame (take 8 trade) = Legal.More _ h₇
    (Replies.Recorded ((refl, no), refl) (0, May.Taken refl (May.Taken refl May.Done)) (is_not_too_large (oil_then (oil_then Contract.Success)) (moves (pos 5) 2 ∷ moves (pos 2) 2 ∷ []) refl) (λ _. two_are_enough, λ _. refl)) in
    let h₉ : Legal frame (take 9 trade) = Legal.More _ h₈
    (Replies.Read refl (moved, refl, rows_by_key declared moved [] _ _ _ tt seven_moved)) in
    let h₁₀ : Legal frame (take 10 trade) = Legal.More _ h₉ (Replies.NoWatch refl) in
    let h₁₁ : Legal frame (take 11 trade) = Legal.More _ h₁₀ (Replies.NoWatch refl) in
    let h₁₂ : Legal frame (take 12 trade) = Legal.More _ h₁₁ (Replies.Tallied (sum, refl, refl)) in
    let h₁₃ : Legal frame (take 13 trade) = Legal.More _ h₁₂
    (Replies.Folio refl refl ((refl, refl), ((refl, refl), ((refl, refl), tt)))) in
    let h₁₄ : Legal frame (take 14 trade) = Legal.More _ h₁₃ (Replies.PortfolioOfNone refl) in
    Legal.More _ h₁₄ (Replies.EndedNow (refl, no) two_are_enough)

-- both events are of the first contract
pub trade_recorded : log_of trade ≡ (1, moves (pos 5) 2) ∷ (1, moves (pos 2) 2) ∷ []
trade_recorded = refl

-- an event is withdrawn, and then one of an earlier day is recorded
abbrev withdrawal : List Entry
withdrawal =
    by 1 (Command.Register c (oil_then (oil_then Contract.Success))) (Reply.Registered 1)
    ∷ by 1 (Command.Transmit c (moves (pos 5) 2)) (Reply.Recorded 1 false)
    ∷ by 2 (Command.Void c 2) (Reply.NoEvent 2)
    ∷ by 2 (Command.Void d 1) (Reply.NoContract d)
    ∷ by 2 (Command.Void c 1) (Reply.Voided 0 false)
    ∷ by 1 (Command.Transmit c (moves (pos 2) 1)) (Reply.Recorded 1 false)
    ∷ by 2 (Command.Tally sum.name []) (Reply.Answered (Answer.Single (Some (V.Int (pos 2)))))
    ∷ []

none_is_too_few : Perf (without_templates declared) [] (oil_then (oil_then Contract.Success)) [] → ⊥
none_is_too_few p = elim p [ ]

another_is_too_few : Perf (without_templates declared) [] (oil_then (oil_then Contract.Success)) (moves (pos 2) 1 ∷ []) → ⊥
another_is_too_few (Perf.Taken h p) = later p
  where
    later : {env : Env} → Perf (without_templates declared) env (oil_then Contract.Success) [] → ⊥
    later p = elim p [ ]

no_second : HasPlace (moves (pos 5) 2 ∷ []) 2 → ⊥
no_second h = omega (arith, h.1)

never_too_large : GrowsTooLarge frame (oil_then (oil_then Contract.Success)) [] → ⊥
never_too_large (zero, large) = is_not_too_large (oil_then (oil_then Contract.Success)) [] refl large
never_too_large (suc n, large) = is_not_too_large (oil_then (oil_then Contract.Success)) [] refl large

pub withdrawal_is_legal : Legal frame withdrawal
withdrawal_is_legal =
    let h₁ : Legal frame (take 1 withdrawal) = Legal.More _ Legal.Empty
    (Replies.Registered refl (2, May.Granted (May.Granted May.Done)) (is_not_too_large (oil_then (oil_then Contract.Success)) [] refl)) in
    let h₂ : Legal frame (take 2 withdrawal) = Legal.More _ h₁
    (Replies.Recorded ((refl, no), refl) (1, May.Taken refl (May.Granted May.Done)) (is_not_too_large (oil_then (oil_then Contract.Success)) (moves (pos 5) 2 ∷ []) refl) is_not) in
    let h₃ : Legal frame (take 3 withdrawal) = Legal.More _ h₂ (Replies.NoEvent (refl, no) no_second) in
    let h₄ : Legal frame (take 4 withdrawal) = Legal.More _ h₃ (Replies.VoidOfNone refl) in
    let h₅ : Legal frame (take 5 withdrawal) = Legal.More _ h₄
    (Replies.Voided ((refl, no), (omega arith, omega arith)) never_too_large (2, May.Granted (May.Granted May.Done))
    (λ e. absurd (no e), λ p. absurd (none_is_too_few p))) in
    let h₆ : Legal frame (take 6 withdrawal) = Legal.More _ h₅
    (Replies.Recorded ((refl, no), refl) (1, May.Taken refl (May.Granted May.Done)) (is_not_too_large (oil_then (oil_then Contract.Success)) (moves (pos 2) 1 ∷ []) refl)
    (λ e. absurd (no e), λ p. absurd (another_is_too_few p))) in
    Legal.More _ h₆ (Replies.Tallied (sum, refl, refl))

-- the event that was withdrawn is none of the contract's
pub withdrawal_leaves : log_of withdrawal ≡ (1, moves (pos 2) 1) ∷ []
withdrawal_leaves = refl

-- transmit(s, v, r, t | kind(r) = USD). Success
abbrev usd_then_success : Contract
usd_then_success = Contract.Transmit binders (Binary O.Eq (Unary KindOf (Named (name 12))) (Named usd)) Contract.Success

-- an event that both sides want leaves both open
abbrev either_side : List Entry
either_side =
    by 1 (Command.Register c (Contract.Par (oil_then Contract.Success) (oil_then usd_then_success))) (Reply.Registered 1)
    ∷ by 1 (Command.Transmit c (moves (pos 1) 1)) (Reply.Recorded 1 false)
    ∷ by 1 (Command.Show c)
    (Reply.Shown
    (Contract.Plus (oil_then usd_then_success) (Contract.Par (oil_then Contract.Success) usd_then_success)) 1 false false)
    ∷ []

three_are_wanted : {s₁ s₂ : List Event} {e : Event} → Between s₁ s₂ (e ∷ []) →
    Perf (without_templates declared) [] (oil_then Contract.Success) s₁ → Perf (without_templates declared) [] (oil_then usd_then_success) s₂ → ⊥
three_are_wanted (Between.First b) (Perf.Taken h p) (Perf.Taken h' (Perf.Taken h'' q)) = elim b [ ]
three_are_wanted (Between.Second b) (Perf.Taken h p) (Perf.Taken h' (Perf.Taken h'' q)) = elim b [ ]

not_both : IsTrue false ↔ Perf (without_templates declared) [] (Contract.Par (oil_then Contract.Success) (oil_then usd_then_success)) (moves (pos 1) 1 ∷ [])
not_both = (λ e. absurd (no e), λ p. absurd (one_is_no_three p))
  where
    one_is_no_three : Perf (without_templates declared) [] (Contract.Par (oil_then Contract.Success) (oil_then usd_then_success)) (moves (pos 1) 1 ∷ []) → ⊥
    one_is_no_three (Perf.Beside b p q) = three_are_wanted b p q

pub either_side_is_legal : Legal frame either_side
either_side_is_legal =
    let first : Between (moves (pos 1) 1 ∷ []) [] (moves (pos 1) 1 ∷ []) = Between.First Between.Empty in
    let h₁ : Legal frame (take 1 either_side) = Legal.More _ Legal.Empty
    (Replies.Registered refl (3, May.Beside Between.Empty refl (May.Granted May.Done) (May.Granted (May.Granted May.Done))) (is_not_too_large (Contract.Par (oil_then Contract.Success) (oil_then usd_then_success)) [] refl)) in
    let h₂ : Legal frame (take 2 either_side) = Legal.More _ h₁
    (Replies.Recorded ((refl, no), refl) (2, May.Beside first refl (May.Taken refl May.Done) (May.Granted (May.Granted May.Done)))
    (is_not_too_large (Contract.Par (oil_then Contract.Success) (oil_then usd_then_success)) (moves (pos 1) 1 ∷ []) refl) not_both) in
    Legal.More _ h₂ (Replies.Shown refl (owed (Contract.Par (oil_then Contract.Success) (oil_then usd_then_success)) (moves (pos 1) 1 ∷ [])) not_both)

-- a predicate with so many nodes above its literal
abbrev nots : ℕ → Expression
nots zero = Literal (V.Bool true)
nots (suc n) = Unary Not (nots n)

abbrev wide_by : ℕ → Contract
wide_by n = Contract.Transmit binders (nots n) Contract.Success

-- a size of 1000 is taken, and one of 1001 is not
abbrev at_the_limit : List Entry
at_the_limit =
    by 1 (Command.Register a (wide_by 998)) Reply.TooLarge
    ∷ by 1 (Command.Register a (wide_by 997)) (Reply.Registered 1)
    ∷ []

pub at_the_limit_is_legal : Legal frame at_the_limit
at_the_limit_is_legal =
    let h₁ : Legal frame (take 1 at_the_limit) = Legal.More _ Legal.Empty (Replies.RegisterTooLarge refl (1, May.Granted May.Done) (large plain no_marks no_marks_right (wide_by 998) [] frame refl refl)) in
    Legal.More _ h₁ (Replies.Registered refl (1, May.Granted May.Done) (is_not_too_large (wide_by 997) [] refl))

-- template filled(n: Int) = transmit(s, v, r, t | ..). Success, of size 1000
abbrev filled : Name
filled = name 40

abbrev filled_template : Template
filled_template = record { name = filled; params = record { name = name 41; ty = T.Int } ∷ []; body = wide_by 997 }

abbrev one_template : Book
one_template = record { declared = declared; templates = filled_template ∷ [] }

abbrev one_mark : Marks
one_mark = record { nullable = λ f. false; hopeful = λ f. same_name filled f }

template_is : (f : Name) (t : Template) → template_in one_template.templates f ≡ Some t → (filled ≡ f) × (filled_template ≡ t)
template_is f t q = elim (truth (same_name filled f)) [
  | inl e ↦ (name_one filled f e, some_one (rw e at q))
  | inr e ↦ (let none : _ = rw e at q in absurd cc)
]
  where
    some_one : {x y : Template} → Some x ≡ Some y → x ≡ y
    some_one e = cc

pub mark_is_right : AreRight one_template one_mark
mark_is_right = record {
  nullable = λ f. (λ e. absurd (no e), λ h. absurd (no_transmit (subst (λ t. Perf one_template [] t.body []) (sym (template_is f h.0 h.1).1) h.2)));
  hopeful = λ f. (
    λ e. subst (λ g. BodySatisfies one_template (Hopeful one_template) g) (name_one filled f e) (filled_template, refl, (1, May.Granted May.Done)),
    λ h. subst (λ g. same_name filled g ≡ true) (template_is f h.0 h.1).0 refl,
  );
}
  where
    no_transmit : Perf one_template [] (wide_by 997) [] → ⊥
    no_transmit p = elim p [ ]

abbrev one_frame : Frame
one_frame = frame_of one_template []

abbrev filled_with : ℕ → Contract
filled_with n = Contract.App filled (Literal (V.Int (pos n)) ∷ [])

abbrev five : (i j k l m : ℕ) → Contract
five i j k l m =
    Contract.Par (Contract.Par (Contract.Par (Contract.Par (filled_with i) (filled_with j)) (filled_with k)) (filled_with l)) (filled_with m)

five_hopeful : (i j k l m : ℕ) → Hopeful one_template (five i j k l m)
five_hopeful i j k l m = (5, beside (beside (beside (beside (one i) (one j)) (one k)) (one l)) (one m))
  where
    one : (n : ℕ) → May one_template [] (filled_with n) [] 1
    one n = May.Body refl refl (May.Granted May.Done)

    beside : {n : ℕ} {x y : Contract} → May one_template [] x [] n → May one_template [] y [] 1 → May one_template [] (Contract.Par x y) [] (n + 1)
    beside p q = May.Beside Between.Empty refl p q

-- the bodies of different applications count each, that of equal ones once: a spread of 4020 is taken, and one of 5022 is not
abbrev far_spread : List Entry
far_spread =
    by 1 (Command.Register a (five 1 2 3 4 5)) Reply.TooLarge
    ∷ by 1 (Command.Register a (five 1 1 2 3 4)) (Reply.Registered 1)
    ∷ []

pub far_spread_is_legal : Legal one_frame far_spread
far_spread_is_legal =
    let h₁ : Legal one_frame (take 1 far_spread) = Legal.More _ Legal.Empty (Replies.RegisterTooLarge refl (five_hopeful 1 2 3 4 5)
    (large one_template one_mark mark_is_right (five 1 2 3 4 5) [] one_frame refl refl)) in
    Legal.More _ h₁ (Replies.Registered refl (five_hopeful 1 1 2 3 4)
    (λ past. false≢true (found_large one_template one_mark mark_is_right (five 1 1 2 3 4) [] one_frame refl past)))
