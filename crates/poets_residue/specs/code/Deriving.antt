-- What a call that derives a contract is asked for, and what it leaves.
use Rattle.std.specs.Prelude.{◌+◌, ◌≤◌, ℕ, List, Result, IfOk}
use Rattle.poets_syntax.specs.Applied.{CountsFit}
use Rattle.poets_syntax.specs.Book.{book_of}
use Rattle.poets_syntax.specs.Contract.{Contract, Plus}
use Rattle.poets_syntax.specs.Plain.{Book}
use Rattle.poets_meaning.specs.Marks.{Marks}
use Rattle.poets_meaning.specs.Studied.{marks_of}
use Rattle.poets_meaning.specs.Width.{size, width}
use Rattle.poets_calculus.specs.Residual.{after}
use Rattle.poets_norm.specs.Questions.{questions}
use Rattle.poets_cons.specs.declared.node.Node.{Node}
use Rattle.poets_cons.specs.Notes.{noted}
use Rattle.poets_cons.specs.Table.{contract_at, Stands, Extends}
use Rattle.poets_residue.specs.declared.derivation.Derivation.{Derivation}
use Rattle.poets_residue.specs.declared.derivation.Derived.{Derived}
use Rattle.poets_residue.specs.Unfolding.{IsStudied}
use Rattle.poets_residue.specs.code.Notes.{AreNotes}
use Rattle.poets_residue.specs.code.Spent.{IsNoted, IsNotedBut, IsSpent}

abbrev pub book_by : Derivation → Book
book_by d = book_of d.studied.now.book

abbrev pub marks_by : Derivation → Marks
marks_by d = marks_of d.studied.now

-- ---- before the call

-- each row that is noted has its residual at the row with the number noted
abbrev pub AreRightNotes : Derivation → Derived → Type 0
AreRightNotes d t = AreNotes (book_by d) (marks_by d) d.event.now t.arena (noted t.memo)

-- the contract can be derived: the book is studied, the contract's applications fit, and what is
-- noted is right
pub record CanDerive (d : Derivation) (t : Derived) (c : Contract) : Type 0 where
  pub studied : IsStudied (book_by d) (marks_by d)
  pub fits : CountsFit (book_by d) c
  pub notes : AreRightNotes d t

-- ---- after it

-- the row with that number is the residual of the contract
abbrev pub IsResidual : Derivation → List Node → Contract → ℕ → Type 0
IsResidual d nodes c place = Stands nodes place (after (book_by d) (marks_by d) d.event.now c)

-- the rows with those numbers are the residuals of two rows
pub record AreResiduals (d : Derivation) (nodes : List Node) (a b : ℕ) (places : ℕ × ℕ) : Type 0 where
  pub first : IsResidual d nodes (contract_at nodes a) places.0
  pub second : IsResidual d nodes (contract_at nodes b) places.1

-- the residual of the contract is noted
abbrev pub HasNoted : Derived → Contract → Type 0
HasNoted t c = IsNoted t.arena (noted t.memo) c

-- or it is this very contract
abbrev pub HasNotedBut : Contract → Derived → Contract → Type 0
HasNotedBut c t k = IsNotedBut c t.arena (noted t.memo) k

-- a residual of the contract asks at most what the contract itself may ask, and the widths of the
-- bodies that it exposes
abbrev pub AsksInWidth : Book → Marks → Contract → (start stop : ℕ) → Type 0
AsksInWidth book marks c start stop = stop + size c ≤ start + questions c + width book marks c

-- the call only added rows and right notes, what it answers is such a result, and what it asked is
-- little: no more than the contract is wide, and paid for by parts of it that were not noted before
-- the call and are after it
pub record HasDerived (d : Derivation) (c : Contract) {A E : Type 0} (IsResult : A → Type 0)
    (IsNotedNow : Contract → Type 0) (old new : Derived) (start stop : ℕ) (answer : Result A E) : Type 0 where
  pub grows : Extends old.arena new.arena
  pub found : IfOk answer IsResult
  pub notes : IfOk answer (λ _. AreRightNotes d new)
  pub rises : start ≤ stop
  pub asks : AsksInWidth (book_by d) (marks_by d) c start stop
  pub once : IsSpent (book_by d) (marks_by d) c (HasNoted old) IsNotedNow start stop answer

-- the residual of a contract was derived
abbrev pub Derives : {E : Type 0} → Derivation → Contract → (old new : Derived) → (start stop : ℕ) → Result ℕ E →
    Type 0
Derives d c old new start stop answer =
    HasDerived d c (IsResidual d new.arena c) (HasNoted new) old new start stop answer

-- that of a contract that is yet to be noted was
abbrev pub DerivesAnew : {E : Type 0} → Derivation → Contract → (old new : Derived) → (start stop : ℕ) → Result ℕ E →
    Type 0
DerivesAnew d c old new start stop answer =
    HasDerived d c (IsResidual d new.arena c) (HasNotedBut c new) old new start stop answer

-- those of two rows were: what that asks, the choice of the two may ask
abbrev pub DerivesBoth : {E : Type 0} → Derivation → (a b : ℕ) → (old new : Derived) → (start stop : ℕ) →
    Result (ℕ × ℕ) E → Type 0
DerivesBoth d a b old new start stop answer =
    HasDerived
    d (Plus (contract_at old.arena a) (contract_at old.arena b)) (AreResiduals d new.arena a b) (HasNoted new)
    old new start stop answer
