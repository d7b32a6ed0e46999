-- A line that was written.
use Rattle.std.proofs.Common.{◌≡◌, ℕ, List, Ok, sym, subst, inl, inr}
use Rattle.std.specs.Prelude.{Result, String, IfOk, string_bytes}
use Rattle.std.specs.declared.alloc.Global.{Global}
use Rattle.poets_writing.specs.Outcomes.{WritesLine}
use Rattle.poets_writing.specs.Writing.{Change}
use Rattle.poets_writing.specs.declared.outcome.Outcome.{Outcome}
use Rattle.poets_keeping.specs.Writing.{EndsWriting, WritesAs}

line_ends : (line : List ℕ) (sink : Change) (status : ℕ) (outcome : Outcome) → WritesLine line sink status outcome → WritesAs status line sink outcome.status
line_ends line sink status outcome (inl whole) = subst (EndsWriting status line sink.before sink.after) (sym whole.0) (EndsWriting.Whole whole.1 whole.2)
line_ends line sink status outcome (inr failed) = subst (EndsWriting status line sink.before sink.after) (sym failed.0) (EndsWriting.Failed failed.1 failed.2)

-- the line that there was memory for
pub told : {E : Type 0} (made : Result (String Global) E) (text : String Global) (line : List ℕ) (sink : Change) (status : ℕ) (outcome : Outcome) → made ≡ Ok text → line ≡ string_bytes text →
    WritesLine line sink status outcome → IfOk made (λ t. WritesAs status (string_bytes t) sink outcome.status)
told {E} made text line sink status outcome is same written =
    subst (λ (r : Result (String Global) E). IfOk r (λ t. WritesAs status (string_bytes t) sink outcome.status)) (sym is)
    (subst (λ l. WritesAs status l sink outcome.status) same (line_ends line sink status outcome written))
