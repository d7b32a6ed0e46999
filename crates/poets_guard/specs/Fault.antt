-- What a fault says.
use Rattle.poets_syntax.specs.Plain.{Book}
use Rattle.poets_guard.specs.declared.guard.GuardFault.{GuardFault}
use Rattle.poets_guard.specs.declared.guard.GuardFault.TheVariants as G
use Rattle.poets_guard.specs.FirstCycle.{IsFirstCycle}

-- `Unguarded` has the first cycle of the book; `Memory` says nothing of it
abbrev pub IsFaultOf : Book → GuardFault → Type 0
IsFaultOf book (G.Unguarded cycle) = IsFirstCycle book cycle.items
IsFaultOf book G.Memory = Unit {0}
