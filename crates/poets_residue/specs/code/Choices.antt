-- Contracts whose residuals are choices.
use Rattle.poets_value.specs.declared.event.Event.{Event}
use Rattle.poets_syntax.specs.Contract.{Contract}
use Rattle.poets_meaning.specs.Studied.{StudiedBook}
use Rattle.poets_calculus.specs.InStudied.{after_in}
use Rattle.poets_norm.specs.Choices.{IsDistinctChoice}

-- each residual of the contract is a choice of distinct alternatives
abbrev pub LeavesChoices : StudiedBook → Contract → Type 0
LeavesChoices s c = (e : Event) → IsDistinctChoice (after_in s e c)
