use Rattle.std.proofs.Common.{take}
use Rattle.poets_value.specs.code.Texts.{Puts}
use Rattle.poets_print.specs.Texts.{behind_commas, name_text}
use Rattle.poets_books.proofs.lists.put_more_names.Given as goal

abbrev pub invariant-loop-name : goal.invariant-loop-name
invariant-loop-name l = Puts l.initial.out l.out (behind_commas (name_text l.names) (take l.name-index l.listed))
