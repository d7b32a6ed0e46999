use Rattle.std.proofs.Common.{refl}
use Rattle.poets_grammar.specs.Examples.{agents, agents_said, registered, registered_said, cut_off, two_commas}
use Rattle.poets_grammar.specs.Reading.{listed, listed_at, joined, more}
use Rattle.poets_grammar.specs.ContractReading.{whole_contract, contract, choice, parallel, sequence, simple, simple_at, simple_step}
use Rattle.poets_grammar.specs.StatementReading.{statement, whole_names, register}
use Rattle.poets_grammar.proofs.Statements.{statement_found, no_sentence}
use Rattle.poets_grammar.proofs.Marks.{begun}
use Rattle.poets_grammar.proofs.examples.statements.Goals as goal

pub returns-clause-names : goal.returns-clause-names
unfolding listed listed_at whole_names statement
returns-clause-names c = statement_found agents agents_said refl

pub returns-clause-command : goal.returns-clause-command
unfolding joined more whole_contract contract choice parallel sequence simple simple_at simple_step register statement
returns-clause-command c = statement_found registered registered_said refl

pub returns-clause-cut_off : goal.returns-clause-cut_off
unfolding listed listed_at whole_names statement
returns-clause-cut_off c = no_sentence cut_off 0 refl

pub returns-clause-begun : goal.returns-clause-begun
unfolding listed listed_at whole_names statement
returns-clause-begun c = begun two_commas 1 refl

pub returns-clause-all_begun : goal.returns-clause-all_begun
unfolding listed listed_at whole_names statement
returns-clause-all_begun c = begun cut_off 0 refl
