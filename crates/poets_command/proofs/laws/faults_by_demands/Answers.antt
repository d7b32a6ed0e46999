use Rattle.poets_command.proofs.Demanded.{commands_by_demands, command_faults, statements_by_demands, statement_faults}
use Rattle.poets_command.proofs.laws.faults_by_demands.Goals as goal

pub returns-clause-commands : goal.returns-clause-commands
returns-clause-commands c = commands_by_demands

pub returns-clause-command_faults : goal.returns-clause-command_faults
returns-clause-command_faults c = command_faults

pub returns-clause-statements : goal.returns-clause-statements
returns-clause-statements c = statements_by_demands

pub returns-clause-statement_faults : goal.returns-clause-statement_faults
returns-clause-statement_faults c = statement_faults
