use Rattle.poets_command.proofs.TypingRules.{templates_by_rules, reports_by_rules, commands_by_rules}
use Rattle.poets_command.proofs.laws.typed_by_rules.Goals as goal

pub returns-clause-templates : goal.returns-clause-templates
returns-clause-templates c = templates_by_rules

pub returns-clause-reports : goal.returns-clause-reports
returns-clause-reports c = reports_by_rules

pub returns-clause-commands : goal.returns-clause-commands
returns-clause-commands c = commands_by_rules
