-- What is a statement is read.
use Rattle.std.proofs.Common.{◌≡◌, ℕ, suc, List, [], length, Option, Ok, Err, refl, sym, ap, ◌∙◌, arith}
use Rattle.poets_value.specs.declared.value.Name.{Name}
use Rattle.poets_expr.specs.Expression.{Expression}
use Rattle.poets_syntax.specs.declared.term.Param.{Param}
use Rattle.poets_command.specs.Plain.{Command}
use Rattle.poets_command.specs.Said.{Statement}
use Rattle.poets_lex.specs.declared.token.Tok.{Tok}
use Rattle.poets_grammar.specs.Lists.{ReadsNames}
use Rattle.poets_grammar.specs.Expressions.{ReadsArguments}
use Rattle.poets_grammar.specs.Statements.{ReadsParameters, IsStep, IsCommand, IsStatement}
use Rattle.poets_grammar.specs.StatementReading.{whole_names, parameters, whole_arguments, register, transmission, withdrawal, tally, portfolio, watch, read_watch, command, template, report_head, report_start, report_binders, report_step, report, commanded, numbered, statement}
use Rattle.poets_grammar.proofs.Readers.{no_fuel, wholes, IsReader, is_whole}
use Rattle.poets_grammar.proofs.Listed.{listed_complete, bracketed_complete}
use Rattle.poets_grammar.proofs.Complete.{expression_complete, whole_expression_complete}
use Rattle.poets_grammar.proofs.Items.{names}
use Rattle.poets_grammar.proofs.ContractComplete.{binders_complete, arguments_complete, whole_contract_complete}
use Rattle.poets_grammar.proofs.StatementReaders.{parameter_items, statement_reader}

whole_names_complete : {ts : List Tok} {xs : List Name} → ReadsNames ts xs [] → whole_names ts ≡ Ok xs
unfolding whole_names
whole_names_complete l = rw (listed_complete names l tt refl) refl

whole_arguments_complete : {ts : List Tok} {args : List Expression} → ReadsArguments ts args [] → whole_arguments ts ≡ Ok args
unfolding whole_arguments
whole_arguments_complete a = rw (arguments_complete a) refl

parameters_complete : {ts rest : List Tok} {params : List Param} → ReadsParameters ts params rest → parameters ts ≡ Ok (params, rest)
unfolding parameters
parameters_complete l = bracketed_complete parameter_items l

command_complete : {ts : List Tok} {made : Command} → IsCommand ts made → command ts ≡ Ok made
unfolding command register transmission withdrawal tally portfolio watch read_watch
command_complete (IsCommand.Register c) = rw (whole_contract_complete _ _ c) refl
command_complete IsCommand.Transmit = refl
command_complete IsCommand.Void = refl
command_complete IsCommand.End = refl
command_complete IsCommand.Show = refl
command_complete (IsCommand.Tally a) = rw (whole_arguments_complete a) refl
command_complete (IsCommand.Portfolio a l) = rw (arguments_complete a, whole_names_complete l) refl
command_complete (IsCommand.Watch a) = rw (whole_arguments_complete a) refl
command_complete IsCommand.Read = refl

by_command : {ts : List Tok} {made : Command} → IsCommand ts made → statement ts ≡ commanded (command ts)
unfolding statement command
by_command (IsCommand.Register c) = refl
by_command IsCommand.Transmit = refl
by_command IsCommand.Void = refl
by_command IsCommand.End = refl
by_command IsCommand.Show = refl
by_command (IsCommand.Tally a) = refl
by_command (IsCommand.Portfolio a l) = refl
by_command (IsCommand.Watch a) = refl
by_command IsCommand.Read = refl

step_complete : {ts : List Tok} {step : Expression} {key : Option Expression} → IsStep ts step key → report_step ts ≡ Ok (step, key)
unfolding report_step
step_complete (IsStep.WithoutKey r) = rw (expression_complete _ _ _ r (omega arith)) refl
step_complete (IsStep.WithKey r q) = rw (expression_complete _ _ _ r (omega arith), whole_expression_complete _ _ q) refl

pub statement_complete : {ts : List Tok} {s : Statement} → IsStatement ts s → statement ts ≡ Ok s
unfolding statement template report report_head report_start report_binders numbered
statement_complete (IsStatement.Agents l) = rw (whole_names_complete l) refl
statement_complete (IsStatement.Kinds l) = rw (whole_names_complete l) refl
statement_complete (IsStatement.Template l c) = rw (parameters_complete l, whole_contract_complete _ _ c) refl
statement_complete (IsStatement.Report l t start bound step) =
    rw (parameters_complete l, t, expression_complete _ _ _ start (omega arith), binders_complete bound, step_complete step) refl
statement_complete IsStatement.Clerk = refl
statement_complete IsStatement.Journal = refl
statement_complete (IsStatement.Command c) = by_command c ∙ ap commanded (command_complete c)
statement_complete (IsStatement.Numbered c) = rw (command_complete c) refl

pub statement_found : (ts : List Tok) (s : Statement) → statement ts ≡ Ok s → IsStatement ts s
statement_found ts s q =
    let reader : IsReader (suc (length ts)) no_fuel wholes (λ us s rest. IsStatement us s) (λ i us. statement us) = statement_reader in
    is_whole (reader.reads ts (omega arith)) q

pub no_sentence : (ts : List Tok) (left : ℕ) → statement ts ≡ Err left → (s : Statement) → IsStatement ts s → ⊥
no_sentence ts left q s is =
    let clash : Err left ≡ Ok s = sym q ∙ statement_complete is in
    absurd cc
