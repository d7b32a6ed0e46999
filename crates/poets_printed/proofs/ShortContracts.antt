-- Printed contracts are short.
use Rattle.std.proofs.Common.{◌≡◌, ◌+◌, ◌≤◌, List, [], ◌∷◌, ◌++◌, length, arith, length-append}
use Rattle.std.specs.Prelude.{codes, nat_lt, nat_le}
use Rattle.poets_syntax.specs.declared.term.Binders.{Binders}
use Rattle.poets_syntax.specs.Contract.{Contract}
use Rattle.poets_syntax.specs.Whole.{IsWholeContract}
use Rattle.poets_lex.specs.declared.token.Tok.{Tok}
use Rattle.poets_lex.specs.Table.{Table, IsTable}
use Rattle.poets_grammar.specs.ContractGrammar.{ReadsBinders, ContractRule, ReadsContract}
use Rattle.poets_print.specs.Levels.{contract_level}
use Rattle.poets_print.specs.Texts.{name_text, bracketed, behind_commas, expression_text, binders_text, contract_text}
use Rattle.poets_printed.proofs.ShortPieces.{IsShort, length_six, length_bracketed, length_parts, length_name}
use Rattle.poets_printed.proofs.ShortExpressions.{short_expression, short_arguments, length_call}

-- four names and three commas are seven tokens
read_binders : (ts rest : List Tok) (b : Binders) → ReadsBinders ts b rest → length ts ≡ 7 + length rest
read_binders ts rest b (ReadsBinders.Four) = omega arith

module _ (names : Table) (all : IsTable names) where
  -- four names, with three commas between them
  length_binders : (b : Binders) → length (binders_text names b) ≤ 262
  length_binders b = omega (
    arith,
    length_name names all b.sender,
    length_name names all b.receiver,
    length_name names all b.what,
    length_name names all b.day,
    length-append (name_text names b.sender) (behind_commas (name_text names) (b.receiver ∷ b.what ∷ b.day ∷ [])),
    length-append (codes ", " ++ name_text names b.receiver) (behind_commas (name_text names) (b.what ∷ b.day ∷ [])),
    length-append (codes ", " ++ name_text names b.what) (behind_commas (name_text names) (b.day ∷ [])),
    length-append (codes ", " ++ name_text names b.day) [],
    length-append (codes ", ") (name_text names b.receiver),
    length-append (codes ", ") (name_text names b.what),
    length-append (codes ", ") (name_text names b.day),
  )

  -- a contract that was read by a rule
  pub short_contract : {rule : ContractRule} {ts rest : List Tok} {c : Contract} → ReadsContract rule ts c rest → IsWholeContract c →
      IsShort (contract_text names c) ts rest
  short_contract (ReadsContract.OneParallel r) h = short_contract r h
  short_contract (ReadsContract.MoreParallels {a = a} {b = b} r q) h =
      let first = short_contract r h.0 in
      let second = short_contract q h.1 in
      record {
        bytes = omega (
          arith,
          first.bytes,
          second.bytes,
          length_parts (nat_lt (contract_level a) 1) (nat_le (contract_level b) 1) (contract_text names a) (codes " + ") (contract_text names b),
        );
      }
  short_contract (ReadsContract.OneSequence r) h = short_contract r h
  short_contract (ReadsContract.MoreSequences {a = a} {b = b} r q) h =
      let first = short_contract r h.0 in
      let second = short_contract q h.1 in
      record {
        bytes = omega (
          arith,
          first.bytes,
          second.bytes,
          length_parts (nat_lt (contract_level a) 2) (nat_le (contract_level b) 2) (contract_text names a) (codes " || ") (contract_text names b),
        );
      }
  short_contract (ReadsContract.OneSimple r) h = short_contract r h
  short_contract (ReadsContract.MoreSimples {a = a} {b = b} r q) h =
      let first = short_contract r h.0 in
      let second = short_contract q h.1 in
      record {
        bytes = omega (
          arith,
          first.bytes,
          second.bytes,
          length_parts (nat_lt (contract_level a) 3) (nat_le (contract_level b) 3) (contract_text names a) (codes " ; ") (contract_text names b),
        );
      }
  short_contract (ReadsContract.Transmit {ts} {mid} {more} {rest} {b} {p} {c} r q s) h =
      let predicate = short_expression names all q h.0 in
      let behind = short_contract s h.1 in
      let four = read_binders _ _ b r in
      let last = bracketed (nat_lt (contract_level c) 4) (contract_text names c) in
      record {
        bytes = omega (
          arith,
          predicate.bytes,
          behind.bytes,
          four,
          length_binders b,
          length_bracketed (nat_lt (contract_level c) 4) (contract_text names c),
          length_six (codes "transmit(") (binders_text names b) (codes " | ") (expression_text names p) (codes "). ") last,
        );
      }
  short_contract ReadsContract.Success h = record { bytes = omega arith }
  short_contract ReadsContract.Failure h = record { bytes = omega arith }
  short_contract (ReadsContract.Application {f} {ts} {rest} {args} r) h =
      record { bytes = omega (arith, length_call names all f args, short_arguments names all ts rest args r h) }
  short_contract (ReadsContract.Brackets r) h =
      let below = short_contract r h in
      record { bytes = omega (arith, below.bytes) }
