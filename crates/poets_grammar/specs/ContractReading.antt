-- Contracts read by functions on lists. ContractGrammar.antt says what a contract is; that both
-- agree is proved.
use Rattle.std.specs.Prelude.{ℕ, zero, suc, List, ◌∷◌, length, Option, Some, None, Ok}
use Rattle.poets_value.specs.declared.value.Name.{Name}
use Rattle.poets_syntax.specs.declared.term.Binders.{Binders}
use Rattle.poets_syntax.specs.Contract as C
use Rattle.poets_syntax.specs.Contract.{Contract}
use Rattle.poets_lex.specs.declared.token.Word.{Word}
use Rattle.poets_lex.specs.declared.token.Word.TheVariants as W
use Rattle.poets_lex.specs.declared.token.Sign.{Sign}
use Rattle.poets_lex.specs.declared.token.Sign.TheVariants as S
use Rattle.poets_lex.specs.declared.token.Tok.{Tok}
use Rattle.poets_lex.specs.declared.token.Tok.TheVariants as K
use Rattle.poets_grammar.specs.Reading.{Answer, Reading, Link, ◌>>=◌, refused, refused_ahead, behind_sign, sign, name}
use Rattle.poets_grammar.specs.Reading.{whole, joined, expression, arguments}

abbrev pub ContractReader : Type 0
ContractReader = List Tok → Reading Contract

abbrev pub as_link : Option (List Tok) → Link (Unit {0})
as_link None = None
as_link (Some ts) = Some (tt, ts)

-- the sign, as a link
abbrev pub sign_link : Sign → List Tok → Link (Unit {0})
sign_link wanted ts = as_link (behind_sign wanted ts)

abbrev pub either : Unit {0} → Contract → Contract → Contract
either _ a b = C.Plus a b

abbrev pub beside : Unit {0} → Contract → Contract → Contract
beside _ a b = C.Par a b

abbrev pub followed : Unit {0} → Contract → Contract → Contract
followed _ a b = C.Seq a b

-- NAME "," NAME "," NAME "," NAME
unfoldable pub binders : List Tok → Reading Binders
binders ts = do
  sender ← name ts
  a ← sign S.Comma sender.1
  receiver ← name a
  b ← sign S.Comma receiver.1
  what ← name b
  c ← sign S.Comma what.1
  day ← name c
  Ok (record { sender = sender.0; receiver = receiver.0; what = what.0; day = day.0 }, day.1)

-- ---- the rules, over a reader of simple contracts

-- after the word `transmit`
unfoldable pub transmit : ContractReader → ContractReader
transmit simple ts = do
  a ← sign S.LeftParen ts
  binders ← binders a
  b ← sign S.Bar binders.1
  when ← expression b
  c ← sign S.RightParen when.1
  d ← sign S.Dot c
  after ← simple d
  Ok (C.Transmit binders.0 when.0 after.0, after.1)

-- after the name
unfoldable pub application : Name → ContractReader
application f ts = do
  args ← arguments ts
  Ok (C.App f args.0, args.1)

unfoldable pub sequence : ContractReader → ContractReader
sequence simple ts = joined (sign_link S.Semicolon) followed simple ts

unfoldable pub parallel : ContractReader → ContractReader
parallel simple ts = joined (sign_link S.DoubleBar) beside (sequence simple) ts

unfoldable pub choice : ContractReader → ContractReader
choice simple ts = joined (sign_link S.Plus) either (parallel simple) ts

-- after the `(`
unfoldable pub closed_contract : ContractReader → ContractReader
closed_contract simple ts = do
  c ← choice simple ts
  rest ← sign S.RightParen c.1
  Ok (c.0, rest)

-- by the word that stands ahead of the tokens
abbrev pub simple_word : ContractReader → Word → ContractReader
simple_word simple W.Transmit ts = transmit simple ts
simple_word simple W.Success ts = Ok (C.Success, ts)
simple_word simple W.Failure ts = Ok (C.Failure, ts)
simple_word simple _ ts = refused_ahead ts

unfoldable pub simple_step : ContractReader → ContractReader
simple_step simple (K.Word w ∷ ts) = simple_word simple w ts
simple_step simple (K.Name f ∷ ts) = application f ts
simple_step simple (K.Sign S.LeftParen ∷ ts) = closed_contract simple ts
simple_step simple ts = refused ts

-- ---- whole contracts

-- nested less deeply than the number; one more than the count of the tokens is always enough
unfoldable pub simple_at : ℕ → ContractReader
simple_at zero ts = refused ts
simple_at (suc n) ts = simple_step (simple_at n) ts

unfoldable pub simple : ContractReader
simple ts = simple_at (suc (length ts)) ts

unfoldable pub contract : ContractReader
contract ts = choice simple ts

-- the contract that all the tokens are
unfoldable pub whole_contract : List Tok → Answer Contract
whole_contract ts = do
  c ← contract ts
  whole c.0 c.1
