-- Names and expressions as items of lists.
use Rattle.std.proofs.Common.{◌≡◌, suc, ◌<◌, List, ◌∷◌, length, Ok, Err, refl, arith}
use Rattle.poets_value.specs.declared.value.Name.{Name}
use Rattle.poets_lex.specs.declared.token.Sign.TheVariants as S
use Rattle.poets_lex.specs.declared.token.Tok.{Tok}
use Rattle.poets_lex.specs.declared.token.Tok.TheVariants as K
use Rattle.poets_grammar.specs.Lists.{ReadsName}
use Rattle.poets_grammar.specs.Expressions.{ReadsExpression, Disjunction}
use Rattle.poets_grammar.specs.Reading.{name, joined, primary, prefixed, product, sum, comparison, negation, conjunction, disjunction, expression_at, expression}
use Rattle.poets_grammar.proofs.TokenReaders.{name_reader}
use Rattle.poets_grammar.proofs.Levels.{tight}
use Rattle.poets_grammar.proofs.ExpressionReaders.{shorter, expression_reader}
use Rattle.poets_grammar.proofs.Complete.{expression_complete}
use Rattle.poets_grammar.proofs.Listed.{IsItem}

abbrev pub Anything : List Tok → Type 0
Anything rest = Unit {0}

abbrev pub Loose : List Tok → Type 0
Loose rest = tight rest < 1

no_expression : (ts : List Tok) → expression (K.Sign S.RightParen ∷ ts) ≡ Err (suc (length ts))
unfolding joined primary prefixed product sum comparison negation conjunction disjunction expression_at expression
no_expression ts = refl

pub expressions : IsItem expression (ReadsExpression Disjunction) Loose
expressions = record {
  reads = expression_reader;
  complete = λ ts rest e r s. expression_complete ts e rest r s;
  shorter = λ ts rest e r. shorter r;
  no_paren = no_expression;
  at_comma = λ ts. omega arith;
  at_paren = λ ts. omega arith;
}

name_complete : {ts rest : List Tok} {x : Name} → ReadsName ts x rest → name ts ≡ Ok (x, rest)
name_complete ReadsName.AName = refl

name_shorter : {ts rest : List Tok} {x : Name} → ReadsName ts x rest → length rest < length ts
name_shorter ReadsName.AName = omega arith

pub names : IsItem name ReadsName Anything
names = record {
  reads = λ n. name_reader;
  complete = λ ts rest x r s. name_complete r;
  shorter = λ ts rest x r. name_shorter r;
  no_paren = λ ts. refl;
  at_comma = λ ts. tt;
  at_paren = λ ts. tt;
}
