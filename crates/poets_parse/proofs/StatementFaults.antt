-- What the reader of statements answers, in the words of the grammar.
use Rattle.std.proofs.Common.{◌≡◌, ℕ, ◌-◌, List, length, Some, None, sym, ◌∙◌, subst, arith}
use Rattle.std.proofs.lemmas.List.{length-map}
use Rattle.std.specs.Prelude.{IsErrAnd, Result, Ok, Err}
use Rattle.std.specs.Result.{result_err}
use Rattle.poets_lex.specs.declared.token.Tok.{Tok}
use Rattle.poets_lex.specs.declared.token.Token.{Token}
use Rattle.poets_command.specs.declared.statement.Statement.{Statement}
use Rattle.poets_command.specs.Statements.{statement_of}
use Rattle.poets_command.specs.Said as said
use Rattle.poets_grammar.specs.Tokens.{toks}
use Rattle.poets_grammar.specs.Statements.{IsStatement}
use Rattle.poets_grammar.specs.Begins.{IsBegun}
use Rattle.poets_grammar.specs.StatementReading.{statement}
use Rattle.poets_grammar.proofs.Statements.{statement_found, no_sentence}
use Rattle.poets_grammar.proofs.Marks.{begun, all_begun}
use Rattle.poets_parse.specs.code.Gives.{Gives, Refuses, syntax_fault}
use Rattle.poets_parse.specs.declared.fault.SyntaxFault.{SyntaxFault}
use Rattle.poets_parse.specs.declared.fault.SyntaxFault.TheVariants as F
use Rattle.poets_parse.specs.declared.fault.ReadFault.{ReadFault}
use Rattle.poets_parse.specs.declared.fault.ReadFault.TheVariants as R

-- a statement that was read is one
pub read_is : (ts : List Tok) (s : Statement) → statement ts ≡ Ok (statement_of s) → IsStatement ts (statement_of s)
read_is ts s g = statement_found ts (statement_of s) g

-- a reader that gave up has read nothing, and tells the place
pub unfit_was : (ts : List Tok) (r : Result Statement ReadFault) (left : ℕ) → Gives statement_of r (statement ts) → result_err r ≡ Some (R.Unfit left) → statement ts ≡ Err left
unfit_was ts (Ok s) left g e = absurd cc
unfit_was ts (Err (R.Unfit n)) left g e = let same : n ≡ left = cc in subst (λ k. statement ts ≡ Err k) same g
unfit_was ts (Err R.Memory) left g e = absurd cc

-- where none was read there is none
none_by : (ts : List Tok) (f : ReadFault) → Refuses f (statement ts) → F.NoSentence ≡ syntax_fault f → (s : said.Statement) → ¬ (IsStatement ts s)
none_by ts (R.Unfit left) g e = no_sentence ts left g
none_by ts R.Memory g e = absurd cc

pub none_is : (ts : List Tok) (f : ReadFault) (r : Result Statement SyntaxFault) → Refuses f (statement ts) → IsErrAnd r (λ e. e ≡ syntax_fault f) → r ≡ Err F.NoSentence →
    (s : said.Statement) → ¬ (IsStatement ts s)
none_is ts f r g told e = none_by ts f g (subst (λ x. IsErrAnd x (λ y. y ≡ syntax_fault f)) e told)

-- the tokens ahead of the place that is told begin a sentence, and no more do
pub begun_unfit : (tokens : List Token) (r : Result Statement ReadFault) (left count : ℕ) → Gives statement_of r (statement (toks tokens)) → result_err r ≡ Some (R.Unfit left) → count ≡ length tokens - left →
    IsBegun (toks tokens) count
begun_unfit tokens r left count g e n =
    subst (λ (k : ℕ). IsBegun (toks tokens) k) (omega (arith, length-map tokens (λ t. t.what))) (begun (toks tokens) left (unfit_was (toks tokens) r left g e))

all_given : (tokens : List Token) (r : Result Statement ReadFault) → Gives statement_of r (statement (toks tokens)) → result_err r ≡ None → IsBegun (toks tokens) (length (toks tokens))
all_given tokens (Ok s) g e = all_begun (toks tokens) (statement_of s) g
all_given tokens (Err fault) g e = absurd cc

pub begun_all : (tokens : List Token) (r : Result Statement ReadFault) (count : ℕ) → Gives statement_of r (statement (toks tokens)) → result_err r ≡ None → count ≡ length tokens → IsBegun (toks tokens) count
begun_all tokens r count g e n = subst (λ (k : ℕ). IsBegun (toks tokens) k) (omega (arith, length-map tokens (λ t. t.what))) (all_given tokens r g e)
