-- No more brackets are open than there are.
use Rattle.std.proofs.Common.{ℕ, zero, suc, ◌+◌, ◌-◌, ◌≤◌, List, [], ◌∷◌, take, fold, arith}
use Rattle.poets_lex.specs.declared.token.Sign.TheVariants as S
use Rattle.poets_lex.specs.declared.token.Tok.{Tok}
use Rattle.poets_lex.specs.declared.token.Tok.TheVariants as K
use Rattle.poets_grammar.specs.TooDeep.{open_behind, operators, most_open, most_operators, IsTooDeep, IsDeeper}

abbrev opens : List Tok → ℕ
opens [] = 0
opens (K.Sign S.LeftParen ∷ ts) = suc (opens ts)
opens (t ∷ ts) = opens ts

open_of : (k n : ℕ) (ts : List Tok) → fold open_behind k (take n ts) ≤ k + opens ts
open_of k zero ts = omega arith
open_of k (suc n) [] = omega arith
open_of k (suc n) (K.Sign S.LeftParen ∷ ts) = omega (arith, open_of (suc k) n ts)
open_of k (suc n) (K.Sign S.RightParen ∷ ts) = omega (arith, open_of (k - 1) n ts)
open_of k (suc n) (t ∷ ts) = omega (arith, open_of k n ts)

-- few brackets and few operators are not too deep
pub shallow : (ts : List Tok) → opens ts ≤ most_open → operators ts ≤ most_operators → IsTooDeep ts → ⊥
shallow ts o l (IsDeeper.Nested n deep) = omega (arith, open_of 0 n ts)
shallow ts o l (IsDeeper.Long long) = omega arith
