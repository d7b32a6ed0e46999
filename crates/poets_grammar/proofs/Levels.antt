-- How tightly the next token joins what stands before it.
use Rattle.std.proofs.Common.{◌≡◌, ◌≢◌, ◌⊎◌, inl, inr, ℕ, ◌<◌, Bool, true, false, List, [], ◌∷◌, Option, Some, None, if◌then◌else◌, nat_eq, refl, ap, ◌∙◌, arith}
use Rattle.std.specs.Prelude.{IfSome}
use Rattle.std.proofs.lemmas.Bool.{eqb-true, eq-eqb}
use Rattle.poets_expr.specs.declared.expr.Op.{Op}
use Rattle.poets_lex.specs.declared.token.Word.{Word}
use Rattle.poets_lex.specs.declared.token.Word.TheVariants as W
use Rattle.poets_lex.specs.declared.token.Sign.{Sign}
use Rattle.poets_lex.specs.declared.token.Sign.TheVariants as S
use Rattle.poets_lex.specs.declared.token.Tok.{Tok}
use Rattle.poets_lex.specs.declared.token.Tok.TheVariants as K
use Rattle.poets_grammar.specs.Tokens.{infix_operator}
use Rattle.poets_grammar.specs.Expressions.{Rule, Disjunction, Conjunction, Negation, Comparison, Sum, Product, Prefixed, Primary}
use Rattle.poets_grammar.specs.Reading.{of_level, operator}
use Rattle.poets_grammar.proofs.Joined.{IsLink}

abbrev pub level_of : Option (ℕ × Op) → ℕ
level_of None = 0
level_of (Some p) = p.0

-- the level of the operator that the next token is, and 0 where it is none
abbrev pub tight : List Tok → ℕ
tight [] = 0
tight (t ∷ ts) = level_of (infix_operator t)

-- ---- operators

pub record IsOperator (level : ℕ) (ts : List Tok) (p : Op × List Tok) : Type 0 where
  pub token : Tok
  pub joined : infix_operator token ≡ Some (level, p.0)
  pub starts : ts ≡ token ∷ p.1

tested : (level : ℕ) (q : ℕ × Op) (b : Bool) (t : Tok) (ts : List Tok) → nat_eq q.0 level ≡ b → infix_operator t ≡ Some q →
    IfSome (if b then Some (q.1, ts) else None) (IsOperator level (t ∷ ts))
tested level q false t ts e j = tt
tested level q true t ts e j = record { token = t; joined = j ∙ ap (λ k. Some (k, q.1)) (eqb-true q.0 level e); starts = refl }

of_level_is : (level : ℕ) (o : Option (ℕ × Op)) (t : Tok) (ts : List Tok) → infix_operator t ≡ o → IfSome (of_level level o ts) (IsOperator level (t ∷ ts))
of_level_is level None t ts e = tt
of_level_is level (Some q) t ts e = tested level q (nat_eq q.0 level) t ts refl e

pub operator_is : (level : ℕ) (ts : List Tok) → IfSome (operator level ts) (IsOperator level ts)
operator_is level [] = tt
operator_is level (t ∷ ts) = of_level_is level (infix_operator t) t ts refl

-- an operator of the level stands first
pub an_operator : (level : ℕ) (t : Tok) (o : Op) (mid : List Tok) → infix_operator t ≡ Some (level, o) → operator level (t ∷ mid) ≡ Some (o, mid)
an_operator level t o mid j = ap (λ x. of_level level x mid) j ∙ ap (λ b. if b then Some (o, mid) else None) (eq-eqb level level refl)

pub tight_is : (t : Tok) (level : ℕ) (o : Op) (mid : List Tok) → infix_operator t ≡ Some (level, o) → tight (t ∷ mid) ≡ level
tight_is t level o mid j = ap level_of j

differs : (a b : ℕ) (x : Bool) → nat_eq a b ≡ x → a < b → x ≡ false
differs a b false e lt = refl
differs a b true e lt = absurd (omega (arith, eqb-true a b e))

none_of_level : (level : ℕ) (o : Option (ℕ × Op)) (ts : List Tok) → level_of o < level → of_level level o ts ≡ None
none_of_level level None ts lt = refl
none_of_level level (Some p) ts lt = rw (differs p.0 level (nat_eq p.0 level) refl lt) refl

-- a looser token is no operator of the level
pub no_operator : (level : ℕ) (ts : List Tok) → tight ts < level → operator level ts ≡ None
no_operator level [] lt = refl
no_operator level (t ∷ ts) lt = none_of_level level (infix_operator t) ts lt

-- ---- operators as links

abbrev IsNoneOrOne : ℕ → Tok → Type 0
IsNoneOrOne level t = ((us : List Tok) → operator level (t ∷ us) ≡ None) ⊎ ((o : Op) × ((us : List Tok) → operator level (t ∷ us) ≡ Some (o, us)))

of_that : (level : ℕ) (t : Tok) (p : ℕ × Op) (b : Bool) → infix_operator t ≡ Some p → nat_eq p.0 level ≡ b → IsNoneOrOne level t
of_that level t p false e q = inl (λ us. ap (λ x. of_level level x us) e ∙ ap (λ b. if b then Some (p.1, us) else None) q)
of_that level t p true e q = inr (p.1, λ us. ap (λ x. of_level level x us) e ∙ ap (λ b. if b then Some (p.1, us) else None) q)

of_token : (level : ℕ) (t : Tok) (o : Option (ℕ × Op)) → infix_operator t ≡ o → IsNoneOrOne level t
of_token level t None e = inl (λ us. ap (λ x. of_level level x us) e)
of_token level t (Some p) e = of_that level t p (nat_eq p.0 level) e refl

pub operator_link : (level : ℕ) → IsLink (operator level)
operator_link level = record { never_at_end = refl; by_token = λ t. of_token level t (infix_operator t) refl }
