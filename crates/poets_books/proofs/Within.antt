-- What stands in a text behind its front, and before its end.
use Rattle.std.proofs.Common.{◌≡◌, ℕ, List, ◌++◌, None, sym, ap, ◌∙◌, append_assoc}
use Rattle.std.specs.Prelude.{codes}
use Rattle.std.proofs.lemmas.List.{append_cancel_left, append_cancel_right}
use Rattle.std.specs.Str.Pattern.{FindsTextPrefix, FindsTextSuffix, StripsPrefix, StripsSuffix}
use Rattle.poets_expr.specs.Expression.{Expression}
use Rattle.poets_syntax.specs.declared.term.Binders.{Binders}
use Rattle.poets_lex.specs.Table.{Table}
use Rattle.poets_print.specs.Texts.{expression_text, step_text}
use Rattle.poets_books.specs.code.Putting.{step_front}

pub lacks_front : (text front : List ℕ) → FindsTextPrefix front text None → (rest : List ℕ) × (text ≡ front ++ rest) → ⊥
lacks_front text front h r = h r.0 r.1

pub strips_front : (text front rest : List ℕ) → StripsPrefix (FindsTextPrefix front) text rest → text ≡ front ++ rest
strips_front text front rest h = h.1.1 ∙ ap (λ (t : List ℕ). front ++ t) (sym h.2)

pub lacks_end : (text end : List ℕ) → FindsTextSuffix end text None → (rest : List ℕ) × (text ≡ rest ++ end) → ⊥
lacks_end text end h r = h r.0 r.1

pub strips_end : (text end rest : List ℕ) → StripsSuffix (FindsTextSuffix end) text rest → text ≡ rest ++ end
strips_end text end rest h = h.1.1 ∙ ap (λ (t : List ℕ). t ++ end) (sym h.2)

-- a step is what stands ahead of its predicate, the predicate, and a bracket
pub split_step :
    (names : Table) (b : Binders) (e : Expression) (step front : List ℕ) →
    step ≡ step_text names b e → front ≡ step_front names b → step ≡ front ++ (expression_text names e ++ codes ")")
split_step names b e step front s f =
    s ∙ append_assoc (step_front names b) (expression_text names e) (codes ")")
    ∙ ap (λ (t : List ℕ). t ++ (expression_text names e ++ codes ")")) (sym f)

-- what is behind one front is one text
pub one_behind : (front rest other text : List ℕ) → text ≡ front ++ other → text ≡ front ++ rest → rest ≡ other
one_behind front rest other text p q = append_cancel_left front rest other (sym q ∙ p)

-- and so is what is before one end
pub one_before : (end rest other text : List ℕ) → text ≡ other ++ end → text ≡ rest ++ end → rest ≡ other
one_before end rest other text p q = append_cancel_right rest other end (sym q ∙ p)
