-- Replacing names by whole values keeps contracts whole.
use Rattle.std.proofs.Common.{not}
use Rattle.std.proofs.lemmas.List.Elements.{All-map, All-filter, All-weaker}
use Rattle.poets_expr.specs.Subst.{Givens, subst}
use Rattle.poets_expr.specs.Whole.{IsWholeExpression, IsWholeOption, AreWholeGivens}
use Rattle.poets_expr.proofs.WholeResults.{IsWhole-subst}
use Rattle.poets_syntax.specs.declared.term.Binders.{Binders}
use Rattle.poets_syntax.specs.Contract.{Contract, Success, Failure, Transmit, Plus, Par, Seq, App}
use Rattle.poets_syntax.specs.Replace.{binds, without, replace}
use Rattle.poets_syntax.specs.Whole.{IsWholeContract}

pub AreWholeGivens-without : (b : Binders) (given : Givens) → AreWholeGivens given → AreWholeGivens (without b given)
AreWholeGivens-without b given h = All-filter (λ p. not (binds b p.0)) (λ p. IsWholeOption p.1.value) given h

pub IsWhole-replace : (given : Givens) (c : Contract) → AreWholeGivens given → IsWholeContract c → IsWholeContract (replace given c)
IsWhole-replace given Success h i = tt
IsWhole-replace given Failure h i = tt
IsWhole-replace given (Transmit b p c) h i =
    let below = AreWholeGivens-without b given h in
    (IsWhole-subst (without b given) p below i.0, IsWhole-replace (without b given) c below i.1)
IsWhole-replace given (Plus a b) h i = (IsWhole-replace given a h i.0, IsWhole-replace given b h i.1)
IsWhole-replace given (Par a b) h i = (IsWhole-replace given a h i.0, IsWhole-replace given b h i.1)
IsWhole-replace given (Seq a b) h i = (IsWhole-replace given a h i.0, IsWhole-replace given b h i.1)
IsWhole-replace given (App f args) h i =
    All-map IsWholeExpression (subst given) args
    (All-weaker IsWholeExpression (λ a. IsWholeExpression (subst given a)) (λ a k. IsWhole-subst given a h k) args i)
