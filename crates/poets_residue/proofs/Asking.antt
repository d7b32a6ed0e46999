-- Contracts of rows whose nodes are known, and what applications ask.
use Rattle.std.proofs.Common.{◌≡◌, ◌⊎◌, ℕ, ◌+◌, ◌<◌, ◌≤◌, arith, List, map, Some, sym, ◌∙◌, ap, subst, Result}
use Rattle.std.specs.Prelude.{sum_by}
use Rattle.std.specs.Arc.{arc_value}
use Rattle.std.specs.declared.alloc.Global.{Global}
use Rattle.std.specs.declared.sync.Arc.{Arc}
use Rattle.poets_value.specs.declared.value.Name.{Name}
use Rattle.poets_value.specs.declared.list.List.{List as TheList}
use Rattle.poets_expr.specs.declared.expr.Expr.{Expr}
use Rattle.poets_expr.specs.Expression.{Expression, expression_of}
use Rattle.poets_syntax.specs.declared.term.Binders.{Binders}
use Rattle.poets_syntax.specs.Contract.{Contract, Transmit, App}
use Rattle.poets_syntax.specs.Plain.{Book, Template}
use Rattle.poets_syntax.specs.Book.{template_in}
use Rattle.poets_syntax.specs.Applied.{CountsFit}
use Rattle.poets_meaning.specs.Arguments.{arguments}
use Rattle.poets_meaning.specs.Marks.{Marks}
use Rattle.poets_meaning.specs.Width.{width, body_in}
use Rattle.poets_calculus.specs.Residual.{body_of}
use Rattle.poets_norm.specs.Questions.{operated, questions}
use Rattle.poets_cons.specs.declared.node.Node.{Node}
use Rattle.poets_cons.specs.declared.node.Node.TheVariants as N
use Rattle.poets_cons.specs.Row.{row_of, contract_by}
use Rattle.poets_cons.specs.Table.{contract_at}
use Rattle.poets_residue.specs.code.Deriving.{AsksInWidth}
use Rattle.poets_residue.specs.Once.{ready, asked_of, IsAmong}
use Rattle.poets_residue.specs.code.Spent.{IsSpent}
use Rattle.poets_residue.specs.Unfolding.{IsStudied}
use Rattle.poets_residue.proofs.Kept.{CountsFit-body}
use Rattle.poets_residue.proofs.Widths.{body-smaller, asks-unfolding, asks-unfolded}
use Rattle.poets_residue.proofs.Ready.{ReadyIn, app_ready_itself, app_ready_body, app_not_in_body}
use Rattle.poets_residue.proofs.Spending.{same_spent, body_spent}

-- the contract of a row whose node is known
pub row_is : (nodes : List Node) (place : ℕ) {n m : Node} → contract_at nodes place ≡ contract_by (contract_at nodes) (row_of n) → n ≡ m →
    contract_at nodes place ≡ contract_by (contract_at nodes) (row_of m)
row_is nodes place h e = h ∙ ap (λ k. contract_by (contract_at nodes) (row_of k)) e

-- and so where what it shares was copied
pub transmit_is : (nodes : List Node) (place : ℕ) {n : Node} {b : Binders} {p : Arc Expr Global} {c : ℕ} → contract_at nodes place ≡ contract_by (contract_at nodes) (row_of n) →
    n ≡ N.Transmit b p c → {copy : Expr} → copy ≡ arc_value p → contract_at nodes place ≡ Transmit b (expression_of copy) (contract_at nodes c)
transmit_is nodes place {b = b} {c = c} h e q = row_is nodes place h e ∙ ap (λ k. Transmit b (expression_of k) (contract_at nodes c)) (sym q)

pub app_is : (nodes : List Node) (place : ℕ) {n : Node} {f : Name} {args : Arc (TheList Expr) Global} → contract_at nodes place ≡ contract_by (contract_at nodes) (row_of n) →
    n ≡ N.App f args → (copies : List Expr) → copies ≡ (arc_value args).items → contract_at nodes place ≡ App f (map expression_of copies)
app_is nodes place {f = f} h e copies q = row_is nodes place h e ∙ ap (λ xs. App f (map expression_of xs)) (sym q)

-- an application of a template
module _ (book : Book) (marks : Marks) (study : IsStudied book marks) (c : Contract) (f : Name) (args : List Expression) (whole : c ≡ App f args)
    (h : CountsFit book c) (t : Template) (q : template_in book.templates f ≡ Some t) where
  fits : CountsFit book (App f args)
  fits = subst (CountsFit book) whole h

  pub app_here : IsAmong c (ready book marks c)
  app_here = subst (λ k. IsAmong k (ready book marks k)) (sym whole) (app_ready_itself book marks study f args fits)

  -- what it pays
  pub app_paid : asked_of book c ≡ sum_by operated args + arguments t.body
  app_paid = ap (asked_of book) whole ∙ ap (λ o. sum_by operated args + body_in o arguments) q

  -- what it asked before its body stands
  pub app_asking : (x y : ℕ) → y ≤ x + sum_by operated args + questions t.body → AsksInWidth book marks c x y
  app_asking x y l = subst (λ k. AsksInWidth book marks k x y) (sym whole) (asks-unfolding book marks study f args t q fits x y l)

  module _ (d : Contract) (body : d ≡ body_of book marks (Some t) args) where
    pub body_fits : CountsFit book d
    body_fits = subst (CountsFit book) (sym body) (rw q at (CountsFit-body book marks study.fit f args))

    pub body_narrower : width book marks d < width book marks c
    body_narrower = omega (arith, ap (width book marks) body, ap (width book marks) whole, body-smaller book marks study f args t q fits)

    pub app_asked : (x y z : ℕ) → y + questions (body_of book marks (Some t) args) ≤ x + sum_by operated args + questions t.body → AsksInWidth book marks d y z →
        AsksInWidth book marks c x z
    app_asked x y z l m =
        subst (λ k. AsksInWidth book marks k x z) (sym whole)
        (asks-unfolded book marks study f args t q fits x y z l (subst (λ k. AsksInWidth book marks k y z) body m))

    -- its body begins what else is asked
    pub app_spent : (Before Mid After : Contract → Type 0) → (Before c → ⊥) → ((k : Contract) → Before k → Mid k) → (x y z : ℕ) → y ≤ x + sum_by operated args + arguments t.body →
        {E : Type 0} (r : Result ℕ E) → IsSpent book marks d Mid After y z r → IsSpent book marks c Before (λ k. (k ≡ c) ⊎ After k) x z r
    app_spent Before Mid After new further x y z paid r s =
        let apart : IsAmong c (ready book marks d) → ⊥ =
        subst (λ k. IsAmong k (ready book marks d) → ⊥) (sym whole)
        (subst (λ k. IsAmong (App f args) (ready book marks k) → ⊥) (sym body) (app_not_in_body book marks study f args fits t q)) in
        let inner : ReadyIn book marks d c =
        subst (ReadyIn book marks d) (sym whole) (subst (λ k. ReadyIn book marks k (App f args)) (sym body) (app_ready_body book marks study f args fits t q)) in
        body_spent book marks d c Before After x y z r (omega (arith, paid, app_paid)) app_here apart new inner
        (same_spent book marks d d Before Mid After After y z r (λ k j. j) further (λ k j. j) s)
