-- What can be written with the names of a table can be written with those of each table that extends it.
use Rattle.std.proofs.Common.{◌≡◌, ◌+◌, [], ◌∷◌, length, ap, ◌∙◌, arith, length-append}
use Rattle.std.proofs.lemmas.List.Elements.{All-weaker}
use Rattle.poets_value.specs.declared.value.Name.{Name}
use Rattle.poets_value.specs.declared.value.Value.{Value}
use Rattle.poets_value.specs.declared.value.Value.TheVariants as V
use Rattle.poets_lex.specs.Table.{Table, Extends}
use Rattle.poets_expr.specs.Expression.{Expression, Literal, Undefined, Named, Unary, Make, Binary, If}
use Rattle.poets_syntax.specs.Contract.{Contract, Success, Failure, Transmit, Plus, Par, Seq, App}
use Rattle.poets_syntax.specs.Plain.{Template}
use Rattle.poets_print.specs.Laws.{IsListed, HasLiteral, CanWrite, CanWriteContract}
use Rattle.poets_books.specs.Laws.{CanWriteTemplate}
use Rattle.poets_named.specs.Laws.{BooksStayWritten}

module _ (own names : Table) (extends : Extends own names) where
  listed_more : (x : Name) → IsListed own x → IsListed names x
  listed_more x h =
      let long : length names ≡ length own + length extends.0 = ap length extends.1 ∙ length-append own extends.0 in
      omega (arith, h, long)

  literal_more : (v : Value) → HasLiteral own v → HasLiteral names v
  literal_more (V.Int n) h = tt
  literal_more (V.Bool b) h = tt
  literal_more (V.Agent x) h = absurd h
  literal_more (V.Kind x) h = absurd h
  literal_more (V.Resource r) h = listed_more r.kind h
  literal_more (V.Day d) h = tt

  expression_more : (e : Expression) → CanWrite own e → CanWrite names e
  expression_more (Literal v) h = literal_more v h
  expression_more (Undefined t) h = tt
  expression_more (Named x) h = listed_more x h
  expression_more (Unary o a) h = expression_more a h
  expression_more (Make a b) h = (expression_more a h.0, expression_more b h.1)
  expression_more (Binary o a b) h = (expression_more a h.0, expression_more b h.1)
  expression_more (If a b c) h = (expression_more a h.0, expression_more b h.1, expression_more c h.2)

  contract_more : (c : Contract) → CanWriteContract own c → CanWriteContract names c
  contract_more Success h = tt
  contract_more Failure h = tt
  contract_more (Transmit b p c) h =
      (All-weaker (IsListed own) (IsListed names) listed_more (b.sender ∷ b.receiver ∷ b.what ∷ b.day ∷ []) h.0, expression_more p h.1, contract_more c h.2)
  contract_more (Plus a b) h = (contract_more a h.0, contract_more b h.1)
  contract_more (Par a b) h = (contract_more a h.0, contract_more b h.1)
  contract_more (Seq a b) h = (contract_more a h.0, contract_more b h.1)
  contract_more (App f args) h = (listed_more f h.0, All-weaker (CanWrite own) (CanWrite names) expression_more args h.1)

  template_more : (t : Template) → CanWriteTemplate own t → CanWriteTemplate names t
  template_more t h = record {
    name = listed_more t.name h.name;
    params = All-weaker (λ p. IsListed own p.name) (λ p. IsListed names p.name) (λ p i. listed_more p.name i) t.params h.params;
    body = contract_more t.body h.body;
  }

pub books_stay_written : BooksStayWritten
books_stay_written own names book extends h = record {
  declared = λ x t e. listed_more own names extends x (h.declared x t e);
  templates = All-weaker (CanWriteTemplate own) (CanWriteTemplate names) (template_more own names extends) book.templates h.templates;
}
