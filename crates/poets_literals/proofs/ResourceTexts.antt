-- A resource from the parts of its text.
use Rattle.std.proofs.Common.{◌≡◌, ◌≢◌, ℕ, List, ◌∙◌, ℤ}
use Rattle.std.specs.Fmt.{signed_decimal}
use Rattle.poets_value.specs.declared.value.Name.{Name}
use Rattle.poets_value.specs.declared.value.Ty.TheVariants as T
use Rattle.poets_value.specs.declared.value.Resource.{Resource}
use Rattle.poets_expr.specs.Env.{Declared}
use Rattle.poets_lex.specs.Table.{Table}
use Rattle.poets_print.specs.Texts.{name_text}
use Rattle.poets_literals.specs.Declared.{IsNumber}
use Rattle.poets_literals.specs.code.Parts.{in_brackets, HasNoSpace, HasNameText, HasResourceText}
use Rattle.poets_literals.proofs.NumberTexts.{number_without_space}
use Rattle.poets_literals.proofs.TextsInBrackets.{one_split}

module _ (names : Table) (declared : Declared) (text amount kind : List ℕ)
    (whole : text ≡ in_brackets amount kind) (space : HasNoSpace amount) where
  -- the parts of a resource's text are its amount's and its kind's
  parts_of :
      (r : Resource) → HasResourceText names declared text r →
      (signed_decimal r.amount ≡ amount) × (name_text names r.kind ≡ kind)
  parts_of r h =
      let own = number_without_space r.amount h.0.0 in
      one_split (signed_decimal r.amount) amount (name_text names r.kind) kind own space (h.1 ∙ whole)

  -- so there is none where no number has the amount's text, or no kind the kind's
  pub no_amount :
      ((z : ℤ) → IsNumber z → signed_decimal z ≢ amount) → (r : Resource) → HasResourceText names declared text r → ⊥
  no_amount lacks r h = lacks r.amount h.0.0 (parts_of r h).0

  pub no_kind :
      ((x : Name) → HasNameText names declared T.Kind kind x → ⊥) →
      (r : Resource) → HasResourceText names declared text r → ⊥
  no_kind lacks r h = lacks r.kind (h.0.1, (parts_of r h).1)
