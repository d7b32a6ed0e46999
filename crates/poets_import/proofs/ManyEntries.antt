-- The entries of a history, one after the other.
use Rattle.std.proofs.Common.{◌≡◌, ℕ, ◌<◌, zero, suc, List, [], ◌∷◌, ◌++◌, length, get_or, map, sym, ap, subst, ◌∙◌, arith}
use Rattle.std.specs.List.{AllZip}
use Rattle.serde_json.specs.Data.{Data}
use Rattle.poets_expr.specs.Env.{Declared}
use Rattle.poets_lex.specs.Table.{Table}
use Rattle.poets_command.specs.Plain.{Entry}
use Rattle.poets_json.specs.Document.{entry_data}
use Rattle.poets_import.specs.code.Parts.{AreSaidEntries, IsFoundEntry, IsSaidEntry}
use Rattle.poets_import.specs.code.Spoken.{Said}
use Rattle.poets_import.proofs.Lists.{heads, tails}

module _ (names : Table) (declared : Declared) where
  -- one more that was found
  pub found_more :
      (all : List Said) (said : Said) (es : List Entry) (e : Entry) → AllZip (IsFoundEntry names declared) all es →
      IsFoundEntry names declared said e → AllZip (IsFoundEntry names declared) (all ++ said ∷ []) (es ++ e ∷ [])
  found_more [] said [] e are is = (is, tt)
  found_more [] said (y ∷ es) e are is = absurd are
  found_more (s ∷ all) said [] e are is = absurd are
  found_more (s ∷ all) said (y ∷ es) e are is = (are.0, found_more all said es e are.1 is)

  -- one of the values is of one of the entries
  pub entry_at :
      {C : Type 0} (said_of : C → Said) (data_of : C → Data) (P : Type 0) (items : List C) (i : ℕ) (item : C) (es : List Entry) →
      i < length items → item ≡ get_or items i item → AreSaidEntries names declared (map said_of items) es →
      map data_of items ≡ map (entry_data names) es →
      ((y : Entry) → IsSaidEntry names declared (said_of item) y → data_of item ≡ entry_data names y → P) → P
  entry_at said_of data_of P [] i item es low here are e is = absurd (omega (arith, low))
  entry_at said_of data_of P (c ∷ items) i item [] low here are e is = absurd are
  entry_at {C} said_of data_of P (c ∷ items) zero item (y ∷ es) low here are e is =
      is y (subst (λ (x : C). IsSaidEntry names declared (said_of x) y) (sym here) are.0)
      (ap data_of here ∙ heads (data_of c) (entry_data names y) (map data_of items) (map (entry_data names) es) e)
  entry_at said_of data_of P (c ∷ items) (suc i) item (y ∷ es) low here are e is =
      entry_at said_of data_of P items i item es (omega (arith, low)) here are.1
      (tails (data_of c) (entry_data names y) (map data_of items) (map (entry_data names) es) e) is
