-- The forms of a table's rows.
use Rattle.std.proofs.Common.{◌≡◌, ℕ, zero, suc, ◌+◌, true, false, ◌&&◌, ◌||◌, arith, List, [], ◌∷◌, ◌++◌, map, slice_get, Some, sym, ◌∙◌, ap}
use Rattle.std.proofs.lemmas.List.{map-append}
use Rattle.poets_syntax.specs.Contract.{Contract}
use Rattle.poets_syntax.specs.Contract as C
use Rattle.poets_cons.specs.declared.form.Form.{Form}
use Rattle.poets_cons.specs.declared.node.Node.{Node}
use Rattle.poets_cons.specs.Forms.{has_parallel, is_grouped, is_single}
use Rattle.poets_cons.specs.Row.{row_of}
use Rattle.poets_cons.specs.Table.{nth, grown, rows_of, contracts_of, contract_at, contract_of_node}
use Rattle.poets_cons.specs.code.Forms.{weight, cut, form_of, AreForms, single_form, joined_form, both_forms}
use Rattle.poets_cons.proofs.Growing.{grown-append}

form_nth : (cs : List Contract) (i : ℕ) (f : Form) → slice_get (map form_of cs) i ≡ Some f → f ≡ form_of (nth cs i)
form_nth [] i f e = absurd cc
form_nth (c ∷ cs) zero f e = let h : form_of c ≡ f = cc in sym h
form_nth (c ∷ cs) (suc i) f e = form_nth cs i f e

-- the form of a row is that of its contract
pub form_here : (nodes : List Node) (forms : List Form) → AreForms nodes forms → (place : ℕ) (f : Form) → slice_get forms place ≡ Some f →
    f ≡ form_of (contract_at nodes place)
form_here nodes forms all place f e = form_nth (contracts_of nodes) place f (ap (λ l. slice_get l place) (sym all) ∙ e)

cut-one : (m : ℕ) → cut (1 + cut m) ≡ cut (1 + m)
cut-one m = omega arith

cut-both : (m n : ℕ) → cut (1 + cut m + cut n) ≡ cut (1 + m + n)
cut-both m n = omega arith

-- the form of a contract after an event, from that contract's
pub form_after : (c : Contract) → single_form (cut (1 + (form_of c).weight)) (form_of c).parallel ≡ single_form (cut (1 + weight c)) (has_parallel c)
form_after c = ap (λ n. single_form n (has_parallel c)) (cut-one (weight c))

-- the form of two contracts joined by `+` or `;`, from theirs
pub form_joined : (a b : Contract) → joined_form (form_of a) (form_of b) ≡ form_of (C.Plus a b)
form_joined a b = ap (λ n. single_form n (has_parallel a || has_parallel b)) (cut-both (weight a) (weight b))

-- the form of two contracts side by side, from theirs
pub form_beside : (a b : Contract) → both_forms (form_of a) (form_of b) ≡ form_of (C.Par a b)
form_beside a b = λ i. record { weight = cut-both (weight a) (weight b) i; single = false; parallel = true; grouped = is_grouped a && is_single b }

-- the forms with one more at the end
pub forms_push : (nodes : List Node) (node : Node) (forms : List Form) → AreForms nodes forms → AreForms (nodes ++ node ∷ []) (forms ++ form_of (contract_of_node nodes node) ∷ [])
forms_push nodes node forms all =
    ap (λ l. l ++ form_of (contract_of_node nodes node) ∷ []) all
    ∙ sym (map-append form_of (contracts_of nodes) (contract_of_node nodes node ∷ []))
    ∙ ap (map form_of) (sym (ap (grown []) (map-append row_of nodes (node ∷ [])) ∙ grown-append [] (rows_of nodes) (rows_of (node ∷ []))))
