-- What is kept of each row at once.
use Rattle.std.specs.Prelude.{◌≡◌, ◌+◌, ◌-◌, ◌^◌, ℕ, Bool, true, false, ◌&&◌, ◌||◌, List, map, min}
use Rattle.poets_syntax.specs.Contract.{Contract}
use Rattle.poets_syntax.specs.Contract as C
use Rattle.poets_cons.specs.declared.form.Form.{Form}
use Rattle.poets_cons.specs.declared.node.Node.{Node}
use Rattle.poets_cons.specs.Forms.{has_parallel, is_single, is_grouped}
use Rattle.poets_cons.specs.Table.{contracts_of, contract_of_node}

-- a number that alike contracts have in common, and that tells many others apart
abbrev pub weight : Contract → ℕ
weight C.Success = 1
weight C.Failure = 1
weight (C.Transmit b p c) = 1 + weight c
weight (C.Plus a b) = 1 + weight a + weight b
weight (C.Par a b) = 1 + weight a + weight b
weight (C.Seq a b) = 1 + weight a + weight b
weight (C.App f args) = 1 + f.id

-- cut at the greatest `u32`
abbrev pub cut : ℕ → ℕ
cut n = min n (2 ^ 32 - 1)

-- the form of a contract
abbrev pub form_of : Contract → Form
form_of c = record { weight = cut (weight c); single = is_single c; parallel = has_parallel c; grouped = is_grouped c }

-- each row's form is that of its contract
abbrev pub AreForms : List Node → List Form → Type 0
AreForms nodes forms = forms ≡ map form_of (contracts_of nodes)

-- the form is that of the node's contract, in each table whose rows have those forms
abbrev pub IsFormOf : List Form → Node → Form → Type 0
IsFormOf forms node form = (nodes : List Node) → AreForms nodes forms → form ≡ form_of (contract_of_node nodes node)

-- the form of a contract that is no `||`, with a `||` in it or none
abbrev pub single_form : ℕ → Bool → Form
single_form n parallel = record { weight = n; single = true; parallel = parallel; grouped = true }

-- the form of two contracts joined by `+` or `;`
abbrev pub joined_form : Form → Form → Form
joined_form a b = single_form (cut (1 + a.weight + b.weight)) (a.parallel || b.parallel)

-- the form of two contracts side by side
abbrev pub both_forms : Form → Form → Form
both_forms a b = record {
  weight = cut (1 + a.weight + b.weight);
  single = false;
  parallel = true;
  grouped = a.grouped && b.single;
}
