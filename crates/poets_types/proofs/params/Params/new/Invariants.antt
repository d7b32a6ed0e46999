use Rattle.std.proofs.Common.{◌≡◌, None, [], map, take, drop, reverse}
use Rattle.std.specs.BTreeMap.{get}
use Rattle.poets_value.specs.declared.value.Name.{Name}
use Rattle.poets_value.specs.Names.{name_cmp}
use Rattle.poets_syntax.specs.TypeOf.{type_in}
use Rattle.poets_syntax.specs.Typed.{in_use, check_new, scope_of}
use Rattle.poets_types.specs.code.Indices.{book_in, reports_in}
use Rattle.poets_types.proofs.params.Params.new.Given as goal

-- the rest gives the answer, and the types so far are found
abbrev pub invariant-loop-param : goal.invariant-loop-param
invariant-loop-param l = record {
  rest :
      check_new (in_use (book_in l.index) (reports_in l.index)) [] (map (λ p. p.name) l.list)
      ≡ check_new (in_use (book_in l.index) (reports_in l.index)) (reverse (take l.param-index (map (λ p. p.name) l.list))) (drop l.param-index (map (λ p. p.name) l.list));
  types : (x : Name) → get name_cmp l.types x ≡ type_in (λ _. None) (scope_of (take l.param-index l.list)) x;
}
