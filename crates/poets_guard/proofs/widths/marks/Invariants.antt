use Rattle.std.proofs.Common.{◌≡◌, false, take}
use Rattle.std.specs.List.{AllZip}
use Rattle.std.specs.BTreeSet.{contains}
use Rattle.poets_value.specs.declared.value.Name.{Name}
use Rattle.poets_value.specs.Names.{name_cmp}
use Rattle.poets_guard.specs.code.Walks.{HaveWidths}
use Rattle.poets_guard.specs.code.Marked.{IsMarked}
use Rattle.poets_guard.proofs.widths.marks.Given as goal

abbrev pub invariant-loop-template : goal.invariant-loop-template
invariant-loop-template l = record {
  path : (f : Name) → contains name_cmp l.path f ≡ false;
  widths : HaveWidths l.graph l.widths;
  marks : AllZip (IsMarked l.graph (contains name_cmp l.nullable) (contains name_cmp l.hopeful)) (take l.template-index l.template-items) l.marks.items;
}
