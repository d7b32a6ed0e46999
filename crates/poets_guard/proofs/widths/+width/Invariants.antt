use Rattle.std.proofs.Common.{◌≡◌, ◌+◌, ◌-◌, ℕ, true, length, take}
use Rattle.std.specs.Prelude.{sum_by}
use Rattle.poets_value.specs.declared.value.Name.{Name}
use Rattle.poets_syntax.specs.Typed.{is_among}
use Rattle.poets_meaning.specs.Width.{cut}
use Rattle.poets_guard.specs.code.Walks.{PathsEnd, IsWidthOf, HaveWidths, HaveSameNames}
use Rattle.poets_guard.proofs.widths.+width.Given as goal

abbrev pub invariant-loop-next : goal.invariant-loop-next
invariant-loop-next l = record {
  path : HaveSameNames l.initial.path l.path;
  widths : HaveWidths l.graph l.widths;
  ends : (g : Name) → is_among (take l.next-index l.next-items) g ≡ true → PathsEnd l.graph g;
  sum : (width : Name → ℕ) → IsWidthOf l.graph width → l.exposed ≡ cut (sum_by width (take l.next-index l.next-items));
}

abbrev pub decreases-width : goal.decreases-width
decreases-width l = length l.graph.now.entries + 1 - length l.path.now.keys
