use Rattle.std.specs.Prelude.{◌+◌, [], ◌∷◌, Some, slice_get}
use Rattle.std.specs.BTreeMap.{get}
use Rattle.poets_value.specs.Names.{name_cmp}
use Rattle.poets_guard.specs.code.Facts.{bodies}
use Rattle.poets_guard.proofs.Places.{StandsAt, StandsAt-same, template_in-entry}
use Rattle.poets_guard.proofs.Concluding.{bodies_at}
use Rattle.poets_guard.proofs.endings.facts_of.Goals as goal

pub loop-place-preserved : goal.loop-place-preserved
loop-place-preserved c =
    template_in-entry c.args.book.now c.requires (slice_get (bodies c.args.book.now.templates.items)) (λ t. Some (t.body ∷ [])) c.loop-place.place c.template-item.result
    stands
    (get name_cmp c.loop-place.facts) (get name_cmp c.insert.new.self) (c.loop-place.place + 1) (bodies_at c.args.book.now.templates.items c.loop-place.place c.template-item.result stands)
    c.in_ok-insert.ensures.updates.0 c.loop-place.invariant
  where
    stands : StandsAt c.args.book.now.templates.items c.loop-place.place c.template-item.result
    stands = StandsAt-same c.as_slice-template-items.result.now c.args.book.now.templates.items c.loop-place.place c.template-item.result
        c.as_slice-template-items.ensures c.loop-place-test.true c.template-item.is
