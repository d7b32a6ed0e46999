use Rattle.std.proofs.Common.{◌≡◌, ◌+◌, ◌-◌, ◌*◌, ◌≤◌, ◌<◌, arith, [], ◌∷◌, ◌++◌, length, length-append, append-nil, append_assoc, take, drop, Some, refl, sym, ap, subst, ◌∙◌}
use Rattle.std.specs.List.{All, slice_get}
use Rattle.std.proofs.Math.ListN.{get_or-append}
use Rattle.poets_syntax.specs.Book.{book_of}
use Rattle.poets_meaning.specs.Studied.{marks_of}
use Rattle.poets_cons.specs.Table.{contract_of_rows}
use Rattle.poets_way.specs.Trails.{way_at}
use Rattle.poets_way.specs.Ways.{Ways}
use Rattle.poets_route.specs.code.Back.{IsReadyIn}
use Rattle.poets_route.specs.code.Through.{through}
use Rattle.poets_route.proofs.Made.{grew_twice}
use Rattle.poets_route.proofs.Through.{BacksFrom, backs_piece, get_seam}
use Rattle.poets_route.proofs.explaining.over_pieces.Goals as goal

pub loop-start-preserved : goal.loop-start-preserved
loop-start-preserved c =
    let s = c.args.studied.now in
    let book = book_of s.book in
    let marks = marks_of s in
    let events = c.args.events.now in
    let l = c.loop-start in
    let left = c.pop.new.self.items in
    let start = c.in-Some.start in
    let items = c.in-Some.ensures.some in
    let more = l.invariant.rest.0 in
    let count = c.len-at.ensures in
    let number = length-append left (start ∷ []) in
    let last : length left < length l.stations.items = omega (arith, ap length items, number) in
    let begun : 256 * length left ≤ l.end = l.invariant.begin (length left) last in
    let high = l.invariant.within in
    let at = 256 * c.len-at.result in
    let low : 256 * c.len-at.result ≤ l.end = omega (arith, begun, count) in
    let all = subst (All (λ r. IsReadyIn s (contract_of_rows r))) items l.invariant.ready in
    let whole = l.invariant.rest.1 ∙ ap (λ xs. xs ++ more) items ∙ append_assoc left (start ∷ []) more in
    let found = subst (λ xs. slice_get xs (length left) ≡ Some start) (sym whole) (get_seam left more start) in
    let from = way_at c.args.trails.now c.args.way in
    let here = way_at l.trails l.way in
    let m = l.invariant.made in
    let g = c.in_ok-way.ensures in record {
      ready = λ k d h. subst (λ r. IsReadyIn s (contract_of_rows r)) (get_or-append left (start ∷ []) d k h) (all k d (omega (arith, number, h)));
      rest = (start ∷ more, whole);
      none = λ h. omega (arith, h, count);
      begin = λ k h. (let le : 256 * k ≤ 256 * c.len-at.result = omega (arith, h, count) in le);
      within = omega (arith, low, high);
      made = record {
        grew = grew_twice m.grew g.grew;
        within = g.within;
        made = λ o st. backs_piece book marks o events at l.end low high (contract_of_rows start) from here (way_at c.over_piece.new.trails c.in_ok-way.way)
            ((st (length left) start found).1 ∙ ap (λ n. through book marks o (take (256 * n) events)) (sym count)) (m.made o st) g.made;
      };
    }

pub returns : goal.returns
returns c =
    let book = book_of c.args.studied.now.book in
    let marks = marks_of c.args.studied.now in
    let events = c.args.events.now in
    let l = c.loop-start in
    let m = l.invariant.made in
    let from = way_at c.args.trails.now c.args.way in
    let here = way_at l.trails l.way in
    let over = l.invariant.none (ap length c.in_default.ensures.none.0) in record {
      grew = m.grew;
      within = m.within;
      made = λ o st way. subst (λ x. Ways book [] o x here) (append-nil events)
          ((subst (λ j. BacksFrom book marks 0 o events j from here) over (m.made o st)) [] refl way);
    }
