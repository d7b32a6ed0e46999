use Rattle.std.proofs.Common.{ap, sym, subst}
use Rattle.poets_syntax.specs.Contract.{contract_of, Par}
use Rattle.poets_way.specs.Trails.{way_at, sides_at}
use Rattle.poets_route.specs.code.Grouping.{IsGroupedRight, Takes}
use Rattle.poets_route.proofs.Made.{given_since, grew_twice, sides_later, way_later}
use Rattle.poets_route.proofs.Regrouped.{inner_taken, more_taken, takes-outer}
use Rattle.poets_route.proofs.grouping.+beside.Goals as goal

pub returns-in_default-both_of : goal.returns-in_default-both_of
returns-in_default-both_of t c =
    let p = c.in_ok-parted.ensures in
    let b = contract_of c.in-Par.b.value in
    let from = way_at c.args.trails.now c.args.way in
    let way = way_at c.beside.new.trails c.in_ok-parted.parted in
    let last : Takes b from way = subst (λ x. Takes x from way) (ap contract_of c.deref.ensures) p.made in record {
      grew = p.grew;
      within = p.within;
      made = subst (λ x. Takes x from way) (sym (ap contract_of c.in-Par.is))
          (takes-outer (contract_of c.in-Par.a.value) b from way way last c.in_default-both_of.ensures.none);
    }

pub returns-in_default-both_of-2 : goal.returns-in_default-both_of-2
returns-in_default-both_of-2 t c =
    let p = c.in_ok-parted.ensures in
    let q = c.in_ok-front.ensures in
    let mid = c.beside.new.trails in
    let head = c.in-Some.ensures.some in
    let way = way_at c.beside-2.new.trails c.in_ok-front.front in record {
      grew = grew_twice p.grew q.grew;
      within = q.within;
      made = inner_taken (contract_of c.args.second.now) (contract_of c.in-Par.a.value) (contract_of c.in-Par.b.value) (contract_of c.deref-2.result.now)
          (contract_of c.deref.result.now) (ap contract_of c.in-Par.is) (ap contract_of c.deref.ensures) (ap contract_of c.deref-2.ensures)
          (way_at c.args.trails.now c.args.way) (way_at mid c.in_ok-parted.parted) (way_at mid c.in-Some.first) (way_at mid c.in-Some.third)
          (sides_at mid c.in-Some.last) p.made head.way way q.made way c.in_default-both_of-2.ensures.none;
    }

pub returns : goal.returns
returns t c =
    let p = c.in_ok-parted.ensures in
    let q = c.in_ok-front.ensures in
    let old = c.args.trails.now in
    let mid = c.beside.new.trails in
    let late = c.beside-2.new.trails in
    let head = c.in-Some.ensures.some in
    let next = c.in-Some-both_of.ensures.some in
    let last = c.in-Some.last in
    let third = c.in-Some.third in
    let sides = sides_at late c.in-Some-both_of.sides in
    let first = way_at late c.in-Some-both_of.first in
    let second = way_at late c.in-Some-both_of.second in
    given_since old late c.grouped.new.trails c.grouped.result (IsGroupedRight (sides_at late last) sides first second (way_at late third))
    (Takes (contract_of c.args.second.now) (way_at old c.args.way)) (grew_twice p.grew q.grew) c.grouped.ensures
    (λ made g. more_taken (contract_of c.args.second.now) (contract_of c.in-Par.a.value) (contract_of c.in-Par.b.value) (contract_of c.deref-2.result.now)
    (contract_of c.deref.result.now) (ap contract_of c.in-Par.is) (ap contract_of c.deref.ensures) (ap contract_of c.deref-2.ensures)
    (way_at old c.args.way) (way_at mid c.in_ok-parted.parted) (way_at mid c.in-Some.first) (way_at mid third) (sides_at mid last) p.made head.way
    (way_at late c.in_ok-front.front) q.made (way_at late third) first second made (sides_at late last) sides next.way
    (sides_later q.grew last head.sides_within) (way_later q.grew third head.second_within) g)
