use Rattle.std.proofs.Common.{◌≡◌, ◌∙◌, ◌∷◌, ap, sym, subst, length, arith, get_or, [], refl}
use Rattle.poets_way.specs.Trails.{sides_at, sides_of}
use Rattle.poets_way.proofs.Tables.{sides-are, sides-count, no_sides}
use Rattle.poets_way.proofs.trails.Trails.side_at.Goals as goal

pub returns-then-sides-eq0-clause-none : goal.returns-then-sides-eq0-clause-none
returns-then-sides-eq0-clause-none c =
    let nodes = c.self.inside.nodes.items in
    let rows = c.self.inside.sides.items in
    let none : sides_at c.args.self.now c.args.sides ≡ [] =
    ap (sides_at c.args.self.now) c.if-sides-eq0.true ∙ ap (λ t. sides_at t 0) (sym c.self.view_is)
    ∙ ap (λ lists. get_or lists 0 []) (sides-are nodes rows) ∙ no_sides rows in
    ((λ h. none), (λ h. refl))

pub row_at-row-requires-clause-within : goal.row_at-row-requires-clause-within
row_at-row-requires-clause-within c =
    omega (arith, c.requires, ap (λ t. length t.sides) c.self.view_is, sides-count c.self.inside.nodes.items c.self.inside.sides.items, ap length c.as_slice-rows.ensures)

pub returns-clause-some : goal.returns-clause-some
returns-clause-some c =
    let rows = c.as_slice-rows.result.now in
    let same : sides_of rows ≡ c.args.self.now.sides =
    ap sides_of c.as_slice-rows.ensures ∙ sym (sides-are c.self.inside.nodes.items c.self.inside.sides.items) ∙ ap (λ t. t.sides) c.self.view_is in (
      subst (λ lists. get_or lists c.args.sides [] ≡ c.row_at-row.result.second ∷ get_or lists c.row_at-row.result.rest []) same c.row_at-row.ensures.sides,
      c.row_at-row.ensures.rest,
    )

pub returns-clause-none : goal.returns-clause-none
returns-clause-none c =
    let some = (returns-clause-some c).0 in
    ((λ h. absurd cc), (λ h. let e : [] ≡ c.row_at-row.result.second ∷ sides_at c.args.self.now c.row_at-row.result.rest = sym h ∙ some in absurd cc))
