use Rattle.std.proofs.Common.{rules, ◌≡◌, ◌++◌, ◌∷◌, [], length, sym, subst}
use Rattle.poets_cons.specs.code.Copies.{IsAppended}
use Rattle.poets_cons.specs.Row.{row_of}
use Rattle.poets_cons.proofs.Copied.{appended}
use Rattle.poets_cons.proofs.copying.append.Goals as goal

pub returns : goal.returns
returns c =
    let old = c.args.into.now.items in
    let r = row_of c.args.node in
    let all : c.push.new.self.items ≡ old ++ c.args.node ∷ [] = c.in-Ok.ensures.items in
    let last : length old ≡ c.len-place.result = search rules in
    let made = appended old c.args.node c.requires.table c.requires.parts c.requires.new in
    subst (IsAppended old c.push.new.self.items r) last (subst (λ nodes. IsAppended old nodes r (length old)) (sym all) made)
