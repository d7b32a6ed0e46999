use Rattle.std.proofs.Common.{[], ◌∷◌, ◌++◌, Some, refl, ap, ◌∙◌, inl, arith, append_assoc}
use Rattle.std.proofs.lemmas.List.Elements.{All-pop, All-cons, All-nil, All-weaker, All-same}
use Rattle.poets_turn.specs.Clerks.{IsClerkOf, KnowsClerk, number, front, calls}
use Rattle.poets_turn.proofs.Fronts.{prefix_self}
use Rattle.poets_turn.proofs.types.Turn.gather.Goals as goal

pub loop-clerk-init : goal.loop-clerk-init
loop-clerk-init g c = let h = c.in-Some.ensures in let x = c.in-Some.first in let n = x.numbered in let n₀ = n.0 in let n₁ = n.1 in
    let p = All-pop (λ y. IsClerkOf g.M.Machine.frame c.args.self.now y) c.args.clerks.items c.pop.new.self.items (Some x) h.some c.requires.of in record {
      table = p.1.table;
      idle = (x.idle.0, omega arith, x.idle.2);
      of = p.0;
      gone = (
        x ∷ [],
        h.some,
        All-cons (λ y. KnowsClerk x.seat.me.0 (number y) (front y) (calls y)) x []
            record { front = prefix_self x.seat.me.0.front; calls = inl (x.numbered.0, refl) } (All-nil (λ y. KnowsClerk x.seat.me.0 (number y) (front y) (calls y))),
      );
    }

pub take_in-requires-clause-clerk : goal.take_in-requires-clause-clerk
take_in-requires-clause-clerk g c =
    (All-pop (λ y. IsClerkOf g.M.Machine.frame c.args.self.now y) c.loop-clerk.clerks.items c.pop-in-loop-clerk.new.self.items (Some c.in-Some-pop.clerk) c.in-Some-pop.ensures.some c.loop-clerk.invariant.of).1

pub loop-clerk-preserved : goal.loop-clerk-preserved
loop-clerk-preserved g c = let h = c.in-Some-pop.ensures in let x = c.in-Some-pop.clerk in let e = c.take_in.ensures in let i = c.loop-clerk.invariant in let done = i.gone.0 in
    let p = All-pop (λ y. IsClerkOf g.M.Machine.frame c.args.self.now y) c.loop-clerk.clerks.items c.pop-in-loop-clerk.new.self.items (Some x) h.some i.of in record {
      table = e.table ∙ i.table;
      idle = e.idle;
      of = p.0;
      gone = (
        x ∷ done,
        i.gone.1 ∙ (ap (λ l. l ++ done) h.some ∙ append_assoc c.pop-in-loop-clerk.new.self.items (x ∷ []) done),
        All-cons (λ y. KnowsClerk c.take_in.new.seat.me.0 (number y) (front y) (calls y)) x done e.clerk
            (All-weaker (λ y. KnowsClerk c.loop-clerk.seat.me.0 (number y) (front y) (calls y)) (λ y. KnowsClerk c.take_in.new.seat.me.0 (number y) (front y) (calls y))
            (λ y k. e.others (number y) (front y) (calls y) k) done i.gone.2),
      );
    }

pub returns-clause-knows : goal.returns-clause-knows
returns-clause-knows g c = let i = c.loop-clerk.invariant in let done = i.gone.0 in
    All-same (λ y. KnowsClerk c.loop-clerk.seat.me.0 (number y) (front y) (calls y)) c.args.clerks.items done (i.gone.1 ∙ ap (λ l. l ++ done) c.in_default-pop.ensures.none.0) i.gone.2
