use Rattle.std.proofs.Common.{[]}
use Rattle.poets_live.proofs.watch.Watch.new.Goals as goal

pub returns-clause-follows : goal.returns-clause-follows
returns-clause-follows c =
    let h = c.in_ok-course.ensures.goes_on c.args.args.items [] c.in_ok-start.ensures.course in
    record { begun = h.stands.starts; answers = h.stands.answers; marks = h.marks }
