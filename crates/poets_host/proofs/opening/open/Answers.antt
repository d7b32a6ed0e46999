use Rattle.std.proofs.Common.{◌∙◌, ap}
use Rattle.poets_rules.specs.Rules.{book_of_rules, reports_of_rules}
use Rattle.poets_session.proofs.LawsFitting.{read_written}
use Rattle.poets_making.proofs.Taking.{whole_rules}
use Rattle.poets_host.proofs.opening.open.Goals as goal

pub new-engine-requires : goal.new-engine-requires
new-engine-requires c =
    let s = c.in_ok-session.session in
    let held = c.in_ok-session.ensures.session in
    whole_rules s.rules s.names held.0 held.2.book (read_written c.args.text.now s.names held.0 held.1.read)

pub returns-clause-book : goal.returns-clause-book
returns-clause-book c =
    let held = c.in_ok-session.ensures.session in
    record {
      statements = held.0;
      is = held.1;
      book = ap book_of_rules c.new-engine.ensures.rules ∙ held.2.book;
      reports = ap reports_of_rules c.new-engine.ensures.rules ∙ held.2.reports;
    }
