use Rattle.poets_reread.proofs.Sessions.{first_calls_reread}
use Rattle.poets_kept.proofs.laws.kept_calls_are_recovered.Goals as goal

pub returns : goal.returns
returns c = λ text book names own statements declared h count session read first same_book same_reports part.
    first_calls_reread text book names own statements declared h count session read.read first same_book same_reports
    (record { own = part.own; clerks = part.clerks })
