use Rattle.std.proofs.Common.{◌++◌, refl}
use Rattle.poets_syntax.specs.Replace.{env_of}
use Rattle.poets_syntax.proofs.Replacing.{Agrees-pairs}
use Rattle.poets_meaning.proofs.Granting.{May-Perf, Perf-May}
use Rattle.poets_meaning.proofs.Saying.{SaysSame-sym, SaysSame-May}
use Rattle.poets_meaning.proofs.Replacing.{SaysSame-replace}
use Rattle.poets_meaning.proofs.laws.replaced_performed.Goals as goal

pub returns : goal.returns
returns c = λ book given env t s stand keeps fresh.
    let alike = SaysSame-replace book.declared t env given (env_of given ++ env) fresh stand (Agrees-pairs book.declared env keeps given stand) in
    ((λ p. May-Perf (SaysSame-May alike (Perf-May p)) refl), (λ p. May-Perf (SaysSame-May (SaysSame-sym alike) (Perf-May p)) refl))
