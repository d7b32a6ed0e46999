use Rattle.std.proofs.Common.{◌++◌}
use Rattle.poets_syntax.specs.Replace.{env_of}
use Rattle.poets_syntax.proofs.Replacing.{Agrees-pairs}
use Rattle.poets_meaning.proofs.Saying.{SaysSame-sym, SaysSame-May}
use Rattle.poets_meaning.proofs.Replacing.{SaysSame-replace}
use Rattle.poets_meaning.proofs.laws.replaced_alike.Goals as goal

pub returns : goal.returns
returns c = λ book given env t s n stand keeps fresh.
    let alike = SaysSame-replace book.declared t env given (env_of given ++ env) fresh stand (Agrees-pairs book.declared env keeps given stand) in
    ((λ m. SaysSame-May alike m), (λ m. SaysSame-May (SaysSame-sym alike) m))
