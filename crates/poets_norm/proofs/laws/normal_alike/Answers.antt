use Rattle.poets_norm.proofs.Meaning.{normal_in, normal_out}
use Rattle.poets_norm.proofs.laws.normal_alike.Goals as goal

pub returns : goal.returns
returns c = λ book marks env t s n right keeps formed.
    ((λ m. normal_out book marks right t formed env keeps s n m), (λ m. normal_in book marks right t formed env keeps s n m))
