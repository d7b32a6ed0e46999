-- Single tokens: what is found stands there.
use Rattle.std.proofs.Common.{◌≡◌, Bool, true, false, List, ◌∷◌, Option, Some, None, Result, Ok, if◌then◌else◌, ℕ, refl, sym, ap, subst, ◌∙◌, rules}
use Rattle.std.specs.Prelude.{IfSome}
use Rattle.poets_lex.specs.declared.token.Word.{Word}
use Rattle.poets_lex.specs.declared.token.Sign.{Sign}
use Rattle.poets_lex.specs.declared.token.Tok.{Tok}
use Rattle.poets_lex.specs.declared.token.Tok.TheVariants as K
use Rattle.poets_lex.specs.contracts.token.Sign.{the_type as sign_type}
use Rattle.poets_lex.specs.contracts.token.Word.{the_type as word_type}
use denote.Enum.Bare.{same_true}
use Rattle.poets_grammar.specs.Reading.{same_sign, same_word, behind_sign}

pub at_some : {A : Type 0} (P : A → Type 0) (r : Option A) (a : A) → IfSome r P → r ≡ Some a → P a
at_some P None a h e = absurd cc
at_some P (Some b) a h e = let q : b ≡ a = cc in subst P q h

chosen : {A : Type 0} (P : A → Type 0) (b : Bool) (x : A) → (b ≡ true → P x) → IfSome (if b then Some x else None) P
chosen P true x h = h refl
chosen P false x h = tt

pub same_sign_is : (a b : Sign) → same_sign a b ≡ true → a ≡ b
same_sign_is a b e = same_true sign_type (search rules) a b e

pub same_word_is : (a b : Word) → same_word a b ≡ true → a ≡ b
same_word_is a b e = same_true word_type (search rules) a b e

pub sign_is : (wanted : Sign) (ts : List Tok) → IfSome (behind_sign wanted ts) (λ rest. ts ≡ K.Sign wanted ∷ rest)
sign_is wanted (K.Sign found ∷ ts) =
    chosen (λ rest. (K.Sign found ∷ ts) ≡ (K.Sign wanted ∷ rest)) (same_sign found wanted) ts (λ e. ap (λ (s : Sign). K.Sign s ∷ ts) (same_sign_is found wanted e))
sign_is wanted _ = tt

pub one_answer : {A : Type 0} (r : Result A ℕ) (a b : A) → r ≡ Ok a → r ≡ Ok b → a ≡ b
one_answer r a b e q = let s : Ok a ≡ Ok b = sym e ∙ q in cc
