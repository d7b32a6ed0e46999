-- Readers of single tokens, with what is read after them.
use Rattle.std.proofs.Common.{◌≡◌, ℕ, suc, Bool, true, false, List, [], ◌∷◌, Option, Some, None, Ok, Err, if◌then◌else◌, ℤ, pos, refl, sym, ap, subst, arith}
use Rattle.poets_value.specs.declared.value.Name.{Name}
use Rattle.poets_value.specs.declared.value.Ty.{Ty}
use Rattle.poets_value.specs.declared.value.Ty.TheVariants as T
use Rattle.poets_lex.specs.declared.token.Word.{Word}
use Rattle.poets_lex.specs.declared.token.Word.TheVariants as W
use Rattle.poets_lex.specs.declared.token.Sign.{Sign}
use Rattle.poets_lex.specs.declared.token.Tok.{Tok}
use Rattle.poets_lex.specs.declared.token.Tok.TheVariants as K
use Rattle.poets_grammar.specs.Tokens.{type_of}
use Rattle.poets_grammar.specs.Lists.{ReadsName}
use Rattle.poets_grammar.specs.Reading.{Answer, ◌>>=◌, same_sign, same_word, needed, sign, word, name, number, with_type, type_name, whole}
use Rattle.poets_grammar.specs.StatementReading.{natural}
use Rattle.poets_grammar.proofs.Steps.{same_sign_is, same_word_is}
use Rattle.poets_grammar.proofs.Readers.{Form, Begins, Fuel, IsReader, Branch, begins_token, by_first, fronts, wholes, done, stays, fails_token, Outcome, at_end}

-- fuel that lasts for a token and others lasts for the others
pub lasts : {I : Type 0} (fuel : Fuel I) (i : I) (a : ℕ) → fuel.Lasts i (suc a) → fuel.Lasts i a
lasts fuel i a l = fuel.less i a (suc a) (omega arith) l

module _ {I A Y : Type 0} {fuel : Fuel I} {form : Form A Y} {R : List Tok → A → List Tok → Type 0} {n : ℕ} where
  -- a reader by its first token, with the same fuel behind it
  pub by_token : {f : I → List Tok → Answer Y} → Begins form.Stops R [] → ((i : I) → f i [] ≡ Err 0) → ((t : Tok) → Branch n fuel form R f t) → IsReader n fuel form R f
  by_token b none branch = by_first (lasts fuel) b (omega arith) none branch

  -- ---- signs and words

  at_sign : (wanted found : Sign) (next : I → List Tok → Answer Y) (b : Bool) → same_sign found wanted ≡ b → IsReader n fuel form (λ us x rest. R (K.Sign wanted ∷ us) x rest) next →
      Branch n fuel form R (λ i us. sign wanted us >>= next i) (K.Sign found)
  at_sign wanted found next true e h =
      Branch.Takes next (λ i us. ap (λ (x : Bool). needed (K.Sign found ∷ us) (if x then Some us else None) >>= next i) e)
      (subst (λ (s : Sign). IsReader n fuel form (λ us x rest. R (K.Sign s ∷ us) x rest) next) (sym (same_sign_is found wanted e)) h)
  at_sign wanted found next false e h =
      Branch.GivesUp (λ i us. ap (λ (x : Bool). needed (K.Sign found ∷ us) (if x then Some us else None) >>= next i) e)

  pub behind_the_sign : (wanted : Sign) {next : I → List Tok → Answer Y} → IsReader n fuel form (λ us x rest. R (K.Sign wanted ∷ us) x rest) next →
      IsReader n fuel form R (λ i us. sign wanted us >>= next i)
  behind_the_sign wanted {next} h = by_token (begins_token (K.Sign wanted) h.some) (λ i. refl) branch
    where
      branch : (t : Tok) → Branch n fuel form R (λ i us. sign wanted us >>= next i) t
      branch (K.Sign found) = at_sign wanted found next (same_sign found wanted) refl h
      branch _ = Branch.GivesUp (λ i us. refl)

  at_word : (wanted found : Word) (next : I → List Tok → Answer Y) (b : Bool) → same_word found wanted ≡ b → IsReader n fuel form (λ us x rest. R (K.Word wanted ∷ us) x rest) next →
      Branch n fuel form R (λ i us. word wanted us >>= next i) (K.Word found)
  at_word wanted found next true e h =
      Branch.Takes next (λ i us. ap (λ (x : Bool). needed (K.Word found ∷ us) (if x then Some us else None) >>= next i) e)
      (subst (λ (w : Word). IsReader n fuel form (λ us x rest. R (K.Word w ∷ us) x rest) next) (sym (same_word_is found wanted e)) h)
  at_word wanted found next false e h =
      Branch.GivesUp (λ i us. ap (λ (x : Bool). needed (K.Word found ∷ us) (if x then Some us else None) >>= next i) e)

  pub behind_the_word : (wanted : Word) {next : I → List Tok → Answer Y} → IsReader n fuel form (λ us x rest. R (K.Word wanted ∷ us) x rest) next →
      IsReader n fuel form R (λ i us. word wanted us >>= next i)
  behind_the_word wanted {next} h = by_token (begins_token (K.Word wanted) h.some) (λ i. refl) branch
    where
      branch : (t : Tok) → Branch n fuel form R (λ i us. word wanted us >>= next i) t
      branch (K.Word found) = at_word wanted found next (same_word found wanted) refl h
      branch _ = Branch.GivesUp (λ i us. refl)

  -- ---- names, numbers and types

  pub behind_name : (next : I → Name × List Tok → Answer Y) → ((x : Name) → IsReader n fuel form (λ us y rest. R (K.Name x ∷ us) y rest) (λ i us. next i (x, us))) →
      IsReader n fuel form R (λ i us. name us >>= next i)
  behind_name next h = by_token (begins_token (K.Name (record { id = 0 })) (h (record { id = 0 })).some) (λ i. refl) branch
    where
      branch : (t : Tok) → Branch n fuel form R (λ i us. name us >>= next i) t
      branch (K.Name x) = Branch.Takes (λ i us. next i (x, us)) (λ i us. refl) (h x)
      branch _ = Branch.GivesUp (λ i us. refl)

  pub behind_number : (next : I → ℤ × List Tok → Answer Y) → ((k : ℕ) → IsReader n fuel form (λ us y rest. R (K.Number (pos k) ∷ us) y rest) (λ i us. next i (pos k, us))) →
      IsReader n fuel form R (λ i us. number us >>= next i)
  behind_number next h = by_token (begins_token (K.Number (pos 0)) (h 0).some) (λ i. refl) branch
    where
      branch : (t : Tok) → Branch n fuel form R (λ i us. number us >>= next i) t
      branch (K.Number (pos k)) = Branch.Takes (λ i us. next i (pos k, us)) (λ i us. refl) (h k)
      branch _ = Branch.GivesUp (λ i us. refl)

  pub behind_natural : (next : I → ℕ × List Tok → Answer Y) → ((k : ℕ) → IsReader n fuel form (λ us y rest. R (K.Number (pos k) ∷ us) y rest) (λ i us. next i (k, us))) →
      IsReader n fuel form R (λ i us. natural us >>= next i)
  behind_natural next h = by_token (begins_token (K.Number (pos 0)) (h 0).some) (λ i. refl) branch
    where
      branch : (t : Tok) → Branch n fuel form R (λ i us. natural us >>= next i) t
      branch (K.Number (pos k)) = Branch.Takes (λ i us. next i (k, us)) (λ i us. refl) (h k)
      branch _ = Branch.GivesUp (λ i us. refl)

  at_type : (next : I → Ty × List Tok → Answer Y) → ((w : Word) (t : Ty) → type_of w ≡ Some t → IsReader n fuel form (λ us y rest. R (K.Word w ∷ us) y rest) (λ i us. next i (t, us))) →
      (w : Word) (o : Option Ty) → type_of w ≡ o → Branch n fuel form R (λ i us. type_name us >>= next i) (K.Word w)
  at_type next h w (Some t) e = Branch.Takes (λ i us. next i (t, us)) (λ i us. ap (λ (o : Option Ty). with_type o us >>= next i) e) (h w t e)
  at_type next h w None e = Branch.GivesUp (λ i us. ap (λ (o : Option Ty). with_type o us >>= next i) e)

  pub behind_type : (next : I → Ty × List Tok → Answer Y) → ((w : Word) (t : Ty) → type_of w ≡ Some t → IsReader n fuel form (λ us y rest. R (K.Word w ∷ us) y rest) (λ i us. next i (t, us))) →
      IsReader n fuel form R (λ i us. type_name us >>= next i)
  behind_type next h = by_token (begins_token (K.Word W.IntType) (h W.IntType T.Int refl).some) (λ i. refl) branch
    where
      branch : (t : Tok) → Branch n fuel form R (λ i us. type_name us >>= next i) t
      branch (K.Word w) = at_type next h w (type_of w) refl
      branch _ = Branch.GivesUp (λ i us. refl)

pub name_reader : {I : Type 0} {fuel : Fuel I} {n : ℕ} → IsReader n fuel fronts ReadsName (λ i us. name us)
name_reader {I} {fuel} {n} = by_token (record { more = K.Name (record { id = 0 }) ∷ []; value = record { id = 0 }; is = λ rest stop. ReadsName.AName }) (λ i. refl) branch
  where
    branch : (t : Tok) → Branch n fuel fronts ReadsName (λ i us. name us) t
    branch (K.Name x) = Branch.Takes (λ i us. Ok (x, us)) (λ i us. refl) (done x (λ more. ReadsName.AName) (λ more. tt))
    branch _ = Branch.GivesUp (λ i us. refl)

-- ---- the end

-- nothing stands after the value
pub ended : {I A : Type 0} {fuel : Fuel I} {R : List Tok → A → List Tok → Type 0} {n : ℕ} (x : A) → R [] x [] → IsReader n fuel wholes R (λ i us. whole x us)
ended {I} {A} {fuel} {R} x is = record { reads = λ ts lt. outcome ts; some = nothing }
  where
    says : (more : List Tok) → more ≡ [] → R more x more
    says more e = rw e is

    nothing : Begins (λ rest. rest ≡ []) R []
    nothing = record { more = []; value = x; is = says }

    outcome : (ts : List Tok) → Outcome fuel wholes R (λ i us. whole x us) ts
    outcome [] = stays [] x says refl (λ i us s l. at_end (λ ws. whole x ws ≡ Ok x) refl s)
    outcome (t ∷ ts) = fails_token nothing (λ i us. refl)
