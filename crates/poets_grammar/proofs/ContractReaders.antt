-- The readers of contracts: what they read is a contract, and where they stop nothing else can stand.
use Rattle.std.proofs.Common.{◌≡◌, ◌⊎◌, inl, inr, ℕ, zero, suc, List, [], ◌∷◌, length, Option, Some, None, Ok, refl, ap, subst, arith}
use Rattle.std.specs.Prelude.{IfSome}
use Rattle.poets_value.specs.declared.value.Name.{Name}
use Rattle.poets_syntax.specs.Contract as C
use Rattle.poets_syntax.specs.Contract.{Contract}
use Rattle.poets_lex.specs.declared.token.Word.TheVariants as W
use Rattle.poets_lex.specs.declared.token.Sign.{Sign}
use Rattle.poets_lex.specs.declared.token.Sign.TheVariants as S
use Rattle.poets_lex.specs.declared.token.Tok.{Tok}
use Rattle.poets_lex.specs.declared.token.Tok.TheVariants as K
use Rattle.poets_grammar.specs.Expressions.{ReadsArguments}
use Rattle.poets_grammar.specs.ContractGrammar.{ReadsBinders, ContractRule, Choice, Parallel, Sequence, Simple, ReadsContract}
use Rattle.poets_grammar.specs.Reading.{behind_sign, arguments}
use Rattle.poets_grammar.specs.ContractReading.{ContractReader, as_link, sign_link, either, beside, followed, binders, transmit, application, sequence, parallel, choice, closed_contract, simple_step, simple_at, simple, contract}
use Rattle.poets_grammar.proofs.Steps.{at_some, sign_is}
use Rattle.poets_grammar.proofs.Readers as readers
use Rattle.poets_grammar.proofs.Readers.{fronts, Begins, Fuel, behind_one, IsReader, Branch, done, begins_token, by_first, weaker_reader, remade, counted, perhaps, with_enough, with_enough_reader, one_deeper, refuelled, alike}
use Rattle.poets_grammar.proofs.TokenReaders.{behind_the_sign, behind_name}
use Rattle.poets_grammar.proofs.Joined.{IsLink, IsLevel, joined_reader}
use Rattle.poets_grammar.proofs.Listed.{IsSign, is_sign, bracketed_reader}
use Rattle.poets_grammar.proofs.ExpressionReaders.{expression_reader}
use Rattle.poets_grammar.proofs.Items.{expressions}

-- ---- marks between contracts

only_mark_is : (ts : List Tok) (wanted : Sign) (r : Option (List Tok)) → IfSome r (λ rest. ts ≡ K.Sign wanted ∷ rest) → IfSome (as_link r) (λ p. ts ≡ K.Sign wanted ∷ p.1)
only_mark_is ts wanted None is = tt
only_mark_is ts wanted (Some rest) is = is

pub mark_is : (wanted : Sign) (ts : List Tok) → IfSome (sign_link wanted ts) (λ p. ts ≡ K.Sign wanted ∷ p.1)
mark_is wanted ts = only_mark_is ts wanted (behind_sign wanted ts) (sign_is wanted ts)

of_token : (wanted : Sign) (t : Tok) → IsSign wanted t → ((us : List Tok) → sign_link wanted (t ∷ us) ≡ None) ⊎ ((j : Unit {0}) × ((us : List Tok) → sign_link wanted (t ∷ us) ≡ Some (j, us)))
of_token wanted t (IsSign.Other none) = inl (λ us. ap as_link (none us))
of_token wanted t (IsSign.Same some e) = inr (tt, λ us. ap as_link (some us))

mark_link : (wanted : Sign) → IsLink (sign_link wanted)
mark_link wanted = record { never_at_end = refl; by_token = λ t. of_token wanted t (is_sign wanted t) }

-- ---- contracts of one level

-- the sign stands after the contracts
joining : (wanted : Sign) {F : ContractRule} {ts mid behind : List Tok} {a : Contract} {j : Unit {0}} → ReadsContract F ts a mid → sign_link wanted mid ≡ Some (j, behind) → ReadsContract F ts a (K.Sign wanted ∷ behind)
joining wanted {F} {ts} {mid} {behind} {a} {j} r e =
    let is : mid ≡ K.Sign wanted ∷ behind = at_some (λ p. mid ≡ K.Sign wanted ∷ p.1) (sign_link wanted mid) (j, behind) (mark_is wanted mid) e in
    subst (λ x. ReadsContract F ts a x) is r

abbrev Level : Sign → (Unit {0} → Contract → Contract → Contract) → ContractRule → ContractRule → Type 0
Level wanted join F G = IsLevel (sign_link wanted) join (ReadsContract F) (ReadsContract G)

sequences : Level S.Semicolon followed Sequence Simple
sequences = record { one = λ ts rest c r. ReadsContract.OneSimple r; more = λ r e q. ReadsContract.MoreSimples (joining S.Semicolon r e) q }

parallels : Level S.DoubleBar beside Parallel Sequence
parallels = record { one = λ ts rest c r. ReadsContract.OneSequence r; more = λ r e q. ReadsContract.MoreSequences (joining S.DoubleBar r e) q }

choices : Level S.Plus either Choice Parallel
choices = record { one = λ ts rest c r. ReadsContract.OneParallel r; more = λ r e q. ReadsContract.MoreParallels (joining S.Plus r e) q }

module _ {I : Type 0} {fuel : Fuel I} {f : I → ContractReader} {n : ℕ} (h : IsReader n fuel fronts (ReadsContract Simple) f) where
  sequence_reader : IsReader n fuel fronts (ReadsContract Sequence) (λ i us. sequence (f i) us)
  unfolding sequence
  sequence_reader = joined_reader h (mark_link S.Semicolon) sequences

  parallel_reader : IsReader n fuel fronts (ReadsContract Parallel) (λ i us. parallel (f i) us)
  unfolding parallel
  parallel_reader = joined_reader sequence_reader (mark_link S.DoubleBar) parallels

  choice_reader : IsReader n fuel fronts (ReadsContract Choice) (λ i us. choice (f i) us)
  unfolding choice
  choice_reader = joined_reader parallel_reader (mark_link S.Plus) choices

-- ---- simple contracts

module _ {I : Type 0} {fuel : Fuel I} {n : ℕ} where
  pub binders_reader : IsReader n fuel fronts ReadsBinders (λ i us. binders us)
  unfolding binders
  binders_reader =
      behind_name _ (λ sender. behind_the_sign S.Comma (behind_name _ (λ receiver. behind_the_sign S.Comma (behind_name _ (λ what. behind_the_sign S.Comma (behind_name _ (λ day.
      done (record { sender = sender; receiver = receiver; what = what; day = day }) (λ more. ReadsBinders.Four) (λ more. tt))))))))

  pub arguments_reader : IsReader n fuel fronts ReadsArguments (λ i us. arguments us)
  unfolding arguments
  arguments_reader = bracketed_reader expressions n

  application_reader : (x : Name) → IsReader n fuel fronts (λ us c rest. ReadsContract Simple (K.Name x ∷ us) c rest) (λ i us. application x us)
  unfolding application
  application_reader x = remade (C.App x) (λ us rest args a. ReadsContract.Application a) arguments_reader

module _ {I : Type 0} {fuel : Fuel I} {f : I → ContractReader} {n : ℕ} (h : IsReader n fuel fronts (ReadsContract Simple) f) where
  transmit_reader : IsReader n fuel fronts (λ us c rest. ReadsContract Simple (K.Word W.Transmit ∷ us) c rest) (λ i us. transmit (f i) us)
  unfolding transmit
  transmit_reader =
      behind_the_sign S.LeftParen (readers.followed _ binders_reader (λ bound. behind_the_sign S.Bar (readers.followed _ (expression_reader n) (λ when. behind_the_sign S.RightParen (behind_the_sign S.Dot
      (remade (C.Transmit bound when) (λ us rest after third vs second ws first. ReadsContract.Transmit first second third) h))))))

  closed_contract_reader : IsReader n fuel fronts (λ us c rest. ReadsContract Simple (K.Sign S.LeftParen ∷ us) c rest) (λ i us. closed_contract (f i) us)
  unfolding closed_contract
  closed_contract_reader = readers.followed _ (choice_reader h) (λ c. behind_the_sign S.RightParen (done c (λ more us r. ReadsContract.Brackets r) (λ more. tt)))

  at_first_token : (t : Tok) → Branch n fuel fronts (ReadsContract Simple) (λ i us. simple_step (f i) us) t
  unfolding simple_step
  at_first_token (K.Word W.Transmit) = Branch.Takes (λ i us. transmit (f i) us) (λ i us. refl) transmit_reader
  at_first_token (K.Word W.Success) = Branch.Takes (λ i us. Ok (C.Success, us)) (λ i us. refl) (done C.Success (λ more. ReadsContract.Success) (λ more. tt))
  at_first_token (K.Word W.Failure) = Branch.Takes (λ i us. Ok (C.Failure, us)) (λ i us. refl) (done C.Failure (λ more. ReadsContract.Failure) (λ more. tt))
  at_first_token (K.Name x) = Branch.Takes (λ i us. application x us) (λ i us. refl) (application_reader x)
  at_first_token (K.Sign S.LeftParen) = Branch.Takes (λ i us. closed_contract (f i) us) (λ i us. refl) closed_contract_reader
  at_first_token _ = Branch.GivesUp (λ i us. refl)

  simple_step_reader : IsReader (suc n) (behind_one fuel) fronts (ReadsContract Simple) (λ i us. simple_step (f i) us)
  unfolding simple_step
  simple_step_reader = by_first (λ i a l. l a (omega arith)) (record { more = K.Word W.Success ∷ []; value = C.Success; is = λ rest stop. ReadsContract.Success }) (omega arith) (λ i. refl) at_first_token

-- ---- whole contracts

simple_at_reader : (n : ℕ) → IsReader n counted fronts (ReadsContract Simple) simple_at
unfolding simple_at
simple_at_reader zero = record { reads = λ ts lt. absurd (omega arith); some = record { more = K.Word W.Success ∷ []; value = C.Success; is = λ rest stop. ReadsContract.Success } }
simple_at_reader (suc n) = one_deeper (λ k us. refl) (simple_step_reader (simple_at_reader n))

simple_reader : {I : Type 0} {fuel : Fuel I} (n : ℕ) → IsReader n fuel fronts (ReadsContract Simple) (λ i us. simple us)
unfolding simple
simple_reader n = refuelled (λ i us. suc (length us)) (λ i us l. omega arith) (λ i us l. refl) (simple_at_reader n)

pub contract_reader : {I : Type 0} {fuel : Fuel I} (n : ℕ) → IsReader n fuel fronts (ReadsContract Choice) (λ i us. contract us)
unfolding contract
contract_reader n = choice_reader (simple_reader n)

-- reading is by the rules, with itself for the parts
pub simple_again : (ts : List Tok) → simple ts ≡ simple_step simple ts
unfolding simple simple_at
simple_again ts =
    let reader = simple_step_reader (with_enough_reader (simple_at_reader (length ts))) in
    alike (reader.reads ts (omega arith)) (Some (length ts)) None (λ a l. l) (λ a l. tt)
