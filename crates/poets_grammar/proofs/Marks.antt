-- Where a statement ceases to begin a sentence.
use Rattle.std.proofs.Common.{◌≡◌, ℕ, suc, ◌+◌, ◌-◌, ◌<◌, ◌≤◌, List, [], ◌∷◌, ◌++◌, append_assoc, append-nil, length, length-append, take, take-add, take_at, drop_at, take_all, Option, Some, None, Ok, Err, refl, sym, ap, ap₂, subst, ◌∙◌, arith}
use Rattle.poets_command.specs.Said.{Statement}
use Rattle.poets_lex.specs.declared.token.Tok.{Tok}
use Rattle.poets_grammar.specs.Statements.{IsStatement}
use Rattle.poets_grammar.specs.Begins.{BeginsSentence, IsBegun}
use Rattle.poets_grammar.specs.StatementReading.{statement}
use Rattle.poets_grammar.proofs.Readers.{SameFirst, Says, wholes, answer, answers, no_fuel, IsReader}
use Rattle.poets_grammar.proofs.StatementReaders.{statement_reader}
use Rattle.poets_grammar.proofs.Statements.{statement_complete, statement_found}

-- some tokens, and one more with which no sentence begins
none_begins : (front us : List Tok) (t : Tok) → ((vs : List Tok) → SameFirst (t ∷ us) vs → statement (front ++ vs) ≡ Err (length vs)) → (k : ℕ) → BeginsSentence (front ++ (t ∷ take k us)) → ⊥
none_begins front us t refuses k b =
    let vs : List Tok = t ∷ (take k us ++ b.rest) in
    let is : IsStatement (front ++ vs) b.says = subst (λ ws. IsStatement ws b.says) (append_assoc front (t ∷ take k us) b.rest) b.is in
    let clash : Ok b.says ≡ Err (length vs) = sym (statement_complete is) ∙ refuses vs (SameFirst.Begun t us (take k us ++ b.rest)) in
    absurd cc

-- the first tokens, of which more than those in front are taken
taken : (front us : List Tok) (t : Tok) (k : ℕ) → take (length front + suc k) (front ++ (t ∷ us)) ≡ front ++ (t ∷ take k us)
taken front us t k =
    take-add (length front) (suc k) (front ++ (t ∷ us))
    ∙ ap₂ (λ xs ys. xs ++ take (suc k) ys) (take_at front (t ∷ us) (length front) refl) (drop_at front (t ∷ us) (length front) refl)

no_more : (front rest : List Tok) → ((vs : List Tok) → SameFirst rest vs → statement (front ++ vs) ≡ Err (length vs)) → (more : ℕ) → length front < more → more ≤ length front + length rest →
    BeginsSentence (take more (front ++ rest)) → ⊥
no_more front [] refuses more lt le b = omega arith
no_more front (t ∷ us) refuses more lt le b =
    let k : ℕ = more - suc (length front) in
    let is : more ≡ length front + suc k = omega arith in
    none_begins front us t refuses k (subst BeginsSentence (ap (λ n. take n (front ++ (t ∷ us))) is ∙ taken front us t k) b)

-- the tokens in front begin a sentence, and no more do
stopped : (front rest more : List Tok) (s : Statement) → IsStatement (front ++ (more ++ [])) s → ((vs : List Tok) → SameFirst rest vs → statement (front ++ vs) ≡ Err (length vs)) →
    IsBegun (front ++ rest) (length front)
stopped front rest more s is refuses =
    let n : length (front ++ rest) ≡ length front + length rest = length-append front rest in
    record {
      within = omega arith;
      begins = subst BeginsSentence (sym (take_at front rest (length front) refl)) (record { rest = more ++ []; says = s; is = is });
      most = λ count lt le. no_more front rest refuses count lt (omega arith);
    }

at_stop : (ts front rest : List Tok) (found : Option Statement) (left : ℕ) → ts ≡ front ++ rest → Says (λ rest. rest ≡ []) (λ us s rest. IsStatement us s) front rest found →
    ((vs : List Tok) → SameFirst rest vs → statement (front ++ vs) ≡ answer wholes found vs) → answer wholes found rest ≡ Err left → IsBegun ts (length ts - left)
at_stop ts front rest (Some s) left starts says steady e = absurd cc
at_stop ts front rest None left starts b steady e =
    let n : length ts ≡ length front + length rest = ap length starts ∙ length-append front rest in
    let l : length rest ≡ left = cc in
    let count : length front ≡ length ts - left = omega arith in
    subst (λ (k : ℕ). IsBegun ts k) count (subst (λ us. IsBegun us (length front)) (sym starts) (stopped front rest b.more b.value (b.is [] refl) steady))

left_at : (ts front rest : List Tok) (found : Option Statement) (left : ℕ) → ts ≡ front ++ rest → answer wholes found rest ≡ Err left → left ≤ length ts
left_at ts front rest (Some s) left starts e = absurd cc
left_at ts front rest None left starts e =
    let n : length ts ≡ length front + length rest = ap length starts ∙ length-append front rest in
    let l : length rest ≡ left = cc in
    omega arith

-- no more tokens are left than there are
pub left_of : (ts : List Tok) (left : ℕ) → statement ts ≡ Err left → left ≤ length ts
left_of ts left e =
    let reader : IsReader (suc (length ts)) no_fuel wholes (λ us s rest. IsStatement us s) (λ i us. statement us) = statement_reader in
    let o = reader.reads ts (omega arith) in
    left_at ts o.front o.rest o.found left o.starts (sym (answers o tt tt) ∙ e)

pub begun : (ts : List Tok) (left : ℕ) → statement ts ≡ Err left → IsBegun ts (length ts - left)
begun ts left e =
    let reader : IsReader (suc (length ts)) no_fuel wholes (λ us s rest. IsStatement us s) (λ i us. statement us) = statement_reader in
    let o = reader.reads ts (omega arith) in
    at_stop ts o.front o.rest o.found left o.starts o.says (λ vs s. o.steady tt vs s tt) (sym (answers o tt tt) ∙ e)

-- a whole statement begins one
pub all_begun : (ts : List Tok) (s : Statement) → statement ts ≡ Ok s → IsBegun ts (length ts)
all_begun ts s e =
    record {
      within = omega arith;
      begins = subst BeginsSentence (sym (take_all (length ts) ts (omega arith))) (record { rest = []; says = s; is = subst (λ us. IsStatement us s) (sym (append-nil ts)) (statement_found ts s e) });
      most = λ more lt le b. omega arith;
    }
