-- Histories with one more entry, and that there is one legal history of the same calls.
use Rattle.std.proofs.Common.{◌≡◌, ℕ, false, nat_eq, List, [], ◌∷◌, ◌++◌, map, filter, refl, sym, ◌∙◌, ap, ap₂, subst, ◌⊎◌, inl, inr, append_assoc}
use Rattle.std.proofs.lemmas.Bool.{eq-eqb}
use Rattle.std.proofs.lemmas.List.{map-append, append-nil}
use Rattle.std.proofs.lemmas.List.Elements.{filter-append}
use Rattle.std.proofs.lemmas.List.Sums.{fold_push}
use Rattle.poets_command.specs.Plain.{Entry}
use Rattle.poets_command.specs.Calls.{Call, calls_of, own_calls, own}
use Rattle.poets_history.specs.Ledger.{ledger_of, with_entry, empty_ledger}
use Rattle.poets_history.specs.Frame.{Frame}
use Rattle.poets_history.specs.Replies.{Replies, Legal, Answers}
use Rattle.poets_history.specs.Laws.{OneHistory, OneAnswer}
use Rattle.poets_history.proofs.OneReplies.{one_reply}

pub ledger_last : (h : List Entry) (e : Entry) → ledger_of (h ++ e ∷ []) ≡ with_entry (ledger_of h) e.command e.reply
ledger_last h e = fold_push (λ ledger entry. with_entry ledger entry.command entry.reply) empty_ledger h e

pub calls_append : (h h' : List Entry) → calls_of (h ++ h') ≡ calls_of h ++ calls_of h'
calls_append h h' = map-append (λ entry. (entry.clerk, entry.command)) h h'

pub calls_last : (h : List Entry) (e : Entry) → calls_of (h ++ e ∷ []) ≡ calls_of h ++ (e.clerk, e.command) ∷ []
calls_last h e = calls_append h (e ∷ [])

pub own_calls_append : (clerk : ℕ) (calls calls' : List Call) → own_calls clerk (calls ++ calls') ≡ own_calls clerk calls ++ own_calls clerk calls'
own_calls_append clerk calls calls' =
    let mine = λ (c : Call). nat_eq c.0 clerk in
    ap (map (λ c. c.1)) (filter-append mine calls calls') ∙ map-append (λ c. c.1) (filter mine calls) (filter mine calls')

-- one more call of the clerk
pub own_calls_own : (calls : List Call) (c : Call) → own_calls c.0 (calls ++ c ∷ []) ≡ own_calls c.0 calls ++ c.1 ∷ []
own_calls_own calls c =
    let one : own_calls c.0 (c ∷ []) ≡ c.1 ∷ [] = rw (eq-eqb c.0 c.0 refl) refl in
    own_calls_append c.0 calls (c ∷ []) ∙ ap (λ cs. own_calls c.0 calls ++ cs) one

-- one more call of another clerk
pub own_calls_other : (clerk : ℕ) (calls : List Call) (c : Call) → nat_eq c.0 clerk ≡ false → own_calls clerk (calls ++ c ∷ []) ≡ own_calls clerk calls
own_calls_other clerk calls c n =
    let none : own_calls clerk (c ∷ []) ≡ [] = rw n refl in
    own_calls_append clerk calls (c ∷ []) ∙ ap (λ cs. own_calls clerk calls ++ cs) none ∙ append-nil (own_calls clerk calls)

pub own_append : (clerk : ℕ) (h h' : List Entry) → own clerk (h ++ h') ≡ own clerk h ++ own clerk h'
own_append clerk h h' = ap (own_calls clerk) (calls_append h h') ∙ own_calls_append clerk (calls_of h) (calls_of h')

pub own_own : (h : List Entry) (e : Entry) → own e.clerk (h ++ e ∷ []) ≡ own e.clerk h ++ e.command ∷ []
own_own h e = ap (own_calls e.clerk) (calls_last h e) ∙ own_calls_own (calls_of h) (e.clerk, e.command)

pub own_other : (clerk : ℕ) (h : List Entry) (e : Entry) → nat_eq e.clerk clerk ≡ false → own clerk (h ++ e ∷ []) ≡ own clerk h
own_other clerk h e n = ap (own_calls clerk) (calls_last h e) ∙ own_calls_other clerk (calls_of h) (e.clerk, e.command) n

snoc_one : {A : Type 0} (xs ys : List A) (x y : A) → xs ++ x ∷ [] ≡ ys ++ y ∷ [] → (xs ≡ ys) × (x ≡ y)
snoc_one [] [] x y e = (refl, cc)
snoc_one [] (y' ∷ []) x y e = absurd cc
snoc_one [] (y' ∷ y'' ∷ ys) x y e = absurd cc
snoc_one (x' ∷ []) [] x y e = absurd cc
snoc_one (x' ∷ x'' ∷ xs) [] x y e = absurd cc
snoc_one (x' ∷ xs) (y' ∷ ys) x y e =
    let t : xs ++ x ∷ [] ≡ ys ++ y ∷ [] = cc in
    let h : x' ≡ y' = cc in
    let k = snoc_one xs ys x y t in
    (ap₂ (λ a b. a ∷ b) h k.0, k.1)

nothing_last : {A : Type 0} (xs : List A) (x : A) → [] ≡ xs ++ x ∷ [] → ⊥
nothing_last [] x e = absurd cc
nothing_last (y ∷ xs) x e = absurd cc

entry_one : (e e' : Entry) → e.clerk ≡ e'.clerk → e.command ≡ e'.command → e.reply ≡ e'.reply → e ≡ e'
entry_one e e' a b c = λ i. record { clerk = a i; command = b i; reply = c i }

history_one : (f : Frame) {h h' : List Entry} → Legal f h → Legal f h' → calls_of h ≡ calls_of h' → h ≡ h'
history_one f Legal.Empty Legal.Empty k = refl
history_one f Legal.Empty (Legal.More {h = h'} e' g' r') k = absurd (nothing_last (calls_of h') (e'.clerk, e'.command) (k ∙ calls_last h' e'))
history_one f (Legal.More {h = h} e g r) Legal.Empty k = absurd (nothing_last (calls_of h) (e.clerk, e.command) (sym k ∙ calls_last h e))
history_one f (Legal.More {h = h} e g r) (Legal.More {h = h'} e' g' r') k =
    let cut = snoc_one (calls_of h) (calls_of h') (e.clerk, e.command) (e'.clerk, e'.command) (sym (calls_last h e) ∙ k ∙ calls_last h' e') in
    let before : h ≡ h' = history_one f g g' cut.0 in
    let command : e.command ≡ e'.command = ap (λ p. p.1) cut.1 in
    let reply : e.reply ≡ e'.reply = one_reply f (ledger_of h) e.command e.reply e'.reply r
    (subst (λ o. Replies f (ledger_of h) o e'.reply) (sym command) (subst (λ x. Replies f (ledger_of x) e'.command e'.reply) (sym before) r')) in
    ap₂ (λ x y. x ++ y ∷ []) before (entry_one e e' (ap (λ p. p.0) cut.1) command reply)

pub one_history : OneHistory
one_history f h h' g g' e = history_one f g g' e

pub one_answer : OneAnswer
one_answer f calls command r r' a a' =
    let before : a.history ≡ a'.history = history_one f a.legal a'.legal (a.same ∙ sym a'.same) in
    one_reply f (ledger_of a'.history) command r r' (subst (λ h. Replies f (ledger_of h) command r) before a.reply) a'.reply

-- a list has a last item, or is empty
abbrev HasLast : {A : Type 0} → List A → Type 0
HasLast {A} xs = (ys : List A) × (y : A) × (xs ≡ ys ++ y ∷ [])

last_of : {A : Type 0} (xs : List A) → (xs ≡ []) ⊎ HasLast xs
last_of [] = inl refl
last_of (x ∷ xs) = inr (with_first x xs (last_of xs))
  where
    with_first : {A : Type 0} (x : A) (xs : List A) → (xs ≡ []) ⊎ HasLast xs → HasLast (x ∷ xs)
    with_first x xs (inl e) = ([], x, ap (λ zs. x ∷ zs) e)
    with_first x xs (inr l) = (x ∷ l.0, l.1, ap (λ zs. x ∷ zs) l.2)

legal_before : (f : Frame) {g : List Entry} → Legal f g → (h h' : List Entry) → g ≡ h ++ h' → Legal f h
legal_before f Legal.Empty [] h' k = Legal.Empty
legal_before f Legal.Empty (e ∷ h) h' k = absurd cc
legal_before f (Legal.More {h = before} e legal r) h h' k =
    by f before e h h' (Legal.More e legal r) k (λ ys p. legal_before f legal h ys p) (last_of h')
  where
    by : (f : Frame) (before : List Entry) (e : Entry) (h h' : List Entry) → Legal f (before ++ e ∷ []) → before ++ e ∷ [] ≡ h ++ h' →
        ((ys : List Entry) → before ≡ h ++ ys → Legal f h) → (h' ≡ []) ⊎ HasLast h' → Legal f h
    by f before e h h' legal k earlier (inl n) = subst (Legal f) (k ∙ ap (λ ys. h ++ ys) n ∙ append-nil h) legal
    by f before e h h' legal k earlier (inr l) =
        let cut : before ++ e ∷ [] ≡ (h ++ l.0) ++ l.1 ∷ [] = k ∙ ap (λ ys. h ++ ys) l.2 ∙ sym (append_assoc h l.0 (l.1 ∷ [])) in
        earlier l.0 (snoc_one before (h ++ l.0) e l.1 cut).0

-- what a legal history begins with is legal
pub legal_prefix : (f : Frame) (h h' : List Entry) → Legal f (h ++ h') → Legal f h
legal_prefix f h h' g = legal_before f g h h' refl

last_reply : (f : Frame) {g : List Entry} → Legal f g → (h : List Entry) (e : Entry) → g ≡ h ++ e ∷ [] → Replies f (ledger_of h) e.command e.reply
last_reply f Legal.Empty h e k = absurd (nothing_last h e k)
last_reply f (Legal.More {h = before} e' legal r) h e k =
    let cut = snoc_one before h e' e k in
    subst (λ x. Replies f (ledger_of h) x.command x.reply) cut.1 (subst (λ x. Replies f (ledger_of x) e'.command e'.reply) cut.0 r)

-- each entry of a legal history has the reply after the entries before it
pub legal_reply : (f : Frame) (h : List Entry) (e : Entry) (h' : List Entry) → Legal f (h ++ e ∷ h') → Replies f (ledger_of h) e.command e.reply
legal_reply f h e h' g =
    let parts : h ++ e ∷ h' ≡ (h ++ e ∷ []) ++ h' = sym (append_assoc h (e ∷ []) h') in
    last_reply f (legal_before f g (h ++ e ∷ []) h' parts) h e refl
