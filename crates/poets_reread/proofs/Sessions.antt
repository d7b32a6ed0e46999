-- The calls of a session of clerks are read again under the table of its book.
use Rattle.std.proofs.Common.{◌≡◌, ℕ, zero, suc, ◌<◌, ◌≤◌, Bool, true, false, List, [], ◌∷◌, length, All, Some, get_or, slice_get, map, take, refl, sym, ap, subst, ◌∙◌, nat_eq, arith}
use Rattle.std.specs.Prelude.{if◌then◌else◌, filter}
use Rattle.std.specs.List.{Contains}
use Rattle.std.proofs.lemmas.Bool.{eq-eqb}
use Rattle.std.proofs.lemmas.List.{take-map}
use Rattle.std.proofs.lemmas.List.Elements.{All-take, Contains-append_left}
use Rattle.std.proofs.lemmas.Option.{get_or_from_slice_get, slice_get-get_or, slice_get_within}
use Rattle.poets_lex.specs.Table.{Table}
use Rattle.poets_syntax.specs.Plain.{Book}
use Rattle.poets_report.specs.Plain.{Report}
use Rattle.poets_command.specs.Calls.{Call, calls_of, own_calls, own}
use Rattle.poets_command.specs.Declarations.{book_from, reports_of}
use Rattle.poets_command.specs.Plain.{Command, Entry}
use Rattle.poets_command.specs.Said.{Statement}
use Rattle.poets_command.specs.Taken.{IsTaken}
use Rattle.poets_session.specs.declared.form.Form.TheVariants as F
use Rattle.poets_session.specs.Sessions.{Text, IsSession, scripts_of}
use Rattle.poets_session.specs.Written.{IsWrittenCommand}
use Rattle.poets_session.proofs.LawsFitting.{read_table, read_written, scripts_written}
use Rattle.poets_making.proofs.Taking.{scripts_taken}
use Rattle.poets_stored.proofs.Sources.{IsRead, session_source}
use Rattle.poets_session.proofs.Scripting.{scripts_few}
use Rattle.poets_printed.specs.Numbered.{numbered_text}
use Rattle.poets_reread.specs.Reread.{texts_of_calls, IsReadCall, AreReread, IsCallOf, BeginScripts}
use Rattle.poets_reread.specs.Laws.{CallsOfSessionsAreReread, FirstCallsAreReread}
use Rattle.poets_reread.proofs.BookNames.{book_listed}
use Rattle.poets_reread.proofs.Moved.{extends_same}
use Rattle.poets_reread.proofs.RenamedTexts.{all_renamed}
use Rattle.poets_reread.proofs.Rereading.{texts_are_reread}

-- ---- the calls of a session

all_has : {A : Type 0} (P : A → Type 0) (xs : List A) (x : A) → All P xs → Contains xs x → P x
all_has P xs x h has = subst P has.2 (h has.0 x has.1)

all_at : {A : Type 0} (P : A → Type 0) (xss : List (List A)) (i : ℕ) (xs : List A) → All (All P) xss → slice_get xss i ≡ Some xs → All P xs
all_at P xss i xs h at =
    subst (All P) (get_or_from_slice_get xss i xs xs at) (h i xs (slice_get_within xss i xs at))

-- what each command of the scripts is, that of a call of a clerk is
of_call : (P : Command → Type 0) (statements : List Statement) (call : Call) → All (All P) (scripts_of statements) →
    IsCallOf statements call → P call.1
of_call P statements call h is = all_has P is.script call.1 (all_at P (scripts_of statements) is.place is.script h is.his) is.has

read_call :
    (text : Text) (names : Table) (statements : List Statement) → IsSession text F.Clerks names statements → (call : Call) →
    IsCallOf statements call → IsReadCall (book_from statements) (reports_of statements) names call
read_call text names statements session call is =
    let written = scripts_written names statements (read_written text names statements session.read) in
    let taken = scripts_taken names statements session.valid.typed written in
    let source = session_source text names statements session.read in
    let read = of_call IsRead statements call source is in
    let within = slice_get_within (scripts_of statements) is.place is.script is.his in
    let few = scripts_few F.Clerks statements session.valid.placed in
    record {
      from = omega (arith, is.clerk);
      to = omega (arith, is.clerk, within, few);
      taken = of_call (IsTaken (book_from statements) (reports_of statements)) statements call taken is;
      written = (of_call (IsWrittenCommand names) statements call written is).0;
      tokens = read.tokens;
      read = read.read;
      shallow = read.shallow;
    }

pub calls_reread : CallsOfSessionsAreReread
calls_reread text book names own statements declared calls session read front same_book same_reports is =
    let each : All (IsReadCall (book_from declared) (reports_of declared) names) calls = λ k d inside.
    let call : Call = get_or calls k d in
    let there = read_call text names statements session call (is k d inside) in
    let in_book = subst (λ (b : Book). IsReadCall b (reports_of statements) names call) (sym same_book) there in
    subst (λ (qs : List Report). IsReadCall (book_from declared) qs names call) (sym same_reports) in_book in
    let good = read_table book own declared read in
    texts_are_reread (book_from declared) (reports_of declared) own names own calls
    (read_table text names statements session.read) good front (extends_same own)
    (book_listed own declared (read_written book own declared read)) each

-- ---- the calls of a history

has_more : {A : Type 0} (x y : A) (xs : List A) → Contains xs y → Contains (x ∷ xs) y
has_more x y xs h = (suc h.0, omega (arith, h.1), h.2)

-- a clerk's calls have each of them
own_has : (calls : List Call) (c : Call) (k : ℕ) → k < length calls → get_or calls k c ≡ c → Contains (own_calls c.0 calls) c.1
own_has [] c k inside at = absurd (omega arith)
own_has (d ∷ calls) c zero inside at = by_test (nat_eq d.0 c.0) refl
  where
    by_test : (b : Bool) → nat_eq d.0 c.0 ≡ b →
        Contains (map (λ (e : Call). e.1) (if b then d ∷ filter (λ (e : Call). nat_eq e.0 c.0) calls else filter (λ (e : Call). nat_eq e.0 c.0) calls)) c.1
    by_test true e = (0, omega arith, ap (λ (e : Call). e.1) at)
    by_test false e = absurd (let no : true ≡ false = sym (eq-eqb d.0 c.0 (ap (λ (e : Call). e.0) at)) ∙ e in cc)
own_has (d ∷ calls) c (suc k) inside at = by_test (nat_eq d.0 c.0) (own_has calls c k (omega (arith, inside)) at)
  where
    by_test : (b : Bool) → Contains (own_calls c.0 calls) c.1 →
        Contains (map (λ (e : Call). e.1) (if b then d ∷ filter (λ (e : Call). nat_eq e.0 c.0) calls else filter (λ (e : Call). nat_eq e.0 c.0) calls)) c.1
    by_test true rest = has_more d.1 c.1 (own_calls c.0 calls) rest
    by_test false rest = rest

one_less : (n : ℕ) → 1 ≤ n → (m : ℕ) × (n ≡ suc m)
one_less zero low = absurd (omega arith)
one_less (suc m) low = (m, refl)

get_again : {A : Type 0} (xs : List A) (k : ℕ) (d e : A) → k < length xs → get_or xs k d ≡ get_or xs k e
get_again [] k d e inside = absurd (omega arith)
get_again (x ∷ xs) zero d e inside = refl
get_again (x ∷ xs) (suc k) d e inside = get_again xs k d e (omega (arith, inside))

calls_are_their_clerks :
    (statements : List Statement) (h : List Entry) → BeginScripts statements h → All (IsCallOf statements) (calls_of h)
calls_are_their_clerks statements h part = λ k d inside.
    let call : Call = get_or (calls_of h) k d in
    let In : Entry → Type 0 = λ e. (1 ≤ e.clerk) × (e.clerk ≤ length (scripts_of statements)) in
    let Within : Call → Type 0 = λ c. (1 ≤ c.0) × (c.0 ≤ length (scripts_of statements)) in
    let each = all_renamed In Within (λ (e : Entry). (e.clerk, e.command)) (λ e low. low) h part.clerks in
    let low : Within call = each k d inside in
    let place = one_less call.0 low.0 in
    let under : place.0 < length (scripts_of statements) = omega (arith, low.1, place.1) in
    let script : List Command = get_or (scripts_of statements) place.0 [] in
    let his = slice_get-get_or (scripts_of statements) place.0 [] under in
    let front = part.own place.0 script his in
    let has = own_has (calls_of h) call k inside (get_again (calls_of h) k call d inside) in
    let mine : Contains (own (suc place.0) h) call.1 = subst (λ (n : ℕ). Contains (own n h) call.1) place.1 has in
    record {
      place = place.0;
      clerk = place.1;
      script = script;
      his = his;
      has = subst (λ (cs : List Command). Contains cs call.1) front.1 (Contains-append_left (own (suc place.0) h) front.0 call.1 mine);
    }

pub first_calls_reread : FirstCallsAreReread
first_calls_reread text book names own statements declared h count session read front same_book same_reports part =
    let calls : List Call = take count (calls_of h) in
    let theirs = All-take (IsCallOf statements) count (calls_of h) (calls_are_their_clerks statements h part) in
    let reread = calls_reread text book names own statements declared calls session read front same_book same_reports theirs in
    let same : take count (texts_of_calls names (calls_of h)) ≡ texts_of_calls names calls =
    take-map (λ (call : Call). numbered_text names call.0 call.1) count (calls_of h) in
    subst (AreReread (book_from declared) (reports_of declared) own) (sym same) reread
