-- The commands of a session can be stored, and read back.
use Rattle.std.proofs.Common.{◌≡◌, ℕ, Some, refl, sym, slice_get, ◌+◌, ◌*◌, ◌^◌, ◌<◌, ◌≤◌, List, [], ◌∷◌, ◌++◌, All, length, get_or, map, subst, arith}
use Rattle.std.specs.Prelude.{codes, sum_by}
use Rattle.std.specs.Fmt.{decimal}
use Rattle.std.specs.List.{flat_map}
use Rattle.std.specs.Arc.{arc_value}
use Rattle.std.specs.declared.alloc.Global.{Global}
use Rattle.std.specs.declared.sync.Arc.{Arc}
use Rattle.std.proofs.lemmas.Fmt.{length-decimal-le}
use Rattle.std.proofs.lemmas.List.{get_or-map, length-map}
use Rattle.std.proofs.lemmas.List.Elements.{All-head, All-tail}
use Rattle.std.proofs.lemmas.List.Sorted.{sum_by-IsPermutation}
use Rattle.std.proofs.lemmas.List.Sums.{get_or-le-sum_by, sum_by-append, sum_by-cons}
use Rattle.std.proofs.lemmas.Option.{get_or_from_slice_get, slice_get_within}
use Rattle.poets_value.specs.Listed.{Listed}
use Rattle.poets_value.specs.Limits.{longest_text}
use Rattle.poets_lex.specs.Table.{Table, IsTable}
use Rattle.poets_command.specs.Calls.{Call, command_of}
use Rattle.poets_command.specs.Plain.{Command}
use Rattle.poets_command.specs.Said.{Statement}
use Rattle.poets_command.specs.declared.call.Command.{Command as CodeCommand}
use Rattle.poets_print.specs.Lines.{command_text}
use Rattle.poets_printed.specs.Numbered.{numbered_text}
use Rattle.poets_printed.proofs.Numbered.{numbered_reads_back}
use Rattle.poets_printed.proofs.ShortPieces.{length_three}
use Rattle.poets_session.specs.Sessions.{Text, IsReadAs, scripts_of}
use Rattle.poets_session.specs.Written.{IsWrittenCommand}
use Rattle.poets_session.proofs.LawsFitting.{read_table, read_written, scripts_written}
use Rattle.poets_stored.specs.Stored.{IsShortCommand, IsStorableCommand, ReadsBack}
use Rattle.poets_stored.specs.Laws.{CommandsOfSessionsAreShort, CommandsOfSessionsAreShortTogether, SessionsAreStorable, CommandsOfSessionsReadBack, CallsAreStorable, CallsOfSessionsAreStorable}
use Rattle.poets_stored.specs.Laws.{IsStorableCall, AreStorableScripts}
use Rattle.poets_stored.proofs.Sources.{IsRead, session_source, printed_length, session_printed}

-- ---- lengths

-- a clerk's number has at most ten digits, and `: ` follows
pub numbered_length : (names : Table) (clerk : ℕ) (command : Command) → clerk < 2 ^ 32 → length (numbered_text names clerk command) ≤ printed_length names command + 12
numbered_length names clerk command low =
    omega (
      arith,
      length-decimal-le 10 clerk (omega arith) (omega arith) (omega arith),
      length_three (decimal clerk) (codes ": ") (command_text names command),
    )

-- each is at most the sum of all
each_within : (weight : Command → ℕ) (most : ℕ) (scripts : List (List Command)) → sum_by (sum_by weight) scripts ≤ most → All (All (λ command. weight command ≤ most)) scripts
each_within weight most scripts h i script inside j command within =
    let outer = get_or-le-sum_by (sum_by weight) scripts i script inside in
    let inner = get_or-le-sum_by weight (get_or scripts i script) j command within in
    omega (arith, h, outer, inner)

-- ---- one command

-- the command is written with a table of names, was read from tokens, and prints as at most so many bytes
record IsSound (names : Table) (most : ℕ) (command : Command) : Type 0 where
  table : IsTable names
  written : IsWrittenCommand names command
  source : IsRead command
  short : printed_length names command ≤ most

sound : (text : Text) (names : Table) (statements : List Statement) → IsReadAs text names statements →
    All (All (IsSound names (80 * length text))) (scripts_of statements)
sound text names statements read i script inside j command within =
    let written = scripts_written names statements (read_written text names statements read) in
    let source = session_source text names statements read in
    let short = each_within (printed_length names) (80 * length text) (scripts_of statements) (session_printed text names statements read) in
    record {
      table = read_table text names statements read;
      written = written i script inside j command within;
      source = source i script inside j command within;
      short = short i script inside j command within;
    }

-- what sound commands are, the commands of a session are
of_sound : (names : Table) (most : ℕ) (P : Command → Type 0) (scripts : List (List Command)) →
    ((command : Command) → IsSound names most command → P command) → All (All (IsSound names most)) scripts → All (All P) scripts
of_sound names most P scripts f h i script inside j command within = f _ (h i script inside j command within)

sound_short : (names : Table) (most : ℕ) (command : Command) → IsSound names most command → IsShortCommand names (most + 12) command
sound_short names most command h clerk low = omega (arith, numbered_length names clerk command low, h.short)

sound_storable : (names : Table) (most : ℕ) (command : Command) → most ≤ 80 * longest_text → IsSound names most command → IsStorableCommand names command
sound_storable names most command small h = (
  h.written.0,
  λ clerk low. let bound = sound_short names most command h clerk low in omega (arith, bound, small),
)

sound_reads_back : (names : Table) (most : ℕ) (command : Command) → IsSound names most command → ReadsBack names command
sound_reads_back names most command h clerk low =
    numbered_reads_back names clerk command h.source.tokens h.table low h.written.1 h.written.0 h.source.read h.source.shallow

pub commands_short : CommandsOfSessionsAreShort
commands_short text names statements read =
    of_sound names (80 * length text) (IsShortCommand names (80 * length text + 12)) (scripts_of statements)
    (sound_short names (80 * length text)) (sound text names statements read)

pub commands_storable : SessionsAreStorable
commands_storable text names statements small read =
    of_sound names (80 * length text) (IsStorableCommand names) (scripts_of statements)
    (λ command h. sound_storable names (80 * length text) command (omega (arith, small)) h) (sound text names statements read)

pub commands_read_back : CommandsOfSessionsReadBack
commands_read_back text names statements read =
    of_sound names (80 * length text) (ReadsBack names) (scripts_of statements)
    (sound_reads_back names (80 * length text)) (sound text names statements read)

-- ---- all calls together

-- the texts of calls have at most 12 bytes more for each than their commands print as
pub calls_within :
    (names : Table) (calls : List Call) → All (λ (call : Call). call.0 < 2 ^ 32) calls →
    sum_by (λ (call : Call). length (numbered_text names call.0 call.1)) calls ≤ sum_by (printed_length names) (map (λ call. call.1) calls) + 12 * length calls
calls_within names [] low = omega arith
calls_within names (call ∷ calls) low =
    let first = numbered_length names call.0 call.1 (All-head (λ (call : Call). call.0 < 2 ^ 32) call calls low) in
    let rest = calls_within names calls (All-tail (λ (call : Call). call.0 < 2 ^ 32) call calls low) in
    omega (
      arith,
      first,
      rest,
      sum_by-cons (λ (call : Call). length (numbered_text names call.0 call.1)) call calls,
      sum_by-cons (printed_length names) call.1 (map (λ (call : Call). call.1) calls),
    )

-- a sum over lists behind one another
joined_sum : {X : Type 0} (weight : X → ℕ) (lists : List (List X)) → sum_by weight (flat_map (λ list. list) lists) ≡ sum_by (sum_by weight) lists
joined_sum weight [] = refl
joined_sum weight (list ∷ lists) =
    omega (
      arith,
      joined_sum weight lists,
      sum_by-append weight list (flat_map (λ list. list) lists),
      sum_by-cons (sum_by weight) list lists,
    )

pub commands_short_together : CommandsOfSessionsAreShortTogether
commands_short_together text names statements calls others read made low =
    let printed = session_printed text names statements read in
    let commands = map (λ (call : Call). call.1) calls in
    omega (
      arith,
      calls_within names calls low,
      printed,
      joined_sum (printed_length names) (scripts_of statements),
      sum_by-IsPermutation (printed_length names) (flat_map (λ (script : List Command). script) (scripts_of statements)) (commands ++ others) made,
      sum_by-append (printed_length names) commands others,
    )

-- what holds of each image
of_map : {X Y : Type 0} (P : Y → Type 0) (f : X → Y) (xs : List X) → All P (map f xs) → All (λ x. P (f x)) xs
of_map P f xs h i x inside = subst P (get_or-map f xs i x (f x) inside) (h i (f x) (omega (arith, inside, length-map xs f)))

pub calls_storable : CallsAreStorable
calls_storable names scripts h =
    let commands = λ (script : Listed (Arc CodeCommand Global)). map (λ c. command_of (arc_value c)) script.items in
    let plain = of_map (All (IsStorableCommand names)) commands scripts h in
    λ i script inside.
    of_map (IsStorableCommand names) (λ (c : Arc CodeCommand Global). command_of (arc_value c))
    (get_or scripts i script).items (plain i script inside)

pub sessions_storable : CallsOfSessionsAreStorable
sessions_storable text form session small (statements, is, holds) =
    let plain = commands_storable text session.names statements small is.read in
    calls_storable session.names session.scripts.items (subst (All (All (IsStorableCommand session.names))) (sym holds.scripts) plain)

-- ---- one of the calls

at : {X : Type 0} (P : X → Type 0) (xs : List X) (i : ℕ) (x : X) → All P xs → slice_get xs i ≡ Some x → P x
at P xs i x h e = subst P (get_or_from_slice_get xs i x x e) (h i x (slice_get_within xs i x e))

pub storable_at :
    (names : Table) (scripts : List (Listed (Arc CodeCommand Global))) (i j : ℕ) (script : Listed (Arc CodeCommand Global)) (call : Arc CodeCommand Global) →
    AreStorableScripts names scripts → slice_get scripts i ≡ Some script → slice_get script.items j ≡ Some call → IsStorableCall names call
storable_at names scripts i j script call h e f =
    at (IsStorableCall names) script.items j call (at (λ s. All (IsStorableCall names) s.items) scripts i script h e) f
