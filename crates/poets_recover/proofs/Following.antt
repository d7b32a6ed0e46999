-- Texts that are calls, one after the other.
use Rattle.std.proofs.Common.{◌≡◌, ℕ, ◌<◌, zero, suc, List, [], ◌∷◌, ◌++◌, All, length, take, get_or, refl, ap, arith}
use Rattle.std.proofs.lemmas.List.Elements.{All-nil, All-cons, All-head, All-tail}
use Rattle.poets_lex.specs.Table.{Table}
use Rattle.poets_syntax.specs.Plain.{Book}
use Rattle.poets_report.specs.Plain.{Report}
use Rattle.poets_command.specs.Calls.{Call}
use Rattle.poets_command.specs.Plain.{Command}
use Rattle.poets_command.specs.Taken.{IsWholeCommand}
use Rattle.poets_command.specs.Typing.{IsTypedCommand}
use Rattle.poets_recover.specs.Stored.{IsStoredCall, AreCalls, NoTexts, Text, AreStoredCalls}
use Rattle.poets_recover.specs.code.Reading.{SaysCall}
use Rattle.poets_recover.proofs.Saying.{whole_call}

-- one more text
pub AreCalls-push : (Is : Table → List ℕ → ℕ → Command → Table → Type 0) (before between after : Table) (texts : List (List ℕ)) (text : List ℕ) (calls : List Call) (clerk : ℕ) (command : Command) →
    AreCalls Is before texts calls between → Is between text clerk command after → AreCalls Is before (texts ++ text ∷ []) (calls ++ (clerk, command) ∷ []) after
AreCalls-push Is before between after texts text calls clerk command NoTexts is = Text is NoTexts
AreCalls-push Is before between after texts text calls clerk command (Text {between = middle} {texts = others} {calls = more} first next) is =
    Text first (AreCalls-push Is middle between after others text more clerk command next is)

pub AreCalls-length : {Is : Table → List ℕ → ℕ → Command → Table → Type 0} {before after : Table} {texts : List (List ℕ)} {calls : List Call} → AreCalls Is before texts calls after → length calls ≡ length texts
AreCalls-length NoTexts = refl
AreCalls-length (Text first more) = ap suc (AreCalls-length more)

-- the text at a place, and those ahead of it
pub record Parted (Is : Table → List ℕ → ℕ → Command → Table → Type 0) (before : Table) (texts : List (List ℕ)) (calls : List Call) (place : ℕ) : Type 0 where
  pub front : List (List ℕ)
  pub text : List ℕ
  pub behind : List (List ℕ)
  pub between : Table
  pub next : Table
  pub clerk : ℕ
  pub command : Command
  pub cut : texts ≡ front ++ text ∷ behind
  pub counted : length front ≡ place
  pub found : (d : Call) → get_or calls place d ≡ (clerk, command)
  pub ahead : AreCalls Is before front (take place calls) between
  pub here : Is between text clerk command next

pub parted : {Is : Table → List ℕ → ℕ → Command → Table → Type 0} {before after : Table} {texts : List (List ℕ)} {calls : List Call} → AreCalls Is before texts calls after →
    (place : ℕ) → place < length calls → Parted Is before texts calls place
parted NoTexts place within = absurd (omega (arith, within))
parted (Text {before = before} {between = between} {text = text} {texts = texts} {clerk = clerk} {command = command} first more) zero within = record {
  front = [];
  text = text;
  behind = texts;
  between = before;
  next = between;
  clerk = clerk;
  command = command;
  cut = refl;
  counted = refl;
  found = λ d. refl;
  ahead = NoTexts;
  here = first;
}
parted (Text {text = text} first more) (suc place) within =
    let p = parted more place (omega (arith, within)) in
    record {
      front = text ∷ p.front;
      text = p.text;
      behind = p.behind;
      between = p.between;
      next = p.next;
      clerk = p.clerk;
      command = p.command;
      cut = ap (λ (ts : List (List ℕ)). text ∷ ts) p.cut;
      counted = ap suc p.counted;
      found = p.found;
      ahead = Text first p.ahead;
      here = p.here;
    }

-- calls of texts that are typed
pub stored_typed : (book : Book) (reports : List Report) {before after : Table} {texts : List (List ℕ)} {calls : List Call} → AreCalls SaysCall before texts calls after →
    All (λ call. IsTypedCommand book reports call.1) calls → AreStoredCalls book reports before texts calls after
stored_typed book reports NoTexts typed = NoTexts
stored_typed book reports (Text {before = before} {between = between} {text = text} {clerk = clerk} {command = command} {calls = calls} first more) typed =
    let Is : Call → Type 0 = λ call. IsTypedCommand book reports call.1 in
    let here : IsStoredCall book reports before text clerk command between = record {
      tokens = first.tokens;
      lexed = first.lexed;
      shallow = first.say.shallow;
      said = first.say.said;
      from = first.say.from;
      to = first.say.to;
      typed = All-head Is (clerk, command) calls typed;
    } in
    Text here (stored_typed book reports more (All-tail Is (clerk, command) calls typed))

-- their numbers and days are those of the language
pub whole_calls : {before after : Table} {texts : List (List ℕ)} {calls : List Call} → AreCalls SaysCall before texts calls after → All (λ call. IsWholeCommand call.1) calls
whole_calls NoTexts = All-nil (λ call. IsWholeCommand call.1)
whole_calls (Text {clerk = clerk} {command = command} {calls = calls} first more) =
    All-cons (λ call. IsWholeCommand call.1) (clerk, command) calls (whole_call first) (whole_calls more)
