-- Texts that do not say what was looked for.
use Rattle.std.proofs.Common.{◌≡◌, ℕ, List, Result, Err, refl, sym, subst, ◌∙◌}
use Rattle.poets_lex.specs.declared.fault.LexFault.{LexFault}
use Rattle.poets_lex.specs.declared.fault.LexFault.TheVariants as L
use Rattle.poets_lex.specs.declared.token.Tok.{Tok}
use Rattle.poets_lex.specs.declared.token.Token.{Token}
use Rattle.poets_lex.specs.Table.{Table}
use Rattle.poets_lex.specs.Lexes.{FirstFault, Lexes, UnlessMemory}
use Rattle.poets_lex.proofs.OneWay.{no-reading-at-fault}
use Rattle.poets_grammar.specs.Tokens.{toks}
use Rattle.poets_grammar.specs.TooDeep.{IsTooDeepStored}
use Rattle.poets_parse.specs.declared.fault.SyntaxFault.{SyntaxFault}
use Rattle.poets_parse.specs.declared.fault.SyntaxFault.TheVariants as S
use Rattle.poets_parse.specs.Sentences.{AreNoSentenceStored}
use Rattle.poets_command.specs.Said.{Statement}
use Rattle.poets_import.specs.Phrases.{AreSentence, Phrase, Say}
use Rattle.poets_parse.specs.Faults.{unread_of_lex, unread_of_syntax}
use Rattle.poets_import.specs.Faults.{fault_of}
use Rattle.poets_import.specs.code.Spoken.{HasNoTokens, SaysNo}
use Rattle.poets_import.specs.code.Finding.{Finds}
use Rattle.poets_import.specs.declared.fault.ImportFault.TheVariants as F
use Rattle.poets_parse.specs.declared.fault.Unread.{Unread}
use Rattle.poets_parse.specs.declared.fault.Unread.TheVariants as U
use Rattle.poets_import.proofs.OneWay.{say_same}

-- the fault that a `?` hands on
pub handed_on : {A E : Type 0} {r : Result A E} {x y z : E} → r ≡ Err x → x ≡ y → r ≡ Err z → y ≡ z
handed_on e f g = cc

-- a text with a fault has no tokens
pub uncut :
    (before : Table) (text : List ℕ) (fault : LexFault) → unread_of_lex fault ≡ U.Shape →
    UnlessMemory (FirstFault before text) fault → HasNoTokens before text
uncut before text (L.BadByte at) e told tokens after = no-reading-at-fault before text (L.BadByte at) tokens after (told (λ same. absurd cc))
uncut before text (L.LongNumber at) e told tokens after = no-reading-at-fault before text (L.LongNumber at) tokens after (told (λ same. absurd cc))
uncut before text (L.LongName at) e told tokens after = no-reading-at-fault before text (L.LongName at) tokens after (told (λ same. absurd cc))
uncut before text L.Memory e told tokens after = absurd cc

-- a text without tokens says nothing
pub unsaid_uncut :
    {A : Type 0} (phrase_of : A → Phrase) (before : Table) (text : List ℕ) →
    HasNoTokens before text → SaysNo phrase_of before text
unsaid_uncut phrase_of before text none x after says = none says.tokens after says.cut

-- where the tokens of a text say nothing of a kind, the text does not
pub unsaid :
    {A : Type 0} (phrase_of : A → Phrase) (before : Table) (text : List ℕ) (tokens : List Token) (after : Table) →
    Lexes before text 0 tokens after → ((x : A) → ¬ (Say (toks tokens) (phrase_of x))) → SaysNo phrase_of before text
unsaid phrase_of before text tokens after cut none x end says = none x (say_same cut says).0

-- tokens that were not read are no sentence
pub no_sentence :
    (ts : List Tok) (fault : SyntaxFault) → unread_of_syntax fault ≡ U.Shape →
    (fault ≡ S.NoSentence → AreNoSentenceStored ts) → (fault ≡ S.TooDeep → IsTooDeepStored ts) →
    (s : Statement) → ¬ (AreSentence ts s)
no_sentence ts S.NoSentence e none deep s is = (none refl).1 s is.said
no_sentence ts S.TooDeep e none deep s is = is.shallow (deep refl)
no_sentence ts S.Memory e none deep s is = absurd cc

-- where a `?` hands on that memory ran out, whatever is looked for is found
pub finds_handed :
    {A B D : Type 0} (view_of : A → B) (data_of : B → D) (d : D) {r : Result A Unread} {x f : Unread} → r ≡ Err x → x ≡ f →
    f ≡ U.Memory → Finds view_of data_of d r
finds_handed {A} view_of data_of d told same memory =
    subst (λ (r : Result A Unread). Finds view_of data_of d r) (sym told) (same ∙ memory)

pub memory_is_no_shape : (fault : Unread) → fault ≡ U.Shape → fault ≡ U.Memory → ⊥
memory_is_no_shape fault e f = absurd cc

-- what is told as a shape was one
pub shape_is : (fault : Unread) → fault_of fault ≡ F.Shape → fault ≡ U.Shape
shape_is U.Shape e = refl
shape_is U.Memory e = absurd cc
