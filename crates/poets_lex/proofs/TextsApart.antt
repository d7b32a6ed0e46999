-- The texts of words and signs: their shapes, and that each has one.
use Rattle.std.proofs.Common.{◌≡◌, ℕ, ◌≤◌, List, [], ◌∷◌, length, refl, sym, ap, ◌∙◌, Option, Some, lit≤}
use Rattle.std.specs.Prelude.{find}
use Rattle.std.specs.Str.{bytes_eq}
use Rattle.poets_lex.specs.declared.token.Word.{Word}
use Rattle.poets_lex.specs.declared.token.Word.TheVariants as W
use Rattle.poets_lex.specs.declared.token.Sign.{Sign}
use Rattle.poets_lex.specs.declared.token.Sign.TheVariants as S
use Rattle.poets_lex.specs.Texts.{word_text, sign_text}
use Rattle.poets_lex.specs.Table.{HasNameShape}

-- a reserved word has the shape of a name
pub word-shape : (word : Word) → HasNameShape (word_text word)
word-shape W.Agents = (refl, refl)
word-shape word = (refl, refl)

pub word-short : (word : Word) → length (word_text word) ≤ 64
word-short W.Agents = lit≤ tt
word-short word = lit≤ tt

abbrev words : List Word
words =
    W.Agents ∷ W.Kinds ∷ W.Template ∷ W.Report ∷ W.Clerk ∷ W.Journal ∷ W.Register ∷ W.Transmit ∷
    W.End ∷ W.Show ∷ W.Tally ∷ W.Portfolio ∷ W.Over ∷ W.Watch ∷ W.Read ∷ W.Void ∷ W.Fold ∷
    W.With ∷ W.In ∷ W.By ∷ W.Total ∷ W.Success ∷ W.Failure ∷ W.True ∷ W.False ∷ W.And ∷ W.Or ∷
    W.Not ∷ W.If ∷ W.Then ∷ W.Else ∷ W.Undefined ∷ W.Amount ∷ W.Kind ∷ W.Res ∷ W.IntType ∷
    W.BoolType ∷ W.AgentType ∷ W.KindType ∷ W.ResourceType ∷ W.DayType ∷ []

-- the first word with a text
abbrev word_with : List ℕ → Option Word
word_with text = find (λ word. bytes_eq text (word_text word)) words

word_with-text : (word : Word) → word_with (word_text word) ≡ Some word
word_with-text W.Agents = refl
word_with-text word = refl

-- two words with one text are one
pub word-is : (a b : Word) → word_text a ≡ word_text b → a ≡ b
word-is a b e = let k : Some a ≡ Some b = sym (word_with-text a) ∙ ap word_with e ∙ word_with-text b in cc

abbrev signs : List Sign
signs =
    S.DoubleSemicolon ∷ S.Semicolon ∷ S.DoubleBar ∷ S.Bar ∷ S.LessEqual ∷ S.NotEqual ∷ S.Less ∷
    S.GreaterEqual ∷ S.Greater ∷ S.Equal ∷ S.Plus ∷ S.Minus ∷ S.Star ∷ S.Slash ∷ S.Percent ∷
    S.LeftParen ∷ S.RightParen ∷ S.LeftBracket ∷ S.RightBracket ∷ S.Comma ∷ S.Colon ∷ S.Dot ∷ []

-- the first sign with a text
abbrev sign_with : List ℕ → Option Sign
sign_with text = find (λ sign. bytes_eq text (sign_text sign)) signs

sign_with-text : (sign : Sign) → sign_with (sign_text sign) ≡ Some sign
sign_with-text S.DoubleSemicolon = refl
sign_with-text sign = refl

-- two signs with one text are one
pub sign-is : (a b : Sign) → sign_text a ≡ sign_text b → a ≡ b
sign-is a b e = let k : Some a ≡ Some b = sym (sign_with-text a) ∙ ap sign_with e ∙ sign_with-text b in cc
