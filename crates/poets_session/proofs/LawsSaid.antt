-- What the statements of a text say, and where they stop.
use Rattle.std.proofs.Common.{◌≡◌, ℕ, suc, List, [], ◌∷◌, ◌++◌, length, refl, sym, subst, ◌∙◌}
use Rattle.std.specs.List.{AllZip}
use Rattle.poets_lex.specs.declared.token.Tok.{Tok}
use Rattle.poets_lex.specs.declared.token.Token.{Token}
use Rattle.poets_lex.specs.Table.{Table}
use Rattle.poets_lex.proofs.OneWay.{one-reading}
use Rattle.poets_grammar.specs.Tokens.{toks}
use Rattle.poets_grammar.specs.Statements.{IsStatement}
use Rattle.poets_grammar.specs.StatementReading.{statement}
use Rattle.poets_grammar.proofs.Steps.{one_answer}
use Rattle.poets_grammar.proofs.Statements.{statement_complete}
use Rattle.poets_command.specs.Said.{Statement}
use Rattle.poets_session.specs.Pieces.{Piece, pieces_of}
use Rattle.poets_session.specs.Sessions.{Text, IsStatementPiece, IsReadAs}
use Rattle.poets_session.specs.Refusals.{Refusal, IsUnread, IsStopped}

one_statement : (ts : List Tok) (a b : Statement) → IsStatement ts a → IsStatement ts b → a ≡ b
one_statement ts a b h k = one_answer (statement ts) a b (statement_complete h) (statement_complete k)

pub said_once : (pieces : List Piece) (a b : List Statement) → AllZip IsStatementPiece pieces a → AllZip IsStatementPiece pieces b → a ≡ b
said_once [] [] [] h k = refl
said_once [] [] (t ∷ b) h k = absurd k
said_once [] (s ∷ a) b h k = absurd h
said_once (p ∷ pieces) [] b h k = absurd h
said_once (p ∷ pieces) (s ∷ a) [] h k = absurd k
said_once (p ∷ pieces) (s ∷ a) (t ∷ b) h k =
    let first : s ≡ t = one_statement p.tokens s t h.0.statement k.0.statement in
    let rest : a ≡ b = said_once pieces a b h.1 k.1 in
    cc

-- a text is read in one way
pub read_once : (text : Text) (names others : Table) (a b : List Statement) → IsReadAs text names a → IsReadAs text others b → (names ≡ others) × (a ≡ b)
read_once text names others a b h k =
    let same = one-reading [] text 0 h.tokens k.tokens names others h.lexed k.lexed in
    (same.1, said_once (pieces_of (toks k.tokens)) a b (subst (λ (ts : List Token). AllZip IsStatementPiece (pieces_of (toks ts)) a) same.0 h.said) k.said)

-- ---- the first statement that says nothing

unread_unsaid : {p : Piece} {number : ℕ} {r : Refusal} (s : Statement) → IsUnread p number r → IsStatementPiece p s → ⊥
unread_unsaid s (IsUnread.IsDeep deep) h = h.shallow deep
unread_unsaid s (IsUnread.IsNoSentence shallow none) h = none h.ended s h.statement

unread_once : {p : Piece} {number : ℕ} {r s : Refusal} → IsUnread p number r → IsUnread p number s → r ≡ s
unread_once (IsUnread.IsDeep deep) (IsUnread.IsDeep also) = refl
unread_once (IsUnread.IsDeep deep) (IsUnread.IsNoSentence shallow none) = absurd (shallow deep)
unread_once (IsUnread.IsNoSentence shallow none) (IsUnread.IsDeep deep) = absurd (shallow deep)
unread_once (IsUnread.IsNoSentence shallow none) (IsUnread.IsNoSentence also neither) = refl

-- each of the pieces says something
said_at : (front rest : List Piece) (p : Piece) (said : List Statement) → AllZip IsStatementPiece (front ++ p ∷ rest) said → (s : Statement) × IsStatementPiece p s
said_at [] rest p [] h = absurd h
said_at [] rest p (s ∷ said) h = (s, h.0)
said_at (q ∷ front) rest p [] h = absurd h
said_at (q ∷ front) rest p (s ∷ said) h = said_at front rest p said h.1

pub stopped_unsaid : {pieces : List Piece} {r : Refusal} (said : List Statement) → IsStopped pieces r → AllZip IsStatementPiece pieces said → ⊥
stopped_unsaid said h k =
    let here = said_at h.front h.rest h.piece said (subst (λ (ps : List Piece). AllZip IsStatementPiece ps said) h.cut k) in
    unread_unsaid here.0 h.unread here.1

IsSilent : Piece → Type 0
IsSilent p = (s : Statement) → IsStatementPiece p s → ⊥

-- one list is cut in two ways, each after pieces that say something and ahead of one that does not
module _ (p q : Piece) (rest others : List Piece) (m : IsSilent p) (n : IsSilent q) where
  cut_once : (front back : List Piece) (a b : List Statement) → front ++ p ∷ rest ≡ back ++ q ∷ others → AllZip IsStatementPiece front a →
      AllZip IsStatementPiece back b → (front ≡ back) × (p ≡ q)
  unfolding IsSilent
  cut_once [] [] a b e h k = (refl, cc)
  cut_once [] (y ∷ back) a [] e h k = absurd k
  cut_once [] (y ∷ back) a (t ∷ b) e h k =
      let same : y ≡ p = cc in absurd (m t (subst (λ z. IsStatementPiece z t) same k.0))
  cut_once (x ∷ front) [] [] b e h k = absurd h
  cut_once (x ∷ front) [] (s ∷ a) b e h k =
      let same : x ≡ q = cc in absurd (n s (subst (λ z. IsStatementPiece z s) same h.0))
  cut_once (x ∷ front) (y ∷ back) [] b e h k = absurd h
  cut_once (x ∷ front) (y ∷ back) (s ∷ a) [] e h k = absurd k
  cut_once (x ∷ front) (y ∷ back) (s ∷ a) (t ∷ b) e h k =
      let first : x ≡ y = cc in
      let after : front ++ p ∷ rest ≡ back ++ q ∷ others = cc in
      let same = cut_once front back a b after h.1 k.1 in
      let fronts : front ≡ back = same.0 in
      (cc, same.1)

pub stopped_once : {pieces : List Piece} {r s : Refusal} → IsStopped pieces r → IsStopped pieces s → r ≡ s
unfolding IsSilent
stopped_once {s = s} h k =
    let same = cut_once h.piece k.piece h.rest k.rest (λ t. unread_unsaid t h.unread) (λ t. unread_unsaid t k.unread) h.front k.front h.said k.said
    (sym h.cut ∙ k.cut) h.says k.says in
    let here = subst (λ (ps : List Piece). IsUnread k.piece (suc (length ps)) s) (sym same.0) k.unread in
    unread_once h.unread (subst (λ p. IsUnread p (suc (length h.front)) s) (sym same.1) here)
