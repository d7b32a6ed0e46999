-- What the statements of a text say, one by one.
use Rattle.std.proofs.Common.{◌≡◌, ℕ, arith, suc, true, false, ◌+◌, List, [], ◌∷◌, ◌++◌, ◌==◌, inl, inr, length, refl, sym, ap, subst, ◌∙◌, append-nil}
use Rattle.std.proofs.lemmas.Bool.Decides.{nat_tests}
use Rattle.std.specs.List.{AllZip}
use Rattle.std.proofs.lemmas.List.{append_assoc}
use Rattle.std.proofs.lemmas.Slice.Zip.{all_zipped_more}
use Rattle.poets_command.specs.Said.{Statement}
use Rattle.poets_lex.specs.declared.token.Tok.{Tok}
use Rattle.poets_grammar.specs.Statements.{IsStatement}
use Rattle.poets_grammar.specs.TooDeep.{IsTooDeep}
use Rattle.poets_parse.specs.declared.fault.SyntaxFault.{SyntaxFault}
use Rattle.poets_parse.specs.declared.fault.SyntaxFault.TheVariants as F
use Rattle.poets_session.specs.code.Splitting.{piece}
use Rattle.poets_session.specs.declared.fault.SessionCause.TheVariants as C
use Rattle.poets_lex.specs.declared.token.Token.{Token}
use Rattle.poets_grammar.specs.Tokens.{toks}
use Rattle.poets_session.specs.Pieces.{Piece, pieces_of}
use Rattle.poets_session.specs.Sessions.{IsStatementPiece}
use Rattle.poets_session.specs.Refusals.{TooDeep, NoSentence, IsUnread, IsStopped}
use Rattle.poets_session.specs.Causes.{IsCauseOf, syntax_cause}
use Rattle.poets_session.specs.declared.fault.SessionCause.{SessionCause}

-- the pieces up to the rest say this
pub record Standing (pieces rest : List Piece) (found : List Statement) : Type 0 where
  pub front : List Piece
  pub cut : pieces ≡ front ++ rest
  pub says : AllZip IsStatementPiece front found

pub standing_first : (pieces : List Piece) → Standing pieces pieces []
standing_first pieces = record { front = []; cut = refl; says = tt }

pub standing_more : (pieces rest : List Piece) (p : Piece) (found : List Statement) (s : Statement) → Standing pieces (p ∷ rest) found → IsStatementPiece p s → Standing pieces rest (found ++ s ∷ [])
standing_more pieces rest p found s h say = record {
  front = h.front ++ p ∷ [];
  cut = h.cut ∙ sym (append_assoc h.front (p ∷ []) rest);
  says = all_zipped_more IsStatementPiece h.front found p s h.says say;
}

-- as many statements as pieces
same_number : (pieces : List Piece) (found : List Statement) → AllZip IsStatementPiece pieces found → length found + 1 ≡ suc (length pieces)
same_number [] [] h = refl
same_number [] (s ∷ found) h = absurd h
same_number (p ∷ pieces) [] h = absurd h
same_number (p ∷ pieces) (s ∷ found) h = let e = same_number pieces found h.1 in omega (arith, e)

pub standing_stops : (pieces rest : List Piece) (p : Piece) (found : List Statement) (cause : SessionCause) → Standing pieces (p ∷ rest) found →
    IsCauseOf (IsUnread p (length found + 1)) cause → IsCauseOf (IsStopped pieces) cause
standing_stops pieces rest p found cause h (inl e) = inl e
standing_stops pieces rest p found cause h (inr (r, e, u)) =
    inr (r, e, record { front = h.front; said = found; piece = p; rest = rest; cut = h.cut; says = h.says; unread = subst (λ n. IsUnread p n r) (same_number h.front found h.says) u })

-- ---- what cannot be read

pub unended_deep : (ts : List Tok) → IsTooDeep ts → (number : ℕ) → IsCauseOf (IsUnread (piece ts false) number) (C.Syntax number F.TooDeep)
unended_deep ts h number = inr (TooDeep number, refl, IsUnread.IsDeep h)

pub unended_none : (ts : List Tok) → ¬ (IsTooDeep ts) → (number : ℕ) → IsCauseOf (IsUnread (piece ts false) number) (C.Syntax number F.NoSentence)
unended_none ts h number = inr (NoSentence number, refl, IsUnread.IsNoSentence h (λ e. absurd cc))

pub tells_unread : (ts : List Tok) (number : ℕ) (fault : SyntaxFault) →
    (fault ≡ F.TooDeep → IsTooDeep ts) → (fault ≡ F.NoSentence → ¬ (IsTooDeep ts) × ((s : Statement) → ¬ (IsStatement ts s))) →
    IsCauseOf (IsUnread (piece ts true) number) (syntax_cause number fault)
tells_unread ts number F.TooDeep deep none = inr (TooDeep number, refl, IsUnread.IsDeep (deep refl))
tells_unread ts number F.NoSentence deep none = inr (NoSentence number, refl, IsUnread.IsNoSentence (none refl).0 (λ _. (none refl).1))
tells_unread ts number F.Memory deep none = inl refl

-- nothing is left
pub standing_end : (pieces rest : List Piece) (found : List Statement) → Standing pieces rest found → rest ≡ [] → AllZip IsStatementPiece pieces found
standing_end pieces rest found h e = subst (λ p. AllZip IsStatementPiece p found) (sym (h.cut ∙ ap (λ r. h.front ++ r) e ∙ append-nil h.front)) h.says

-- no tokens are no statements
pub nothing_left : (l : List Token) → true ≡ (length l == 0) → pieces_of (toks l) ≡ []
nothing_left [] e = refl
nothing_left (t ∷ l) e = absurd (grind (arith, nat_tests))
