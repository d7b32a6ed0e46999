-- Two readings of one text, each as far as it goes, are one.
use Rattle.std.proofs.Common.{◌≡◌, ℕ, ◌+◌, List, [], ◌++◌, length, refl, sym, ap, subst, ◌∙◌, arith}
use Rattle.std.proofs.lemmas.List.{append_cancel_left}
use Rattle.poets_lex.specs.declared.token.Token.{Token}
use Rattle.poets_lex.specs.declared.fault.LexFault.{LexFault}
use Rattle.poets_lex.specs.Table.{Table}
use Rattle.poets_lex.specs.Lexes.{Piece, Reads, Lexes, IsFaultAt, FirstFault}
use Rattle.poets_lex.proofs.OnePiece.{one-piece, no-piece, no-piece-at-end, no-fault-at-end, one-fault}

-- no piece begins the text
abbrev Stops : List ℕ → Type 0
Stops text = (before after : Table) (place : ℕ) (bytes rest : List ℕ) (here : List Token) → bytes ++ rest ≡ text → Piece before place bytes rest here after → ⊥

stops-at-end : Stops []
stops-at-end before after place bytes rest here e piece = no-piece-at-end piece e

stops-at-fault : (place : ℕ) (text : List ℕ) (fault : LexFault) → IsFaultAt place text fault → Stops text
stops-at-fault place text fault is before after there bytes rest here e piece =
    no-piece place fault (subst (λ t. IsFaultAt place t fault) (sym e) is) piece

-- two readings that both go as far as they can
one-way : {before a b : Table} {place : ℕ} {text other r s : List ℕ} {tokens others : List Token} → Reads before text place tokens a r → Reads before other place others b s → text ≡ other → Stops r → Stops s → (tokens ≡ others) × (a ≡ b) × (r ≡ s)
one-way Reads.Nothing Reads.Nothing e stop halt = (refl, refl, e)
one-way (Reads.Nothing {table = table} {place = place}) (Reads.Next {between = between} {bytes = bytes} {text = text} {here = here} first reads) e stop halt =
    absurd (stop table between place bytes text here (sym e) first)
one-way (Reads.Next {before = before} {between = between} {bytes = bytes} {text = text} {place = place} {here = here} first reads) Reads.Nothing e stop halt =
    absurd (halt before between place bytes text here e first)
one-way (Reads.Next {before = before} {between = a} {bytes = x} {text = t} {place = place} {here = here} {tokens = tokens} first reads) (Reads.Next {between = b} {after = end} {bytes = y} {text = u} {rest = s} {here = there} {tokens = others} other follows) e stop halt =
    let one = one-piece first other e in
    let behind : t ≡ u = append_cancel_left x t u (e ∙ ap (λ z. z ++ u) (sym one.0)) in
    let from : Reads a u (place + length x) others end s = subst (λ w. Reads w u (place + length x) others end s) (sym one.2) (subst (λ z. Reads b u (place + length z) others end s) (sym one.0) follows) in
    let same = one-way reads from behind stop halt in
    (ap (λ h. h ++ tokens) one.1 ∙ ap (λ ts. there ++ ts) same.0, same.1, same.2)

pub one-reading : (before : Table) (text : List ℕ) (place : ℕ) (tokens others : List Token) (after end : Table) → Lexes before text place tokens after → Lexes before text place others end → (tokens ≡ others) × (after ≡ end)
one-reading before text place tokens others after end h k =
    let same = one-way h k refl stops-at-end stops-at-end in
    (same.0, same.1)

pub no-reading-at-fault : (before : Table) (text : List ℕ) (fault : LexFault) (tokens : List Token) (after : Table) → FirstFault before text fault → Lexes before text 0 tokens after → ⊥
no-reading-at-fault before text fault tokens after h k =
    let same = one-way h.read k refl (stops-at-fault h.place h.rest fault h.found) stops-at-end in
    no-fault-at-end h.place fault (subst (λ t. IsFaultAt h.place t fault) same.2 h.found)

pub one-first-fault : (before : Table) (text : List ℕ) (a b : LexFault) → FirstFault before text a → FirstFault before text b → a ≡ b
one-first-fault before text a b h k =
    let same = one-way h.read k.read refl (stops-at-fault h.place h.rest a h.found) (stops-at-fault k.place k.rest b k.found) in
    let lengths = ap length same.2 in
    let place : h.place ≡ k.place = omega (arith, h.here, k.here) in
    one-fault h.place h.rest a b h.found (subst (λ p. IsFaultAt p h.rest b) (sym place) (subst (λ t. IsFaultAt k.place t b) (sym same.2) k.found))
