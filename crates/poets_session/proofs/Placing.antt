-- Statements one by one, each in its place.
use Rattle.std.proofs.Common.{◌≡◌, ℕ, suc, ◌+◌, ◌<◌, ◌≤◌, true, false, List, [], ◌∷◌, ◌++◌, Some, None, length, take, drop, get_or, refl, sym, ap, subst, ◌∙◌, arith, append-nil}
use Rattle.std.proofs.lemmas.List.{map-append, length-map, length-take-le, take_all, take_more}
use Rattle.poets_command.specs.Statements.{statement_of, statements_of}
use Rattle.poets_command.specs.declared.statement.Statement.{Statement}
use Rattle.poets_command.specs.Said as said
use Rattle.poets_session.specs.declared.form.Form.{Form}
use Rattle.poets_session.specs.declared.counting.Part.{Part}
use Rattle.poets_session.specs.declared.counting.Counts.{Counts}
use Rattle.poets_session.specs.Places.{KeepLimits, ArePlaced, IsMisplacedAt, IsTooManyAt}
use Rattle.poets_session.specs.code.Placing.{next_part, part_after, is_too_many, lacks_journal}
use Rattle.poets_session.specs.code.Counting.{AreCounted}
use Rattle.poets_session.proofs.Cutting.{cut_around}
use Rattle.poets_session.proofs.Shaping.{part_more, part_begins, part_whole, part_lacks, part_stops}
use Rattle.poets_session.proofs.Limits.{limits_more, limits_broken}

-- the statements stand in their places and keep the limits; they end in the part, and are counted
pub record Placed (form : Form) (part : Part) (counts : Counts) (before : List said.Statement) : Type 0 where
  pub after : part_after form before ≡ Some part
  pub limits : KeepLimits before
  pub counting : AreCounted before counts

-- ---- places in the list of statements

before_more : (l : List Statement) (i : ℕ) (s : Statement) → i < length l → s ≡ get_or l i s →
    statements_of (take (i + 1) l) ≡ statements_of (take i l) ++ statement_of s ∷ []
before_more l i s h e =
    ap statements_of (take_more l i s h ∙ ap (λ x. take i l ++ x ∷ []) (sym e)) ∙ map-append statement_of (take i l) (s ∷ [])

cut_at : (l : List Statement) (i : ℕ) (s : Statement) → i < length l → s ≡ get_or l i s →
    statements_of l ≡ statements_of (take i l) ++ statement_of s ∷ statements_of (drop (i + 1) l)
cut_at l i s h e = ap statements_of (cut_around l i s h e) ∙ map-append statement_of (take i l) (s ∷ drop (i + 1) l)

before_length : (l : List Statement) (i : ℕ) → i ≤ length l → i + 1 ≡ suc (length (statements_of (take i l)))
before_length l i h =
    let e : length (statements_of (take i l)) ≡ i = length-map (take i l) statement_of ∙ length-take-le i l h in omega (arith, e)

less_le : (i n : ℕ) → i < n → i ≤ n
less_le i n h = omega (arith, h)

-- ---- a statement more

module _ (form : Form) (part next : Part) (counts more : Counts) where
  pub placed_more :
      (l : List Statement) (i : ℕ) (s : Statement) → i < length l → s ≡ get_or l i s →
      Placed form part counts (statements_of (take i l)) → Some next ≡ next_part form part (statement_of s) →
      is_too_many (statements_of (take i l)) (statement_of s) ≡ false → AreCounted (statements_of (take i l) ++ statement_of s ∷ []) more →
      Placed form next more (statements_of (take (i + 1) l))
  placed_more l i s h e p f few counted =
      subst (Placed form next more) (sym (before_more l i s h e)) (record {
        after = part_more form (statements_of (take i l)) (statement_of s) part p.after ∙ sym f;
        limits = limits_more (statements_of (take i l)) (statement_of s) p.limits few;
        counting = counted;
      })

pub misplaced :
    (form : Form) (part : Part) (counts : Counts) (l : List Statement) (i : ℕ) (s : Statement) → i < length l → s ≡ get_or l i s →
    Placed form part counts (statements_of (take i l)) → None ≡ next_part form part (statement_of s) → IsMisplacedAt form (statements_of l) (i + 1)
misplaced form part counts l i s h e p f =
    let before = statements_of (take i l) in
    record {
      front = before;
      rest = statement_of s ∷ statements_of (drop (i + 1) l);
      cut = cut_at l i s h e;
      counted = before_length l i (less_le i (length l) h);
      begins = part_begins form before part p.after;
      limits = p.limits;
      wrong = part_stops form (before ++ statement_of s ∷ []) (part_more form before (statement_of s) part p.after ∙ sym f);
    }

pub too_many :
    (form : Form) (part next : Part) (counts : Counts) (l : List Statement) (i : ℕ) (s : Statement) → i < length l → s ≡ get_or l i s →
    Placed form part counts (statements_of (take i l)) → Some next ≡ next_part form part (statement_of s) →
    is_too_many (statements_of (take i l)) (statement_of s) ≡ true → IsTooManyAt form (statements_of l) (i + 1)
too_many form part next counts l i s h e p f many =
    let before = statements_of (take i l) in
    record {
      front = before;
      one = statement_of s;
      rest = statements_of (drop (i + 1) l);
      cut = cut_at l i s h e;
      counted = before_length l i (less_le i (length l) h);
      begins = part_begins form (before ++ statement_of s ∷ []) next (part_more form before (statement_of s) part p.after ∙ sym f);
      limits = p.limits;
      broken = limits_broken before (statement_of s) many;
    }

-- ---- all of them

past_all : (form : Form) (part : Part) (counts : Counts) (l : List Statement) (i : ℕ) → length l ≤ i → Placed form part counts (statements_of (take i l)) →
    Placed form part counts (statements_of l)
past_all form part counts l i h p = subst (Placed form part counts) (ap statements_of (take_all i l h)) p

pub at_end :
    (form : Form) (part : Part) (counts : Counts) (l : List Statement) (i : ℕ) → length l ≤ i → Placed form part counts (statements_of (take i l)) →
    false ≡ lacks_journal form part → ArePlaced form (statements_of l)
at_end form part counts l i h p e =
    let all = past_all form part counts l i h p in
    record { shape = part_whole form (statements_of l) part all.after (sym e); limits = all.limits }

pub journal_missing :
    (form : Form) (part : Part) (counts : Counts) (l : List Statement) (i : ℕ) → length l ≤ i → Placed form part counts (statements_of (take i l)) →
    true ≡ lacks_journal form part → IsMisplacedAt form (statements_of l) (length l + 1)
journal_missing form part counts l i h p e =
    let all = past_all form part counts l i h p in
    let long : length (statements_of l) ≡ length l = length-map l statement_of in
    record {
      front = statements_of l;
      rest = [];
      cut = sym (append-nil (statements_of l));
      counted = omega (arith, long);
      begins = part_begins form (statements_of l) part all.after;
      limits = all.limits;
      wrong = part_lacks form (statements_of l) part all.after (sym e);
    }
