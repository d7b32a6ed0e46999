-- Replies and the words that tell them.
use Rattle.std.proofs.Common.{◌≡◌, ℕ, ℤ, Bool, List, [], ◌∷◌, Option, Some, None, option_map, refl, sym, ap, subst, ◌∙◌, arith, Ordering, Less, Equal, Greater, nat_cmp}
use Rattle.std.specs.Prelude.{codes, unwrap_or}
use Rattle.std.specs.Cmp.Lexicographic.{slice_cmp}
use Rattle.serde_json.specs.Data.{Data, Members, member, no_members, put, string}
use Rattle.serde_json.specs.Find.{get_member}
use Rattle.poets_value.specs.Civil.{IsDayNumber}
use Rattle.poets_value.specs.declared.value.Name.{Name}
use Rattle.poets_value.specs.declared.value.Value.{Value}
use Rattle.poets_syntax.specs.Contract.{Contract}
use Rattle.poets_report.specs.Plain.{Answer}
use Rattle.poets_lex.specs.Table.{Table}
use Rattle.poets_command.specs.Plain.{Reply}
use Rattle.poets_books.specs.Replies.{kind_text}
use Rattle.poets_expr.specs.Env.{Declared}
use Rattle.poets_json.specs.Document.{reply_data, reply_members}
use Rattle.poets_literals.specs.Declared.{IsPlaced}
use Rattle.poets_import.specs.code.Finding.{FindsBare, FindsSome, Has, IsBare, IsPlain, IsTold, IsToldWith, ShowsOwed}
use Rattle.poets_import.specs.code.Members.{text_at}
use Rattle.poets_import.specs.code.Telling.{by_words, day_told, name_told, plain_reply, shown_reply}

-- which of the replies with names, values or a day has these words, from 1; 0 for another
abbrev pub place_of_words : List ℕ → ℕ
place_of_words kind = unwrap_or (by_words
    ((codes "answered", 1) ∷ (codes "portfolio", 2) ∷ (codes "no contract", 3) ∷ (codes "late", 4)
    ∷ (codes "shown", 5) ∷ []) kind) 0

-- the reply has these words, as so counted
pub data Words : Reply → ℕ → Type 0 where
  Answered : (a : Answer) → Words (Reply.Answered a) 1
  Folio : (rows : List (Name × Answer)) (total : Option (Option Value)) → Words (Reply.Folio rows total) 2
  NoContract : (x : Name) → Words (Reply.NoContract x) 3
  Late : (day : ℤ) → Words (Reply.Late day) 4
  Shown : (c : Contract) (n : ℕ) (may_end ended : Bool) → Words (Reply.Shown c n may_end ended) 5
  Other : (r : Reply) → ((names : Table) → plain_reply (kind_text r) (reply_data names r) ≡ Some r) → Words r 0

-- each reply has
pub words : (r : Reply) → Words r (place_of_words (kind_text r))
words (Reply.Answered a) = Answered a
words (Reply.Folio rows total) = Folio rows total
words (Reply.NoContract x) = NoContract x
words (Reply.Late d) = Late d
words (Reply.Shown c n may_end ended) = Shown c n may_end ended
words r = Other r (λ names. refl)

kind_put :
    (kind : List ℕ) (others : Members) → get_member (codes "kind") (put (codes "kind") (string kind) others) ≡ Some (string kind)
kind_put kind no_members = refl
kind_put kind (member name d others) =
    by_order (slice_cmp nat_cmp (codes "kind") name) refl (kind_put kind others)
  where
    by_order :
        (o : Ordering) → slice_cmp nat_cmp (codes "kind") name ≡ o →
        get_member (codes "kind") (put (codes "kind") (string kind) others) ≡ Some (string kind) →
        get_member (codes "kind") (put (codes "kind") (string kind) (member name d others)) ≡ Some (string kind)
    by_order Less e below = rw e refl
    by_order Equal e below = rw e (rw e refl)
    by_order Greater e below = rw e (rw e below)

-- the words are a member of the value
pub has_words : (names : Table) (r : Reply) → text_at (codes "kind") (reply_data names r) ≡ Some (kind_text r)
has_words names r = rw (kind_put (kind_text r) (reply_members names r)) refl

module _ (P : Reply → Type 0) where
  -- what holds of each reply that has these words
  pub if_answered : ((a : Answer) → P (Reply.Answered a)) → (r : Reply) (n : ℕ) → Words r n → n ≡ 1 → P r
  if_answered f r n (Answered a) e = f a
  if_answered f r n said e = absurd (omega (arith, e))

  pub if_folio :
      ((rows : List (Name × Answer)) (total : Option (Option Value)) → P (Reply.Folio rows total)) →
      (r : Reply) (n : ℕ) → Words r n → n ≡ 2 → P r
  if_folio f r n (Folio rows total) e = f rows total
  if_folio f r n said e = absurd (omega (arith, e))

  pub if_no_contract : ((x : Name) → P (Reply.NoContract x)) → (r : Reply) (n : ℕ) → Words r n → n ≡ 3 → P r
  if_no_contract f r n (NoContract x) e = f x
  if_no_contract f r n said e = absurd (omega (arith, e))

  pub if_late : ((day : ℤ) → P (Reply.Late day)) → (r : Reply) (n : ℕ) → Words r n → n ≡ 4 → P r
  if_late f r n (Late d) e = f d
  if_late f r n said e = absurd (omega (arith, e))

  pub if_shown :
      ((c : Contract) (count : ℕ) (may_end ended : Bool) → P (Reply.Shown c count may_end ended)) →
      (r : Reply) (n : ℕ) → Words r n → n ≡ 5 → P r
  if_shown f r n (Shown c m may_end ended) e = f c m may_end ended
  if_shown f r n said e = absurd (omega (arith, e))

  pub if_other :
      ((r : Reply) → ((names : Table) → plain_reply (kind_text r) (reply_data names r) ≡ Some r) → P r) →
      (r : Reply) (n : ℕ) → Words r n → n ≡ 0 → P r
  if_other f r n (Other q told) e = f q told
  if_other f r n said e = absurd (omega (arith, e))

-- ---- replies without values

same_kind : (a b : List ℕ) → Some a ≡ Some b → a ≡ b
same_kind a b e = cc

-- the words of a value are those of its reply
pub kind_is : (names : Table) (kind : List ℕ) (d : Data) (r : Reply) → Some kind ≡ text_at (codes "kind") d → d ≡ reply_data names r → kind ≡ kind_text r
kind_is names kind d r e same = same_kind kind (kind_text r) (e ∙ ap (text_at (codes "kind")) same ∙ has_words names r)

has_name : (names : Table) (x : Name) (found : Option Name) (d : Data) → Has (name_told names) d found → Has (reply_data names) d (option_map Reply.NoContract found)
has_name names x None d has = absurd has
has_name names x (Some y) d has = has

has_day : (names : Table) (found : Option ℤ) (d : Data) → Has day_told d found → Has (reply_data names) d (option_map Reply.Late found)
has_day names None d has = absurd has
has_day names (Some day) d has = has

has_this : (names : Table) (found : Option Reply) (r : Reply) (d : Data) → found ≡ Some r → d ≡ reply_data names r → Has (reply_data names) d found
has_this names found r d e same = subst (λ (o : Option Reply). Has (reply_data names) d o) (sym e) same

pub bare_name :
    (names : Table) (owed : Option Contract) (d : Data) (found : Option Name) →
    FindsSome (IsPlaced names) (name_told names) d found →
    FindsBare names owed (codes "no contract") d (option_map Reply.NoContract found)
bare_name names owed d found finds r is said same =
    if_no_contract (λ r. IsBare names owed r → d ≡ reply_data names r → Has (reply_data names) d (option_map Reply.NoContract found))
    (λ x placed value. has_name names x found d (finds x placed value))
    r (place_of_words (kind_text r)) (words r) (ap place_of_words (sym said)) is same

pub bare_day :
    (names : Table) (owed : Option Contract) (d : Data) (found : Option ℤ) → FindsSome IsDayNumber day_told d found →
    FindsBare names owed (codes "late") d (option_map Reply.Late found)
bare_day names owed d found finds r is said same =
    if_late (λ r. IsBare names owed r → d ≡ reply_data names r → Has (reply_data names) d (option_map Reply.Late found))
    (λ day range value. has_day names found d (finds day range value))
    r (place_of_words (kind_text r)) (words r) (ap place_of_words (sym said)) is same

pub bare_shown :
    (names : Table) (owed : Option Contract) (d : Data) (found : Option Reply) → found ≡ shown_reply owed d →
    FindsBare names owed (codes "shown") d found
bare_shown names owed d found is_found r is said same =
    if_shown (λ r. IsBare names owed r → d ≡ reply_data names r → Has (reply_data names) d found)
    (λ c count may_end ended shows value.
    has_this names found (Reply.Shown c count may_end ended) d (is_found ∙ (λ i. shown_reply (shows i) (value i))) value)
    r (place_of_words (kind_text r)) (words r) (ap place_of_words (sym said)) is same

plain_bare :
    (names : Table) (owed : Option Contract) (r : Reply) (n : ℕ) → Words r n → IsBare names owed r →
    (kind_text r ≡ codes "no contract" → ⊥) → (kind_text r ≡ codes "late" → ⊥) → (kind_text r ≡ codes "shown" → ⊥) →
    plain_reply (kind_text r) (reply_data names r) ≡ Some r
plain_bare names owed r n (Answered a) is no_name no_day no_residual = absurd is
plain_bare names owed r n (Folio rows total) is no_name no_day no_residual = absurd is
plain_bare names owed r n (NoContract x) is no_name no_day no_residual = absurd (no_name refl)
plain_bare names owed r n (Late d) is no_name no_day no_residual = absurd (no_day refl)
plain_bare names owed r n (Shown c m may_end ended) is no_name no_day no_residual = absurd (no_residual refl)
plain_bare names owed r n (Other q told) is no_name no_day no_residual = told names

pub bare_plain :
    (names : Table) (owed : Option Contract) (kind : List ℕ) (d : Data) (found : Option Reply) →
    (kind ≡ codes "no contract" → ⊥) → (kind ≡ codes "late" → ⊥) → (kind ≡ codes "shown" → ⊥) →
    found ≡ plain_reply kind d → FindsBare names owed kind d found
bare_plain names owed kind d found no_name no_day no_residual is_found r is said same =
    has_this names found r d
    (is_found ∙ (λ i. plain_reply (said i) (same i))
    ∙ plain_bare names owed r (place_of_words (kind_text r)) (words r) is
    (λ e. no_name (said ∙ e)) (λ e. no_day (said ∙ e)) (λ e. no_residual (said ∙ e))) same

-- ---- replies that are plain, or bare, are told

pub plain_is_bare : (names : Table) (owed : Option Contract) (r : Reply) → IsPlain r → IsBare names owed r
plain_is_bare names owed (Reply.NoContract x) plain = absurd plain
plain_is_bare names owed (Reply.Late d) plain = absurd plain
plain_is_bare names owed (Reply.Shown c n may_end ended) plain = absurd plain
plain_is_bare names owed (Reply.Answered a) plain = absurd plain
plain_is_bare names owed (Reply.Folio rows total) plain = absurd plain
plain_is_bare names owed r plain = tt

pub bare_is_told : (names : Table) (declared : Declared) (owed : Option Contract) (r : Reply) → IsBare names owed r → IsTold names declared r × ShowsOwed owed r
bare_is_told names declared owed (Reply.NoContract x) is = (is, tt)
bare_is_told names declared owed (Reply.Late d) is = (is, tt)
bare_is_told names declared owed (Reply.Shown c n may_end ended) is = (tt, is)
bare_is_told names declared owed (Reply.Answered a) is = absurd is
bare_is_told names declared owed (Reply.Folio rows total) is = absurd is
bare_is_told names declared owed r is = (tt, tt)

none_is_some : (q : Reply) → None ≡ Some q → ⊥
none_is_some q e = cc

pub told_is_bare :
    (names : Table) (declared : Declared) (owed : Option Contract) (r : Reply) (n : ℕ) → Words r n → (n ≡ 1 → ⊥) → (n ≡ 2 → ⊥) →
    IsToldWith names declared owed r → IsBare names owed r
told_is_bare names declared owed r n (Answered a) no_answer no_folio is = absurd (no_answer refl)
told_is_bare names declared owed r n (Folio rows total) no_answer no_folio is = absurd (no_folio refl)
told_is_bare names declared owed r n (NoContract x) no_answer no_folio is = is.0
told_is_bare names declared owed r n (Late d) no_answer no_folio is = is.0
told_is_bare names declared owed r n (Shown c m may_end ended) no_answer no_folio is = sym is.1
told_is_bare names declared owed r n (Other q told) no_answer no_folio is = bare_other q told
  where
    bare_other : (q : Reply) → ((names : Table) → plain_reply (kind_text q) (reply_data names q) ≡ Some q) → IsBare names owed q
    bare_other q told = by_reply q (told names)
      where
        by_reply : (q : Reply) → plain_reply (kind_text q) (reply_data names q) ≡ Some q → IsBare names owed q
        by_reply (Reply.NoContract x) e = absurd (none_is_some (Reply.NoContract x) e)
        by_reply (Reply.Late d) e = absurd (none_is_some (Reply.Late d) e)
        by_reply (Reply.Shown c n may_end ended) e = absurd (none_is_some (Reply.Shown c n may_end ended) e)
        by_reply (Reply.Answered a) e = absurd (none_is_some (Reply.Answered a) e)
        by_reply (Reply.Folio rows None) e = absurd (none_is_some (Reply.Folio rows None) e)
        by_reply (Reply.Folio rows (Some total)) e = absurd (none_is_some (Reply.Folio rows (Some total)) e)
        by_reply q e = tt
