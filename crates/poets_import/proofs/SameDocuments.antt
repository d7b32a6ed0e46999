-- A document is of one thing.
use Rattle.std.proofs.Common.{◌≡◌, ℕ, ℤ, Bool, List, [], ◌∷◌, ◌++◌, All, map, get_or, Option, Some, None, refl, sym, ap, subst, ◌∙◌, arith}
use Rattle.std.specs.Prelude.{codes}
use Rattle.std.specs.Str.{bytes_eq}
use Rattle.std.proofs.lemmas.List.Elements.{All-head, All-tail}
use Rattle.serde_json.specs.Data.{Data, Members, array, member, no_members, object, string}
use Rattle.serde_json.specs.View.{items_of}
use Rattle.poets_value.specs.declared.value.Name.{Name}
use Rattle.poets_value.specs.declared.value.Value.{Value}
use Rattle.poets_value.specs.declared.value.Value.TheVariants as V
use Rattle.poets_value.specs.Civil.{day_text}
use Rattle.poets_expr.specs.Env.{Declared}
use Rattle.poets_syntax.specs.Contract.{Contract}
use Rattle.poets_report.specs.Plain.{Answer, Single, Rows, KeyRow}
use Rattle.poets_lex.specs.declared.token.Tok.{Tok}
use Rattle.poets_lex.specs.declared.token.Tok.TheVariants as K
use Rattle.poets_lex.specs.declared.token.Token.{Token}
use Rattle.poets_lex.specs.Lexes.{IsTextOf, Piece, Reads, table_with}
use Rattle.poets_lex.specs.Table.{IsName, IsTable, Table, place_of, with_text}
use Rattle.poets_lex.proofs.Found.{IsTable-push, known, unknown}
use Rattle.poets_command.specs.Plain.{Reply, Entry}
use Rattle.poets_command.specs.Said.{Statement}
use Rattle.poets_print.specs.Lines.{command_text}
use Rattle.poets_print.specs.Texts.{contract_text, name_text, value_text}
use Rattle.poets_books.specs.Replies.{kind_text}
use Rattle.poets_json.specs.Document.{answer_data, entry_data, entry_with, folio_members, list_data, of_kind, only, part_data}
use Rattle.poets_json.specs.Document.{reply_data, row_data, shown_members, total_members, value_data}
use Rattle.poets_literals.proofs.NameTexts.{one_name}
use Rattle.poets_literals.proofs.ValueTexts.{one_value}
use Rattle.poets_import.specs.Phrases.{AreSaid, Nothing, Next, AreStatements, NoTexts, Text, Phrase}
use Rattle.poets_import.specs.Reading.{HasTotal, HasValues, IsIfDefined}
use Rattle.poets_import.specs.code.Finding.{IsPart, IsRow, IsTold, owed_of}
use Rattle.poets_import.specs.code.Members.{text_at}
use Rattle.poets_import.specs.code.Telling.{plain_reply}
use Rattle.poets_import.proofs.Tellings.{Words, has_words, if_answered, if_folio, if_late, if_no_contract, if_other, if_shown, place_of_words, words}
use Rattle.poets_import.proofs.WholeDocuments.{same_arrays}
use Rattle.poets_import.proofs.Lists.{heads, tails}

-- ---- tables

kept_with : (before : Table) (bytes : List ℕ) (found : Option ℕ) → place_of bytes before ≡ found → IsName bytes → IsTable before → IsTable (with_text bytes before)
kept_with before bytes (Some n) e is table = rw (known (bytes_eq bytes) before n e) table
kept_with before bytes None e is table = rw (unknown (bytes_eq bytes) before e) (IsTable-push before bytes table is e)

kept_token : (before after : Table) (what : Tok) (bytes : List ℕ) → IsTextOf after what bytes → IsTable before → IsTable (table_with what bytes before)
kept_token before after (K.Name x) bytes is table = kept_with before bytes (place_of bytes before) refl is.0 table
kept_token before after (K.Word w) bytes is table = table
kept_token before after (K.Number n) bytes is table = table
kept_token before after (K.Day d) bytes is table = table
kept_token before after (K.Sign s) bytes is table = table

kept_piece : {before after : Table} {place : ℕ} {bytes rest : List ℕ} {here : List Token} → Piece before place bytes rest here after → IsTable before → IsTable after
kept_piece (Piece.Blank byte blank) table = table
kept_piece (Piece.Comment bytes line ends) table = table
kept_piece (Piece.Lexeme {before = before} {after = after} {bytes = bytes} token is) table =
    subst IsTable (sym is.table) (kept_token before after token.what bytes is.text table)

kept : {before after : Table} {text rest : List ℕ} {place : ℕ} {tokens : List Token} → Reads before text place tokens after rest → IsTable before → IsTable after
kept Reads.Nothing table = table
kept (Reads.Next first more) table = kept more (kept_piece first table)

pub statements_kept : {before after : Table} {texts : List (List ℕ)} {ss : List Statement} → AreStatements before texts ss after → IsTable before → IsTable after
statements_kept NoTexts table = table
statements_kept (Text says more) table = statements_kept more (kept says.cut table)

pub said_kept : {names before after : Table} {phrases : List Phrase} → AreSaid names before phrases after → IsTable before → IsTable after
said_kept Nothing table = table
said_kept (Next says more) table = said_kept more (kept says.cut table)

-- ---- parts of equal values

same_string : (t u : List ℕ) → string t ≡ string u → t ≡ u
same_string t u e = cc

-- lists of equal values
same_lists :
    {B : Type 0} (data_of : B → Data) (IsSo : B → Type 0) →
    ((x y : B) → IsSo x → IsSo y → data_of x ≡ data_of y → x ≡ y) →
    (xs ys : List B) → All IsSo xs → All IsSo ys → map data_of xs ≡ map data_of ys → xs ≡ ys
same_lists data_of IsSo one [] [] so are e = refl
same_lists data_of IsSo one [] (y ∷ ys) so are e = absurd cc
same_lists data_of IsSo one (x ∷ xs) [] so are e = absurd cc
same_lists {B} data_of IsSo one (x ∷ xs) (y ∷ ys) so are e =
    let first = one x y (All-head IsSo x xs so) (All-head IsSo y ys are) (heads (data_of x) (data_of y) (map data_of xs) (map data_of ys) e) in
    let rest = same_lists data_of IsSo one xs ys (All-tail IsSo x xs so) (All-tail IsSo y ys are) (tails (data_of x) (data_of y) (map data_of xs) (map data_of ys) e) in
    λ i. first i ∷ rest i

module _ (names : Table) (declared : Declared) (table : IsTable names) where
  same_value :
      (v w : Option Value) → IsIfDefined names declared v → IsIfDefined names declared w →
      value_data names v ≡ value_data names w → v ≡ w
  same_value None None h k e = refl
  same_value None (Some w) h k e = absurd cc
  same_value (Some v) None h k e = absurd cc
  same_value (Some v) (Some w) h k e =
      ap Some
      (one_value names declared (value_text names w) v w table
      (h, same_string (value_text names v) (value_text names w) e) (k, refl))

  firsts : (a b c d : Data) → array (items_of (a ∷ b ∷ [])) ≡ array (items_of (c ∷ d ∷ [])) → a ≡ c
  firsts a b c d e = cc

  seconds : (a b c d : Data) → array (items_of (a ∷ b ∷ [])) ≡ array (items_of (c ∷ d ∷ [])) → b ≡ d
  seconds a b c d e = cc

  same_row : (r s : KeyRow) → IsRow names declared r → IsRow names declared s → row_data names r ≡ row_data names s → r ≡ s
  same_row r s h k e =
      let key = same_value r.0 s.0 h.0 k.0 (firsts (value_data names r.0) (value_data names r.1) (value_data names s.0) (value_data names s.1) e) in
      let value = same_value r.1 s.1 h.1 k.1 (seconds (value_data names r.0) (value_data names r.1) (value_data names s.0) (value_data names s.1) e) in
      λ i. (key i, value i)

  -- the only member of an object
  only_member : (k : List ℕ) (a b : Data) → object (member k a no_members) ≡ object (member k b no_members) → a ≡ b
  only_member k a b e = cc

  member_name : (k l : List ℕ) (a b : Data) → object (member k a no_members) ≡ object (member l b no_members) → k ≡ l
  member_name k l a b e = cc

  no_both : codes "value" ≡ codes "rows" → ⊥
  no_both e = omega (arith, ap (λ (bytes : List ℕ). get_or bytes 0 0) e)

  same_answer : (a b : Answer) → HasValues names declared a → HasValues names declared b → answer_data names a ≡ answer_data names b → a ≡ b
  same_answer (Single v) (Single w) h k e = ap Single (same_value v w h k (only_member (codes "value") (value_data names v) (value_data names w) e))
  same_answer (Single v) (Rows rows) h k e = absurd (no_both (member_name (codes "value") (codes "rows") _ _ e))
  same_answer (Rows rows) (Single w) h k e = absurd (no_both (sym (member_name (codes "rows") (codes "value") _ _ e)))
  same_answer (Rows rows) (Rows others) h k e =
      ap Rows
      (same_lists (row_data names) (IsRow names declared) same_row rows others h k
      (same_arrays (map (row_data names) rows) (map (row_data names) others) (only_member (codes "rows") _ _ e)))

  same_part : (p q : Name × Answer) → IsPart names declared p → IsPart names declared q → part_data names p ≡ part_data names q → p ≡ q
  same_part p q h k e =
      let text = same_string (name_text names p.0) (name_text names q.0)
      (firsts (string (name_text names p.0)) (answer_data names p.1) (string (name_text names q.0)) (answer_data names q.1) e) in
      let name = one_name names p.0 q.0 h.0 k.0 text in
      let answer = same_answer p.1 q.1 h.1 k.1
      (seconds (string (name_text names p.0)) (answer_data names p.1) (string (name_text names q.0)) (answer_data names q.1) e) in
      λ i. (name i, answer i)

  same_total :
      (t u : Option (Option Value)) → HasTotal names declared t → HasTotal names declared u →
      total_members names t ≡ total_members names u → t ≡ u
  same_total None None h k e = refl
  same_total None (Some u) h k e = absurd cc
  same_total (Some t) None h k e = absurd cc
  same_total (Some t) (Some u) h k e = ap Some (same_value t u h k (first_member (value_data names t) (value_data names u) e))
    where
      first_member : (a b : Data) → member (codes "total") a no_members ≡ member (codes "total") b no_members → a ≡ b
      first_member a b e = cc

  folio_rows :
      (kind : List ℕ) (a b : Data) (m n : Members) →
      of_kind kind (folio_members a m) ≡ of_kind kind (folio_members b n) → a ≡ b
  folio_rows kind a b m n e = cc

  folio_total :
      (kind : List ℕ) (a b : Data) (m n : Members) →
      of_kind kind (folio_members a m) ≡ of_kind kind (folio_members b n) → m ≡ n
  folio_total kind a b m n e = cc

  same_some : (r s : Reply) → Some r ≡ Some s → r ≡ s
  same_some r s e = cc

  same_kind : (a b : List ℕ) → Some a ≡ Some b → a ≡ b
  same_kind a b e = cc

  same_answered : (kind : List ℕ) (a b : Data) → of_kind kind (only (codes "answer") a) ≡ of_kind kind (only (codes "answer") b) → a ≡ b
  same_answered kind a b e = cc

  same_missing :
      (kind t u : List ℕ) → of_kind kind (only (codes "name") (string t)) ≡ of_kind kind (only (codes "name") (string u)) →
      t ≡ u
  same_missing kind t u e = cc

  same_day :
      (kind t u : List ℕ) → of_kind kind (only (codes "day") (string t)) ≡ of_kind kind (only (codes "day") (string u)) →
      t ≡ u
  same_day kind t u e = cc

  day_of : (d e : ℤ) → V.Day d ≡ V.Day e → d ≡ e
  day_of d e h = cc

  shown_count :
      (kind t u : List ℕ) (m n : ℕ) (a b c d : Bool) →
      of_kind kind (shown_members t m a b) ≡ of_kind kind (shown_members u n c d) → m ≡ n
  shown_count kind t u m n a b c d e = cc

  shown_may_end :
      (kind t u : List ℕ) (m n : ℕ) (a b c d : Bool) →
      of_kind kind (shown_members t m a b) ≡ of_kind kind (shown_members u n c d) → a ≡ c
  shown_may_end kind t u m n a b c d e = cc

  shown_ended :
      (kind t u : List ℕ) (m n : ℕ) (a b c d : Bool) →
      of_kind kind (shown_members t m a b) ≡ of_kind kind (shown_members u n c d) → b ≡ d
  shown_ended kind t u m n a b c d e = cc

  same_owed : (c d : Contract) → Some c ≡ Some d → c ≡ d
  same_owed c d e = cc

  -- two replies of one value that show the same
  abbrev Same : Reply → Reply → Type 0
  Same r s = IsTold names declared r → IsTold names declared s → owed_of r ≡ owed_of s → reply_data names r ≡ reply_data names s → r ≡ s

  by_words : (r s : Reply) (n : ℕ) → Words r n → place_of_words (kind_text s) ≡ n → Same r s
  by_words r s n (Words.Answered a) e =
      if_answered (Same (Reply.Answered a))
      (λ b h k owed same. ap Reply.Answered (same_answer a b h k (same_answered (kind_text (Reply.Answered a)) (answer_data names a) (answer_data names b) same)))
      s (place_of_words (kind_text s)) (words s) e
  by_words r s n (Words.Folio rows total) e =
      if_folio (Same (Reply.Folio rows total))
      (λ others more h k owed same.
      let same_rows = same_lists (part_data names) (IsPart names declared) same_part rows others h.0 k.0
      (same_arrays (map (part_data names) rows) (map (part_data names) others) (folio_rows (kind_text (Reply.Folio rows total)) _ _ (total_members names total) (total_members names more) same)) in
      let totals = same_total total more h.1 k.1 (folio_total (kind_text (Reply.Folio rows total)) (list_data (part_data names) rows) (list_data (part_data names) others) _ _ same) in
      λ i. Reply.Folio (same_rows i) (totals i))
      s (place_of_words (kind_text s)) (words s) e
  by_words r s n (Words.NoContract x) e =
      if_no_contract (Same (Reply.NoContract x))
      (λ y h k owed same. ap Reply.NoContract (one_name names x y h k (same_missing (kind_text (Reply.NoContract x)) (name_text names x) (name_text names y) same)))
      s (place_of_words (kind_text s)) (words s) e
  by_words r s n (Words.Late d) e =
      if_late (Same (Reply.Late d))
      (λ day h k owed same.
      ap Reply.Late
      (day_of d day
      (one_value names declared (value_text names (V.Day day)) (V.Day d) (V.Day day) table
      (h, ap (λ (t : List ℕ). codes "@" ++ t) (same_day (kind_text (Reply.Late d)) (day_text d) (day_text day) same)) (k, refl))))
      s (place_of_words (kind_text s)) (words s) e
  by_words r s n (Words.Shown c m may_end ended) e =
      if_shown (Same (Reply.Shown c m may_end ended))
      (λ d count may ends h k owed same.
      let contract = same_owed c d owed in
      let kind = kind_text (Reply.Shown c m may_end ended) in
      let counts = shown_count kind (contract_text names c) (contract_text names d) m count may_end ended may ends same in
      let mays = shown_may_end kind (contract_text names c) (contract_text names d) m count may_end ended may ends same in
      let end = shown_ended kind (contract_text names c) (contract_text names d) m count may_end ended may ends same in
      λ i. Reply.Shown (contract i) (counts i) (mays i) (end i))
      s (place_of_words (kind_text s)) (words s) e
  by_words r s n (Words.Other q told) e =
      if_other (Same q)
      (λ p say h k owed same.
      let kinds = same_kind (kind_text q) (kind_text p) (sym (has_words names q) ∙ ap (text_at (codes "kind")) same ∙ has_words names p) in
      same_some q p (sym (told names) ∙ (λ i. plain_reply (kinds i) (same i)) ∙ say names))
      s (place_of_words (kind_text s)) (words s) e

  same_reply : (r s : Reply) → Same r s
  same_reply r s h k owed same =
      let kinds = same_kind (kind_text s) (kind_text r) (sym (has_words names s) ∙ ap (text_at (codes "kind")) (sym same) ∙ has_words names r) in
      by_words r s (place_of_words (kind_text r)) (words r) (ap place_of_words kinds) h k owed same

  entry_clerk : (m n : ℕ) (t u : List ℕ) (a b : Data) → entry_with m t a ≡ entry_with n u b → m ≡ n
  entry_clerk m n t u a b e = cc

  entry_reply : (m n : ℕ) (t u : List ℕ) (a b : Data) → entry_with m t a ≡ entry_with n u b → a ≡ b
  entry_reply m n t u a b e = cc

  pub same_entry :
      (e f : Entry) → IsTold names declared e.reply → IsTold names declared f.reply → e.command ≡ f.command →
      owed_of e.reply ≡ owed_of f.reply → entry_data names e ≡ entry_data names f → e ≡ f
  same_entry e f h k command owed same =
      let clerk = entry_clerk e.clerk f.clerk (command_text names e.command) (command_text names f.command) (reply_data names e.reply) (reply_data names f.reply) same in
      let data_same = entry_reply e.clerk f.clerk (command_text names e.command) (command_text names f.command) (reply_data names e.reply) (reply_data names f.reply) same in
      let reply = same_reply e.reply f.reply h k owed data_same in
      λ i. record { clerk = clerk i; command = command i; reply = reply i }
