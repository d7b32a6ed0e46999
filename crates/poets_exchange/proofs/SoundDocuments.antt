-- Documents read back as values of JSON.
use Rattle.std.proofs.Common.{◌≡◌, ℕ, ◌^◌, ◌<◌, ◌≤◌, List, [], ◌∷◌, All, map, Option, Some, None, IsUtf8, refl, arith}
use Rattle.std.proofs.Common.{Ordering, Less, Equal, Greater, nat_cmp}
use Rattle.std.specs.Prelude.{codes}
use Rattle.std.specs.Cmp.Lexicographic.{slice_cmp}
use Rattle.std.specs.Ordering.{match_ordering}
use Rattle.std.proofs.lemmas.List.Elements.{All-head, All-tail}
use Rattle.serde_json.specs.Data.{Data, Members, member, no_members, put, string, depth, items_depth, members_depth}
use Rattle.serde_json.specs.Read.{max_depth}
use Rattle.serde_json.specs.View.{items_of}
use Rattle.poets_value.specs.declared.value.Name.{Name}
use Rattle.poets_value.specs.declared.value.Value.{Value}
use Rattle.poets_value.proofs.DayTexts.{day_text-utf8}
use Rattle.poets_report.specs.Plain.{Answer, Single, Rows, KeyRow}
use Rattle.poets_lex.specs.Table.{Table, IsTable}
use Rattle.poets_command.specs.Plain.{Reply, Entry}
use Rattle.poets_command.specs.Said.{Statement}
use Rattle.poets_books.specs.Replies.{kind_text}
use Rattle.poets_books.specs.Statements.{statement_text}
use Rattle.poets_json.specs.Plain.{Exported}
use Rattle.poets_json.specs.Document.{value_data, row_data, answer_data, part_data}
use Rattle.poets_json.specs.Document.{total_members, reply_members, reply_data, entry_data, document}
use Rattle.poets_exchange.specs.Exportable.{statements_in}
use Rattle.poets_exchange.proofs.Counts.{HasSmall}
use Rattle.poets_exchange.proofs.Json.{IsSound, AreSoundItems, AreSoundMembers, put_all}
use Rattle.poets_exchange.proofs.Utf8Texts.{known, name_utf8, value_utf8, contract_utf8, command_utf8, statement_utf8}

-- ---- lists

list_sound :
    {A : Type 0} (data_of : A → Data) → ((x : A) → IsSound (data_of x)) → (xs : List A) →
    AreSoundItems (items_of (map data_of xs))
list_sound data_of each [] = tt
list_sound data_of each (x ∷ xs) = (each x, list_sound data_of each xs)

all_sound :
    {A : Type 0} (data_of : A → Data) (P : A → Type 0) → ((x : A) → P x → IsSound (data_of x)) → (xs : List A) →
    All P xs → AreSoundItems (items_of (map data_of xs))
all_sound data_of P each [] h = tt
all_sound data_of P each (x ∷ xs) h =
    (each x (All-head P x xs h), all_sound data_of P each xs (All-tail P x xs h))

list_shallow :
    {A : Type 0} (n : ℕ) (data_of : A → Data) → ((x : A) → depth (data_of x) ≤ n) → (xs : List A) →
    items_depth (items_of (map data_of xs)) ≤ n
list_shallow n data_of each [] = omega arith
list_shallow n data_of each (x ∷ xs) = omega (arith, each x, list_shallow n data_of each xs)

-- ---- what a reply is

kind_utf8 : (r : Reply) → IsUtf8 (kind_text r)
kind_utf8 (Reply.Registered n) = known (codes "registered") refl
kind_utf8 r = known (kind_text r) refl

put_sound :
    (k : List ℕ) (d : Data) (ms : Members) → IsUtf8 k → IsSound d → AreSoundMembers ms → AreSoundMembers (put k d ms)
put_sound k d no_members name sound h = (name, sound, tt)
put_sound k d (member l e ms) name sound h =
    by_order (slice_cmp nat_cmp k l) (put_sound k d ms name sound h.2)
  where
    by_order :
        (o : Ordering) → AreSoundMembers (put k d ms) →
        AreSoundMembers (match_ordering o (member k d (member l e ms)) (member l d ms) (member l e (put k d ms)))
    by_order Less below = (name, sound, h)
    by_order Equal below = (h.0, sound, h.2)
    by_order Greater below = (h.0, h.1, below)

module _ (names : Table) (table : IsTable names) where
  -- ---- values

  value_sound : (v : Option Value) → IsSound (value_data names v)
  value_sound None = tt
  value_sound (Some v) = value_utf8 names table v

  value_flat : (v : Option Value) → depth (value_data names v) ≤ 0
  value_flat None = omega arith
  value_flat (Some v) = omega arith

  row_sound : (row : KeyRow) → IsSound (row_data names row)
  row_sound row = (value_sound row.0, (value_sound row.1, tt))

  row_shallow : (row : KeyRow) → depth (row_data names row) ≤ 1
  row_shallow row = omega (arith, value_flat row.0, value_flat row.1)

  answer_sound : (a : Answer) → IsSound (answer_data names a)
  answer_sound (Single v) = ((known (codes "value") refl, value_sound v, tt), refl)
  answer_sound (Rows rows) = ((known (codes "rows") refl, list_sound (row_data names) row_sound rows, tt), refl)

  answer_shallow : (a : Answer) → depth (answer_data names a) ≤ 3
  answer_shallow (Single v) = omega (arith, value_flat v)
  answer_shallow (Rows rows) = omega (arith, list_shallow 1 (row_data names) row_shallow rows)

  part_sound : (part : Name × Answer) → IsSound (part_data names part)
  part_sound part = (name_utf8 names table part.0, (answer_sound part.1, tt))

  part_shallow : (part : Name × Answer) → depth (part_data names part) ≤ 4
  part_shallow part = omega (arith, answer_shallow part.1)

  -- ---- replies

  total_sound : (total : Option (Option Value)) → AreSoundMembers (total_members names total)
  total_sound None = tt
  total_sound (Some v) = (known (codes "total") refl, value_sound v, tt)

  -- what a reply tells besides its kind
  told_sound : (r : Reply) → HasSmall r → AreSoundMembers (reply_members names r)
  told_sound (Reply.Registered n) h = (known (codes "id") refl, h, tt)
  told_sound (Reply.NameTaken n) h = (known (codes "id") refl, h, tt)
  told_sound (Reply.Recorded n b) h = (known (codes "count") refl, h, (known (codes "may_end") refl, tt, tt))
  told_sound (Reply.Voided n b) h = (known (codes "count") refl, h, (known (codes "may_end") refl, tt, tt))
  told_sound (Reply.NoEvent k) h = (known (codes "number") refl, h, tt)
  told_sound (Reply.NoContract x) h = (known (codes "name") refl, name_utf8 names table x, tt)
  told_sound (Reply.Late d) h = (known (codes "day") refl, day_text-utf8 d, tt)
  told_sound (Reply.Shown c n may_end ended) h = (
    known (codes "count") refl,
    h,
    (
      known (codes "ended") refl,
      tt,
      (known (codes "may_end") refl, tt, (known (codes "residual") refl, contract_utf8 names table c, tt)),
    ),
  )
  told_sound (Reply.Answered a) h = (known (codes "answer") refl, answer_sound a, tt)
  told_sound (Reply.Folio rows total) h =
      (known (codes "rows") refl, list_sound (part_data names) part_sound rows, total_sound total)
  told_sound (Reply.Watching n) h = (known (codes "number") refl, h, tt)
  told_sound (Reply.NoWatch n) h = (known (codes "number") refl, h, tt)
  told_sound r h = tt

  -- its members, in the order of their names
  abbrev members_of_reply : Reply → Members
  members_of_reply r = put (codes "kind") (string (kind_text r)) (reply_members names r)

  in_order : (r : Reply) → put_all (members_of_reply r) no_members ≡ members_of_reply r
  in_order (Reply.Folio rows None) = refl
  in_order (Reply.Folio rows (Some v)) = refl
  in_order r = refl

  reply_sound : (r : Reply) → HasSmall r → IsSound (reply_data names r)
  reply_sound r h = (
    put_sound (codes "kind") (string (kind_text r)) (reply_members names r) (known (codes "kind") refl) (kind_utf8 r)
        (told_sound r h),
    in_order r,
  )

  total_flat : (total : Option (Option Value)) → members_depth (total_members names total) ≤ 0
  total_flat None = omega arith
  total_flat (Some v) = omega (arith, value_flat v)

  reply_shallow : (r : Reply) → depth (reply_data names r) ≤ 6
  reply_shallow (Reply.Answered a) = omega (arith, answer_shallow a)
  reply_shallow (Reply.Folio rows total) =
      omega (arith, list_shallow 4 (part_data names) part_shallow rows, total_flat total)
  reply_shallow r = omega arith

  -- ---- the document

  -- the clerk's number and the number in the reply are small
  abbrev pub IsSmallEntry : Entry → Type 0
  IsSmallEntry e = (e.clerk < 2 ^ 32) × HasSmall e.reply

  entry_sound : (e : Entry) → IsSmallEntry e → IsSound (entry_data names e)
  entry_sound e h = (
    (
      known (codes "clerk") refl,
      omega (arith, h.0),
      (
        known (codes "command") refl,
        command_utf8 names table e.command,
        (
          known (codes "reply") refl,
          reply_sound e.reply h.1,
          tt,
        ),
      ),
    ),
    refl,
  )

  entry_shallow : (e : Entry) → depth (entry_data names e) ≤ 7
  entry_shallow e = omega (arith, reply_shallow e.reply)

  texts_sound : (ss : List Statement) → AreSoundItems (items_of (map string (map (statement_text names) ss)))
  texts_sound [] = tt
  texts_sound (s ∷ ss) = (statement_utf8 names table s, texts_sound ss)

  pub document_sound : (x : Exported) → All IsSmallEntry x.history → IsSound (document names x)
  document_sound x h = (
    (
      known (codes "book") refl,
      texts_sound (statements_in x),
      (
        known (codes "format") refl,
        known (codes "poets 1") refl,
        (
          known (codes "history") refl,
          all_sound (entry_data names) IsSmallEntry entry_sound x.history h,
          tt,
        ),
      ),
    ),
    refl,
  )

  pub document_shallow : (x : Exported) → depth (document names x) ≤ max_depth
  document_shallow x =
      omega (
        arith,
        list_shallow 0 string (λ _. omega arith) (map (statement_text names) (statements_in x)),
        list_shallow 7 (entry_data names) entry_shallow x.history,
      )
