-- Counts and sums of a history with one entry more.
use Rattle.std.proofs.Common.{◌≡◌, ℕ, ◌+◌, ◌<◌, List, [], ◌∷◌, ◌++◌, map, take, length, slice_index_or, ap, ◌∙◌, sym, Bool, cond}
use Rattle.std.specs.Prelude.{ℤ, ◌+ℤ◌, pos, fold}
use Rattle.std.proofs.lemmas.List.{take_more, map-append}
use Rattle.std.proofs.lemmas.List.Sums.{sum_by_push, fold_push}
use Rattle.poets_command.specs.declared.call.Entry.{Entry}
use Rattle.poets_command.specs.Plain.{Reply}
use Rattle.poets_command.specs.Calls.{entry_of, history_of, reply_of}
use Rattle.poets_command.specs.Plain as plain
use Rattle.poets_demo.specs.Line.{count_replies, paid, paid_in}

history_more : (entries : List Entry) (i : ℕ) (e : Entry) → i < length entries → e ≡ slice_index_or entries i e →
    history_of (take (i + 1) entries) ≡ history_of (take i entries) ++ entry_of e ∷ []
history_more entries i e h at =
    ap history_of (take_more entries i e h) ∙ map-append entry_of (take i entries) (slice_index_or entries i e ∷ [])
    ∙ ap (λ x. history_of (take i entries) ++ entry_of x ∷ []) (sym at)

-- a count with one entry more
pub count_more : (such : Reply → Bool) (entries : List Entry) (i n m : ℕ) (e : Entry) → i < length entries → e ≡ slice_index_or entries i e →
    n ≡ count_replies such (history_of (take i entries)) → m ≡ n + cond (such (reply_of e.reply)) 1 0 → m ≡ count_replies such (history_of (take (i + 1) entries))
count_more such entries i n m e h at before after =
    let push = sum_by_push (λ x. cond (such x.reply) 1 0) (history_of (take i entries)) (entry_of e) in
    after ∙ ap (λ k. k + cond (such (reply_of e.reply)) 1 0) before ∙ sym push ∙ ap (count_replies such) (sym (history_more entries i e h at))

-- a sum with one entry more
pub paid_more : (entries : List Entry) (i : ℕ) (n m : ℤ) (e : Entry) → i < length entries → e ≡ slice_index_or entries i e →
    n ≡ paid (history_of (take i entries)) → m ≡ n +ℤ paid_in (reply_of e.reply) → m ≡ paid (history_of (take (i + 1) entries))
paid_more entries i n m e h at before after =
    let entry = entry_of e in
    let history = history_of (take i entries) in
    let split = map-append (λ (x : plain.Entry). paid_in x.reply) history (entry ∷ []) in
    let push = fold_push ◌+ℤ◌ (pos 0) (map (λ (x : plain.Entry). paid_in x.reply) history) (paid_in (reply_of e.reply)) in
    after ∙ ap (λ k. k +ℤ paid_in (reply_of e.reply)) before ∙ sym push ∙ ap (fold ◌+ℤ◌ (pos 0)) (sym split) ∙ ap paid (sym (history_more entries i e h at))
