-- The numbers in the replies of a history are not larger than it is long.
use Rattle.std.proofs.Common.{◌≡◌, ℕ, suc, ◌+◌, ◌-◌, ◌^◌, ◌<◌, ◌≤◌, Bool, true, false, nat_eq, List, [], ◌∷◌, All}
use Rattle.std.proofs.Common.{length, filter, fold, remove, Option, Some, ◌⊎◌, inl, inr, ap, arith, length-append}
use Rattle.std.specs.Prelude.{if◌then◌else◌, take, drop}
use Rattle.std.proofs.lemmas.List.{length-take, length-drop, length-map}
use Rattle.std.proofs.lemmas.List.Elements.{All-nil, All-head, All-push}
use Rattle.std.proofs.lemmas.List.Sums.{length-filter, count_by-le-length}
use Rattle.poets_value.specs.declared.event.Event.{Event}
use Rattle.poets_value.specs.declared.value.Name.{Name}
use Rattle.poets_expr.specs.Env.{same_name}
use Rattle.poets_syntax.specs.Contract.{Contract}
use Rattle.poets_command.specs.Plain.{Command, Reply, Entry}
use Rattle.poets_history.specs.Frame.{Frame}
use Rattle.poets_history.specs.Ledger.{Ledger, ledger_of, empty_ledger, with_entry, contract_from, number_of, trace}
use Rattle.poets_history.specs.Ledger.{without}
use Rattle.poets_history.specs.Replies.{Replies, Legal}
use Rattle.poets_print.specs.Laws.{CanWriteNumberOf}
use Rattle.poets_exchange.proofs.Lists.{front_holds, rest_holds}

-- the number in the reply has 64 bits
abbrev pub HasSmall : Reply → Type 0
HasSmall (Reply.Registered n) = n < 2 ^ 64
HasSmall (Reply.NameTaken n) = n < 2 ^ 64
HasSmall (Reply.Recorded n may_end) = n < 2 ^ 64
HasSmall (Reply.Voided n may_end) = n < 2 ^ 64
HasSmall (Reply.NoEvent k) = k < 2 ^ 64
HasSmall (Reply.Shown c n may_end ended) = n < 2 ^ 64
HasSmall (Reply.Watching n) = n < 2 ^ 64
HasSmall (Reply.NoWatch n) = n < 2 ^ 64
HasSmall _ = Unit {0}

-- ---- parts of a ledger

first_or_later :
    {A : Type 0} (b : Bool) (first : A) (later : Option A) (x : A) → (if b then Some first else later) ≡ Some x →
    (first ≡ x) ⊎ (later ≡ Some x)
first_or_later true first later x e = inl cc
first_or_later false first later x e = inr e

-- a contract's number is its place
place_below :
    (i : ℕ) (x : Name) (cs : List (Name × Contract)) (n : ℕ) (o : Contract) → contract_from i x cs ≡ Some (n, o) →
    n < i + length cs
place_below i x [] n o e = absurd cc
place_below i x (c ∷ cs) n o e =
    elim (first_or_later (same_name c.0 x) (i, c.1) (contract_from (suc i) x cs) (n, o) e) [
      | inl here ↦ (let same : i ≡ n = ap (λ (p : ℕ × Contract). p.0) here in omega (arith, same))
      | inr later ↦ omega (arith, place_below (suc i) x cs n o later)
    ]

trace_short : (l : Ledger) (n : ℕ) → length (trace l n) ≤ length l.log
trace_short l n =
    let ours = λ (p : ℕ × Event). nat_eq p.0 n in
    omega (
      arith,
      length-map (filter ours l.log) (λ (p : ℕ × Event). p.1),
      length-filter ours l.log,
      count_by-le-length ours l.log,
    )

without_short : (n k : ℕ) (log : List (ℕ × Event)) → length (without n k log) ≤ length log
without_short n k [] = omega arith
without_short n k (p ∷ log) = by_number (nat_eq p.0 n) (nat_eq k 1) (λ j. without_short n j log)
  where
    by_number :
        (b c : Bool) → ((j : ℕ) → length (without n j log) ≤ length log) →
        length (if b then (if c then log else p ∷ without n (k - 1) log) else p ∷ without n k log) ≤ suc (length log)
    by_number true true short = omega arith
    by_number true false short = omega (arith, short (k - 1))
    by_number false c short = omega (arith, short k)

removed_short : {A : Type 0} (xs : List A) (i : ℕ) → length (remove xs i) ≤ length xs
removed_short xs i =
    omega (arith, length-append (take i xs) (drop (suc i) xs), length-take i xs, length-drop (suc i) xs)

-- ---- ledgers

-- no list of the ledger is longer
record IsWithin (n : ℕ) (l : Ledger) : Type 0 where
  contracts : length l.contracts ≤ n
  log : length l.log ≤ n
  watches : length l.watches ≤ n

wider : (m n : ℕ) (l : Ledger) → m ≤ n → IsWithin m l → IsWithin n l
wider m n l le h = record {
  contracts = omega (arith, le, h.contracts);
  log = omega (arith, le, h.log);
  watches = omega (arith, le, h.watches);
}

with_one_more :
    (n : ℕ) (l : Ledger) (command : Command) (r : Reply) → IsWithin n l → IsWithin (suc n) (with_entry l command r)
with_one_more n l (Command.Register x c) (Reply.Registered i) h = record {
  contracts = omega (arith, h.contracts, length-append l.contracts ((x, c) ∷ []));
  log = omega (arith, h.log);
  watches = omega (arith, h.watches);
}
with_one_more n l (Command.Transmit x e) (Reply.Recorded i b) h = record {
  contracts = omega (arith, h.contracts);
  log = omega (arith, h.log, length-append l.log ((number_of l x, e) ∷ []));
  watches = omega (arith, h.watches);
}
with_one_more n l (Command.Void x k) (Reply.Voided i b) h = record {
  contracts = omega (arith, h.contracts);
  log = omega (arith, h.log, without_short (number_of l x) k l.log);
  watches = omega (arith, h.watches);
}
with_one_more n l (Command.End x) Reply.EndedNow h = record {
  contracts = omega (arith, h.contracts);
  log = omega (arith, h.log);
  watches = omega (arith, h.watches);
}
with_one_more n l (Command.Watch q args) (Reply.Watching i) h = record {
  contracts = omega (arith, h.contracts);
  log = omega (arith, h.log);
  watches = omega (arith, h.watches, length-append l.watches ((q, args) ∷ []));
}
with_one_more n l command r h = wider n (suc n) l (omega arith) h

within_from :
    (h : List Entry) (n : ℕ) (l : Ledger) → IsWithin n l →
    IsWithin (n + length h) (fold (λ m e. with_entry m e.command e.reply) l h)
within_from [] n l w = wider n (n + 0) l (omega arith) w
within_from (e ∷ h) n l w =
    let next = with_entry l e.command e.reply in
    wider (suc n + length h) (n + suc (length h)) (fold (λ m e. with_entry m e.command e.reply) next h) (omega arith)
    (within_from h (suc n) next (with_one_more n l e.command e.reply w))

within : (h : List Entry) → IsWithin (length h) (ledger_of h)
within h =
    let none : IsWithin 0 empty_ledger =
    record { contracts = omega arith; log = omega arith; watches = omega arith } in
    wider (0 + length h) (length h) (ledger_of h) (omega arith) (within_from h 0 empty_ledger none)

-- ---- replies

module _ (f : Frame) where
  reply_small :
      (n : ℕ) (l : Ledger) → IsWithin n l → n + 1 < 2 ^ 64 → (command : Command) (r : Reply) → CanWriteNumberOf command →
      Replies f l command r → HasSmall r
  reply_small n l w few _ _ can (Replies.NameTaken {x = x} {o = o} {i = i} named) =
      omega (arith, few, w.contracts, place_below 1 x l.contracts i o named)
  reply_small n l w few _ _ can (Replies.Hopeless absent never) = tt
  reply_small n l w few _ _ can (Replies.RegisterTooLarge absent hopeful large) = tt
  reply_small n l w few _ _ can (Replies.Registered absent hopeful small) = omega (arith, few, w.contracts)
  reply_small n l w few _ _ can (Replies.TransmitToNone absent) = tt
  reply_small n l w few _ _ can (Replies.TransmitToEnded named ended) = tt
  reply_small n l w few _ _ can (Replies.Late live late) = tt
  reply_small n l w few _ _ can (Replies.Unmatched live stuck) = tt
  reply_small n l w few _ _ can (Replies.TransmitTooLarge live goes large) = tt
  reply_small n l w few _ _ can (Replies.Recorded {i = i} live goes small tells) =
      omega (arith, few, w.log, trace_short l i)
  reply_small n l w few _ _ can (Replies.VoidOfNone absent) = tt
  reply_small n l w few _ _ can (Replies.VoidOfEnded named ended) = tt
  reply_small n l w few _ _ can (Replies.NoEvent live none) = omega (arith, can)
  reply_small n l w few _ _ can (Replies.VoidTooLarge live large) = tt
  reply_small n l w few _ _ can (Replies.VoidUnmatched live small stuck) = tt
  reply_small n l w few _ _ can (Replies.Voided {k = k} {i = i} live small goes tells) =
      omega (arith, few, w.log, trace_short l i, removed_short (trace l i) (k - 1))
  reply_small n l w few _ _ can (Replies.EndOfNone absent) = tt
  reply_small n l w few _ _ can (Replies.AlreadyEnded named ended) = tt
  reply_small n l w few _ _ can (Replies.NotPerformed live fails) = tt
  reply_small n l w few _ _ can (Replies.EndedNow live performed) = tt
  reply_small n l w few _ _ can (Replies.ShowOfNone absent) = tt
  reply_small n l w few _ _ can (Replies.Shown {i = i} named owed tells) = omega (arith, few, w.log, trace_short l i)
  reply_small n l w few _ _ can (Replies.Tallied answers) = tt
  reply_small n l w few _ _ can (Replies.PortfolioOfNone none) = tt
  reply_small n l w few _ _ can (Replies.Folio present found are) = tt
  reply_small n l w few _ _ can Replies.Watching = omega (arith, few, w.watches)
  reply_small n l w few _ _ can (Replies.NoWatch none) = omega (arith, can)
  reply_small n l w few _ _ can (Replies.Read watch answers) = tt

  pub replies_small :
      {h : List Entry} → Legal f h → All (λ e. CanWriteNumberOf e.command) h → length h < 2 ^ 64 →
      All (λ e. HasSmall e.reply) h
  replies_small Legal.Empty can few = All-nil (λ e. HasSmall e.reply)
  replies_small (Legal.More {h = h} e legal reply) can few =
      let longer = length-append h (e ∷ []) in
      let behind = rest_holds (λ x. CanWriteNumberOf x.command) h (e ∷ []) can in
      let last = All-head (λ x. CanWriteNumberOf x.command) e [] behind in
      All-push (λ x. HasSmall x.reply) h e
      (replies_small legal (front_holds (λ x. CanWriteNumberOf x.command) h (e ∷ []) can) (omega (arith, few, longer)))
      (reply_small (length h) (ledger_of h) (within h) (omega (arith, few, longer)) e.command e.reply last reply)
