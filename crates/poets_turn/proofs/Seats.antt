-- What cuts views in two and joins them, the start and the end keep the rule of the turnstile.
use Rattle.std.proofs.Common.{◌≡◌, ◌≢◌, ◌⊎◌, ℕ, ◌+◌, ◌<◌, ◌≤◌, Bool, true, false, List, [], ◌∷◌, ◌++◌, length, set, sym, refl, ap, ◌∙◌, subst, ⊎_elim, inl, inr, arith, Option, Some, None, length-set}
use Rattle.std.specs.Prelude.{All}
use Rattle.std.proofs.lemmas.List.Elements.{All-weaker, All-append, All-contains, All-cons, All-nil, Contains-append_left, Contains-append_right}
use mathlib.Core.Logic.{dite}
use mathlib.Core.List.{IsPrefix}
use mathlib.Core.Option.{some, some-ne-none}
use native.Mathlib.Decide.{ℕ_discrete}
use lib.ListN.{get_elem?}
use Rattle.atomic_table.specs.Table.{State, Splits, Joins, opening, Final, Seen}
use Rattle.atomic_table.proofs.Lists.{set_again, set_here, set_else, at_longer, at_last}
use Rattle.poets_machine.specs.Histories.{calls_by}
use Rattle.poets_machine.proofs.Histories.{own_none}
use Rattle.poets_turn.specs.declared.view.View.{View}
use Rattle.poets_turn.specs.declared.view.Setting.{Setting}
use Rattle.poets_turn.specs.declared.view.Stage.{Stage}
use Rattle.poets_turn.specs.declared.view.Stage.TheVariants.{Idle, Serving}
use Rattle.poets_turn.specs.Settings.{OnlyClerks}
use Rattle.poets_turn.specs.code.Turnstile.{Numbers, Meaning, HasTicket, HasEnded, longer, known, IsKnown, IsEnded, IsClerk, Fits, IsInSlot, IsHeld, HasNumber, Rule}
use Rattle.poets_turn.specs.code.Steps.{first_view, note_view, one_more, next_clerk, with_note, with_clerk, empty_view}
use Rattle.poets_turn.proofs.Fronts.{prefix_nil, longer_nil, longer_left, longer_right}
use Rattle.poets_turn.proofs.Places.{put, put_here, put_else, moved, moved_here, moved_else, at_below, at_end, one_there, still, each_stays}
use Rattle.poets_turn.proofs.Steps.{held_same, tickets_stay, out_stays, seen_stays, revised}

module _ {C : Type 0} where
  ended_left : (k : ℕ) (xs ys : List (ℕ × List C)) → HasEnded k xs → HasEnded k (xs ++ ys)
  ended_left k xs ys h = (h.0, Contains-append_left xs ys (k, h.0) h.1)

  ended_right : (k : ℕ) (xs ys : List (ℕ × List C)) → HasEnded k ys → HasEnded k (xs ++ ys)
  ended_right k xs ys h = (h.0, Contains-append_right xs ys (k, h.0) h.1)

  ended_first : (k : ℕ) (e : ℕ × List C) (es : List (ℕ × List C)) → e.0 ≡ k → HasEnded k (e ∷ es)
  ended_first k e es is = (e.1, (0, omega arith, λ i. (is i, e.1)))

module _ {M C F : Type 0} (history : M → List (ℕ × C)) (frame : M → F) (f : F) (clerks : ℕ) where
  abbrev V : Type 0
  V = View C F

  abbrev St : Type 0
  St = State (Option M) V

  abbrev Kept : St → Type 0
  Kept = Rule history frame f clerks

  -- the seat id has seen a beginning of the log, and has heard nothing
  module _ (log : List (ℕ × C)) (vs : List V) (h : IsKnown log vs) (id : ℕ) (v : V) (at : get_elem? vs id ≡ some v) (p : IsPrefix v.front log) (unheard : v.heard ≡ []) where
    -- what w had seen or heard of goes into x, and w is empty_view
    joined : (other : ℕ) (w x : V) → get_elem? vs other ≡ some w → ¬ (other ≡ id) → IsPrefix w.front log → w.heard ≡ [] → known x ≡ longer v.front w.front
        → IsKnown log (set (set vs id x) other empty_view)
    joined other w x at' apart q unheard' now =
        let at_id : get_elem? (set (set vs id x) other empty_view) id ≡ some x = set_else (set vs id x) other id empty_view (λ e. apart (sym e)) ∙ set_here vs id x (at_below vs id v at) in
        dite (ℕ_discrete h.0 other)
        (λ e. let is : w.front ≡ log = sym (longer_nil w.front) ∙ (ap (longer w.front) (sym unheard') ∙ (ap known (one_there vs other h.0 w h.1 (sym e) at' h.2) ∙ h.3)) in
        (id, x, at_id, now ∙ longer_right v.front w.front log p is))
        (λ ne. dite (ℕ_discrete h.0 id)
        (λ e. let is : v.front ≡ log = sym (longer_nil v.front) ∙ (ap (longer v.front) (sym unheard) ∙ (ap known (one_there vs id h.0 v h.1 (sym e) at h.2) ∙ h.3)) in
        (id, x, at_id, now ∙ longer_left v.front w.front log q is))
        (λ ne'. (h.0, h.1, set_else (set vs id x) other h.0 empty_view ne ∙ (set_else vs id h.0 x ne' ∙ h.2), h.3)))

  -- a view that says nothing but a beginning of the log
  nobody_fits : (m : Meaning C) (j : ℕ) (front : List (ℕ × C)) (setting : Option (Setting F)) → IsPrefix front m.log → ((t : Setting F) → setting ≡ Some t → (t.frame ≡ f) × (t.clerks ≡ clerks))
      → Fits f clerks m j record { number = 0; stage = Idle; front = front; heard = []; calls = []; count = 0; ended = []; setting = setting }
  nobody_fits m j front setting pre same = record {
    front = pre;
    heard = prefix_nil m.log;
    setting = same;
    stage = tt;
    clerk = λ z. absurd (omega arith);
    nobody = λ _. (refl, refl, refl, refl);
    count = λ z. absurd (omega arith);
    ended = All-nil (IsEnded m.numbers m.log j);
  }

  empty_fits : (m : Meaning C) (j : ℕ) → Fits f clerks m j empty_view
  empty_fits m j = nobody_fits m j [] None (prefix_nil m.log) (λ t e. absurd (no_terms t e))
    where
      no_terms : (t : Setting F) → ◌≡◌ {A = Option (Setting F)} None (Some t) → ⊥
      no_terms t e = cc

  -- a view more
  arrived : (s : St) (r : Kept s) (w : V) → ((j : ℕ) → Fits f clerks r.meaning j w) → Kept record { words = s.words; homes = s.homes; views = s.views ++ w ∷ [] }
  arrived s r w fits = let m = r.meaning in let vs = s.views in record {
    meaning = m;
    words = r.words;
    order = r.order;
    short = r.short;
    machine = ⊎_elim (λ i. inl i) (λ o. inr record { holder = o.holder; away = o.away; there = at_longer vs (w ∷ []) (m.ticket_seat m.serving) o.holder o.there; serves = o.serves }) r.machine;
    each_seat = λ j v at. ⊎_elim (λ t. r.each_seat j v t) (λ (t : (j ≡ length vs) × (w ≡ v)). subst (Fits f clerks m j) t.1 (fits j)) (at_end vs w v j at);
    tickets = λ t low high. let old = r.tickets t low high in (old.0, at_longer vs (w ∷ []) (m.ticket_seat t) old.0 old.1, old.2);
    numbers = let n = r.numbers in record {
      makes = (n.makes.0, at_longer vs (w ∷ []) m.numbers.maker n.makes.0 n.makes.1, n.makes.2);
      some_made = n.some_made;
      few_made = n.few_made;
      each = λ k low high. let old = n.each k low high in (old.0, at_longer vs (w ∷ []) (m.numbers.number_seat k) old.0 old.1, old.2);
    };
    all_made = r.all_made;
    seen = let h = r.seen in (h.0, h.1, at_longer vs (w ∷ []) h.0 h.1 h.2, h.3);
  }

  pub note_cut : (id : ℕ) (v : V) → Splits Kept id v v (note_view v)
  note_cut id v s r at = subst (λ (vs : List V). Kept record { words = s.words; homes = s.homes; views = vs ++ note_view v ∷ [] }) (sym (set_again s.views id v at))
      (let q = r.each_seat id v at in arrived s r (note_view v) (λ j. nobody_fits r.meaning j v.front v.setting q.front q.setting))

  pub clerk_added : (id : ℕ) (v : V) (u : Setting F) → 0 < v.count → v.setting ≡ Some u → v.count < u.clerks → Splits Kept id v (one_more v) (next_clerk v)
  clerk_added id v u counts has few s r at = let m = r.meaning in let q = r.each_seat id v at in let c = q.count counts in let is = c.1 in let setting = q.setting u has in let all = setting.1 in
      let vs = s.views in let end : ℕ = length vs in let new : ℕ = m.numbers.made + 1 in let w : V = one_more v in let x : V = next_clerk v in
      let seats : ℕ → ℕ = put m.numbers.number_seat new end in let over : ℕ → Bool = put m.numbers.is_ended new false in
      let old_seat : (k : ℕ) → k ≤ m.numbers.made → seats k ≡ m.numbers.number_seat k = λ k h. put_else m.numbers.number_seat new end k (λ e. omega arith) in
      let old_over : (k : ℕ) → k ≤ m.numbers.made → over k ≡ m.numbers.is_ended k = λ k h. put_else m.numbers.is_ended new false k (λ e. omega arith) in
      let numbers : Numbers = record { made = new; maker = m.numbers.maker; number_seat = seats; is_ended = over } in
      let m' : Meaning C = record m { numbers = numbers } in
      let clerk : (j k : ℕ) (front : List (ℕ × C)) (mine : List C) → IsClerk m.numbers m.log j k front mine → IsClerk numbers m.log j k front mine =
      λ j k front mine h. let high = h.high in record { high = omega arith; seat = old_seat k h.high ∙ h.seat; over = old_over k h.high ∙ h.over; calls = h.calls; seen = h.seen } in
      let taken : (j : ℕ) (es : List (ℕ × List C)) → All (IsEnded m.numbers m.log j) es → All (IsEnded numbers m.log j) es =
      λ j es h. All-weaker (IsEnded m.numbers m.log j) (IsEnded numbers m.log j)
      (λ e g. let high = g.high in record { low = g.low; high = omega arith; seat = old_seat e.0 g.high ∙ g.seat; over = old_over e.0 g.high ∙ g.over; calls = g.calls }) es h in
      let named : x.number ≡ new = ap (λ (k : ℕ). k + 1) is in
      let wide : length (set vs id w) ≡ end = length-set vs id w in
      let last : get_elem? (set vs id w ++ x ∷ []) end ≡ some x = at_last (set vs id w) x end wide in
      let n = r.numbers in record {
        meaning = m';
        words = r.words;
        order = r.order;
        short = r.short;
        machine = ⊎_elim (λ i. inl i) (λ o. let o' = out_stays m.serving (m.ticket_seat m.serving) m.log s.homes vs id v w at (λ z. z) o in
            inr record { holder = o'.holder; away = o'.away; there = at_longer (set vs id w) (x ∷ []) (m.ticket_seat m.serving) o'.holder o'.there; serves = o'.serves }) r.machine;
        each_seat = λ j y there. ⊎_elim
            (each_stays (Fits f clerks m') vs id w
            record {
              front = q.front;
              heard = q.heard;
              setting = q.setting;
              stage = q.stage;
              clerk = λ z. clerk id v.number v.front v.calls (q.clerk z);
              nobody = λ z. absurd (let e = (q.nobody z).2 in omega arith);
              count = λ _. (c.0, named);
              ended = taken id v.ended q.ended;
            }
            (λ i y other at'. let p = r.each_seat i y at' in
            record {
              front = p.front;
              heard = p.heard;
              setting = p.setting;
              stage = p.stage;
              clerk = λ z. clerk i y.number y.front y.calls (p.clerk z);
              nobody = p.nobody;
              count = λ z. absurd (other (sym (p.count z).0 ∙ c.0));
              ended = taken i y.ended p.ended;
            }) j y)
            (λ (t : (j ≡ length (set vs id w)) × (x ≡ y)). subst (λ (z : ℕ × V). Fits f clerks m' z.0 z.1) (λ i. (sym (t.0 ∙ wide) i, t.1 i))
            record {
              front = prefix_nil m.log;
              heard = prefix_nil m.log;
              setting = q.setting;
              stage = tt;
              clerk = λ _. record {
                high = omega arith;
                seat = ap seats named ∙ put_here m.numbers.number_seat new end;
                over = ap over named ∙ put_here m.numbers.is_ended new false;
                calls = sym (own_none x.number m.numbers.made m.log (omega arith) r.all_made);
                seen = refl;
              };
              nobody = λ z. absurd (omega arith);
              count = λ z. absurd (omega arith);
              ended = All-nil (IsEnded numbers m.log end);
            })
            (at_end (set vs id w) x y j there);
        tickets = λ t low high. let old = tickets_stay m vs id v w at (λ k h. h) r.tickets t low high in (old.0, at_longer (set vs id w) (x ∷ []) (m.ticket_seat t) old.0 old.1, old.2);
        numbers = record {
          makes = (w, at_longer (set vs id w) (x ∷ []) m.numbers.maker w (subst (λ (k : ℕ). get_elem? (set vs id w) k ≡ some w) (sym c.0) (set_here vs id w (at_below vs id v at))), named);
          some_made = omega arith;
          few_made = omega arith;
          each = λ k low high. dite (ℕ_discrete k new)
              (λ e. (
                x,
                subst (λ (i : ℕ). get_elem? (set vs id w ++ x ∷ []) i ≡ some x) (sym (ap seats e ∙ put_here m.numbers.number_seat new end)) last,
                subst (λ b. HasNumber b k x) (sym (ap over e ∙ put_here m.numbers.is_ended new false)) (named ∙ sym e),
              ))
              (λ ne. let below : k ≤ m.numbers.made = omega arith in let old = n.each k low below in
              let kept = still (HasNumber (m.numbers.is_ended k) k) vs id (m.numbers.number_seat k) w
              (λ is'. held_same (m.numbers.is_ended k) k v w refl refl (subst (HasNumber (m.numbers.is_ended k) k) (sym (one_there vs id (m.numbers.number_seat k) v old.0 (sym is') at old.1)) old.2)) old in (
                kept.0,
                subst (λ (i : ℕ). get_elem? (set vs id w ++ x ∷ []) i ≡ some kept.0) (sym (old_seat k below)) (at_longer (set vs id w) (x ∷ []) (m.numbers.number_seat k) kept.0 kept.1),
                subst (λ b. HasNumber b k kept.0) (sym (old_over k below)) kept.2,
              ));
        };
        all_made = All-weaker (λ e. (0 < e.0) × (e.0 ≤ m.numbers.made)) (λ e. (0 < e.0) × (e.0 ≤ new)) (λ e h. let g = h.1 in (h.0, omega arith)) m.log r.all_made;
        seen = let h = seen_stays m.log vs id v w at (λ h. h) r.seen in (h.0, h.1, at_longer (set vs id w) (x ∷ []) h.0 h.1 h.2, h.3);
      }

  pub note_taken : (id : ℕ) (v : V) (other : ℕ) (w : V) → w.number ≡ 0 → v.heard ≡ [] → w.heard ≡ [] → Joins Kept id v other w (with_note v w) empty_view
  note_taken id v other w no_number unheard unheard' s r at apart there = let m = r.meaning in let vs = s.views in
      let at_other : get_elem? vs other ≡ some w = sym (set_else vs id other (with_note v w) apart) ∙ there in
      let q = r.each_seat id v at in let p = r.each_seat other w at_other in let no = p.nobody no_number in
      let first : Kept record { words = s.words; homes = s.homes; views = set vs id (with_note v w) } =
      revised history frame f clerks s r id v (with_note v w) at refl refl refl refl
      record { front = q.front; heard = p.front; setting = q.setting; stage = q.stage; clerk = q.clerk; nobody = q.nobody; count = q.count; ended = q.ended }
      (seen_stays m.log vs id v (with_note v w) at (λ h. longer_left v.front w.front m.log p.front (sym (longer_nil v.front) ∙ (ap (longer v.front) (sym unheard) ∙ h))) r.seen) in
      revised history frame f clerks record { words = s.words; homes = s.homes; views = set vs id (with_note v w) } first other w empty_view there (sym no.0) no_number no.2 no.3 (empty_fits first.meaning other)
      (joined m.log vs r.seen id v at q.front unheard other w (with_note v w) at_other apart p.front unheard' refl)

  pub clerk_taken : (id : ℕ) (v : V) (other : ℕ) (w : V) → 0 < v.number → 0 < w.number → w.stage ≡ Idle → v.heard ≡ [] → w.heard ≡ [] → Joins Kept id v other w (with_clerk v w) empty_view
  clerk_taken id v other w mine theirs idle unheard unheard' s r at apart there = let m = r.meaning in let vs = s.views in let x : V = with_clerk v w in
      let at_other : get_elem? vs other ≡ some w = sym (set_else vs id other x apart) ∙ there in
      let q = r.each_seat id v at in let p = r.each_seat other w at_other in let c = q.clerk mine in let d = p.clerk theirs in let d_high = d.high in
      let apart' : id ≢ other = λ e. apart (sym e) in
      let seats : ℕ → ℕ = moved m.numbers.number_seat other id in let over : ℕ → Bool = put m.numbers.is_ended w.number true in let maker : ℕ = moved (λ k. k) other id m.numbers.maker in
      let numbers : Numbers = record { made = m.numbers.made; maker = maker; number_seat = seats; is_ended = over } in
      let m' : Meaning C = record m { numbers = numbers } in
      let stays : (j k : ℕ) → m.numbers.number_seat k ≡ j → j ≢ other → seats k ≡ j = λ j k e ne. moved_else m.numbers.number_seat other id k (λ is. ne (sym e ∙ is)) ∙ e in
      let over_stays : (j k : ℕ) → m.numbers.number_seat k ≡ j → j ≢ other → over k ≡ m.numbers.is_ended k = λ j k e ne. put_else m.numbers.is_ended w.number true k (λ is. ne (sym e ∙ (ap m.numbers.number_seat is ∙ d.seat))) in
      let clerk : (j k : ℕ) (front : List (ℕ × C)) (calls_by : List C) → j ≢ other → IsClerk m.numbers m.log j k front calls_by → IsClerk numbers m.log j k front calls_by =
      λ j k front calls_by ne h. record { high = h.high; seat = stays j k h.seat ne; over = over_stays j k h.seat ne ∙ h.over; calls = h.calls; seen = h.seen } in
      let taken : (j : ℕ) (es : List (ℕ × List C)) → j ≢ other → All (IsEnded m.numbers m.log j) es → All (IsEnded numbers m.log j) es =
      λ j es ne h. All-weaker (IsEnded m.numbers m.log j) (IsEnded numbers m.log j)
      (λ e g. record { low = g.low; high = g.high; seat = stays j e.0 g.seat ne; over = over_stays j e.0 g.seat ne ∙ g.over; calls = g.calls }) es h in
      let came : All (IsEnded numbers m.log id) w.ended =
      All-weaker (IsEnded m.numbers m.log other) (IsEnded numbers m.log id)
      (λ e g. record {
        low = g.low;
        high = g.high;
        seat = moved_here m.numbers.number_seat other id e.0 g.seat;
        over = put_else m.numbers.is_ended w.number true e.0 (λ is. true_false (sym g.over ∙ (ap m.numbers.is_ended is ∙ d.over))) ∙ g.over;
        calls = g.calls;
      }) w.ended p.ended in
      let itself : IsEnded numbers m.log id (w.number, w.calls) =
      record { low = theirs; high = d.high; seat = moved_here m.numbers.number_seat other id w.number d.seat; over = put_here m.numbers.is_ended w.number true; calls = d.calls } in
      let all_ended : All (IsEnded numbers m.log id) x.ended = All-append (IsEnded numbers m.log id) v.ended ((w.number, w.calls) ∷ w.ended) (taken id v.ended apart' q.ended) (All-cons (IsEnded numbers m.log id) (w.number, w.calls) w.ended itself came) in
      let counts : 0 < x.count → (maker ≡ id) × (x.count ≡ m.numbers.made) =
      λ z. dite (ℕ_discrete v.count 0)
      (λ e. let g = p.count (omega arith) in (moved_here (λ k. k) other id m.numbers.maker g.0, let a = g.1 in omega arith))
      (λ ne. let g = q.count (omega arith) in let none : w.count ≡ 0 = dite (ℕ_discrete w.count 0) (λ e. e) (λ ne'. absurd (apart (sym (p.count (omega arith)).0 ∙ g.0))) in
      (moved_else (λ k. k) other id m.numbers.maker (λ is. apart (sym is ∙ g.0)) ∙ g.0, let a = g.1 in omega arith)) in
      let one : List V = set vs id x in let two : List V = set one other empty_view in
      let at_id : get_elem? two id ≡ some x = set_else one other id empty_view apart' ∙ set_here vs id x (at_below vs id v at) in
      let n = r.numbers in
      let kept : (i : ℕ) (y : V) → i ≢ other → i ≢ id → get_elem? vs i ≡ some y → get_elem? two i ≡ some y = λ i y ne ne' e. set_else one other i empty_view ne ∙ (set_else vs id i x ne' ∙ e) in record {
        meaning = m';
        words = r.words;
        order = r.order;
        short = r.short;
        machine = ⊎_elim (λ i. inl i) (λ o. inr
            (out_stays m.serving (m.ticket_seat m.serving) m.log s.homes one other w empty_view there (λ e. absurd (no_idle m.serving m.log (sym idle ∙ e)))
            (out_stays m.serving (m.ticket_seat m.serving) m.log s.homes vs id v x at (λ e. e) o))) r.machine;
        each_seat = each_stays (Fits f clerks m') one other empty_view (empty_fits m' other)
            (λ j y ne there'. each_stays (λ i z. i ≢ other → Fits f clerks m' i z) vs id x
            (λ _. record {
              front = q.front;
              heard = p.front;
              setting = q.setting;
              stage = q.stage;
              clerk = λ z. clerk id v.number v.front v.calls apart' (q.clerk z);
              nobody = λ z. absurd (omega arith);
              count = counts;
              ended = all_ended;
            })
            (λ i z other' e ne'. let g = r.each_seat i z e in record {
              front = g.front;
              heard = g.heard;
              setting = g.setting;
              stage = g.stage;
              clerk = λ k. clerk i z.number z.front z.calls ne' (g.clerk k);
              nobody = g.nobody;
              count = λ k. let h = g.count k in (moved_else (λ k. k) other id m.numbers.maker (λ is. ne' (sym h.0 ∙ is)) ∙ h.0, h.1);
              ended = taken i z.ended ne' g.ended;
            })
            j y there' ne);
        tickets = tickets_stay m one other w empty_view there (λ t h. absurd (subst (HasTicket t) idle h)) (tickets_stay m vs id v x at (λ t h. h) r.tickets);
        numbers = record {
          makes = dite (ℕ_discrete m.numbers.maker other)
              (λ e. let wc : w.count ≡ m.numbers.made = ap (λ u. u.count) (one_there vs other m.numbers.maker w n.makes.0 (sym e) at_other n.makes.1) ∙ n.makes.2 in let low = n.some_made in
              (x, subst (λ (i : ℕ). get_elem? two i ≡ some x) (sym (moved_here (λ k. k) other id m.numbers.maker e)) at_id, (counts (omega arith)).1))
              (λ ne. dite (ℕ_discrete m.numbers.maker id)
              (λ e. let vc : v.count ≡ m.numbers.made = ap (λ u. u.count) (one_there vs id m.numbers.maker v n.makes.0 (sym e) at n.makes.1) ∙ n.makes.2 in let low = n.some_made in
              (x, subst (λ (i : ℕ). get_elem? two i ≡ some x) (sym (moved_else (λ k. k) other id m.numbers.maker ne ∙ e)) at_id, (counts (omega arith)).1))
              (λ ne'. (n.makes.0, subst (λ (i : ℕ). get_elem? two i ≡ some n.makes.0) (sym (moved_else (λ k. k) other id m.numbers.maker ne)) (kept m.numbers.maker n.makes.0 ne ne' n.makes.1), n.makes.2)));
          some_made = n.some_made;
          few_made = n.few_made;
          each = λ k low high. let old = n.each k low high in let at_k : ℕ = m.numbers.number_seat k in dite (ℕ_discrete at_k other)
              (λ e. let is_w : old.0 ≡ w = one_there vs at_k other old.0 w e old.1 at_other in (
                x,
                subst (λ (i : ℕ). get_elem? two i ≡ some x) (sym (moved_here m.numbers.number_seat other id k e)) at_id,
                came_in (m.numbers.is_ended k) k v.ended w (over k)
                    (λ is. ap over is ∙ put_here m.numbers.is_ended w.number true) (λ ne. put_else m.numbers.is_ended w.number true k ne) x.ended refl x refl (subst (HasNumber (m.numbers.is_ended k) k) is_w old.2),
              ))
              (λ ne. let over_k : over k ≡ m.numbers.is_ended k = over_stays at_k k refl ne in let seat_k : seats k ≡ at_k = stays at_k k refl ne in dite (ℕ_discrete at_k id)
              (λ e. let is_v : old.0 ≡ v = one_there vs at_k id old.0 v e old.1 at in (
                x,
                subst (λ (i : ℕ). get_elem? two i ≡ some x) (sym (seat_k ∙ e)) at_id,
                subst (λ b. HasNumber b k x) (sym over_k) (more_held (m.numbers.is_ended k) k v x ((w.number, w.calls) ∷ w.ended) refl refl (subst (HasNumber (m.numbers.is_ended k) k) is_v old.2)),
              ))
              (λ ne'. (old.0, subst (λ (i : ℕ). get_elem? two i ≡ some old.0) (sym seat_k) (kept at_k old.0 ne ne' old.1), subst (λ b. HasNumber b k old.0) (sym over_k) old.2)));
        };
        all_made = r.all_made;
        seen = joined m.log vs r.seen id v at q.front unheard other w x at_other apart p.front unheard' refl;
      }
    where
      true_false : true ≡ false → ⊥
      true_false e = cc

      no_idle : (t : ℕ) (l : List (ℕ × C)) → ◌≡◌ {A = Stage C} Idle (Serving t l) → ⊥
      no_idle t l e = cc

      more_held : (b : Bool) (k : ℕ) (v x : V) (es : List (ℕ × List C)) → x.number ≡ v.number → x.ended ≡ v.ended ++ es → HasNumber b k v → HasNumber b k x
      more_held true k v x es n e h = subst (HasEnded k) (sym e) (ended_left k v.ended es h)
      more_held false k v x es n e h = n ∙ h

      came_in : (b : Bool) (k : ℕ) (es : List (ℕ × List C)) (w : V) (o : Bool) → (k ≡ w.number → o ≡ true) → (k ≢ w.number → o ≡ b) → (all : List (ℕ × List C)) → all ≡ es ++ (w.number, w.calls) ∷ w.ended
          → (x : V) → x.ended ≡ all → HasNumber b k w → HasNumber o k x
      came_in true k es w o same else all is x now h =
          subst (λ c. HasNumber c k x) (sym (dite (ℕ_discrete k w.number) same else)) (subst (HasEnded k) (sym (now ∙ is)) (ended_right k es ((w.number, w.calls) ∷ w.ended) (ended_right k ((w.number, w.calls) ∷ []) w.ended h)))
      came_in false k es w o same else all is x now h =
          subst (λ c. HasNumber c k x) (sym (same (sym h))) (subst (HasEnded k) (sym (now ∙ is)) (ended_right k es ((w.number, w.calls) ∷ w.ended) (ended_first k (w.number, w.calls) w.ended h)))

  pub starts : (x : M) → history x ≡ [] → frame x ≡ f → 0 < clerks → Kept (opening (0 ∷ 0 ∷ []) (Some x ∷ []) (first_view f clerks))
  starts x new framed some_clerk = let numbers : Numbers = record { made = 1; maker = 0; number_seat = λ _. 0; is_ended = λ _. false } in
      let m : Meaning C = record { ticket = 0; serving = 0; ticket_seat = λ _. 0; log = []; numbers = numbers } in let v : V = first_view f clerks in record {
        meaning = m;
        words = refl;
        order = omega arith;
        short = omega arith;
        machine = inl record { machine = x; home = refl; history_is = new; frame_is = framed };
        each_seat = λ j y at. ⊎_elim (λ (h : get_elem? [] j ≡ some y). absurd (some-ne-none y (sym h))) (λ (t : (j ≡ 0) × (v ≡ y)). subst (λ (z : ℕ × V). Fits f clerks m z.0 z.1) (λ i. (sym t.0 i, t.1 i)) record {
          front = prefix_nil [];
          heard = prefix_nil [];
          setting = λ t e. let same : record { frame = f; clerks = clerks } ≡ t = cc in (ap (λ z. z.frame) (sym same), ap (λ z. z.clerks) (sym same));
          stage = tt;
          clerk = λ _. record { high = omega arith; seat = refl; over = refl; calls = refl; seen = refl };
          nobody = λ z. absurd (omega arith);
          count = λ _. (refl, refl);
          ended = All-nil (IsEnded numbers [] 0);
        }) (at_end [] v y j at);
        tickets = λ t low high. absurd (omega arith);
        numbers = record { makes = (v, refl, refl); some_made = omega arith; few_made = omega arith; each = λ k low high. (v, refl, omega arith) };
        all_made = All-nil (λ e. (0 < e.0) × (e.0 ≤ 1));
        seen = (0, v, refl, refl);
      }

  no_holder : (s : St) (r : Kept s) (id : ℕ) (v : V) → get_elem? s.views id ≡ some v → v.stage ≡ Idle → 0 < v.number → ((k : ℕ) → 0 < k → k ≤ clerks → (k ≡ v.number) ⊎ HasEnded k v.ended)
      → IsHeld r.meaning.serving (r.meaning.ticket_seat r.meaning.serving) r.meaning.log s.homes s.views → ⊥
  no_holder s r id v at idle mine all o = let m = r.meaning in let j : ℕ = m.ticket_seat m.serving in let h = r.each_seat j o.holder o.there in let q = r.each_seat id v at in
      dite (ℕ_discrete j id)
      (λ e. no_idle m.serving m.log (sym idle ∙ (ap (λ u. u.stage) (one_there s.views id j v o.holder (sym e) at o.there) ∙ o.serves)))
      (λ ne. dite (ℕ_discrete o.holder.number 0) (λ z. no_idle m.serving m.log (sym (h.nobody z).0 ∙ o.serves))
      (λ nz. let c = h.clerk (omega arith) in let high = c.high in let few = r.numbers.few_made in
      ⊎_elim (λ is. ne (sym c.seat ∙ (ap m.numbers.number_seat is ∙ (q.clerk mine).seat)))
      (λ t. true_false (sym (All-contains (IsEnded m.numbers m.log id) v.ended (o.holder.number, t.0) q.ended t.1).over ∙ c.over))
      (all o.holder.number (omega arith) (omega arith))))
    where
      true_false : true ≡ false → ⊥
      true_false e = cc

      no_idle : (t : ℕ) (l : List (ℕ × C)) → ◌≡◌ {A = Stage C} Idle (Serving t l) → ⊥
      no_idle t l e = cc

  -- the seat has taken in each clerk but its calls_by, so no one has a ticket, and the machine is in its slot
  pub closes : (ws : List ℕ) (xs : List (Option M)) (id : ℕ) (v : V) → Final (Seen Kept id v) ws xs → v.stage ≡ Idle → 0 < v.number → ((k : ℕ) → 0 < k → k ≤ clerks → (k ≡ v.number) ⊎ HasEnded k v.ended)
      → (x : M) × (get_elem? xs 0 ≡ some (Some x)) × (frame x ≡ f) × IsPrefix v.front (history x) × OnlyClerks clerks (history x) × (v.calls ≡ calls_by v.number (history x))
      × All (λ e. e.1 ≡ calls_by e.0 (history x)) v.ended
  closes ws xs id v final idle mine all = let s = final.0 in let r = final.1.0 in let at = final.1.1 in let m = r.meaning in let q = r.each_seat id v at in
      let i : IsInSlot history frame f m.log s.homes = ⊎_elim (λ i. i) (λ (o : IsHeld m.serving (m.ticket_seat m.serving) m.log s.homes s.views). absurd (no_holder s r id v at idle mine all o)) r.machine in (
        i.machine,
        final.4 0 (Some i.machine) (ap (λ hs. get_elem? hs 0) i.home),
        i.frame_is,
        subst (IsPrefix v.front) (sym i.history_is) q.front,
        subst (OnlyClerks clerks) (sym i.history_is) (All-weaker (λ e. (0 < e.0) × (e.0 ≤ m.numbers.made)) (λ e. (0 < e.0) × (e.0 ≤ clerks)) (λ e h. let g = h.1 in let few = r.numbers.few_made in (h.0, omega arith)) m.log r.all_made),
        (q.clerk mine).calls ∙ ap (calls_by v.number) (sym i.history_is),
        All-weaker (IsEnded m.numbers m.log id) (λ e. e.1 ≡ calls_by e.0 (history i.machine)) (λ e h. h.calls ∙ ap (calls_by e.0) (sym i.history_is)) v.ended q.ended,
      )
