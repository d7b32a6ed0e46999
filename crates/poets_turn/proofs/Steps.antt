-- Each step of a call keeps the rule of the turnstile.
use Rattle.std.proofs.Common.{◌≡◌, ◌≢◌, ℕ, ◌+◌, ◌<◌, ◌≤◌, eqb, Bool, true, false, List, [], ◌∷◌, ◌++◌, length, get_or, set, sym, refl, ap, ◌∙◌, subst, ⊎_elim, inl, inr, arith, Option, Some, None, length-append, eq-eqb, ne_eqb}
use Rattle.std.proofs.lemmas.List.{same_from_push}
use Rattle.std.proofs.lemmas.List.Elements.{All-weaker, All-push}
use mathlib.Core.Logic.{dite}
use mathlib.Core.List.{IsPrefix}
use mathlib.Core.Option.{none, some}
use mathlib.Core.Option as maybe
use native.Mathlib.Decide.{ℕ_discrete}
use lib.ListN.{get_elem?}
use lib.Seq.{set-get_or}
use prog.Atomic.{either}
use Rattle.atomic_table.specs.Table.{State, Me, step, keeps, takes, gives, stepped, homes_after, rest, Allows}
use Rattle.atomic_table.proofs.Lists.{set_again, set_here}
use Rattle.poets_machine.specs.Histories.{calls_by}
use Rattle.poets_machine.proofs.Histories.{own_added, own_kept}
use Rattle.poets_turn.specs.declared.view.View.{View}
use Rattle.poets_turn.specs.declared.view.Setting.{Setting}
use Rattle.poets_turn.specs.declared.view.Stage.{Stage}
use Rattle.poets_turn.specs.declared.view.Stage.TheVariants.{Idle, Waiting, Serving}
use Rattle.poets_turn.specs.Settings.{OnlyClerks}
use Rattle.poets_turn.specs.code.Turnstile.{Numbers, Meaning, FitsStage, HasTicket, HasEnded, longer, known, IsKnown, IsEnded, Fits, IsInSlot, IsHeld, HasNumber, TicketsHeld, NumbersHeld, Rule}
use Rattle.poets_turn.specs.code.Steps.{AfterDraw, AfterLook, AfterEntry, AfterPass, AfterSettling}
use Rattle.poets_turn.proofs.Fronts.{prefix_self, prefix_nil, prefix_trans, own_between, longer_one, longer_nil, longer_left}
use Rattle.poets_turn.proofs.Places.{put, put_here, put_else, at_below, one_there, still, each_stays}

module _ {C F : Type 0} where
  pub held_same : (b : Bool) (k : ℕ) (v w : View C F) → v.number ≡ w.number → v.ended ≡ w.ended → HasNumber b k v → HasNumber b k w
  held_same true k v w n e h = subst (HasEnded k) e h
  held_same false k v w n e h = sym n ∙ h

  -- a view that keeps its number, its count and those that it took in
  pub numbers_stay : (r : Numbers) (clerks : ℕ) (vs : List (View C F)) (id : ℕ) (v w : View C F) → get_elem? vs id ≡ some v → v.number ≡ w.number → v.count ≡ w.count → v.ended ≡ w.ended
      → NumbersHeld r clerks vs → NumbersHeld r clerks (set vs id w)
  numbers_stay r clerks vs id v w at n c e h = record {
    makes = still (λ (u : View C F). u.count ≡ r.made) vs id r.maker w (λ is. sym c ∙ (ap (λ u. u.count) (one_there vs id r.maker v h.makes.0 (sym is) at h.makes.1) ∙ h.makes.2)) h.makes;
    some_made = h.some_made;
    few_made = h.few_made;
    each = λ k low high. let old = h.each k low high in
        still (HasNumber (r.is_ended k) k) vs id (r.number_seat k) w
        (λ is. held_same (r.is_ended k) k v w n e (subst (HasNumber (r.is_ended k) k) (sym (one_there vs id (r.number_seat k) v old.0 (sym is) at old.1)) old.2)) old;
  }

  -- a view that keeps its ticket
  pub tickets_stay : (m : Meaning C) (vs : List (View C F)) (id : ℕ) (v w : View C F) → get_elem? vs id ≡ some v → ((t : ℕ) → HasTicket t v.stage → HasTicket t w.stage)
      → TicketsHeld m vs → TicketsHeld m (set vs id w)
  tickets_stay m vs id v w at same h t low high = let old = h t low high in
      still (λ (u : View C F). HasTicket t u.stage) vs id (m.ticket_seat t) w
      (λ is. same t (subst (λ (u : View C F). HasTicket t u.stage) (sym (one_there vs id (m.ticket_seat t) v old.0 (sym is) at old.1)) old.2)) old

  -- a view that keeps all that it has seen or heard of
  pub seen_stays : (log : List (ℕ × C)) (vs : List (View C F)) (id : ℕ) (v w : View C F) → get_elem? vs id ≡ some v → (known v ≡ log → known w ≡ log) → IsKnown log vs → IsKnown log (set vs id w)
  seen_stays log vs id v w at same h = let k = still (λ (u : View C F). known u ≡ log) vs id h.0 w (λ is. same (ap known (one_there vs id h.0 v h.1 (sym is) at h.2) ∙ h.3)) (h.1, h.2, h.3) in (h.0, k.0, k.1, k.2)

  -- the machine stays out with its holder
  pub out_stays : {M : Type 0} (serving seat : ℕ) (log : List (ℕ × C)) (homes : List (maybe.Option (Option M))) (vs : List (View C F)) (id : ℕ) (v w : View C F) → get_elem? vs id ≡ some v
      → (v.stage ≡ Serving serving log → w.stage ≡ Serving serving log) → IsHeld serving seat log homes vs → IsHeld serving seat log homes (set vs id w)
  out_stays serving seat log homes vs id v w at same o =
      let u = still (λ (u : View C F). u.stage ≡ Serving serving log) vs id seat w (λ is. same (ap (λ u. u.stage) (one_there vs id seat v o.holder (sym is) at o.there) ∙ o.serves)) (o.holder, o.there, o.serves) in
      record { holder = u.0; away = o.away; there = u.1; serves = u.2 }

module _ {C : Type 0} where
  pub all_below : (a b : ℕ) → a ≤ b → (log : List (ℕ × C)) → OnlyClerks a log → OnlyClerks b log
  all_below a b le log h = All-weaker (λ e. (0 < e.0) × (e.0 ≤ a)) (λ e. (0 < e.0) × (e.0 ≤ b)) (λ x p. let q = p.1 in (p.0, omega arith)) log h

module _ {M C F : Type 0} (history : M → List (ℕ × C)) (frame : M → F) (f : F) (clerks : ℕ) where
  abbrev V : Type 0
  V = View C F

  abbrev St : Type 0
  St = State (Option M) V

  abbrev K : Type 0
  K = Me (Option M) V

  abbrev Kept : St → Type 0
  Kept = Rule history frame f clerks

  -- a step that changes nothing
  unmoved : (s : St) (r : Kept s) (i id : ℕ) (cs : List (ℕ × Option M)) (v : V) → get_elem? s.views id ≡ some v → Kept (stepped s i (get_or s.words i 0) id cs v keeps)
  unmoved s r i id cs v at = subst (λ (x : List ℕ × List V). Kept record { words = x.0; homes = s.homes; views = x.1 }) (λ k. (sym (set-get_or s.words i 0) k, sym (set_again s.views id v at) k)) r

  -- a load that changes a view, which keeps its stage, its number, its count and those that it took in
  abbrev pub revised : (s : St) (r : Kept s) (id : ℕ) (v w : V) → get_elem? s.views id ≡ some v → w.stage ≡ v.stage → v.number ≡ w.number → v.count ≡ w.count → v.ended ≡ w.ended
      → Fits f clerks r.meaning id w → IsKnown r.meaning.log (set s.views id w) → Kept record { words = s.words; homes = s.homes; views = set s.views id w }
  revised s r id v w at stage n c e fits seen = record {
    meaning = r.meaning;
    words = r.words;
    order = r.order;
    short = r.short;
    machine = ⊎_elim (λ i. inl i) (λ o. inr (out_stays r.meaning.serving (r.meaning.ticket_seat r.meaning.serving) r.meaning.log s.homes s.views id v w at (λ is. stage ∙ is) o)) r.machine;
    each_seat = each_stays (Fits f clerks r.meaning) s.views id w fits (λ j u _. r.each_seat j u);
    tickets = tickets_stay r.meaning s.views id v w at (λ t. subst (HasTicket t) (sym stage)) r.tickets;
    numbers = numbers_stay r.meaning.numbers clerks s.views id v w at n c e r.numbers;
    all_made = r.all_made;
    seen = seen;
  }

  -- the ticket x is drawn
  drawn : (s : St) (r : Kept s) (x new id : ℕ) (cs : List (ℕ × Option M)) (v : V) → get_elem? s.views id ≡ some v → x ≡ r.meaning.ticket → new ≡ x + 1 → v.stage ≡ Idle → 0 < v.number
      → Kept (stepped s 0 new id cs (record v { stage = Waiting x }) keeps)
  drawn s r x new id cs v at is up idle some_number = let m = r.meaning in let w : V = record v { stage = Waiting x } in let q = r.each_seat id v at in
      let m' : Meaning C = record m { ticket = m.ticket + 1; ticket_seat = put m.ticket_seat x id } in
      let here : put m.ticket_seat x id x ≡ id = put_here m.ticket_seat x id in
      let else : (t : ℕ) → t < m.ticket → put m.ticket_seat x id t ≡ m.ticket_seat t = λ t l. put_else m.ticket_seat x id t (λ e. omega arith) in
      let order = r.order in
      record {
        meaning = m';
        words = ap (λ ws. set ws 0 new) r.words ∙ (λ i. (up ∙ ap (λ (k : ℕ). k + 1) is) i ∷ m.serving ∷ []);
        order = omega arith;
        short = r.short;
        machine = ⊎_elim (λ i. inl i) (λ (o : IsHeld m.serving (m.ticket_seat m.serving) m.log s.homes s.views).
            let at_holder = subst (FitsStage m (m.ticket_seat m.serving)) o.serves (r.each_seat (m.ticket_seat m.serving) o.holder o.there).stage in
            let o' = out_stays m.serving (m.ticket_seat m.serving) m.log s.homes s.views id v w at (λ (e : v.stage ≡ Serving m.serving m.log). absurd (no_idle m.serving m.log (sym idle ∙ e))) o in
            inr (subst (λ (k : ℕ). IsHeld m.serving k m.log s.homes (set s.views id w)) (sym (else m.serving at_holder.1)) o')) r.machine;
        each_seat = each_stays (Fits f clerks m') s.views id w
            record { front = q.front; heard = q.heard; setting = q.setting; stage = (omega (arith, is), omega (arith, is), here); clerk = q.clerk; nobody = λ z. absurd (omega arith); count = q.count; ended = q.ended }
            (λ j u other at'. let p = r.each_seat j u at' in
            record { front = p.front; heard = p.heard; setting = p.setting; stage = later m x id j (sym is) u.stage p.stage; clerk = p.clerk; nobody = p.nobody; count = p.count; ended = p.ended });
        tickets = λ t low high. dite (ℕ_discrete t x)
            (λ e. subst (λ (k : ℕ). (u : V) × (get_elem? (set s.views id w) (put m.ticket_seat x id k) ≡ some u) × HasTicket k u.stage) (sym e)
            (subst (λ (k : ℕ). (u : V) × (get_elem? (set s.views id w) k ≡ some u) × HasTicket x u.stage) (sym here)
            (w, set_here s.views id w (at_below s.views id v at), refl)))
            (λ ne. let below : t < m.ticket = omega arith in
            subst (λ (k : ℕ). (u : V) × (get_elem? (set s.views id w) k ≡ some u) × HasTicket t u.stage) (sym (else t below))
            (tickets_stay m s.views id v w at (λ t h. absurd (subst (HasTicket t) idle h)) r.tickets t low below));
        numbers = numbers_stay m.numbers clerks s.views id v w at refl refl refl r.numbers;
        all_made = r.all_made;
        seen = seen_stays m.log s.views id v w at (λ h. h) r.seen;
      }
    where
      no_idle : (t : ℕ) (l : List (ℕ × C)) → ◌≡◌ {A = Stage C} Idle (Serving t l) → ⊥
      no_idle t l e = cc

      later : (m : Meaning C) (x id j : ℕ) → m.ticket ≡ x → (st : Stage C) → FitsStage m j st → FitsStage (record m { ticket = m.ticket + 1; ticket_seat = put m.ticket_seat x id }) j st
      later m x id j is Idle a = tt
      later m x id j is (Waiting t) a = let b = a.1 in (a.0, omega arith, put_else m.ticket_seat x id t (λ e. omega arith) ∙ a.2)
      later m x id j is (Serving t l) a = let b = a.1 in (a.0, omega arith, put_else m.ticket_seat x id t (λ e. omega arith) ∙ a.2, a.3)

  pub draws : (slots id : ℕ) (me : K) (old new : ℕ) → new ≡ old + 1 → me.0.stage ≡ Idle → 0 < me.0.number → Allows Kept slots id me 0 (λ x. either (eqb x old) new x) (AfterDraw (step slots 0 old new none) me)
  draws slots id me old new up idle some_number s r _ at _ = let x : ℕ = get_or s.words 0 0 in let w : V = record me.0 { stage = Waiting x } in dite (ℕ_discrete x old)
      (λ hit. (
        w,
        keeps,
        tt,
        subst (λ b. Kept (stepped s 0 (either b new x) id me.1 w keeps)) (sym (eq-eqb x old hit))
            (drawn s r x new id me.1 me.0 at (ap (λ ws. get_or ws 0 0) r.words) (up ∙ ap (λ (k : ℕ). k + 1) (sym hit)) idle some_number),
        ((λ _. refl), λ miss. absurd (miss hit)),
      ))
      (λ miss. (
        me.0,
        keeps,
        tt,
        subst (λ b. Kept (stepped s 0 (either b new x) id me.1 me.0 keeps)) (sym (ne_eqb x old miss)) (unmoved s r 0 id me.1 me.0 at),
        ((λ hit. absurd (miss hit)), λ _. refl),
      ))

  -- the ticket t is served, and the machine x comes into hand
  gotten : (s : St) (r : Kept s) (t id : ℕ) (cs : List (ℕ × Option M)) (v : V) (x : M) → get_elem? s.views id ≡ some v → v.stage ≡ Waiting t → t ≡ r.meaning.serving
      → s.homes ≡ some (Some x) ∷ [] → history x ≡ r.meaning.log → Kept (stepped s 1 (get_or s.words 1 0) id cs (record v { stage = Serving t (history x) }) (takes 0 (Some x)))
  gotten s r t id cs v x at waits now home same = let m = r.meaning in let w : V = record v { stage = Serving t (history x) } in let q = r.each_seat id v at in
      let mine = subst (FitsStage m id) waits q.stage in
      let there : get_elem? (set s.views id w) (m.ticket_seat m.serving) ≡ some w =
      subst (λ (k : ℕ). get_elem? (set s.views id w) k ≡ some w) (sym mine.2 ∙ ap m.ticket_seat now) (set_here s.views id w (at_below s.views id v at)) in
      subst (λ (ws : List ℕ). Kept record { words = ws; homes = set s.homes 0 none; views = set s.views id w }) (sym (set-get_or s.words 1 0)) record {
        meaning = m;
        words = r.words;
        order = r.order;
        short = r.short;
        machine = inr record { holder = w; away = ap (λ hs. set hs 0 none) home; there = there; serves = λ i. Serving (now i) (same i) };
        each_seat = each_stays (Fits f clerks m) s.views id w
            record { front = q.front; heard = q.heard; setting = q.setting; stage = (now, mine.1, mine.2, same); clerk = q.clerk; nobody = λ z. absurd (no_waiting t (sym waits ∙ (q.nobody z).0)); count = q.count; ended = q.ended }
            (λ j u _. r.each_seat j u);
        tickets = tickets_stay m s.views id v w at (λ k h. subst (HasTicket k) waits h) r.tickets;
        numbers = numbers_stay m.numbers clerks s.views id v w at refl refl refl r.numbers;
        all_made = r.all_made;
        seen = seen_stays m.log s.views id v w at (λ h. h) r.seen;
      }
    where
      no_waiting : (t : ℕ) → ◌≡◌ {A = Stage C} (Waiting t) Idle → ⊥
      no_waiting t e = cc

  -- a ticket that is served while its seat waits finds the machine at home
  at_home : (s : St) (r : Kept s) (t id : ℕ) (v : V) → get_elem? s.views id ≡ some v → v.stage ≡ Waiting t → t ≡ r.meaning.serving → IsInSlot history frame f r.meaning.log s.homes
  at_home s r t id v at waits now = let m = r.meaning in let mine = subst (FitsStage m id) waits (r.each_seat id v at).stage in
      ⊎_elim (λ i. i) (λ (o : IsHeld m.serving (m.ticket_seat m.serving) m.log s.homes s.views).
      let e : id ≡ m.ticket_seat m.serving = sym mine.2 ∙ ap m.ticket_seat now in
      absurd (apart t m.serving m.log (sym waits ∙ (ap (λ u. u.stage) (one_there s.views id (m.ticket_seat m.serving) v o.holder e at o.there) ∙ o.serves)))) r.machine
    where
      apart : (t u : ℕ) (l : List (ℕ × C)) → ◌≡◌ {A = Stage C} (Waiting t) (Serving u l) → ⊥
      apart t u l e = cc

  waiting_for : Stage C → ℕ
  waiting_for Idle = 0
  waiting_for (Waiting t) = t
  waiting_for (Serving t l) = t

  numbered : (s : St) (r : Kept s) (id : ℕ) (v : V) → get_elem? s.views id ≡ some v → (u : Setting F) → v.setting ≡ Some u → v.number ≤ u.clerks
  numbered s r id v at u has = let q = r.each_seat id v at in let z = q.setting u has in let few = r.numbers.few_made in let all = z.1 in dite (ℕ_discrete v.number 0) (λ e. omega arith)
      (λ ne. let high = (q.clerk (omega arith)).high in omega arith)

  pub looks : (slots id : ℕ) (me : K) (t : ℕ) → me.0.stage ≡ Waiting t → me.1 ≡ [] → Allows Kept slots id me 1 (λ x. x) (AfterLook history frame (step slots 1 0 0 none) me)
  looks slots id me t waits empty s r _ at _ = let m = r.meaning in let x : ℕ = get_or s.words 1 0 in let is : x ≡ m.serving = ap (λ ws. get_or ws 1 0) r.words in dite (ℕ_discrete x t)
      (λ hit. let now : t ≡ m.serving = sym hit ∙ is in let i = at_home s r t id me.0 at waits now in let q = r.each_seat id me.0 at in
      let w : V = record me.0 { stage = Serving t (history i.machine) } in (
        w,
        takes 0 (Some i.machine),
        ap (λ hs. get_elem? hs 0) i.home,
        gotten s r t id me.1 me.0 i.machine at waits now i.home i.history_is,
        λ u other. let e : t ≡ u = cc in (
          (λ here. (
            i.machine,
            λ k. (record me.0 { stage = Serving (e k) (history i.machine) }, (0, Some i.machine) ∷ empty k),
            record {
              setting = λ a b. let z = q.setting a b in (i.frame_is ∙ sym z.0, subst (OnlyClerks a.clerks) (sym i.history_is) (all_below m.numbers.made a.clerks (let h = r.numbers.few_made in let g = z.1 in omega arith) m.log r.all_made), numbered s r id me.0 at a b);
              front = subst (λ l. IsPrefix me.0.front l) (sym i.history_is) q.front;
              calls = λ low. let c = q.clerk low in (ap (calls_by me.0.number) i.history_is ∙ sym c.calls, c.seen);
              short = let h = r.short in let g = ap length i.history_is in omega (arith, e);
            },
          )),
          λ miss. absurd (miss (hit ∙ e)),
        ),
      ))
      (λ miss. (
        me.0,
        keeps,
        tt,
        unmoved s r 1 id me.1 me.0 at,
        λ u other. let e : t ≡ u = cc in ((λ hit. absurd (miss (hit ∙ sym e))), λ _. refl),
      ))

  one_home : (s : St) (r : Kept s) → (h : maybe.Option (Option M)) × (s.homes ≡ h ∷ [])
  one_home s r = ⊎_elim (λ i. (some (Some i.machine), i.home)) (λ o. (none, o.away)) r.machine

  -- the seat with the view v serves in the turn t, and hands over the machine x
  module _ (s : St) (r : Kept s) (t next id : ℕ) (l : List (ℕ × C)) (cs : List (ℕ × Option M)) (v : V) (x : M) (at : get_elem? s.views id ≡ some v)
      (serves : v.stage ≡ Serving t l) (up : next ≡ t + 1) (carried : cs ≡ (0, Some x) ∷ []) where
    -- the machine goes back, and the turn to the next ticket
    handed : (seen_now : List (ℕ × C)) (mine : List C) → frame x ≡ f → IsPrefix r.meaning.log (history x) → length (history x) ≤ r.meaning.serving + 1 → OnlyClerks r.meaning.numbers.made (history x)
        → IsPrefix seen_now (history x) → (calls_by v.number seen_now ≡ mine) × (mine ≡ calls_by v.number (history x)) → ((k : ℕ) → k ≢ v.number → calls_by k (history x) ≡ calls_by k r.meaning.log)
        → IsKnown (history x) (set s.views id (record v { stage = Idle; front = seen_now; calls = mine })) → Kept (stepped s 1 next id cs (record v { stage = Idle; front = seen_now; calls = mine }) gives)
    handed seen_now mine framed longer short all front calls others seen = let m = r.meaning in let q = r.each_seat id v at in
        let w : V = record v { stage = Idle; front = seen_now; calls = mine } in
        let turn = subst (FitsStage m id) serves q.stage in
        let at_turn : m.ticket_seat m.serving ≡ id = ap m.ticket_seat (sym turn.0) ∙ turn.2 in
        let some_number : 0 < v.number = dite (ℕ_discrete v.number 0) (λ z. absurd (no_serving t l (sym serves ∙ (q.nobody z).0))) (λ ne. omega arith) in
        let clerk = q.clerk some_number in
        let order = r.order in let t_is = turn.0 in let t_low = turn.1 in
        let m' : Meaning C = record m { serving = m.serving + 1; log = history x } in
        let home = one_home s r in
        let back : homes_after s.homes cs gives ≡ some (Some x) ∷ [] = ap (λ c. homes_after s.homes c gives) carried ∙ ap (λ hs. set hs 0 (some (Some x))) home.1 in
        record {
          meaning = m';
          words = ap (λ ws. set ws 1 next) r.words ∙ (λ i. m.ticket ∷ (up ∙ ap (λ (k : ℕ). k + 1) t_is) i ∷ []);
          order = omega arith;
          short = short;
          machine = inl record { machine = x; home = back; history_is = refl; frame_is = framed };
          each_seat = each_stays (Fits f clerks m') s.views id w
              record {
                front = front;
                heard = prefix_trans v.heard m.log (history x) q.heard longer;
                setting = q.setting;
                stage = tt;
                clerk = λ _. record { high = clerk.high; seat = clerk.seat; over = clerk.over; calls = calls.1; seen = calls.0 };
                nobody = λ z. absurd (omega arith);
                count = q.count;
                ended = All-weaker (IsEnded m.numbers m.log id) (IsEnded m.numbers (history x) id)
                    (λ e h. record { low = h.low; high = h.high; seat = h.seat; over = h.over; calls = h.calls ∙ sym (others e.0 (λ same. true_false (sym h.over ∙ (ap m.numbers.is_ended same ∙ clerk.over)))) }) v.ended q.ended;
              }
              (λ j u other at'. let p = r.each_seat j u at' in record {
                front = prefix_trans u.front m.log (history x) p.front longer;
                heard = prefix_trans u.heard m.log (history x) p.heard longer;
                setting = p.setting;
                stage = later m (history x) j (λ e. other (sym e ∙ at_turn)) u.stage p.stage;
                clerk = λ low. let c = p.clerk low in record {
                  high = c.high;
                  seat = c.seat;
                  over = c.over;
                  calls = c.calls ∙ sym (others u.number (λ same. other (sym c.seat ∙ (ap m.numbers.number_seat same ∙ clerk.seat))));
                  seen = c.seen;
                };
                nobody = p.nobody;
                count = p.count;
                ended = All-weaker (IsEnded m.numbers m.log j) (IsEnded m.numbers (history x) j)
                    (λ e h. record { low = h.low; high = h.high; seat = h.seat; over = h.over; calls = h.calls ∙ sym (others e.0 (λ same. other (sym h.seat ∙ (ap m.numbers.number_seat same ∙ clerk.seat)))) }) u.ended p.ended;
              });
          tickets = λ k low high. let old = r.tickets k (omega arith) high in
              still (λ (u : V). HasTicket k u.stage) s.views id (m.ticket_seat k) w
              (λ is. let had : HasTicket k v.stage = subst (λ (u : V). HasTicket k u.stage) (sym (one_there s.views id (m.ticket_seat k) v old.0 (sym is) at old.1)) old.2 in
              let same : t ≡ k = subst (HasTicket k) serves had in absurd (omega arith)) old;
          numbers = numbers_stay m.numbers clerks s.views id v w at refl refl refl r.numbers;
          all_made = all;
          seen = seen;
        }
      where
        no_serving : (t : ℕ) (l : List (ℕ × C)) → ◌≡◌ {A = Stage C} (Serving t l) Idle → ⊥
        no_serving t l e = cc

        true_false : true ≡ false → ⊥
        true_false e = cc

        later : (m : Meaning C) (log : List (ℕ × C)) (j : ℕ) → (m.ticket_seat m.serving ≢ j) → (st : Stage C) → FitsStage m j st → FitsStage (record m { serving = m.serving + 1; log = log }) j st
        later m log j other Idle a = tt
        later m log j other (Waiting k) a = let b = a.0 in (dite (ℕ_discrete k m.serving) (λ e. absurd (other (ap m.ticket_seat (sym e) ∙ a.2))) (λ ne. omega arith), a.1, a.2)
        later m log j other (Serving k l) a = absurd (other (ap m.ticket_seat (sym a.0) ∙ a.2))

  abbrev machine_or : M → Option M → M
  machine_or d (Some x) = x
  machine_or d None = d

  abbrev in_hand : M → List (ℕ × Option M) → M
  in_hand d [] = d
  in_hand d (e ∷ es) = machine_or d e.1

  abbrev stage_log : Stage C → List (ℕ × C)
  stage_log Idle = []
  stage_log (Waiting t) = []
  stage_log (Serving t l) = l

  -- the seat serves in the turn t, with the machine x in its hand
  module _ (slots id : ℕ) (me : K) (t next : ℕ) (l : List (ℕ × C)) (x : M) (u : Setting F) (serves : me.0.stage ≡ Serving t l) (carried : me.1 ≡ (0, Some x) ∷ [])
      (up : next ≡ t + 1) (has : me.0.setting ≡ Some u) (framed : frame x ≡ u.frame) where
    no_serving : (t : ℕ) (l : List (ℕ × C)) → ◌≡◌ {A = Stage C} (Serving t l) Idle → ⊥
    no_serving t l e = cc

    pub enters : (c : C) → history x ≡ l ++ (me.0.number, c) ∷ [] → Allows Kept slots id me 1 (λ _. next) (λ _. AfterEntry history (step slots 1 next 0 none) me next)
    enters c adds s r _ at _ = let m = r.meaning in let v = me.0 in let q = r.each_seat id v at in
        let turn = subst (FitsStage m id) serves q.stage in
        let some_number : 0 < v.number = dite (ℕ_discrete v.number 0) (λ z. absurd (no_serving t l (sym serves ∙ (q.nobody z).0))) (λ ne. omega arith) in
        let clerk = q.clerk some_number in let high = clerk.high in let short = r.short in
        let to : history x ≡ m.log ++ (v.number, c) ∷ [] = adds ∙ ap (λ z. z ++ (v.number, c) ∷ []) turn.3 in
        let mine : v.calls ++ c ∷ [] ≡ calls_by v.number (history x) = ap (λ z. z ++ c ∷ []) clerk.calls ∙ (sym (own_added v.number m.log c) ∙ ap (calls_by v.number) (sym to)) in (
          record v { stage = Idle; front = history x; calls = v.calls ++ c ∷ [] },
          gives,
          tt,
          handed s r t next id l me.1 v x at serves up carried (history x) (v.calls ++ c ∷ []) (framed ∙ (q.setting u has).0) ((v.number, c) ∷ [], sym to)
              (let e = ap length to in let n = length-append m.log ((v.number, c) ∷ []) in omega arith)
              (subst (OnlyClerks m.numbers.made) (sym to) (All-push (λ e. (0 < e.0) × (e.0 ≤ m.numbers.made)) m.log (v.number, c) r.all_made (some_number, high)))
              (prefix_self (history x)) (sym mine, mine) (λ k ne. ap (calls_by k) to ∙ own_kept k v.number m.log c (λ e. ne (sym e)))
              (let w : V = record v { stage = Idle; front = history x; calls = v.calls ++ c ∷ [] } in
              (id, w, set_here s.views id w (at_below s.views id v at), longer_left (history x) v.heard (history x) (prefix_trans v.heard m.log (history x) q.heard ((v.number, c) ∷ [], sym to)) refl)),
          λ t' l' x' c' serves' carried' adds'.
              let same_log : l ≡ l' = ap stage_log (sym serves ∙ serves') in
              let same_x : x ≡ x' = ap (in_hand x) (sym carried ∙ carried') in
              let e : history x ≡ history x' = ap history same_x in
              let same_c : c ≡ c' = ap (λ p. p.1) (same_from_push l l (v.number, c) (v.number, c') (sym adds ∙ (e ∙ (adds' ∙ ap (λ z. z ++ (v.number, c') ∷ []) (sym same_log))))).1 in
              λ i. (record v { stage = Idle; front = e i; calls = v.calls ++ same_c i ∷ [] }, rest (carried i)),
        )

    pub passes : history x ≡ l → Allows Kept slots id me 1 (λ _. next) (λ _. AfterPass (step slots 1 next 0 none) me next)
    passes same s r _ at _ = let m = r.meaning in let v = me.0 in let q = r.each_seat id v at in
        let turn = subst (FitsStage m id) serves q.stage in
        let some_number : 0 < v.number = dite (ℕ_discrete v.number 0) (λ z. absurd (no_serving t l (sym serves ∙ (q.nobody z).0))) (λ ne. omega arith) in
        let clerk = q.clerk some_number in let short = r.short in
        let to : history x ≡ m.log = same ∙ turn.3 in (
          record v { stage = Idle },
          gives,
          tt,
          handed s r t next id l me.1 v x at serves up carried v.front v.calls (framed ∙ (q.setting u has).0) (subst (IsPrefix m.log) (sym to) (prefix_self m.log))
              (let e = ap length to in omega arith) (subst (OnlyClerks m.numbers.made) (sym to) r.all_made) (subst (IsPrefix v.front) (sym to) q.front)
              (clerk.seen, clerk.calls ∙ ap (calls_by v.number) (sym to)) (λ k ne. ap (calls_by k) to)
              (subst (λ l. IsKnown l (set s.views id (record v { stage = Idle }))) (sym to) (seen_stays m.log s.views id v (record v { stage = Idle }) at (λ h. h) r.seen)),
          λ i. (record v { stage = Idle }, rest (carried i)),
        )

  -- the front takes in what was heard
  pub settles : (slots id : ℕ) (me : K) → Allows Kept slots id me 1 (λ x. x) (AfterSettling (step slots 1 0 0 none) me)
  settles slots id me s r _ at _ = let m = r.meaning in let v = me.0 in let q = r.each_seat id v at in
      let both = longer_one v.front v.heard m.log q.front q.heard in
      let w : V = record v { front = longer v.front v.heard; heard = [] } in (
        w,
        keeps,
        tt,
        subst (λ (ws : List ℕ). Kept record { words = ws; homes = s.homes; views = set s.views id w }) (sym (set-get_or s.words 1 0))
            (revised s r id v w at refl refl refl refl record {
              front = both.2;
              heard = prefix_nil m.log;
              setting = q.setting;
              stage = q.stage;
              clerk = λ low. let c = q.clerk low in record { high = c.high; seat = c.seat; over = c.over; calls = c.calls; seen = own_between v.number v.front (longer v.front v.heard) m.log both.0 both.2 (c.seen ∙ c.calls) ∙ c.seen };
              nobody = q.nobody;
              count = q.count;
              ended = q.ended;
            } (seen_stays m.log s.views id v w at (λ h. longer_nil (longer v.front v.heard) ∙ h) r.seen)),
        (refl, both.0, both.1),
      )
