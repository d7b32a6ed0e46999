-- Watches under a ledger that grows.
use Rattle.std.proofs.Common.{◌≡◌, ℕ, zero, suc, List, [], ◌∷◌, ◌++◌, Some, length, slice_get, refl, sym, ◌∙◌, ap, subst}
use Rattle.std.specs.List.{AllZip}
use Rattle.std.proofs.lemmas.List.{map-append}
use Rattle.poets_value.specs.declared.value.Name.{Name}
use Rattle.poets_value.specs.declared.event.Event.{Event}
use Rattle.poets_expr.specs.Expression.{Expression}
use Rattle.poets_live.specs.declared.watch.Move.{Move}
use Rattle.poets_live.specs.declared.watch.Move.TheVariants as M
use Rattle.poets_report.specs.Reports.{report_of}
use Rattle.poets_live.specs.Watching.{WatchView, Follows, AllBrought, Leads, AllLead, Moved, AllMoved}
use Rattle.poets_rules.specs.declared.rules.Rules.{Rules}
use Rattle.poets_rules.specs.Rules.{book_of_rules}
use Rattle.poets_history.specs.Ledger.{Ledger, events}
use Rattle.poets_engine.specs.Store.{StoreView}
use Rattle.poets_engine.specs.Rows.{WatchIs}
use Rattle.poets_engine.proofs.Rows.{with_log}
use Rattle.poets_engine.proofs.Zipped.{AllZip-last}

module _ (rules : Rules) where
  -- a watch that follows the events of one ledger follows those of another with the same events
  watch_same : (l m : Ledger) → events m ≡ events l → (asked : Name × List Expression) (w : WatchView) → WatchIs rules l asked w → WatchIs rules m asked w
  watch_same l m same asked w h = record {
    report = h.report;
    args = h.args;
    follows = subst (λ s. Follows (book_of_rules rules).declared s w) (sym same) h.follows;
  }

  each_same : (l m : Ledger) → events m ≡ events l → (asked : List (Name × List Expression)) (ws : List WatchView) → AllZip (WatchIs rules l) asked ws → AllZip (WatchIs rules m) asked ws
  each_same l m same [] [] h = tt
  each_same l m same [] (w ∷ ws) h = elim h [ ]
  each_same l m same (x ∷ asked) [] h = elim h [ ]
  each_same l m same (x ∷ asked) (w ∷ ws) h = (watch_same l m same x w h.0, each_same l m same asked ws h.1)

  pub watches_same : (l m : Ledger) → events m ≡ events l → (old new : StoreView) → new.watches ≡ old.watches →
      AllZip (WatchIs rules l) l.watches old.watches → AllZip (WatchIs rules m) l.watches new.watches
  watches_same l m same old new e h = subst (AllZip (WatchIs rules m) l.watches) (sym e) (each_same l m same l.watches old.watches h)

  -- a watch that moved is of the same report and arguments
  moved_report : (w : WatchView) (step : Move) (w' : WatchView) → Moved w step w' → (w'.report ≡ w.report) × (w'.args ≡ w.args)
  moved_report w (M.More c) w' m = (m.report, m.args)
  moved_report w (M.Other course) w' m = (ap (λ v. v.report) m, ap (λ v. v.args) m)

  -- a watch that is led to the events of another ledger follows them
  watch_led : (l m : Ledger) (asked : Name × List Expression) (w : WatchView) (step : Move) (w' : WatchView) →
      WatchIs rules l asked w → Leads (book_of_rules rules).declared (events m) w step → Moved w step w' → WatchIs rules m asked w'
  watch_led l m asked w step w' h leads moved =
      let kept = moved_report w step w' moved in
      record {
        report = h.report ∙ ap (λ r. Some (report_of r)) (sym kept.0);
        args = kept.1 ∙ h.args;
        follows = leads w' moved;
      }

  each_led : (l m : Ledger) (asked : List (Name × List Expression)) (old : List WatchView) (moves : List Move) (new : List WatchView) →
      AllZip (WatchIs rules l) asked old → AllLead (book_of_rules rules).declared (events m) old moves → AllMoved old moves new → AllZip (WatchIs rules m) asked new
  each_led l m [] [] [] [] h b moved = tt
  each_led l m [] [] [] (w' ∷ new) h b moved = elim moved [ ]
  each_led l m [] [] (c ∷ moves) new h b moved = elim b [ ]
  each_led l m [] (w ∷ old) moves new h b moved = elim h [ ]
  each_led l m (x ∷ asked) [] moves new h b moved = elim h [ ]
  each_led l m (x ∷ asked) (w ∷ old) [] new h b moved = elim b [ ]
  each_led l m (x ∷ asked) (w ∷ old) (c ∷ moves) [] h b moved = elim moved [ ]
  each_led l m (x ∷ asked) (w ∷ old) (c ∷ moves) (w' ∷ new) h b moved =
      (watch_led l m x w c w' h.0 b.0 moved.0, each_led l m asked old moves new h.1 b.1 moved.1)

  -- watches that are led to the events of another ledger are those of it
  pub watches_led : (l m : Ledger) (old new : StoreView) (moves : List Move) → AllLead (book_of_rules rules).declared (events m) old.watches moves →
      AllMoved old.watches moves new.watches → AllZip (WatchIs rules l) l.watches old.watches → AllZip (WatchIs rules m) l.watches new.watches
  watches_led l m old new moves leads moved h = each_led l m l.watches old.watches moves new.watches h leads moved

  brought_leads : (l : Ledger) (e : Event) (asked : List (Name × List Expression)) (old : List WatchView) (moves : List Move) →
      AllZip (WatchIs rules l) asked old → AllBrought (book_of_rules rules).declared e old moves → AllLead (book_of_rules rules).declared (events l ++ e ∷ []) old moves
  brought_leads l e [] [] [] h b = tt
  brought_leads l e [] [] (c ∷ moves) h b = elim b [ ]
  brought_leads l e [] (w ∷ old) moves h b = elim h [ ]
  brought_leads l e (x ∷ asked) [] moves h b = elim h [ ]
  brought_leads l e (x ∷ asked) (w ∷ old) [] h b = elim b [ ]
  brought_leads l e (x ∷ asked) (w ∷ old) (c ∷ moves) h b = (b.0 (events l) h.0.follows, brought_leads l e asked old moves h.1 b.1)

  pub watches_recorded : (l : Ledger) (n : ℕ) (e : Event) (old new : StoreView) (moves : List Move) →
      AllBrought (book_of_rules rules).declared e old.watches moves → AllMoved old.watches moves new.watches →
      AllZip (WatchIs rules l) l.watches old.watches → AllZip (WatchIs rules (with_log l n e)) l.watches new.watches
  watches_recorded l n e old new moves b m h =
      watches_led l (with_log l n e) old new moves
      (subst (λ s. AllLead (book_of_rules rules).declared s old.watches moves) (sym (map-append (λ p. p.1) l.log ((n, e) ∷ [])))
      (brought_leads l e l.watches old.watches moves h b)) m h

  -- one watch more
  abbrev pub with_watch : Ledger → Name → List Expression → Ledger
  with_watch l x args = record l { watches = l.watches ++ (x, args) ∷ [] }

  pub watches_begun : (l m : Ledger) → events m ≡ events l → (old : List WatchView) (x : Name) (args : List Expression) (w : WatchView) →
      AllZip (WatchIs rules l) l.watches old → WatchIs rules m (x, args) w → AllZip (WatchIs rules m) (l.watches ++ (x, args) ∷ []) (old ++ w ∷ [])
  watches_begun l m same old x args w h k = AllZip-last (WatchIs rules m) l.watches old (x, args) w (each_same l m same l.watches old h) k

  -- as many as were asked for
  pub as_many : (l : Ledger) (asked : List (Name × List Expression)) (ws : List WatchView) → AllZip (WatchIs rules l) asked ws → length asked ≡ length ws
  as_many l [] [] h = refl
  as_many l [] (w ∷ ws) h = elim h [ ]
  as_many l (x ∷ asked) [] h = elim h [ ]
  as_many l (x ∷ asked) (w ∷ ws) h = ap suc (as_many l asked ws h.1)

  -- the watch at a place, as it was asked for
  abbrev pub WatchAt : Ledger → List (Name × List Expression) → ℕ → WatchView → Type 0
  WatchAt l asked place w = (x : Name × List Expression) × (slice_get asked place ≡ Some x) × WatchIs rules l x w

  pub watch_there : (l : Ledger) (asked : List (Name × List Expression)) (ws : List WatchView) (place : ℕ) (w : WatchView) →
      AllZip (WatchIs rules l) asked ws → slice_get ws place ≡ Some w → WatchAt l asked place w
  watch_there l [] [] place w h e = absurd cc
  watch_there l [] (v ∷ ws) place w h e = elim h [ ]
  watch_there l (x ∷ asked) [] place w h e = elim h [ ]
  watch_there l (x ∷ asked) (v ∷ ws) zero w h e = (x, refl, subst (WatchIs rules l x) (let z : v ≡ w = cc in z) h.0)
  watch_there l (x ∷ asked) (v ∷ ws) (suc place) w h e = watch_there l asked ws place w h.1 e
