-- What becomes of a contract piece by piece.
use Rattle.std.proofs.Common.{◌≡◌, ℕ, ◌+◌, ◌-◌, ◌≤◌, List, [], ◌∷◌, ◌++◌, Some, fold, slice_get, take, drop, sym, ◌∙◌, ap, subst, arith, append-nil, append_assoc}
use Rattle.std.proofs.lemmas.List.{take-append-drop}
use Rattle.poets_value.specs.declared.event.Event.{Event}
use Rattle.poets_syntax.specs.Contract.{Contract}
use Rattle.poets_meaning.specs.Studied.{StudiedBook}
use Rattle.poets_cons.specs.declared.node.Node.{Node}
use Rattle.poets_cons.specs.Table.{contract_of_rows}
use Rattle.poets_table.specs.Pieces.{joined}
use Rattle.poets_command.specs.Plain.{Reply}
use Rattle.poets_engine.specs.code.Judgements.{Refused, Owed}
use Rattle.poets_engine.specs.code.Renewals.{HaveFirst, ArePoints, by_event, by_events, asked_along, residual_from}
use Rattle.poets_engine.proofs.Points.{between, between-more, between-none, joined-append, points-last}
use Rattle.poets_engine.proofs.Renewing.{by_events-append, residual_is, asked_along-append, asked_front, refused_stays}

-- ahead of the first piece nothing was made yet
pub none_made : (s : StudiedBook) (c : Contract) (n : ℕ) (pieces : List (List Event)) (first points : List (List Node)) → points ≡ first → HaveFirst s c (between n n pieces) first points
none_made s c n pieces first points e = record {
  later = [];
  joined = e ∙ sym (append-nil first);
  are = subst (λ ps. ArePoints s c ps []) (sym (between-none n pieces)) tt;
}

-- one piece more, ahead of which d is owed
module _ (s : StudiedBook) (c : Contract) (n place : ℕ) (pieces : List (List Event)) (piece : List Event) (le : n ≤ place) (here : slice_get pieces place ≡ Some piece)
    (d : Contract) (kept : by_events s c (joined (between n place pieces)) ≡ Owed d) where
  -- the events up to it, and with it
  abbrev so_far : List Event
  so_far = joined (between n place pieces)

  abbrev with_it : List Event
  with_it = joined (between n (place + 1) pieces)

  more : with_it ≡ so_far ++ piece
  more =
      ap joined (between-more n place pieces piece le here) ∙ joined-append (between n place pieces) (piece ∷ [])
      ∙ ap (λ es. so_far ++ es) (append-nil piece)

  owed : d ≡ residual_from s c so_far
  owed = residual_is s so_far c d kept

  pub piece_judged : by_events s c with_it ≡ by_events s d piece
  piece_judged = ap (by_events s c) more ∙ by_events-append s c so_far piece ∙ ap (λ j. fold (by_event s) j piece) kept

  pub piece_asked : asked_along s c with_it ≡ asked_along s c so_far + asked_along s d piece
  piece_asked =
      ap (asked_along s c) more ∙ asked_along-append s c so_far piece
      ∙ ap (λ x. asked_along s c so_far + asked_along s x piece) (sym owed)

  whole : joined (drop n pieces) ≡ with_it ++ joined (drop (place + 1 - n) (drop n pieces))
  whole =
      ap joined (sym (take-append-drop (place + 1 - n) (drop n pieces)))
      ∙ joined-append (between n (place + 1) pieces) (drop (place + 1 - n) (drop n pieces))

  -- a refusal by it is the refusal of all
  pub piece_refused : (reply : Reply) → by_events s d piece ≡ Refused reply → by_events s c (joined (drop n pieces)) ≡ Refused reply
  piece_refused reply refused =
      let rest = joined (drop (place + 1 - n) (drop n pieces)) in
      ap (by_events s c) whole ∙ by_events-append s c with_it rest ∙ ap (λ j. fold (by_event s) j rest) (piece_judged ∙ refused) ∙ refused_stays s reply rest

  -- and asks no more than all do
  pub piece_within : asked_along s c so_far + asked_along s d piece ≤ asked_along s c (joined (drop n pieces))
  piece_within =
      let rest = joined (drop (place + 1 - n) (drop n pieces)) in
      let front = subst (λ es. asked_along s c with_it ≤ asked_along s c es) (sym whole) (asked_front s c with_it rest) in
      let asked = piece_asked in
      omega (arith, front, asked)

  pub piece_point : (first points new : List (List Node)) (point : List Node) → HaveFirst s c (between n place pieces) first points → new ≡ points ++ point ∷ [] →
      contract_of_rows point ≡ d → HaveFirst s c (between n (place + 1) pieces) first new
  piece_point first points new point h e is = record {
    later = h.later ++ point ∷ [];
    joined = e ∙ ap (λ ps. ps ++ point ∷ []) h.joined ∙ append_assoc first h.later (point ∷ []);
    are = subst (λ ps. ArePoints s c ps (h.later ++ point ∷ [])) (sym (between-more n place pieces piece le here))
        (points-last s c (between n place pieces) h.later piece point h.are (is ∙ owed));
  }
