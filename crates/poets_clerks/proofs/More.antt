-- What one more answer adds.
use Rattle.std.proofs.Common.{◌≡◌, ℕ, ◌+◌, ◌<◌, List, [], ◌∷◌, ◌++◌, length, map, take, get_or, append_assoc, ap, sym, ◌∙◌, subst, arith}
use Rattle.std.proofs.lemmas.List.{map_more, map_push, get_or-map, length-map}
use mathlib.Core.List.{IsPrefix}
use Rattle.poets_turn.proofs.Fronts.{prefix_trans, prefix_length}
use Rattle.poets_clerks.specs.Scripts.{IsAnswerAt, IsAnswered, AreAnswers}

module _ {C R : Type 0} (answers : List (ℕ × C) → ℕ → C → R → Type 0) where
  answer_stays : (saw saw' : List (ℕ × C)) (k : ℕ) (c : C) (p : ℕ) (r : R) → IsPrefix saw saw' → IsAnswerAt answers saw k c p r → IsAnswerAt answers saw' k c p r
  answer_stays saw saw' k c p r pre h = record { before = h.before; at = h.at; here = prefix_trans (h.before ++ (k, c) ∷ []) saw saw' h.here pre; right = h.right }

  -- the answers stand in all that is seen later
  pub answers_stay : (saw saw' : List (ℕ × C)) (k low : ℕ) (cs : List C) (ds : List (ℕ × R)) → IsPrefix saw saw' → AreAnswers answers saw k low cs ds → AreAnswers answers saw' k low cs ds
  answers_stay saw saw' k low cs [] pre h = let l = prefix_length saw saw' pre in omega arith
  answers_stay saw saw' k low [] (d ∷ ds) pre h = absurd h
  answers_stay saw saw' k low (c ∷ cs) (d ∷ ds) pre h = (answer_stays saw saw' k c d.0 d.1 pre h.0, h.1, answers_stay saw saw' k (d.0 + 1) cs ds pre h.2)

  module _ (saw saw' : List (ℕ × C)) (k : ℕ) (made made' : List C) (c : C) (d : ℕ × R) (m : IsAnswered answers k saw saw' made made' c d) where
    answers_more : (low : ℕ) (cs : List C) (ds : List (ℕ × R)) → AreAnswers answers saw k low cs ds → length ds < length cs → get_or cs (length ds) c ≡ c → AreAnswers answers saw' k low cs (ds ++ d ∷ [])
    answers_more low [] ds h inside is = absurd (omega arith)
    answers_more low (x ∷ cs) [] h inside is = let after = m.after in let within = m.within in
        (subst (λ y. IsAnswerAt answers saw' k y d.0 d.1) (sym is) m.answer, omega arith, omega arith)
    answers_more low (x ∷ cs) (y ∷ ds) h inside is =
        (answer_stays saw saw' k x y.0 y.1 m.longer h.0, h.1, answers_more (y.0 + 1) cs ds h.2 (omega arith) is)

  -- a script of which some calls are answered
  module _ {A D : Type 0} (f : A → C) (h : D → ℕ × R) (xs : List A) (k low : ℕ) (saw : List (ℕ × C)) (ds : List D) (old : AreAnswers answers saw k low (map f xs) (map h ds)) where
    pub answers_step : (ds' : List D) (d : D) (x : A) (i k' : ℕ) {saw' : List (ℕ × C)} {made made' : List C} → length ds ≡ i → i < length xs → x ≡ get_or xs i x → ds' ≡ ds ++ d ∷ [] → k' ≡ k
        → IsAnswered answers k' saw saw' made made' (f x) (h d) → AreAnswers answers saw' k low (map f xs) (map h ds')
    answers_step ds' d x i k' {saw'} {made} {made'} long inside is more same m =
        let n : length (map h ds) ≡ i = length-map ds h ∙ long in
        subst (λ l. AreAnswers answers saw' k low (map f xs) l) (sym (ap (map h) more ∙ map_push h ds d))
        (answers_more saw saw' k made made' (f x) (h d) (subst (λ j. IsAnswered answers j saw saw' made made' (f x) (h d)) same m)
        low (map f xs) (map h ds) old (let l = length-map xs f in omega arith)
        (ap (λ j. get_or (map f xs) j (f x)) n ∙ (get_or-map f xs i x (f x) inside ∙ ap f (sym is))))

module _ {A C : Type 0} (f : A → C) (xs : List A) where
  pub calls_step : (i n : ℕ) (x : A) (made now now' : List C) → n ≡ i → i < length xs → x ≡ get_or xs i x → now ≡ made ++ map f (take i xs) → now' ≡ now ++ f x ∷ [] → now' ≡ made ++ map f (take (n + 1) xs)
  calls_step i n x made now now' same inside is old more =
      let last : map f (take (i + 1) xs) ≡ map f (take i xs) ++ f x ∷ [] = map_more f xs i x inside ∙ ap (λ y. map f (take i xs) ++ f y ∷ []) (sym is) in
      more ∙ (ap (λ z. z ++ f x ∷ []) old ∙ (append_assoc made (map f (take i xs)) (f x ∷ []) ∙ (ap (λ z. made ++ z) (sym last) ∙ ap (λ j. made ++ map f (take (j + 1) xs)) (sym same))))
