-- Texts that grow piece by piece.
use Rattle.std.proofs.Common.{◌≡◌, ℕ, zero, suc, ◌+◌, ◌-◌, ◌≤◌, List, ◌++◌, sym, ◌∙◌, ap, arith, append_assoc, add-zero, append-nil}
use Rattle.std.specs.List.{flat_map, join_by, range_with_len}
use Rattle.poets_demo.specs.Text.{line, numbers_to}

-- three pieces
pub three_more : (s₀ s₁ s₂ s₃ a b c : List ℕ) → s₁ ≡ s₀ ++ a → s₂ ≡ s₁ ++ b → s₃ ≡ s₂ ++ c → s₃ ≡ s₀ ++ (a ++ b ++ c)
three_more s₀ s₁ s₂ s₃ a b c h₁ h₂ h₃ = h₃ ∙ ap (λ s. s ++ c) (h₂ ∙ ap (λ s. s ++ b) h₁) ∙ simp append_assoc

-- five pieces
module _ (s₀ a b c d e : List ℕ) where
  pub five_more : (s₁ s₂ s₃ s₄ s₅ : List ℕ) → s₁ ≡ s₀ ++ a → s₂ ≡ s₁ ++ b → s₃ ≡ s₂ ++ c → s₄ ≡ s₃ ++ d → s₅ ≡ s₄ ++ e → s₅ ≡ s₀ ++ (a ++ b ++ c ++ d ++ e)
  five_more s₁ s₂ s₃ s₄ s₅ h₁ h₂ h₃ h₄ h₅ =
      h₅ ∙ ap (λ s. s ++ e) (h₄ ∙ ap (λ s. s ++ d) (h₃ ∙ ap (λ s. s ++ c) (h₂ ∙ ap (λ s. s ++ b) h₁))) ∙ simp append_assoc

-- the pieces of one number more
pub range_more : (f : ℕ → List ℕ) (a n : ℕ) → flat_map f (range_with_len a (suc n)) ≡ flat_map f (range_with_len a n) ++ f (a + n)
range_more f a zero = rw add-zero (simp append-nil)
range_more f a (suc n) =
    let more = range_more f (a + 1) n in
    let next : a + 1 + n ≡ a + suc n = omega arith in
    ap (λ s. f a ++ s) (more ∙ ap (λ k. flat_map f (range_with_len (a + 1) n) ++ f k) next) ∙ sym (append_assoc (f a) (flat_map f (range_with_len (a + 1) n)) (f (a + suc n)))

-- the text of the numbers from a on, with the piece of the number k behind those before it
pub one_more : (f : ℕ → List ℕ) (a k m : ℕ) (start old new : List ℕ) → a ≤ k → old ≡ start ++ flat_map f (range_with_len a (k - a)) → new ≡ old ++ f k → a + m ≡ k + 1 →
    new ≡ start ++ flat_map f (range_with_len a m)
one_more f a k m start old new le h e count =
    let numbers = range_with_len a (k - a) in
    let place : a + (k - a) ≡ k = omega arith in
    let last : suc (k - a) ≡ m = omega arith in
    let more : flat_map f numbers ++ f k ≡ flat_map f (range_with_len a m) =
    ap (λ i. flat_map f numbers ++ f i) (sym place) ∙ sym (range_more f a (k - a)) ∙ ap (λ n. flat_map f (range_with_len a n)) last in
    e ∙ ap (λ s. s ++ f k) h ∙ append_assoc start (flat_map f numbers) (f k) ∙ ap (λ s. start ++ s) more

-- the first of the numbers from 1 on, and the others each behind the text between them
pub join_by-numbers_to : (f : ℕ → List ℕ) (between : List ℕ) (n m : ℕ) → m + 1 ≡ n → join_by f between (numbers_to n) ≡ f 1 ++ flat_map (λ k. between ++ f k) (range_with_len 2 m)
join_by-numbers_to f between n m e =
    let next : n ≡ suc m = omega arith in
    ap (λ k. join_by f between (numbers_to k)) next

-- a line of a front, a first, others and a back
pub line_of_parts : (front first others back : List ℕ) → (front ++ first) ++ others ++ line back ≡ line (front ++ (first ++ others) ++ back)
line_of_parts front first others back = simp append_assoc
