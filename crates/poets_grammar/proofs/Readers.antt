-- Readers that look at one token, take it or give up, and never go back. What such a reader answers hangs on the tokens up to the place where it stops, and on the token there:
-- with other tokens behind that one it answers alike. What it took says what the grammar has it say, or begins something that the grammar has.
use Rattle.std.proofs.Common.{◌≡◌, ◌↔◌, ℕ, zero, suc, pred, ◌<◌, ◌≤◌, List, [], ◌∷◌, ◌++◌, append_assoc, length, length-append, Option, Some, None, Ok, Err, refl, sym, ap, ◌∙◌, subst, arith}
use Rattle.poets_lex.specs.declared.token.Tok.{Tok}
use Rattle.poets_grammar.specs.Reading.{Answer, Reading, ◌>>=◌}

-- ---- tokens that begin alike

-- the same token stands first, or none
pub data SameFirst : List Tok → List Tok → Type 0 where
  Ended : SameFirst [] []
  Begun : (t : Tok) (us vs : List Tok) → SameFirst (t ∷ us) (t ∷ vs)

pub same_refl : (us : List Tok) → SameFirst us us
same_refl [] = SameFirst.Ended
same_refl (t ∷ us) = SameFirst.Begun t us us

same_behind : (front : List Tok) {us vs : List Tok} → SameFirst us vs → SameFirst (front ++ us) (front ++ vs)
same_behind [] s = s
same_behind (t ∷ front) s = SameFirst.Begun t _ _

pub at_token : (Q : List Tok → Type 0) {t : Tok} {us vs : List Tok} → ((ws : List Tok) → Q (t ∷ ws)) → SameFirst (t ∷ us) vs → Q vs
at_token Q q (SameFirst.Begun t us vs) = q vs

pub at_end : (Q : List Tok → Type 0) {vs : List Tok} → Q [] → SameFirst [] vs → Q vs
at_end Q q SameFirst.Ended = q

-- ---- what a reader says

-- how it answers: with the tokens after what it read, or only where none are left
pub record Form (A Y : Type 0) : Type 1 where
  pub put : A → List Tok → Y
  pub Stops : List Tok → Type 0

abbrev pub fronts : {A : Type 0} → Form A (A × List Tok)
fronts = record { put = λ x rest. (x, rest); Stops = λ rest. Unit {0} }

abbrev pub wholes : {A : Type 0} → Form A A
wholes = record { put = λ x rest. x; Stops = λ rest. rest ≡ [] }

-- the answer of a reader that stops ahead of these tokens
abbrev pub answer : {A Y : Type 0} → Form A Y → Option A → List Tok → Answer Y
answer form (Some x) rest = Ok (form.put x rest)
answer form None rest = Err (length rest)

-- some more tokens make what the grammar has of these
pub record Begins {A : Type 0} (Stops : List Tok → Type 0) (R : List Tok → A → List Tok → Type 0) (front : List Tok) : Type 0 where
  pub more : List Tok
  pub value : A
  pub is : (rest : List Tok) → Stops rest → R (front ++ (more ++ rest)) value rest

-- the tokens that were taken say this, or begin something
abbrev pub Says : {A : Type 0} → (List Tok → Type 0) → (List Tok → A → List Tok → Type 0) → List Tok → List Tok → Option A → Type 0
Says Stops R front rest (Some x) = ((more : List Tok) → Stops more → R (front ++ more) x more) × Stops rest
Says Stops R front rest None = Begins Stops R front

-- how many tokens fuel lasts for
pub record Fuel (I : Type 0) : Type 1 where
  pub Lasts : I → ℕ → Type 0
  pub less : (i : I) (a b : ℕ) → a ≤ b → Lasts i b → Lasts i a

-- fuel that lasts for whatever stands behind one token
abbrev pub behind_one : {I : Type 0} → Fuel I → Fuel I
behind_one fuel = record { Lasts = λ i b. (a : ℕ) → a < b → fuel.Lasts i a; less = λ i a b l h. λ c m. h c (omega arith) }

-- where readers, which differ in their fuel, stop at these tokens, and what they answer
pub record Outcome {I A Y : Type 0} (fuel : Fuel I) (form : Form A Y) (R : List Tok → A → List Tok → Type 0) (f : I → List Tok → Answer Y) (ts : List Tok) : Type 0 where
  pub front : List Tok
  pub rest : List Tok
  pub found : Option A
  pub starts : ts ≡ front ++ rest
  pub says : Says form.Stops R front rest found
  pub steady : (i : I) (us : List Tok) → SameFirst rest us → fuel.Lasts i (length (front ++ us)) → f i (front ++ us) ≡ answer form found us

-- so at all tokens that are fewer; and the grammar has something for them to read
pub record IsReader {I A Y : Type 0} (n : ℕ) (fuel : Fuel I) (form : Form A Y) (R : List Tok → A → List Tok → Type 0) (f : I → List Tok → Answer Y) : Type 0 where
  pub reads : (ts : List Tok) → length ts < n → Outcome fuel form R f ts
  pub some : Begins form.Stops R []

-- ---- one reader after another

-- what has to follow x, for all to be R
abbrev pub Then : {A B : Type 0} → (List Tok → A → List Tok → Type 0) → (List Tok → B → List Tok → Type 0) → A → List Tok → B → List Tok → Type 0
Then P R x mid y rest = (us : List Tok) → P us x mid → R us y rest

begins_both : {A B : Type 0} {Stops : List Tok → Type 0} {P : List Tok → A → List Tok → Type 0} {R : List Tok → B → List Tok → Type 0} (front : List Tok) →
    Begins (λ rest. Unit {0}) P front → ((x : A) → Begins Stops (Then P R x) []) → Begins Stops R front
begins_both {R = R} front b more =
    let m = more b.value in
    record {
      more = b.more ++ m.more;
      value = m.value;
      is = λ rest stop. subst (λ us. R us m.value rest) (ap (λ us. front ++ us) (sym (append_assoc b.more m.more rest)))
          (m.is rest stop (front ++ (b.more ++ (m.more ++ rest))) (b.is (m.more ++ rest) tt));
    }

says_both : {A B : Type 0} (Stops : List Tok → Type 0) (P : List Tok → A → List Tok → Type 0) (R : List Tok → B → List Tok → Type 0) (first front rest : List Tok) (x : A) →
    ((more : List Tok) → P (first ++ more) x more) → (found : Option B) → Says Stops (Then P R x) front rest found → Says Stops R (first ++ front) rest found
says_both Stops P R first front rest x p (Some y) s =
    (λ more stop. subst (λ us. R us y more) (sym (append_assoc first front more)) (s.0 more stop (first ++ (front ++ more)) (p (front ++ more))), s.1)
says_both Stops P R first front rest x p None b =
    record {
      more = b.more;
      value = b.value;
      is = λ rest stop. subst (λ us. R us b.value rest) (sym (append_assoc first front (b.more ++ rest)))
          (b.is rest stop (first ++ (front ++ (b.more ++ rest))) (p (front ++ (b.more ++ rest))));
    }

module _ {I A B Y : Type 0} {fuel : Fuel I} {form : Form B Y} {P : List Tok → A → List Tok → Type 0} {R : List Tok → B → List Tok → Type 0} {n : ℕ} (f : I → List Tok → Reading A)
    (next : I → A × List Tok → Answer Y) (more : (x : A) → IsReader n fuel form (Then P R x) (λ i us. next i (x, us))) where
  steady_both : (first mid : List Tok) (x : A) → ((i : I) (us : List Tok) → SameFirst mid us → fuel.Lasts i (length (first ++ us)) → f i (first ++ us) ≡ Ok (x, us)) →
      (o : Outcome fuel form (Then P R x) (λ i us. next i (x, us)) mid) →
      (i : I) (us : List Tok) → SameFirst o.rest us → fuel.Lasts i (length ((first ++ o.front) ++ us)) → (f i ((first ++ o.front) ++ us) >>= next i) ≡ answer form o.found us
  steady_both first mid x h o i us s l =
      let vs = o.front ++ us in
      let assoc : (first ++ o.front) ++ us ≡ first ++ vs = append_assoc first o.front us in
      let same : SameFirst mid vs = subst (λ ws. SameFirst ws vs) (sym o.starts) (same_behind o.front s) in
      let lasts : fuel.Lasts i (length (first ++ vs)) = subst (λ ws. fuel.Lasts i (length ws)) assoc l in
      let fewer : length vs ≤ length (first ++ vs) = omega (arith, length-append first vs) in
      ap (λ ws. f i ws >>= next i) assoc ∙ ap (λ r. r >>= next i) (h i vs same lasts) ∙ o.steady i us s (fuel.less i _ _ fewer lasts)

  outcome_both : (ts first mid : List Tok) (found : Option A) → length ts < n → ts ≡ first ++ mid → Says (λ rest. Unit {0}) P first mid found →
      ((i : I) (us : List Tok) → SameFirst mid us → fuel.Lasts i (length (first ++ us)) → f i (first ++ us) ≡ answer fronts found us) →
      Outcome fuel form R (λ i us. f i us >>= next i) ts
  outcome_both ts first mid None lt starts says steady =
      record {
        front = first;
        rest = mid;
        found = None;
        starts = starts;
        says = begins_both first says (λ x. (more x).some);
        steady = λ i us s l. ap (λ r. r >>= next i) (steady i us s l);
      }
  outcome_both ts first mid (Some x) lt starts says steady =
      let fewer : length mid ≤ length ts = omega (arith, ap length starts, length-append first mid) in
      let o = (more x).reads mid (omega arith) in
      record {
        front = first ++ o.front;
        rest = o.rest;
        found = o.found;
        starts = starts ∙ ap (λ us. first ++ us) o.starts ∙ sym (append_assoc first o.front o.rest);
        says = says_both form.Stops P R first o.front o.rest x (λ us. says.0 us tt) o.found o.says;
        steady = steady_both first mid x steady o;
      }

-- the reader next goes on behind what f read
pub followed_outcome : {I A B Y : Type 0} {fuel : Fuel I} {form : Form B Y} {P : List Tok → A → List Tok → Type 0} {R : List Tok → B → List Tok → Type 0}
    {f : I → List Tok → Reading A} (next : I → A × List Tok → Answer Y) {n : ℕ} {ts : List Tok} → length ts < n → Outcome fuel fronts P f ts →
    ((x : A) → IsReader n fuel form (Then P R x) (λ i us. next i (x, us))) → Outcome fuel form R (λ i us. f i us >>= next i) ts
followed_outcome {f = f} next {ts = ts} lt o more = outcome_both f next more ts o.front o.rest o.found lt o.starts o.says o.steady

pub followed : {I A B Y : Type 0} {fuel : Fuel I} {form : Form B Y} {P : List Tok → A → List Tok → Type 0} {R : List Tok → B → List Tok → Type 0}
    {f : I → List Tok → Reading A} (next : I → A × List Tok → Answer Y) {n : ℕ} → IsReader n fuel fronts P f →
    ((x : A) → IsReader n fuel form (Then P R x) (λ i us. next i (x, us))) → IsReader n fuel form R (λ i us. f i us >>= next i)
followed next h more = record { reads = λ ts lt. followed_outcome next lt (h.reads ts lt) more; some = begins_both [] h.some (λ x. (more x).some) }

-- ---- ends of a reader

module _ {I A Y : Type 0} {fuel : Fuel I} {form : Form A Y} {R : List Tok → A → List Tok → Type 0} where
  -- nothing is taken, and nothing can be
  pub fails : {f : I → List Tok → Answer Y} (ts : List Tok) → Begins form.Stops R [] → ((i : I) (us : List Tok) → SameFirst ts us → fuel.Lasts i (length us) → f i us ≡ Err (length us)) →
      Outcome fuel form R f ts
  fails ts b h = record { front = []; rest = ts; found = None; starts = refl; says = b; steady = h }

  pub fails_end : {f : I → List Tok → Answer Y} → Begins form.Stops R [] → ((i : I) → f i [] ≡ Err 0) → Outcome fuel form R f []
  fails_end {f} b h = fails [] b (λ i us s l. at_end (λ ws. f i ws ≡ Err (length ws)) (h i) s)

  pub fails_token : {f : I → List Tok → Answer Y} {t : Tok} {ts : List Tok} → Begins form.Stops R [] → ((i : I) (us : List Tok) → f i (t ∷ us) ≡ Err (suc (length us))) → Outcome fuel form R f (t ∷ ts)
  fails_token {f} {t} {ts} b h = fails (t ∷ ts) b (λ i us s l. at_token (λ ws. f i ws ≡ Err (length ws)) (h i) s)

  -- nothing is taken, and nothing has to be
  pub stays : {f : I → List Tok → Answer Y} (ts : List Tok) (x : A) → ((more : List Tok) → form.Stops more → R more x more) → form.Stops ts →
      ((i : I) (us : List Tok) → SameFirst ts us → fuel.Lasts i (length us) → f i us ≡ Ok (form.put x us)) → Outcome fuel form R f ts
  stays ts x is stop h = record { front = []; rest = ts; found = Some x; starts = refl; says = (is, stop); steady = h }

  -- at tokens that begin so it is another reader
  pub like : {f g : I → List Tok → Answer Y} (ts : List Tok) → ((i : I) (us : List Tok) → SameFirst ts us → fuel.Lasts i (length us) → f i us ≡ g i us) → Outcome fuel form R g ts → Outcome fuel form R f ts
  like ts same o =
      record {
        front = o.front;
        rest = o.rest;
        found = o.found;
        starts = o.starts;
        says = o.says;
        steady = λ i us s l. same i (o.front ++ us) (subst (λ ws. SameFirst ws (o.front ++ us)) (sym o.starts) (same_behind o.front s)) l ∙ o.steady i us s l;
      }

  pub like_end : {f g : I → List Tok → Answer Y} → ((i : I) → f i [] ≡ g i []) → Outcome fuel form R g [] → Outcome fuel form R f []
  like_end {f} {g} h o = like [] (λ i us s l. at_end (λ ws. f i ws ≡ g i ws) (h i) s) o

  pub like_token : {f g : I → List Tok → Answer Y} {t : Tok} {ts : List Tok} → ((i : I) (us : List Tok) → f i (t ∷ us) ≡ g i (t ∷ us)) → Outcome fuel form R g (t ∷ ts) → Outcome fuel form R f (t ∷ ts)
  like_token {f} {g} {t} {ts} h o = like (t ∷ ts) (λ i us s l. at_token (λ ws. f i ws ≡ g i ws) (h i) s) o

  pub done : {n : ℕ} (x : A) → ((more : List Tok) → R more x more) → ((more : List Tok) → form.Stops more) → IsReader n fuel form R (λ i us. Ok (form.put x us))
  done x is stops =
      record {
        reads = λ ts lt. stays ts x (λ more stop. is more) (stops ts) (λ i us s l. refl);
        some = record { more = []; value = x; is = λ rest stop. is rest };
      }

-- ---- the first token

says_behind : {A : Type 0} (Stops : List Tok → Type 0) (R : List Tok → A → List Tok → Type 0) (t : Tok) (front rest : List Tok) (found : Option A) →
    Says Stops (λ us x more. R (t ∷ us) x more) front rest found → Says Stops R (t ∷ front) rest found
says_behind Stops R t front rest (Some x) s = s
says_behind Stops R t front rest None b = record { more = b.more; value = b.value; is = b.is }

pub begins_token : {A : Type 0} {Stops : List Tok → Type 0} {R : List Tok → A → List Tok → Type 0} (t : Tok) → Begins Stops (λ us x rest. R (t ∷ us) x rest) [] → Begins Stops R []
begins_token t b = record { more = t ∷ b.more; value = b.value; is = b.is }

-- with fuel that lasts behind it, the first token is taken
pub takes : {I A Y : Type 0} {fuel inner : Fuel I} {form : Form A Y} {R : List Tok → A → List Tok → Type 0} {f next : I → List Tok → Answer Y} (t : Tok) (ts : List Tok) →
    ((i : I) (us : List Tok) → fuel.Lasts i (suc (length us)) → f i (t ∷ us) ≡ next i us) → ((i : I) (a : ℕ) → fuel.Lasts i (suc a) → inner.Lasts i a) →
    Outcome inner form (λ us x rest. R (t ∷ us) x rest) next ts → Outcome fuel form R f (t ∷ ts)
takes {form = form} {R = R} t ts same step o =
    record {
      front = t ∷ o.front;
      rest = o.rest;
      found = o.found;
      starts = ap (λ (us : List Tok). t ∷ us) o.starts;
      says = says_behind form.Stops R t o.front o.rest o.found o.says;
      steady = λ i us s l. same i (o.front ++ us) l ∙ o.steady i us s (step i (length (o.front ++ us)) l);
    }

-- what a reader does at a token that stands first: it takes it, or gives up
pub data Branch {I A Y : Type 0} (n : ℕ) (inner : Fuel I) (form : Form A Y) (R : List Tok → A → List Tok → Type 0) (f : I → List Tok → Answer Y) (t : Tok) : Type 0 where
  Takes : (next : I → List Tok → Answer Y) → ((i : I) (us : List Tok) → f i (t ∷ us) ≡ next i us) → IsReader n inner form (λ us x rest. R (t ∷ us) x rest) next → Branch n inner form R f t
  GivesUp : ((i : I) (us : List Tok) → f i (t ∷ us) ≡ Err (suc (length us))) → Branch n inner form R f t

module _ {I A Y : Type 0} {fuel inner : Fuel I} {form : Form A Y} {R : List Tok → A → List Tok → Type 0} {f : I → List Tok → Answer Y} {m : ℕ} (step : (i : I) (a : ℕ) → fuel.Lasts i (suc a) → inner.Lasts i a)
    (b : Begins form.Stops R []) where
  at_branch : (t : Tok) (ts : List Tok) → length ts < m → Branch m inner form R f t → Outcome fuel form R f (t ∷ ts)
  at_branch t ts lt (Branch.Takes next same h) = takes t ts (λ i us l. same i us) step (h.reads ts lt)
  at_branch t ts lt (Branch.GivesUp same) = fails_token b same

  at_first : ((i : I) → f i [] ≡ Err 0) → ((t : Tok) → Branch m inner form R f t) → (ts : List Tok) → length ts < suc m → Outcome fuel form R f ts
  at_first none branch [] lt = fails_end b none
  at_first none branch (t ∷ ts) lt = at_branch t ts (omega arith) (branch t)

  -- a reader by its first token
  pub by_first : {n : ℕ} → n ≤ suc m → ((i : I) → f i [] ≡ Err 0) → ((t : Tok) → Branch m inner form R f t) → IsReader n fuel form R f
  by_first le none branch = record { reads = λ ts lt. at_first none branch ts (omega arith); some = b }

-- ---- the same readers, seen in another way

-- other fuel
pub refuelled : {I J A Y : Type 0} {fuel : Fuel I} {other : Fuel J} {form : Form A Y} {R : List Tok → A → List Tok → Type 0} {f : I → List Tok → Answer Y} {g : J → List Tok → Answer Y} {n : ℕ}
    (turned : J → List Tok → I) → ((j : J) (us : List Tok) → other.Lasts j (length us) → fuel.Lasts (turned j us) (length us)) →
    ((j : J) (us : List Tok) → other.Lasts j (length us) → g j us ≡ f (turned j us) us) → IsReader n fuel form R f → IsReader n other form R g
refuelled turned lasts same h =
    record {
      reads = λ ts lt. let o = h.reads ts lt in record {
        front = o.front;
        rest = o.rest;
        found = o.found;
        starts = o.starts;
        says = o.says;
        steady = λ j us s l. same j (o.front ++ us) l ∙ o.steady (turned j (o.front ++ us)) us s (lasts j (o.front ++ us) l);
      };
      some = h.some;
    }

-- fewer tokens
pub fewer : {I A Y : Type 0} {fuel : Fuel I} {form : Form A Y} {R : List Tok → A → List Tok → Type 0} {f : I → List Tok → Answer Y} {n m : ℕ} → n ≤ m → IsReader m fuel form R f → IsReader n fuel form R f
fewer le h = record { reads = λ ts lt. h.reads ts (omega arith); some = h.some }

weaker_begins : {A : Type 0} {Stops : List Tok → Type 0} {P R : List Tok → A → List Tok → Type 0} {front : List Tok} → ((us rest : List Tok) (x : A) → P us x rest → R us x rest) →
    Begins Stops P front → Begins Stops R front
weaker_begins w b = record { more = b.more; value = b.value; is = λ rest stop. w _ rest b.value (b.is rest stop) }

weaker_says : {A : Type 0} (Stops : List Tok → Type 0) {P R : List Tok → A → List Tok → Type 0} (front rest : List Tok) (found : Option A) → ((us rest : List Tok) (x : A) → P us x rest → R us x rest) →
    Says Stops P front rest found → Says Stops R front rest found
weaker_says Stops front rest (Some x) w s = (λ more stop. w (front ++ more) more x (s.0 more stop), s.1)
weaker_says Stops front rest None w b = weaker_begins w b

-- less is said of what is read
pub weaker_outcome : {I A Y : Type 0} {fuel : Fuel I} {form : Form A Y} {P R : List Tok → A → List Tok → Type 0} {f : I → List Tok → Answer Y} {ts : List Tok} →
    ((us rest : List Tok) (x : A) → P us x rest → R us x rest) → Outcome fuel form P f ts → Outcome fuel form R f ts
weaker_outcome {form = form} w o =
    record { front = o.front; rest = o.rest; found = o.found; starts = o.starts; says = weaker_says form.Stops o.front o.rest o.found w o.says; steady = o.steady }

pub weaker_reader : {I A Y : Type 0} {fuel : Fuel I} {form : Form A Y} {P R : List Tok → A → List Tok → Type 0} {f : I → List Tok → Answer Y} {n : ℕ} →
    ((us rest : List Tok) (x : A) → P us x rest → R us x rest) → IsReader n fuel form P f → IsReader n fuel form R f
weaker_reader w h = record { reads = λ ts lt. weaker_outcome w (h.reads ts lt); some = weaker_begins w h.some }

mapped_found : {A B : Type 0} → (A → B) → Option A → Option B
mapped_found g (Some x) = Some (g x)
mapped_found g None = None

mapped_begins : {A B : Type 0} {Stops To : List Tok → Type 0} {P : List Tok → A → List Tok → Type 0} {R : List Tok → B → List Tok → Type 0} (g : A → B) (front : List Tok) →
    ((rest : List Tok) → To rest → Stops rest) → ((us rest : List Tok) (x : A) → P us x rest → R us (g x) rest) → Begins Stops P front → Begins To R front
mapped_begins g front back w b = record { more = b.more; value = g b.value; is = λ rest stop. w _ rest b.value (b.is rest (back rest stop)) }

mapped_says : {A B : Type 0} (Stops To : List Tok → Type 0) {P : List Tok → A → List Tok → Type 0} (R : List Tok → B → List Tok → Type 0) (g : A → B) (front rest : List Tok) (found : Option A) →
    ((rest : List Tok) → Stops rest ↔ To rest) → ((us rest : List Tok) (x : A) → P us x rest → R us (g x) rest) → Says Stops P front rest found → Says To R front rest (mapped_found g found)
unfolding mapped_found
mapped_says Stops To R g front rest (Some x) stops w s = (λ more stop. w (front ++ more) more x (s.0 more ((stops more).1 stop)), (stops rest).0 s.1)
mapped_says Stops To R g front rest None stops w b = mapped_begins g front (λ us. (stops us).1) w b

mapped_answer : {A B X Y : Type 0} (form : Form A X) (to : Form B Y) (g : A → B) (made : X → Y) → ((x : A) (rest : List Tok) → made (form.put x rest) ≡ to.put (g x) rest) →
    (found : Option A) (us : List Tok) (r : Answer X) → r ≡ answer form found us → (r >>= λ x. Ok (made x)) ≡ answer to (mapped_found g found) us
unfolding mapped_found
mapped_answer form to g made same (Some x) us r e = ap (λ q. q >>= λ y. Ok (made y)) e ∙ ap Ok (same x us)
mapped_answer form to g made same None us r e = ap (λ q. q >>= λ y. Ok (made y)) e

-- something is made of what is read
module _ {I A B X Y : Type 0} {fuel : Fuel I} {form : Form A X} {to : Form B Y} {P : List Tok → A → List Tok → Type 0} {R : List Tok → B → List Tok → Type 0} {f : I → List Tok → Answer X} (g : A → B) (made : X → Y)
    (same : (x : A) (rest : List Tok) → made (form.put x rest) ≡ to.put (g x) rest) (stops : (rest : List Tok) → form.Stops rest ↔ to.Stops rest)
    (w : (us rest : List Tok) (x : A) → P us x rest → R us (g x) rest) where
  pub mapped_outcome : {ts : List Tok} → Outcome fuel form P f ts → Outcome fuel to R (λ i us. f i us >>= λ x. Ok (made x)) ts
  mapped_outcome o =
      record {
        front = o.front;
        rest = o.rest;
        found = mapped_found g o.found;
        starts = o.starts;
        says = mapped_says form.Stops to.Stops R g o.front o.rest o.found stops w o.says;
        steady = λ i us s l. mapped_answer form to g made same o.found us (f i (o.front ++ us)) (o.steady i us s l);
      }

  pub mapped : {n : ℕ} → IsReader n fuel form P f → IsReader n fuel to R (λ i us. f i us >>= λ x. Ok (made x))
  mapped h = record { reads = λ ts lt. mapped_outcome (h.reads ts lt); some = mapped_begins g [] (λ us. (stops us).1) w h.some }

-- the same where tokens stand after both, and where none do
pub remade_outcome : {I A B : Type 0} {fuel : Fuel I} {P : List Tok → A → List Tok → Type 0} {R : List Tok → B → List Tok → Type 0} {f : I → List Tok → Reading A} {ts : List Tok} (g : A → B) →
    ((us rest : List Tok) (x : A) → P us x rest → R us (g x) rest) → Outcome fuel fronts P f ts → Outcome fuel fronts R (λ i us. f i us >>= λ x. Ok (g x.0, x.1)) ts
remade_outcome g w o = mapped_outcome g (λ x. (g x.0, x.1)) (λ x rest. refl) (λ rest. (λ h. h, λ h. h)) w o

pub remade : {I A B : Type 0} {fuel : Fuel I} {P : List Tok → A → List Tok → Type 0} {R : List Tok → B → List Tok → Type 0} {f : I → List Tok → Reading A} {n : ℕ} (g : A → B) →
    ((us rest : List Tok) (x : A) → P us x rest → R us (g x) rest) → IsReader n fuel fronts P f → IsReader n fuel fronts R (λ i us. f i us >>= λ x. Ok (g x.0, x.1))
remade g w h = mapped g (λ x. (g x.0, x.1)) (λ x rest. refl) (λ rest. (λ h. h, λ h. h)) w h

pub remade_whole : {I A B : Type 0} {fuel : Fuel I} {P : List Tok → A → List Tok → Type 0} {R : List Tok → B → List Tok → Type 0} {f : I → List Tok → Answer A} {n : ℕ} (g : A → B) →
    ((us rest : List Tok) (x : A) → P us x rest → R us (g x) rest) → IsReader n fuel wholes P f → IsReader n fuel wholes R (λ i us. f i us >>= λ x. Ok (g x))
remade_whole g w h = mapped g g (λ x rest. refl) (λ rest. (λ h. h, λ h. h)) w h

-- ---- readers with fuel, and with as much as they need

-- no fuel, which is always enough
abbrev pub no_fuel : Fuel (Unit {0})
no_fuel = record { Lasts = λ i a. Unit {0}; less = λ i a b l h. h }

-- the number of tokens is below the fuel
abbrev pub counted : Fuel ℕ
counted = record { Lasts = λ k a. a < k; less = λ k a b l h. omega arith }

-- some fuel, or as much as is needed
abbrev pub LastsPerhaps : Option ℕ → ℕ → Type 0
LastsPerhaps None a = Unit {0}
LastsPerhaps (Some k) a = a < k

pub fewer_perhaps : (i : Option ℕ) (a b : ℕ) → a ≤ b → LastsPerhaps i b → LastsPerhaps i a
fewer_perhaps None a b l h = tt
fewer_perhaps (Some k) a b l h = omega arith

abbrev pub perhaps : Fuel (Option ℕ)
perhaps = record { Lasts = LastsPerhaps; less = fewer_perhaps }

abbrev pub with_enough : {Y : Type 0} → (ℕ → List Tok → Answer Y) → Option ℕ → List Tok → Answer Y
with_enough f None ts = f (suc (length ts)) ts
with_enough f (Some k) ts = f k ts

fuel_of : Option ℕ → List Tok → ℕ
fuel_of None ts = suc (length ts)
fuel_of (Some k) ts = k

pub with_enough_reader : {A Y : Type 0} {form : Form A Y} {R : List Tok → A → List Tok → Type 0} {f : ℕ → List Tok → Answer Y} {n : ℕ} → IsReader n counted form R f → IsReader n perhaps form R (with_enough f)
unfolding fuel_of
with_enough_reader {f = f} h = refuelled fuel_of enough same h
  where
    enough : (i : Option ℕ) (us : List Tok) → LastsPerhaps i (length us) → length us < fuel_of i us
    enough None us l = omega arith
    enough (Some k) us l = l

    same : (i : Option ℕ) (us : List Tok) → LastsPerhaps i (length us) → with_enough f i us ≡ f (fuel_of i us) us
    same None us l = refl
    same (Some k) us l = refl

-- one turn more: what stands behind a token is read with the fuel that is left
pub one_deeper : {A Y : Type 0} {form : Form A Y} {R : List Tok → A → List Tok → Type 0} {f g : ℕ → List Tok → Answer Y} {n : ℕ} → ((k : ℕ) (us : List Tok) → f (suc k) us ≡ g k us) →
    IsReader n (behind_one counted) form R g → IsReader n counted form R f
one_deeper {f = f} {g = g} same h = refuelled (λ k us. pred k) lasts read h
  where
    lasts : (k : ℕ) (us : List Tok) → length us < k → (a : ℕ) → a < length us → a < pred k
    lasts zero us l = absurd (omega arith)
    lasts (suc k) us l = λ a m. omega arith

    read : (k : ℕ) (us : List Tok) → length us < k → f k us ≡ g (pred k) us
    read zero us l = absurd (omega arith)
    read (suc k) us l = same k us

-- ---- what follows of a reader

module _ {I A Y : Type 0} {fuel : Fuel I} {form : Form A Y} {R : List Tok → A → List Tok → Type 0} {f : I → List Tok → Answer Y} {ts : List Tok} (o : Outcome fuel form R f ts) where
  pub answers : (i : I) → fuel.Lasts i (length ts) → f i ts ≡ answer form o.found o.rest
  answers i l = ap (f i) o.starts ∙ o.steady i o.rest (same_refl o.rest) (subst (λ us. fuel.Lasts i (length us)) o.starts l)

  -- other fuel that lasts makes no difference
  pub alike : (i j : I) → fuel.Lasts i (length ts) → fuel.Lasts j (length ts) → f i ts ≡ f j ts
  alike i j l m = answers i l ∙ sym (answers j m)

-- what all the tokens say
module _ {A : Type 0} {R : List Tok → A → List Tok → Type 0} {f : Unit {0} → List Tok → Answer A} {ts : List Tok} (o : Outcome no_fuel wholes R f ts) where
  said : (found : Option A) → Says (λ rest. rest ≡ []) R o.front o.rest found → (x : A) → answer wholes found o.rest ≡ Ok x → R ts x []
  said (Some y) s x e =
      let same : y ≡ x = cc in
      subst (λ us. R us x []) (sym (o.starts ∙ ap (λ us. o.front ++ us) s.1)) (subst (λ z. R (o.front ++ []) z []) same (s.0 [] refl))
  said None b x e = absurd cc

  pub is_whole : {x : A} → f tt ts ≡ Ok x → R ts x []
  is_whole {x} e = said o.found o.says x (sym (answers o tt tt) ∙ e)
