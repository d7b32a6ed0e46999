-- Calls that derive contracts, from the calls that derive their parts.
use Rattle.std.proofs.Common.{◌≡◌, ℕ, ◌+◌, ◌<◌, ◌≤◌, true, false, arith, List, length, Option, Some, None, refl, sym, ◌∙◌, ap, ap₂, subst, inl, inr, Result, Ok, IfOk, IsErr}
use Rattle.std.specs.Prelude.{sum_by}
use Rattle.poets_value.specs.declared.value.Name.{Name}
use Rattle.poets_expr.specs.Expression.{Expression}
use Rattle.poets_syntax.specs.Applied.{CountsFit}
use Rattle.poets_syntax.specs.Book.{template_in}
use Rattle.poets_syntax.specs.declared.term.Binders.{Binders}
use Rattle.poets_syntax.specs.Contract.{Contract, Transmit, Plus, Par, Seq, App}
use Rattle.poets_syntax.specs.Plain.{Template}
use Rattle.poets_meaning.specs.Arguments.{arguments}
use Rattle.poets_meaning.specs.Marks.{nullable}
use Rattle.poets_meaning.specs.Width.{width}
use Rattle.poets_calculus.specs.Normal.{seq}
use Rattle.poets_calculus.specs.Residual.{after, body_of}
use Rattle.poets_norm.specs.Questions.{operated, questions}
use Rattle.poets_cons.specs.declared.node.Node.{Node}
use Rattle.poets_cons.specs.Notes.{noted, NotesRow}
use Rattle.poets_cons.specs.Table.{contract_at, IsTable, Stands, Extends}
use Rattle.poets_cons.proofs.Standing.{contract_at-later, extends_not, extends_twice}
use Rattle.poets_residue.specs.declared.derivation.Derivation.{Derivation}
use Rattle.poets_residue.specs.declared.derivation.Derived.{Derived}
use Rattle.poets_residue.specs.Once.{ready, asked_of, IsAmong}
use Rattle.poets_residue.specs.code.Deriving.{book_by, marks_by, AreRightNotes, CanDerive, IsResidual, AreResiduals, HasNoted, HasNotedBut, AsksInWidth, HasDerived, Derives, DerivesAnew, DerivesBoth}
use Rattle.poets_residue.specs.code.Spent.{IsSpent}
use Rattle.poets_residue.proofs.Asking.{app_here, app_paid, app_asking, body_fits, body_narrower, app_asked, app_spent}
use Rattle.poets_residue.proofs.Derived.{both_after}
use Rattle.poets_residue.proofs.Equations.{after-seq, after-some}
use Rattle.poets_residue.proofs.Noted.{notes_later, noted_stands, noted_notes}
use Rattle.poets_residue.proofs.Ready.{ReadyIn, plus_ready_first, plus_ready_second, par_ready, seq_ready_first, seq_ready, ready-transmit}
use Rattle.poets_residue.proofs.Spending as spending
use Rattle.poets_residue.proofs.Spending.{always, failed, none_spent, one_spent, part_spent, same_spent, two_spent, noted_later, new_contract, noted_spent}
use Rattle.poets_residue.proofs.Widths.{width-plus, width-par, width-seq, width-first, size-width}

-- what is ready in one contract is in another, which may ask as much
pub record IsPart (d : Derivation) (a c : Contract) : Type 0 where
  pub ready : ReadyIn (book_by d) (marks_by d) a c
  pub asks : (x y : ℕ) → AsksInWidth (book_by d) (marks_by d) a x y → AsksInWidth (book_by d) (marks_by d) c x y

-- the table with more rows
abbrev pub with_rows : Derived → List Node → Derived
with_rows t nodes = record { arena = nodes; memo = t.memo }

module _ (d : Derivation) where
  -- ---- parts

  pub itself : (c : Contract) → IsPart d c c
  itself c = record { ready = λ k h. h; asks = λ x y h. h }

  pub plus_part : (a b : Contract) → IsPart d a (Plus a b)
  plus_part a b = record {
    ready = plus_ready_first (book_by d) (marks_by d) a b;
    asks = λ x y h. omega (arith, h, width-plus (book_by d) (marks_by d) a b, size-width (book_by d) (marks_by d) b);
  }

  pub seq_part : (a b : Contract) → IsPart d a (Seq a b)
  seq_part a b = record {
    ready = seq_ready_first (book_by d) (marks_by d) a b;
    asks = λ x y h. omega (arith, h, width-first (book_by d) (marks_by d) a b);
  }

  -- a choice is a part of its parts side by side, or one after the other
  pub par_part : (a b : Contract) → IsPart d (Plus a b) (Par a b)
  par_part a b = record {
    ready = par_ready (book_by d) (marks_by d) a b;
    asks = λ x y h. omega (arith, h, width-plus (book_by d) (marks_by d) a b, width-par (book_by d) (marks_by d) a b);
  }

  pub ends_part : (a b : Contract) → nullable (marks_by d) a ≡ true → IsPart d (Plus a b) (Seq a b)
  ends_part a b n = record {
    ready = seq_ready (book_by d) (marks_by d) a b n;
    asks = λ x y h. (let whole = rw n at (width-seq (book_by d) (marks_by d) a b) in omega (arith, h, whole, width-plus (book_by d) (marks_by d) a b));
  }

  -- ---- calls

  -- a part was not derived
  pub part_failed : {A B E F : Type 0} {IsA : A → Type 0} {IsB : B → Type 0} {NowA NowB : Contract → Type 0} {old new : Derived} {x y : ℕ} {a c : Contract} {r : Result A E} →
      IsPart d a c → HasDerived d a IsA NowA old new x y r → (q : Result B F) → IsErr q → HasDerived d c IsB NowB old new x y q
  part_failed {IsB = IsB} {NowA = NowA} {NowB = NowB} {old = old} {new = new} {x = x} {y = y} {a = a} {c = c} {r = r} p h q e = record {
    grows = h.grows;
    found = failed q e IsB;
    notes = failed q e (λ _. AreRightNotes d new);
    rises = h.rises;
    asks = p.asks x y h.asks;
    once = spending.part_failed (book_by d) (marks_by d) a c (HasNoted old) NowA NowB x y r q e p.ready h.once;
  }

  -- something was made of what a part has
  pub part_joined : {A B E : Type 0} {IsA : A → Type 0} {IsB : B → Type 0} {old mid : Derived} {x y : ℕ} {a c : Contract} {v : A} → IsPart d a c →
      HasDerived d a {E = E} IsA (HasNoted mid) old mid x y (Ok v) → (nodes : List Node) → Extends mid.arena nodes → (r : Result B E) → IfOk r IsB →
      HasDerived d c IsB (HasNoted (with_rows mid nodes)) old (with_rows mid nodes) x y r
  part_joined {IsB = IsB} {old = old} {mid = mid} {x = x} {y = y} {a = a} {c = c} {v = v} p h nodes z r k = record {
    grows = extends_twice old.arena mid.arena nodes h.grows z;
    found = k;
    notes = always r (notes_later (book_by d) (marks_by d) d.event.now mid.arena nodes z (noted mid.memo) h.notes);
    rises = h.rises;
    asks = p.asks x y h.asks;
    once = part_spent (book_by d) (marks_by d) a c (HasNoted old) (HasNoted mid) (HasNoted (with_rows mid nodes)) x y v r p.ready
        (always r (λ b. noted_later mid.arena nodes z (noted mid.memo) (λ i j m. (h.notes i j m).0) b)) h.once;
  }

  -- of a contract that is yet to be noted
  pub anew : {E : Type 0} {Is : ℕ → Type 0} {old new : Derived} {x y : ℕ} {c : Contract} {r : Result ℕ E} →
      HasDerived d c Is (HasNoted new) old new x y r → HasDerived d c Is (HasNotedBut c new) old new x y r
  anew {old = old} {new = new} {x = x} {y = y} {c = c} {r = r} h = record {
    grows = h.grows;
    found = h.found;
    notes = h.notes;
    rises = h.rises;
    asks = h.asks;
    once = same_spent (book_by d) (marks_by d) c c (HasNoted old) (HasNoted old) (HasNotedBut c new) (HasNoted new) x y r (λ b i. i) (λ b i. i) (λ b i. inr i) h.once;
  }

  -- a row that is noted
  pub known : {E : Type 0} (t : Derived) (place v x : ℕ) → AreRightNotes d t → noted t.memo place ≡ Some v →
      Derives {E = E} d (contract_at t.arena place) t t x x (Ok v)
  known t place v x all e = record {
    grows = extends_not t.arena;
    found = (all place v e).1;
    notes = all;
    rises = omega arith;
    asks = omega (arith, size-width (book_by d) (marks_by d) (contract_at t.arena place));
    once = none_spent (book_by d) (marks_by d) (contract_at t.arena place) (HasNoted t) (HasNoted t) x x (omega arith) (Ok v) (λ b i. i);
  }

  -- a row that was derived and is noted then
  pub noted_next : {E : Type 0} (old mid : Derived) (place next : ℕ) → place < length old.arena → (x y : ℕ) →
      DerivesAnew {E = E} d (contract_at old.arena place) old mid x y (Ok next) → (more : List (Option ℕ)) → (r : Result ℕ E) → IfOk r (λ p. p ≡ next) →
      IfOk r (λ _. NotesRow mid.memo more place next) → Derives d (contract_at old.arena place) old (record { arena = mid.arena; memo = more }) x y r
  noted_next old mid place next l x y h more r same all = record {
    grows = h.grows;
    found = noted_stands (book_by d) (marks_by d) d.event.now old.arena mid.arena h.grows place next l h.found r same;
    notes = noted_notes (book_by d) (marks_by d) d.event.now old.arena mid.arena h.grows place next l h.found r (noted mid.memo) (noted more) h.notes all;
    rises = h.rises;
    asks = h.asks;
    once = noted_spent (book_by d) (marks_by d) old.arena mid.arena h.grows place next l (noted old.memo) (noted mid.memo) (noted more) x y r h.once all;
  }

  -- ---- rows that have no parts

  module _ {E : Type 0} (t : Derived) (place : ℕ) (all : AreRightNotes d t) (nodes : List Node) (z : Extends t.arena nodes) (r : Result ℕ E) where
    inside : (k v : ℕ) → noted t.memo k ≡ Some v → k < length t.arena
    inside k v m = (all k v m).0

    stay : IfOk r (λ _. (b : Contract) → HasNoted t b → HasNotedBut (contract_at t.arena place) (with_rows t nodes) b)
    stay = always r (λ b h. inr (noted_later t.arena nodes z (noted t.memo) inside b h))

    -- nothing is asked
    pub unasked : (x : ℕ) → IfOk r (IsResidual d nodes (contract_at t.arena place)) → DerivesAnew d (contract_at t.arena place) t (with_rows t nodes) x x r
    unasked x h = record {
      grows = z;
      found = h;
      notes = always r (notes_later (book_by d) (marks_by d) d.event.now t.arena nodes z (noted t.memo) all);
      rises = omega arith;
      asks = omega (arith, size-width (book_by d) (marks_by d) (contract_at t.arena place));
      once = none_spent (book_by d) (marks_by d) (contract_at t.arena place) (HasNoted t) (HasNotedBut (contract_at t.arena place) (with_rows t nodes)) x x (omega arith) r stay;
    }

    -- it pays for itself
    pub paid : IsTable t.arena → place < length t.arena → noted t.memo place ≡ None → IsAmong (contract_at t.arena place) (ready (book_by d) (marks_by d) (contract_at t.arena place)) →
        (x y : ℕ) → x ≤ y → AsksInWidth (book_by d) (marks_by d) (contract_at t.arena place) x y → y ≤ x + asked_of (book_by d) (contract_at t.arena place) →
        IfOk r (IsResidual d nodes (contract_at t.arena place)) → DerivesAnew d (contract_at t.arena place) t (with_rows t nodes) x y r
    paid table l none here x y m n q h = record {
      grows = z;
      found = h;
      notes = always r (notes_later (book_by d) (marks_by d) d.event.now t.arena nodes z (noted t.memo) all);
      rises = m;
      asks = n;
      once = one_spent (book_by d) (marks_by d) (contract_at t.arena place) (HasNoted t) (HasNotedBut (contract_at t.arena place) (with_rows t nodes)) x y q here
          (new_contract t.arena table (noted t.memo) inside place l none) r stay (always r (inl refl));
    }

    -- a transmission
    module _ (table : IsTable t.arena) (l : place < length t.arena) (none : noted t.memo place ≡ None) where
      pub transmit_done : (b : Binders) (p : Expression) (c : Contract) → contract_at t.arena place ≡ Transmit b p c →
          (x y : ℕ) → x ≤ y → y ≤ x + questions (Transmit b p c) → y ≤ x + 1 + arguments c → IfOk r (IsResidual d nodes (Transmit b p c)) →
          DerivesAnew d (contract_at t.arena place) t (with_rows t nodes) x y r
      transmit_done b p c whole x y up few fewer h =
          let book = book_by d in
          let marks = marks_by d in
          paid table l none (subst (λ k. IsAmong k (ready book marks k)) (sym whole) (ready-transmit book marks b p c)) x y up
          (subst (λ k. AsksInWidth book marks k x y) (sym whole) (omega (arith, few, size-width book marks (Transmit b p c))))
          (omega (arith, fewer, ap (asked_of book) whole)) (subst (λ k. IfOk r (IsResidual d nodes k)) (sym whole) h)

  -- ---- two rows

  module _ {E : Type 0} (old mid : Derived) (a b f : ℕ) (l : a < length old.arena) (m : b < length old.arena) {x y : ℕ}
      (h : Derives {E = E} d (contract_at old.arena a) old mid x y (Ok f)) where
    -- the second can be derived
    pub second_can : CanDerive d old (Plus (contract_at old.arena a) (contract_at old.arena b)) → CanDerive d mid (contract_at mid.arena b)
    second_can c = record {
      studied = c.studied;
      fits = subst (CountsFit (book_by d)) (sym (contract_at-later old.arena mid.arena h.grows b m)) c.fits.1;
      notes = h.notes;
    }

    pub second_width : width (book_by d) (marks_by d) (contract_at mid.arena b) ≡ width (book_by d) (marks_by d) (contract_at old.arena b)
    second_width = ap (width (book_by d) (marks_by d)) (contract_at-later old.arena mid.arena h.grows b m)

    module _ (new : Derived) (z : ℕ) where
      both_asked : AsksInWidth (book_by d) (marks_by d) (contract_at mid.arena b) y z →
          AsksInWidth (book_by d) (marks_by d) (Plus (contract_at old.arena a) (contract_at old.arena b)) x z
      both_asked k =
          let second : AsksInWidth (book_by d) (marks_by d) (contract_at old.arena b) y z =
          subst (λ c. AsksInWidth (book_by d) (marks_by d) c y z) (contract_at-later old.arena mid.arena h.grows b m) k in
          omega (arith, h.asks, second, width-plus (book_by d) (marks_by d) (contract_at old.arena a) (contract_at old.arena b))

      both_spent : (r : Result ℕ E) → IsSpent (book_by d) (marks_by d) (contract_at mid.arena b) (HasNoted mid) (HasNoted new) y z r →
          IsSpent (book_by d) (marks_by d) (Plus (contract_at old.arena a) (contract_at old.arena b)) (HasNoted old) (HasNoted new) x z r
      both_spent r k =
          let book = book_by d in
          let marks = marks_by d in
          let first = contract_at old.arena a in
          let second = contract_at old.arena b in
          two_spent book marks first (contract_at mid.arena b) (Plus first second) (HasNoted old) (HasNoted mid) x y z f (plus_ready_first book marks first second)
          (subst (λ c. ReadyIn book marks c (Plus first second)) (sym (contract_at-later old.arena mid.arena h.grows b m)) (plus_ready_second book marks first second))
          h.once (HasNoted new) r k

      -- and was not
      pub second_failed : {r : Result ℕ E} → Derives d (contract_at mid.arena b) mid new y z r → {F : Type 0} (q : Result (ℕ × ℕ) F) → IsErr q →
          DerivesBoth d a b old new x z q
      second_failed {r = r} k q e = record {
        grows = extends_twice old.arena mid.arena new.arena h.grows k.grows;
        found = failed q e (AreResiduals d new.arena a b);
        notes = failed q e (λ _. AreRightNotes d new);
        rises = omega (arith, h.rises, k.rises);
        asks = both_asked k.asks;
        once =
            let whole = Plus (contract_at old.arena a) (contract_at old.arena b) in
            spending.part_failed (book_by d) (marks_by d) whole whole (HasNoted old) (HasNoted new) (HasNoted new) x z r q e (λ c i. i) (both_spent r k.once);
      }

      -- and was
      pub both_derived : (g : ℕ) → Derives {E = E} d (contract_at mid.arena b) mid new y z (Ok g) → DerivesBoth {E = E} d a b old new x z (Ok (f, g))
      both_derived g k = record {
        grows = extends_twice old.arena mid.arena new.arena h.grows k.grows;
        found = both_after d old.arena mid.arena new.arena h.grows k.grows a b f g l m h.found k.found;
        notes = k.notes;
        rises = omega (arith, h.rises, k.rises);
        asks = both_asked k.asks;
        once =
            let whole = Plus (contract_at old.arena a) (contract_at old.arena b) in
            part_spent (book_by d) (marks_by d) whole whole (HasNoted old) (HasNoted new) (HasNoted new) x z g (Ok (f, g)) (λ c i. i) (λ c i. i) (both_spent (Ok g) k.once);
      }

  -- what was made of the residuals of two rows is one of the whole
  module _ (join : Contract → Contract → Contract) (old mid new : List Node) (z : Extends old mid) (a b : ℕ) (l : a < length old) (m : b < length old) where
    pub joined_found : (c : Contract) → c ≡ join (contract_at old a) (contract_at old b) → {E : Type 0} (r : Result ℕ E) →
        IfOk r (IsResidual d new (join (contract_at mid a) (contract_at mid b))) → IfOk r (IsResidual d new c)
    joined_found c whole r h =
        subst (λ k. IfOk r (IsResidual d new k)) (ap₂ join (contract_at-later old mid z a l) (contract_at-later old mid z b m) ∙ sym whole) h

  -- and so where the first of two rows may not end
  pub passed_found : (old mid new : List Node) → Extends old mid → (a b f : ℕ) → b < length old → IsResidual d mid (contract_at old a) f →
      nullable (marks_by d) (contract_at old a) ≡ false → {E : Type 0} (r : Result ℕ E) → IfOk r (λ p. Stands new p (seq (contract_at mid f) (contract_at mid b))) →
      IfOk r (IsResidual d new (Seq (contract_at old a) (contract_at old b)))
  passed_found old mid new z a b f m s n r h =
      subst (λ k. IfOk r (λ p. Stands new p k)) (ap₂ seq s.contract (contract_at-later old mid z b m)
      ∙ sym (after-seq (book_by d) (marks_by d) d.event.now (contract_at old a) (contract_at old b) ∙ rw n refl)) h

  -- ---- an application of a template

  module _ (t : Derived) (place : ℕ) (l : place < length t.arena) (table : IsTable t.arena) (none : noted t.memo place ≡ None) (can : CanDerive d t (contract_at t.arena place))
      (f : Name) (args : List Expression) (whole : contract_at t.arena place ≡ App f args) (template : Template) (q : template_in (book_by d).templates f ≡ Some template)
      (nodes : List Node) (z : Extends t.arena nodes) where
    -- its body was not entered
    pub app_failed : {E : Type 0} (x y : ℕ) → x ≤ y → y ≤ x + sum_by operated args + questions template.body → y ≤ x + sum_by operated args + arguments template.body →
        (r : Result ℕ E) → IsErr r → DerivesAnew d (contract_at t.arena place) t (with_rows t nodes) x y r
    app_failed x y up few fewer r e =
        let book = book_by d in
        let marks = marks_by d in
        let here = contract_at t.arena place in
        let pays = app_paid book marks can.studied here f args whole can.fits template q in
        paid t place can.notes nodes z r table l none (app_here book marks can.studied here f args whole can.fits template q) x y up
        (app_asking book marks can.studied here f args whole can.fits template q x y few) (omega (arith, pays, fewer)) (failed r e (IsResidual d nodes here))

    module _ (start : ℕ) (body : contract_at nodes start ≡ body_of (book_by d) (marks_by d) (Some template) args) where
      pub body_can : CanDerive d (with_rows t nodes) (contract_at nodes start)
      body_can = record {
        studied = can.studied;
        fits = body_fits (book_by d) (marks_by d) can.studied (contract_at t.arena place) f args whole can.fits template q (contract_at nodes start) body;
        notes = notes_later (book_by d) (marks_by d) d.event.now t.arena nodes z (noted t.memo) can.notes;
      }

      pub body_less : width (book_by d) (marks_by d) (contract_at nodes start) < width (book_by d) (marks_by d) (contract_at t.arena place)
      body_less = body_narrower (book_by d) (marks_by d) can.studied (contract_at t.arena place) f args whole can.fits template q (contract_at nodes start) body

      -- its body was derived
      pub app_done : {E : Type 0} (x y v : ℕ) → x ≤ y → y + questions (body_of (book_by d) (marks_by d) (Some template) args) ≤ x + sum_by operated args + questions template.body →
          y ≤ x + sum_by operated args + arguments template.body → (new : Derived) (r : Result ℕ E) → Derives d (contract_at nodes start) (with_rows t nodes) new y v r →
          DerivesAnew d (contract_at t.arena place) t new x v r
      app_done x y v up few fewer new r h =
          let book = book_by d in
          let marks = marks_by d in
          let here = contract_at t.arena place in
          let inside : (i j : ℕ) → noted t.memo i ≡ Some j → i < length t.arena = λ i j m. (can.notes i j m).0 in
          let same : after book marks d.event.now (contract_at nodes start) ≡ after book marks d.event.now here =
          ap (after book marks d.event.now) body
          ∙ sym (after-some book marks d.event.now can.studied f args (subst (CountsFit book) whole can.fits) template q) ∙ ap (after book marks d.event.now) (sym whole) in
          record {
            grows = extends_twice t.arena nodes new.arena z h.grows;
            found = subst (λ k. IfOk r (λ p. Stands new.arena p k)) same h.found;
            notes = h.notes;
            rises = omega (arith, up, h.rises);
            asks = app_asked book marks can.studied here f args whole can.fits template q (contract_at nodes start) body x y v few h.asks;
            once = app_spent book marks can.studied here f args whole can.fits template q (contract_at nodes start) body (HasNoted t) (HasNoted (with_rows t nodes)) (HasNoted new)
                (new_contract t.arena table (noted t.memo) inside place l none)
                (λ b i. noted_later t.arena nodes z (noted t.memo) inside b i) x y v fewer r h.once;
          }
