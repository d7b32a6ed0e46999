use Rattle.std.proofs.Common.{sym, ◌≡◌, Bool, true, inl, inr}
use Rattle.std.specs.Prelude.{◌&&◌, OnOk}
use Rattle.std.specs.BTreeMap.{get}
use Rattle.std.proofs.lemmas.Result.{on_ok_weaker}
use Rattle.poets_value.specs.declared.value.Name.{Name}
use Rattle.poets_value.specs.Names.{name_cmp}
use Rattle.poets_syntax.specs.Applied.{ApplicationsFit}
use Rattle.poets_syntax.specs.Plain.{Book}
use Rattle.poets_syntax.specs.Contract.{Contract, contract_of}
use Rattle.poets_guard.specs.code.Endings.{ends, MayEnd}
use Rattle.poets_guard.proofs.Marking.{MayEnd-par, MayEnd-seq}
use Rattle.poets_guard.specs.code.Facts.{AreAdded}
use Rattle.poets_guard.proofs.Concluding.{AreAdded-success, AreAdded-app, AreAdded-none, AreAdded-transmit, AreAdded-plus, AreAdded-both}
use Rattle.poets_guard.proofs.endings.Rules.+conclude.Goals as goal

pub returns-in-Success : goal.returns-in-Success
returns-in-Success t c =
    rw c.in-Success.is (on_ok_weaker c.add.result
    (λ r. AreAdded-success c.args.granted (get name_cmp c.args.facts.now) c.args.given c.args.goal c.args.self.now c.add.new.self c.add.ensures.count r) c.add.ensures.rules)

pub returns-then-granted : goal.returns-then-granted
returns-then-granted t c =
    rw c.in-Transmit.is (on_ok_weaker c.conclude.result
    (λ a. AreAdded-transmit c.args.granted (get name_cmp c.args.facts.now) _ _ (contract_of c.in-Transmit.then.value) c.args.given c.args.goal c.args.self.now c.conclude.new.self c.if-granted.true (rw c.deref.ensures at a))
    c.conclude.ensures)

pub returns-in_ok-conclude-in-Plus : goal.returns-in_ok-conclude-in-Plus
returns-in_ok-conclude-in-Plus t c =
    rw c.in-Plus.is (on_ok_weaker c.conclude-in-Plus-2.result
    (λ b. AreAdded-plus c.args.granted (get name_cmp c.args.facts.now) (contract_of c.in-Plus.a.value) (contract_of c.in-Plus.b.value) c.args.given c.args.goal
    c.args.self.now c.conclude-in-Plus.new.self c.conclude-in-Plus-2.new.self (rw c.deref-in-Plus.ensures at c.in_ok-conclude-in-Plus.ensures) (rw c.deref-in-Plus-2.ensures at b))
    c.conclude-in-Plus-2.ensures)

pub returns-in-Some : goal.returns-in-Some
returns-in-Some t c =
    rw c.in-App.is (on_ok_weaker c.add-in-Some.result
    (λ r. AreAdded-app c.args.granted (get name_cmp c.args.facts.now) c.in-App.name _ c.args.given c.in-Some.fact.now c.args.goal c.args.self.now c.add-in-Some.new.self
    (sym c.in-Some.ensures.value) c.add-in-Some.ensures.count r)
    c.add-in-Some.ensures.rules)

pub returns-in-None : goal.returns-in-None
returns-in-None t c =
    rw c.in-App.is (AreAdded-none c.args.granted (get name_cmp c.args.facts.now) c.in-App.name _ c.args.given c.args.goal c.args.self.now (sym c.in-None.ensures.value))

pub returns-in_ok-conclude-in-Par : goal.returns-in_ok-conclude-in-Par
returns-in_ok-conclude-in-Par t c = elim c.in-Par.is [
  | inl e ↦ rw e (both (Contract.Par (contract_of c.in-Par.a.value) (contract_of c.in-Par.b.value)) (λ says h. h) (λ book fit. (fit.0, fit.1, MayEnd-par book c.args.granted)))
  | inr e ↦ rw e (both (Contract.Seq (contract_of c.in-Par.a.value) (contract_of c.in-Par.b.value)) (λ says h. h) (λ book fit. (fit.0, fit.1, MayEnd-seq book c.args.granted)))
]
  where
    both : (d : Contract) → ((says : Name → Bool) → ends c.args.granted says d ≡ true → (ends c.args.granted says (contract_of c.in-Par.a.value) && ends c.args.granted says (contract_of c.in-Par.b.value)) ≡ true) →
        ((book : Book) → ApplicationsFit book d → ApplicationsFit book (contract_of c.in-Par.a.value) × ApplicationsFit book (contract_of c.in-Par.b.value)
        × (MayEnd book c.args.granted (contract_of c.in-Par.a.value) → MayEnd book c.args.granted (contract_of c.in-Par.b.value) → MayEnd book c.args.granted d)) →
        OnOk c.conclude-in-Par-2.result (AreAdded c.args.granted (get name_cmp c.args.facts.now) d c.args.given c.args.goal c.args.self.now c.conclude-in-Par-2.new.self)
    both d splits joins =
        on_ok_weaker c.conclude-in-Par-2.result
        (λ b. AreAdded-both c.args.granted (get name_cmp c.args.facts.now) (contract_of c.in-Par.a.value) (contract_of c.in-Par.b.value) d splits joins c.args.given c.args.goal c.in_ok-first-in-Par.first
        c.args.self.now c.fresh.new.self c.conclude-in-Par.new.self c.conclude-in-Par-2.new.self c.in_ok-first-in-Par.ensures.fact c.in_ok-first-in-Par.ensures.count c.in_ok-first-in-Par.ensures.rules
        (rw c.deref-in-Par.ensures at c.in_ok-conclude-in-Par.ensures) (rw c.deref-in-Par-2.ensures at b))
        c.conclude-in-Par-2.ensures
