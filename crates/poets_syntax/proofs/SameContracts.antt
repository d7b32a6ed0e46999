-- The test for equal contracts is right.
use Rattle.std.proofs.Common.{◌≡◌, ◌↔◌, ℕ, true, ◌&&◌, nat_eq, IsTrue, List, [], ◌∷◌, refl, sym, ◌∙◌, ap, ap₂, eq-eqb}
use Rattle.poets_value.specs.declared.value.Name.{Name}
use Rattle.poets_expr.specs.Expression.{Expression}
use Rattle.poets_expr.specs.Env.{same_name}
use Rattle.poets_expr.specs.Same.{same}
use Rattle.poets_expr.proofs.SameTrees.{both_true, name_one, same_one, same_itself}
use Rattle.poets_syntax.specs.declared.term.Binders.{Binders}
use Rattle.poets_syntax.specs.Contract.{Contract, Success, Failure, Transmit, Plus, Par, Seq, App}
use Rattle.poets_syntax.specs.Same.{same_binders, same_args, same_contract}

pub binders_one : (a b : Binders) → same_binders a b ≡ true → a ≡ b
binders_one a b e =
    let h = both_true (same_name a.sender b.sender && same_name a.receiver b.receiver && same_name a.what b.what) (same_name a.day b.day) e in
    let k = both_true (same_name a.sender b.sender && same_name a.receiver b.receiver) (same_name a.what b.what) h.0 in
    let l = both_true (same_name a.sender b.sender) (same_name a.receiver b.receiver) k.0 in
    let s = name_one a.sender b.sender l.0 in
    let r = name_one a.receiver b.receiver l.1 in
    let w = name_one a.what b.what k.1 in
    let d = name_one a.day b.day h.1 in
    λ i. record { sender = s i; receiver = r i; what = w i; day = d i }

pub args_one : (xs ys : List Expression) → same_args xs ys ≡ true → xs ≡ ys
args_one [] [] e = refl
args_one (a ∷ xs) (b ∷ ys) e =
    let h = both_true (same a b) (same_args xs ys) e in
    ap₂ (λ z zs. z ∷ zs) (same_one a b h.0) (args_one xs ys h.1)
args_one _ _ e = absurd cc

pub contract_one : (c d : Contract) → same_contract c d ≡ true → c ≡ d
contract_one Success Success e = refl
contract_one Failure Failure e = refl
contract_one (Transmit b p c) (Transmit d q f) e =
    let h = both_true (same_binders b d && same p q) (same_contract c f) e in
    let k = both_true (same_binders b d) (same p q) h.0 in
    let i = binders_one b d k.0 in
    let j = same_one p q k.1 in
    let l = contract_one c f h.1 in
    cc
contract_one (Plus a b) (Plus c d) e =
    let h = both_true (same_contract a c) (same_contract b d) e in ap₂ Plus (contract_one a c h.0) (contract_one b d h.1)
contract_one (Par a b) (Par c d) e =
    let h = both_true (same_contract a c) (same_contract b d) e in ap₂ Par (contract_one a c h.0) (contract_one b d h.1)
contract_one (Seq a b) (Seq c d) e =
    let h = both_true (same_contract a c) (same_contract b d) e in ap₂ Seq (contract_one a c h.0) (contract_one b d h.1)
contract_one (App f xs) (App g ys) e =
    let h = both_true (same_name f g) (same_args xs ys) e in ap₂ App (name_one f g h.0) (args_one xs ys h.1)
contract_one _ _ e = absurd cc

nat_itself : (n : ℕ) → nat_eq n n ≡ true
nat_itself n = eq-eqb n n refl

pub name_itself : (x : Name) → same_name x x ≡ true
name_itself x = nat_itself x.id

pub binders_itself : (b : Binders) → same_binders b b ≡ true
binders_itself b = rw (nat_itself b.sender.id, nat_itself b.receiver.id, nat_itself b.what.id, nat_itself b.day.id) refl

pub args_itself : (args : List Expression) → same_args args args ≡ true
args_itself [] = refl
args_itself (a ∷ args) = rw (same_itself a, args_itself args) refl

-- a contract is equal to itself by the test
pub contract_itself : (c : Contract) → same_contract c c ≡ true
contract_itself Success = refl
contract_itself Failure = refl
contract_itself (Transmit b p c) = rw (binders_itself b, same_itself p, contract_itself c) refl
contract_itself (Plus a b) = rw (contract_itself a, contract_itself b) refl
contract_itself (Par a b) = rw (contract_itself a, contract_itself b) refl
contract_itself (Seq a b) = rw (contract_itself a, contract_itself b) refl
contract_itself (App f args) = rw (nat_itself f.id, args_itself args) refl

-- the test is true of equal contracts alone
pub same_iff : (c d : Contract) → IsTrue (same_contract c d) ↔ (c ≡ d)
same_iff c d = (contract_one c d, λ e. ap (same_contract c) (sym e) ∙ contract_itself c)
