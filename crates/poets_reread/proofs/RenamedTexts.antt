-- The text of a tree stays where each name is replaced by one with the same text in another table.
use Rattle.std.proofs.Common.{◌≡◌, ◌≢◌, ℕ, Bool, List, [], ◌∷◌, ◌++◌, All, map, refl, sym, ap, ap₂, ◌∙◌, nat_lt, nat_le, subst}
use Rattle.std.specs.Prelude.{codes}
use Rattle.std.specs.Fmt.{decimal, signed_decimal}
use Rattle.std.proofs.lemmas.List.Elements.{All-nil, All-cons, All-head, All-tail}
use Rattle.poets_value.specs.Civil.{day_text}
use Rattle.poets_value.specs.Whole.{IsWholeValue}
use Rattle.poets_value.specs.declared.event.Event.{Event}
use Rattle.poets_value.specs.declared.value.Name.{Name}
use Rattle.poets_value.specs.declared.value.Value.{Value}
use Rattle.poets_value.specs.declared.value.Value.TheVariants as V
use Rattle.poets_expr.specs.declared.expr.Op.{Op}
use Rattle.poets_expr.specs.Expression.{Expression, Minus, Not, AmountOf, KindOf, Literal, Undefined, Named, Unary, Make, Binary, If}
use Rattle.poets_expr.specs.Whole.{IsWholeExpression}
use Rattle.poets_syntax.specs.declared.term.Binders.{Binders}
use Rattle.poets_syntax.specs.Contract as C
use Rattle.poets_syntax.specs.Contract.{Contract}
use Rattle.poets_syntax.specs.Whole.{IsWholeContract}
use Rattle.poets_command.specs.Plain as plain
use Rattle.poets_command.specs.Plain.{Command}
use Rattle.poets_command.specs.Taken.{IsWholeCommand}
use Rattle.poets_lex.specs.Table.{Table}
use Rattle.poets_print.specs.Levels.{level, is_number, left_in_brackets, right_in_brackets, negated_in_brackets, denied_in_brackets, contract_level}
use Rattle.poets_print.specs.Texts.{name_text, bracketed, behind_commas, listed, value_text, op_text, expression_text, call_text, binders_text, contract_text}
use Rattle.poets_print.specs.Lines.{event_text, command_text}
use Rattle.poets_print.specs.Laws.{IsListed, HasLiteral, CanWrite, CanWriteContract, CanWriteCommand}
use Rattle.poets_reread.proofs.Renamed.{renamed_value, renamed, renamed_args, renamed_binders, renamed_contract, renamed_event, renamed_command}

-- ---- equations of parts

same3 : {A B C X : Type 0} (f : A → B → C → X) {a a' : A} {b b' : B} {c c' : C} → a ≡ a' → b ≡ b' → c ≡ c' →
    f a b c ≡ f a' b' c'
same3 f {a' = a'} {b = b} {c = c} p q r = ap (λ x. f x b c) p ∙ ap₂ (f a') q r

same4 : {A B C D X : Type 0} (f : A → B → C → D → X) {a a' : A} {b b' : B} {c c' : C} {d d' : D} →
    a ≡ a' → b ≡ b' → c ≡ c' → d ≡ d' → f a b c d ≡ f a' b' c' d'
same4 f {a' = a'} {b = b} {c = c} {d = d} p q r s = ap (λ x. f x b c d) p ∙ same3 (f a') q r s

-- ---- lists

commas_kept : {A B : Type 0} (P : A → Type 0) (new : A → B) (f : A → List ℕ) (g : B → List ℕ) →
    ((x : A) → P x → g (new x) ≡ f x) → (xs : List A) → All P xs → behind_commas g (map new xs) ≡ behind_commas f xs
commas_kept P new f g same [] h = refl
commas_kept P new f g same (x ∷ xs) h =
    ap₂ (λ (a b : List ℕ). (codes ", " ++ a) ++ b) (same x (All-head P x xs h)) (commas_kept P new f g same xs (All-tail P x xs h))

listed_kept : {A B : Type 0} (P : A → Type 0) (new : A → B) (f : A → List ℕ) (g : B → List ℕ) →
    ((x : A) → P x → g (new x) ≡ f x) → (xs : List A) → All P xs → listed g (map new xs) ≡ listed f xs
listed_kept P new f g same [] h = refl
listed_kept P new f g same (x ∷ xs) h =
    ap₂ (λ (a b : List ℕ). a ++ b) (same x (All-head P x xs h)) (commas_kept P new f g same xs (All-tail P x xs h))

pub all_renamed : {A B : Type 0} (P : A → Type 0) (Q : B → Type 0) (new : A → B) → ((x : A) → P x → Q (new x)) →
    (xs : List A) → All P xs → All Q (map new xs)
all_renamed P Q new each [] h = All-nil Q
all_renamed P Q new each (x ∷ xs) h =
    All-cons Q (new x) (map new xs) (each x (All-head P x xs h)) (all_renamed P Q new each xs (All-tail P x xs h))

map_some : {A B : Type 0} (new : A → B) (xs : List A) → xs ≢ [] → map new xs ≢ []
map_some new [] some e = some refl
map_some new (x ∷ xs) some e = absurd cc

-- ---- brackets

level_kept : (new : Name → Name) (e : Expression) → level (renamed new e) ≡ level e
level_kept new (Literal v) = refl
level_kept new (Undefined t) = refl
level_kept new (Named x) = refl
level_kept new (Unary Minus a) = refl
level_kept new (Unary Not a) = refl
level_kept new (Unary AmountOf a) = refl
level_kept new (Unary KindOf a) = refl
level_kept new (Make a b) = refl
level_kept new (Binary o a b) = refl
level_kept new (If a b c) = refl

number_kept : (new : Name → Name) (e : Expression) → is_number (renamed new e) ≡ is_number e
number_kept new (Literal (V.Int z)) = refl
number_kept new (Literal (V.Bool b)) = refl
number_kept new (Literal (V.Agent x)) = refl
number_kept new (Literal (V.Kind x)) = refl
number_kept new (Literal (V.Resource r)) = refl
number_kept new (Literal (V.Day d)) = refl
number_kept new (Undefined t) = refl
number_kept new (Named x) = refl
number_kept new (Unary o a) = refl
number_kept new (Make a b) = refl
number_kept new (Binary o a b) = refl
number_kept new (If a b c) = refl

left_kept : (new : Name → Name) (o : Op) (a : Expression) → left_in_brackets o (renamed new a) ≡ left_in_brackets o a
left_kept new o a = rw (level_kept new a) refl

right_kept : (new : Name → Name) (o : Op) (a : Expression) → right_in_brackets o (renamed new a) ≡ right_in_brackets o a
right_kept new o a = rw (level_kept new a) refl

negated_kept : (new : Name → Name) (a : Expression) → negated_in_brackets (renamed new a) ≡ negated_in_brackets a
negated_kept new a = rw (level_kept new a, number_kept new a) refl

denied_kept : (new : Name → Name) (a : Expression) → denied_in_brackets (renamed new a) ≡ denied_in_brackets a
denied_kept new a = rw (level_kept new a) refl

contract_level_kept : (new : Name → Name) (c : Contract) → contract_level (renamed_contract new c) ≡ contract_level c
contract_level_kept new C.Success = refl
contract_level_kept new C.Failure = refl
contract_level_kept new (C.Transmit b p c) = refl
contract_level_kept new (C.Plus a b) = refl
contract_level_kept new (C.Par a b) = refl
contract_level_kept new (C.Seq a b) = refl
contract_level_kept new (C.App f args) = refl

-- ---- whole trees

value_whole : (new : Name → Name) (v : Value) → IsWholeValue v → IsWholeValue (renamed_value new v)
value_whole new (V.Int z) h = h
value_whole new (V.Bool b) h = h
value_whole new (V.Agent x) h = h
value_whole new (V.Kind x) h = h
value_whole new (V.Resource r) h = h
value_whole new (V.Day d) h = h

expression_whole : (new : Name → Name) (e : Expression) → IsWholeExpression e → IsWholeExpression (renamed new e)
expression_whole new (Literal v) h = value_whole new v h
expression_whole new (Undefined t) h = tt
expression_whole new (Named x) h = tt
expression_whole new (Unary o a) h = expression_whole new a h
expression_whole new (Make a b) h = (expression_whole new a h.0, expression_whole new b h.1)
expression_whole new (Binary o a b) h = (expression_whole new a h.0, expression_whole new b h.1)
expression_whole new (If a b c) h = (expression_whole new a h.0, expression_whole new b h.1, expression_whole new c h.2)

args_whole : (new : Name → Name) (args : List Expression) → All IsWholeExpression args →
    All IsWholeExpression (renamed_args new args)
args_whole new args h = all_renamed IsWholeExpression IsWholeExpression (renamed new) (expression_whole new) args h

contract_whole : (new : Name → Name) (c : Contract) → IsWholeContract c → IsWholeContract (renamed_contract new c)
contract_whole new C.Success h = tt
contract_whole new C.Failure h = tt
contract_whole new (C.Transmit b p c) h = (expression_whole new p h.0, contract_whole new c h.1)
contract_whole new (C.Plus a b) h = (contract_whole new a h.0, contract_whole new b h.1)
contract_whole new (C.Par a b) h = (contract_whole new a h.0, contract_whole new b h.1)
contract_whole new (C.Seq a b) h = (contract_whole new a h.0, contract_whole new b h.1)
contract_whole new (C.App f args) h = args_whole new args h

pub command_whole : (new : Name → Name) (c : Command) → IsWholeCommand c → IsWholeCommand (renamed_command new c)
command_whole new (plain.Register x c) h = contract_whole new c h
command_whole new (plain.Transmit x e) h = h
command_whole new (plain.Void x k) h = tt
command_whole new (plain.End x) h = tt
command_whole new (plain.Show x) h = tt
command_whole new (plain.Tally q args) h = args_whole new args h
command_whole new (plain.Portfolio q args over) h = args_whole new args h
command_whole new (plain.Watch q args) h = args_whole new args h
command_whole new (plain.Read n) h = tt

-- ---- names that a table has

module _ (t u : Table) (new : Name → Name) (has : (x : Name) → IsListed t x → IsListed u (new x)) where
  expression_written : (e : Expression) → CanWrite t e → CanWrite u (renamed new e)
  expression_written (Literal (V.Int z)) h = tt
  expression_written (Literal (V.Bool b)) h = tt
  expression_written (Literal (V.Agent x)) h = absurd h
  expression_written (Literal (V.Kind x)) h = absurd h
  expression_written (Literal (V.Resource r)) h = has r.kind h
  expression_written (Literal (V.Day d)) h = tt
  expression_written (Undefined ty) h = tt
  expression_written (Named x) h = has x h
  expression_written (Unary o a) h = expression_written a h
  expression_written (Make a b) h = (expression_written a h.0, expression_written b h.1)
  expression_written (Binary o a b) h = (expression_written a h.0, expression_written b h.1)
  expression_written (If a b c) h = (expression_written a h.0, expression_written b h.1, expression_written c h.2)

  args_written : (args : List Expression) → All (CanWrite t) args → All (CanWrite u) (renamed_args new args)
  args_written args h = all_renamed (CanWrite t) (CanWrite u) (renamed new) expression_written args h

  names_written : (xs : List Name) → All (IsListed t) xs → All (IsListed u) (map new xs)
  names_written xs h = all_renamed (IsListed t) (IsListed u) new has xs h

  contract_written : (c : Contract) → CanWriteContract t c → CanWriteContract u (renamed_contract new c)
  contract_written C.Success h = tt
  contract_written C.Failure h = tt
  contract_written (C.Transmit b p c) h =
      (names_written (b.sender ∷ b.receiver ∷ b.what ∷ b.day ∷ []) h.0, expression_written p h.1, contract_written c h.2)
  contract_written (C.Plus a b) h = (contract_written a h.0, contract_written b h.1)
  contract_written (C.Par a b) h = (contract_written a h.0, contract_written b h.1)
  contract_written (C.Seq a b) h = (contract_written a h.0, contract_written b h.1)
  contract_written (C.App f args) h = (has f h.0, args_written args h.1)

  pub command_written : (c : Command) → CanWriteCommand t c → CanWriteCommand u (renamed_command new c)
  command_written (plain.Register x c) h = (has x h.0, contract_written c h.1)
  command_written (plain.Transmit x e) h = (has x h.0, has e.sender h.1, has e.receiver h.2, h.3, has e.what.kind h.4)
  command_written (plain.Void x k) h = (has x h.0, h.1)
  command_written (plain.End x) h = has x h
  command_written (plain.Show x) h = has x h
  command_written (plain.Tally q args) h = (has q h.0, args_written args h.1)
  command_written (plain.Portfolio q args over) h =
      (has q h.0, args_written args h.1, names_written over h.2, map_some new over h.3)
  command_written (plain.Watch q args) h = (has q h.0, args_written args h.1)
  command_written (plain.Read n) h = h

-- ---- texts

module _ (t u : Table) (new : Name → Name) (text : (x : Name) → IsListed t x → name_text u (new x) ≡ name_text t x) where
  value_kept : (v : Value) → HasLiteral t v → value_text u (renamed_value new v) ≡ value_text t v
  value_kept (V.Int z) h = refl
  value_kept (V.Bool b) h = refl
  value_kept (V.Agent x) h = absurd h
  value_kept (V.Kind x) h = absurd h
  value_kept (V.Resource r) h =
      ap (λ (k : List ℕ). codes "[" ++ signed_decimal r.amount ++ codes " " ++ k ++ codes "]") (text r.kind h)
  value_kept (V.Day d) h = refl

  expression_kept : (e : Expression) → CanWrite t e → expression_text u (renamed new e) ≡ expression_text t e
  expression_kept (Literal v) h = value_kept v h
  expression_kept (Undefined ty) h = refl
  expression_kept (Named x) h = text x h
  expression_kept (Unary Minus a) h =
      ap₂ (λ (i : Bool) (x : List ℕ). codes "-" ++ bracketed i x) (negated_kept new a) (expression_kept a h)
  expression_kept (Unary Not a) h =
      ap₂ (λ (i : Bool) (x : List ℕ). codes "not " ++ bracketed i x) (denied_kept new a) (expression_kept a h)
  expression_kept (Unary AmountOf a) h = ap (λ (x : List ℕ). codes "amount(" ++ x ++ codes ")") (expression_kept a h)
  expression_kept (Unary KindOf a) h = ap (λ (x : List ℕ). codes "kind(" ++ x ++ codes ")") (expression_kept a h)
  expression_kept (Make a b) h =
      ap₂ (λ (x y : List ℕ). codes "res(" ++ x ++ codes ", " ++ y ++ codes ")")
      (expression_kept a h.0) (expression_kept b h.1)
  expression_kept (Binary o a b) h =
      same4 (λ (i : Bool) (x : List ℕ) (j : Bool) (y : List ℕ). bracketed i x ++ codes " " ++ op_text o ++ codes " " ++ bracketed j y)
      (left_kept new o a) (expression_kept a h.0) (right_kept new o b) (expression_kept b h.1)
  expression_kept (If a b c) h =
      same3 (λ (x y z : List ℕ). codes "if " ++ x ++ codes " then " ++ y ++ codes " else " ++ z ++ codes " end")
      (expression_kept a h.0) (expression_kept b h.1) (expression_kept c h.2)

  call_kept : (f : Name) (args : List Expression) → IsListed t f → All (CanWrite t) args →
      call_text u (new f) (renamed_args new args) ≡ call_text t f args
  call_kept f args h all =
      ap₂ (λ (x y : List ℕ). x ++ codes "(" ++ y ++ codes ")") (text f h)
      (listed_kept (CanWrite t) (renamed new) (expression_text t) (expression_text u) expression_kept args all)

  binders_kept : (b : Binders) → All (IsListed t) (b.sender ∷ b.receiver ∷ b.what ∷ b.day ∷ []) →
      binders_text u (renamed_binders new b) ≡ binders_text t b
  binders_kept b h =
      listed_kept (IsListed t) new (name_text t) (name_text u) text (b.sender ∷ b.receiver ∷ b.what ∷ b.day ∷ []) h

  part_kept : (test : ℕ → Bool) (c : Contract) → contract_text u (renamed_contract new c) ≡ contract_text t c →
      bracketed (test (contract_level (renamed_contract new c))) (contract_text u (renamed_contract new c))
      ≡ bracketed (test (contract_level c)) (contract_text t c)
  part_kept test c e = ap₂ (λ (l : ℕ) (x : List ℕ). bracketed (test l) x) (contract_level_kept new c) e

  contract_kept : (c : Contract) → CanWriteContract t c → contract_text u (renamed_contract new c) ≡ contract_text t c
  contract_kept C.Success h = refl
  contract_kept C.Failure h = refl
  contract_kept (C.Transmit b p c) h =
      same3 (λ (x y z : List ℕ). codes "transmit(" ++ x ++ codes " | " ++ y ++ codes "). " ++ z)
      (binders_kept b h.0) (expression_kept p h.1) (part_kept (λ l. nat_lt l 4) c (contract_kept c h.2))
  contract_kept (C.Plus a b) h =
      ap₂ (λ (x y : List ℕ). x ++ codes " + " ++ y)
      (part_kept (λ l. nat_lt l 1) a (contract_kept a h.0)) (part_kept (λ l. nat_le l 1) b (contract_kept b h.1))
  contract_kept (C.Par a b) h =
      ap₂ (λ (x y : List ℕ). x ++ codes " || " ++ y)
      (part_kept (λ l. nat_lt l 2) a (contract_kept a h.0)) (part_kept (λ l. nat_le l 2) b (contract_kept b h.1))
  contract_kept (C.Seq a b) h =
      ap₂ (λ (x y : List ℕ). x ++ codes " ; " ++ y)
      (part_kept (λ l. nat_lt l 3) a (contract_kept a h.0)) (part_kept (λ l. nat_le l 3) b (contract_kept b h.1))
  contract_kept (C.App f args) h = call_kept f args h.0 h.1

  event_kept : (e : Event) → IsListed t e.sender → IsListed t e.receiver → IsListed t e.what.kind →
      event_text u (renamed_event new e) ≡ event_text t e
  event_kept e s r k =
      same3 (λ (x y z : List ℕ).
      x ++ codes " " ++ y ++ codes " " ++ (signed_decimal e.what.amount ++ codes " " ++ z) ++ codes " @" ++ day_text e.day)
      (text e.sender s) (text e.receiver r) (text e.what.kind k)

  pub command_kept : (c : Command) → CanWriteCommand t c → command_text u (renamed_command new c) ≡ command_text t c
  command_kept (plain.Register x c) h =
      ap₂ (λ (n b : List ℕ). codes "register " ++ n ++ codes " = " ++ b) (text x h.0) (contract_kept c h.1)
  command_kept (plain.Transmit x e) h =
      ap₂ (λ (n b : List ℕ). codes "transmit " ++ n ++ codes " " ++ b) (text x h.0) (event_kept e h.1 h.2 h.4)
  command_kept (plain.Void x k) h = ap (λ (n : List ℕ). codes "void " ++ n ++ codes " " ++ decimal k) (text x h.0)
  command_kept (plain.End x) h = ap (λ (n : List ℕ). codes "end " ++ n) (text x h)
  command_kept (plain.Show x) h = ap (λ (n : List ℕ). codes "show " ++ n) (text x h)
  command_kept (plain.Tally q args) h = ap (λ (n : List ℕ). codes "tally " ++ n) (call_kept q args h.0 h.1)
  command_kept (plain.Portfolio q args over) h =
      ap₂ (λ (n b : List ℕ). codes "portfolio " ++ n ++ codes " over " ++ b) (call_kept q args h.0 h.1)
      (listed_kept (IsListed t) new (name_text t) (name_text u) text over h.2)
  command_kept (plain.Watch q args) h = ap (λ (n : List ℕ). codes "watch " ++ n) (call_kept q args h.0 h.1)
  command_kept (plain.Read n) h = refl

-- ---- names that are not replaced

value_same : (v : Value) → renamed_value (λ x. x) v ≡ v
value_same (V.Int z) = refl
value_same (V.Bool b) = refl
value_same (V.Agent x) = refl
value_same (V.Kind x) = refl
value_same (V.Resource r) = refl
value_same (V.Day d) = refl

expression_same : (e : Expression) → renamed (λ x. x) e ≡ e
expression_same (Literal v) = ap Literal (value_same v)
expression_same (Undefined ty) = refl
expression_same (Named x) = refl
expression_same (Unary o a) = ap (Unary o) (expression_same a)
expression_same (Make a b) = ap₂ Make (expression_same a) (expression_same b)
expression_same (Binary o a b) = ap₂ (Binary o) (expression_same a) (expression_same b)
expression_same (If a b c) = same3 If (expression_same a) (expression_same b) (expression_same c)

args_same : (args : List Expression) → renamed_args (λ x. x) args ≡ args
args_same [] = refl
args_same (a ∷ args) = ap₂ (λ (x : Expression) (xs : List Expression). x ∷ xs) (expression_same a) (args_same args)

names_same : (xs : List Name) → map (λ (x : Name). x) xs ≡ xs
names_same [] = refl
names_same (x ∷ xs) = ap (λ (ys : List Name). x ∷ ys) (names_same xs)

contract_same : (c : Contract) → renamed_contract (λ x. x) c ≡ c
contract_same C.Success = refl
contract_same C.Failure = refl
contract_same (C.Transmit b p c) = ap₂ (C.Transmit b) (expression_same p) (contract_same c)
contract_same (C.Plus a b) = ap₂ C.Plus (contract_same a) (contract_same b)
contract_same (C.Par a b) = ap₂ C.Par (contract_same a) (contract_same b)
contract_same (C.Seq a b) = ap₂ C.Seq (contract_same a) (contract_same b)
contract_same (C.App f args) = ap (C.App f) (args_same args)

command_same : (c : Command) → renamed_command (λ x. x) c ≡ c
command_same (plain.Register x c) = ap (plain.Register x) (contract_same c)
command_same (plain.Transmit x e) = refl
command_same (plain.Void x k) = refl
command_same (plain.End x) = refl
command_same (plain.Show x) = refl
command_same (plain.Tally q args) = ap (plain.Tally q) (args_same args)
command_same (plain.Portfolio q args over) = ap₂ (plain.Portfolio q) (args_same args) (names_same over)
command_same (plain.Watch q args) = ap (plain.Watch q) (args_same args)
command_same (plain.Read n) = refl

-- a command has one text in two tables where its names have
pub command_again : (t u : Table) → ((x : Name) → IsListed t x → name_text u x ≡ name_text t x) →
    (c : Command) → CanWriteCommand t c → command_text u c ≡ command_text t c
command_again t u text c can = ap (command_text u) (sym (command_same c)) ∙ command_kept t u (λ x. x) text c can

-- a command whose names are in one table can be written with another that has them
pub written_again : (t u : Table) → ((x : Name) → IsListed t x → IsListed u x) →
    (c : Command) → CanWriteCommand t c → CanWriteCommand u c
written_again t u has c can = subst (CanWriteCommand u) (command_same c) (command_written t u (λ x. x) has c can)
