-- The grammar of contracts. `ReadsContract rule ts c rest` says that the tokens ts are what the
-- rule says, with the tree c, and then the tokens rest.
use Rattle.std.specs.Prelude.{List, [], ◌∷◌}
use Rattle.poets_value.specs.declared.value.Name.{Name}
use Rattle.poets_expr.specs.Expression.{Expression}
use Rattle.poets_syntax.specs.declared.term.Binders.{Binders}
use Rattle.poets_syntax.specs.Contract as C
use Rattle.poets_syntax.specs.Contract.{Contract}
use Rattle.poets_lex.specs.declared.token.Word.TheVariants as W
use Rattle.poets_lex.specs.declared.token.Sign.TheVariants as S
use Rattle.poets_lex.specs.declared.token.Tok.{Tok}
use Rattle.poets_lex.specs.declared.token.Tok.TheVariants as K
use Rattle.poets_grammar.specs.Expressions.{ReadsExpression, Disjunction, ReadsArguments}

-- NAME "," NAME "," NAME "," NAME
pub data ReadsBinders : List Tok → Binders → List Tok → Type 0 where
  Four :
      {sender receiver what day : Name} {rest : List Tok} →
      ReadsBinders
      (K.Name sender ∷ K.Sign S.Comma ∷ K.Name receiver ∷ K.Sign S.Comma ∷ K.Name what ∷ K.Sign S.Comma
      ∷ K.Name day ∷ rest)
      (record { sender = sender; receiver = receiver; what = what; day = day }) rest

-- the rules; a whole contract is a choice
pub data ContractRule : Type 0 where
  Choice : ContractRule
  Parallel : ContractRule
  Sequence : ContractRule
  Simple : ContractRule

-- operators of one level group to the left, and brackets leave no trace in the tree
pub data ReadsContract : ContractRule → List Tok → Contract → List Tok → Type 0 where
  -- choice = parallel { "+" parallel }
  OneParallel : {ts rest : List Tok} {c : Contract} → ReadsContract Parallel ts c rest → ReadsContract Choice ts c rest
  MoreParallels :
      {ts mid rest : List Tok} {a b : Contract} →
      ReadsContract Choice ts a (K.Sign S.Plus ∷ mid) → ReadsContract Parallel mid b rest →
      ReadsContract Choice ts (C.Plus a b) rest
  -- parallel = sequence { "||" sequence }
  OneSequence : {ts rest : List Tok} {c : Contract} → ReadsContract Sequence ts c rest →
      ReadsContract Parallel ts c rest
  MoreSequences :
      {ts mid rest : List Tok} {a b : Contract} →
      ReadsContract Parallel ts a (K.Sign S.DoubleBar ∷ mid) → ReadsContract Sequence mid b rest →
      ReadsContract Parallel ts (C.Par a b) rest
  -- sequence = simple { ";" simple }
  OneSimple : {ts rest : List Tok} {c : Contract} → ReadsContract Simple ts c rest → ReadsContract Sequence ts c rest
  MoreSimples :
      {ts mid rest : List Tok} {a b : Contract} →
      ReadsContract Sequence ts a (K.Sign S.Semicolon ∷ mid) → ReadsContract Simple mid b rest →
      ReadsContract Sequence ts (C.Seq a b) rest
  -- simple = "transmit" "(" NAME "," NAME "," NAME "," NAME "|" expression ")" "." simple
  Transmit :
      {ts mid more rest : List Tok} {b : Binders} {p : Expression} {c : Contract} →
      ReadsBinders ts b (K.Sign S.Bar ∷ mid) →
      ReadsExpression Disjunction mid p (K.Sign S.RightParen ∷ K.Sign S.Dot ∷ more) → ReadsContract Simple more c rest →
      ReadsContract Simple (K.Word W.Transmit ∷ K.Sign S.LeftParen ∷ ts) (C.Transmit b p c) rest
  -- | "Success" | "Failure"
  Success : {rest : List Tok} → ReadsContract Simple (K.Word W.Success ∷ rest) C.Success rest
  Failure : {rest : List Tok} → ReadsContract Simple (K.Word W.Failure ∷ rest) C.Failure rest
  -- | NAME "(" [ expression { "," expression } ] ")"
  Application :
      {f : Name} {ts rest : List Tok} {args : List Expression} →
      ReadsArguments ts args rest → ReadsContract Simple (K.Name f ∷ ts) (C.App f args) rest
  -- | "(" choice ")"
  Brackets :
      {ts rest : List Tok} {c : Contract} →
      ReadsContract Choice ts c (K.Sign S.RightParen ∷ rest) → ReadsContract Simple (K.Sign S.LeftParen ∷ ts) c rest

-- the tokens are a contract with this tree
abbrev pub IsContract : List Tok → Contract → Type 0
IsContract ts c = ReadsContract Choice ts c []
