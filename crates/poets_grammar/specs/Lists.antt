-- Lists of the grammar, over what one item of them is. `ReadsList Item ts xs rest` says that the
-- tokens ts are the items xs with commas between them, and then the tokens rest.
use Rattle.std.specs.Prelude.{List, [], ◌∷◌}
use Rattle.poets_value.specs.declared.value.Name.{Name}
use Rattle.poets_lex.specs.declared.token.Sign.TheVariants as S
use Rattle.poets_lex.specs.declared.token.Tok.{Tok}
use Rattle.poets_lex.specs.declared.token.Tok.TheVariants as K

-- item { "," item }
pub data ReadsList {A : Type 0} (Item : List Tok → A → List Tok → Type 0) : List Tok → List A → List Tok → Type 0 where
  One : {ts rest : List Tok} {x : A} → Item ts x rest → ReadsList Item ts (x ∷ []) rest
  More :
      {ts mid rest : List Tok} {x : A} {xs : List A} →
      Item ts x (K.Sign S.Comma ∷ mid) → ReadsList Item mid xs rest → ReadsList Item ts (x ∷ xs) rest

-- "(" [ item { "," item } ] ")"
pub data ReadsBracketed {A : Type 0} (Item : List Tok → A → List Tok → Type 0) :
    List Tok → List A → List Tok → Type 0 where
  Empty : {rest : List Tok} → ReadsBracketed Item (K.Sign S.LeftParen ∷ K.Sign S.RightParen ∷ rest) [] rest
  Full :
      {ts rest : List Tok} {xs : List A} →
      ReadsList Item ts xs (K.Sign S.RightParen ∷ rest) → ReadsBracketed Item (K.Sign S.LeftParen ∷ ts) xs rest

-- NAME
pub data ReadsName : List Tok → Name → List Tok → Type 0 where
  AName : {x : Name} {rest : List Tok} → ReadsName (K.Name x ∷ rest) x rest

-- names = NAME { "," NAME }
abbrev pub ReadsNames : List Tok → List Name → List Tok → Type 0
ReadsNames ts names rest = ReadsList ReadsName ts names rest
