-- Facts of contracts that may end, and the rules by which they follow.
use Rattle.std.specs.Prelude.{◌≡◌, ℕ, ◌≤◌, ◌<◌, Bool, true, false, ◌&&◌, ◌||◌, if◌then◌else◌, List}
use Rattle.std.specs.Prelude.{[], ◌∷◌, ◌++◌}
use Rattle.std.specs.Prelude.{length, take, map, All, Option, Some, None, is_some, option_map}
use Rattle.std.specs.Prelude.{Contains, slice_get}
use Rattle.std.specs.Prelude.{slice_index_or}
use Rattle.std.specs.BTreeMap.{BTreeMap, get}
use Rattle.std.specs.BTreeSet.{BTreeSet, contains}
use Rattle.poets_value.specs.declared.value.Name.{Name}
use Rattle.poets_value.specs.Names.{name_cmp}
use Rattle.poets_expr.specs.Env.{same_name}
use Rattle.poets_syntax.specs.declared.term.Book.{Book as TheBook}
use Rattle.poets_syntax.specs.declared.term.Term.{Term}
use Rattle.poets_syntax.specs.declared.term.Template.{Template}
use Rattle.poets_syntax.specs.Contract.{Contract, contract_of}
use Rattle.poets_syntax.specs.Applied.{ApplicationsFit}
use Rattle.poets_syntax.specs.Plain.{Book}
use Rattle.poets_syntax.specs.Book.{book_of, template_of, template_in}
use Rattle.poets_syntax.specs.Plain as plain
use Rattle.poets_guard.specs.declared.rules.Rule.{Rule}
use Rattle.poets_guard.specs.declared.endings.Rules.{Rules}
use Rattle.poets_guard.specs.code.Endings.{ends, MayEnd}
use Rattle.poets_guard.specs.code.Rules.{IsWithin}

-- whether there is a fact, and it is known
abbrev pub known_of : (known : ℕ → Bool) → Option ℕ → Bool
known_of known (Some k) = known k
known_of known None = false

-- whether the fact of the name is known
abbrev pub says : (known : ℕ → Bool) → (facts : Name → Option ℕ) → Name → Bool
says known facts f = known_of known (facts f)

-- what the first facts say that may end: nothing, and then each the body of a template
abbrev pub bodies : List Template → List (List Contract)
bodies templates = [] ∷ map (λ t. contract_of t.body ∷ []) templates

-- each of the contracts may end
abbrev pub AllMayEnd : Book → (granted : Bool) → List Contract → Type 0
AllMayEnd book granted [] = Unit {0}
AllMayEnd book granted (c ∷ cs) = MayEnd book granted c × AllMayEnd book granted cs

-- what the fact says holds
abbrev pub FactHolds : Book → (granted : Bool) → (meant : List (List Contract)) → ℕ → Type 0
FactHolds book granted meant k = AllMayEnd book granted (slice_index_or meant k [])

-- the rule is of facts that have a meaning, and what it concludes holds if its premises do
pub record IsRight (book : Book) (granted : Bool) (meant : List (List Contract)) (r : Rule) : Type 0 where
  pub within : IsWithin (length meant) r
  pub sound : FactHolds book granted meant r.first → FactHolds book granted meant r.second →
      FactHolds book granted meant r.conclusion

-- the first so many templates
abbrev pub first_templates : ℕ → List Template → List plain.Template
first_templates n templates = map template_of (take n templates)

-- each of the first so many templates has the fact of its body, and no other name has one
abbrev pub AreFacts : ℕ → List Template → (facts : Name → Option ℕ) → Type 0
AreFacts n templates facts =
    (f : Name) →
    option_map (slice_get (bodies templates)) (facts f)
    ≡ option_map (λ t. Some (t.body ∷ [])) (template_in (first_templates n templates) f)

-- the given fact is known, and what follows by the rules from known facts
abbrev pub IsClosed : (known : ℕ → Bool) → List Rule → Type 0
IsClosed known rules =
    (known 0 ≡ true)
    × ((r : Rule) → Contains rules r → known r.first ≡ true → known r.second ≡ true → known r.conclusion ≡ true)

-- where what follows is known, of the first so many templates each that may end by what is known is
-- known to
abbrev pub IsComplete : (granted : Bool) → (facts : Name → Option ℕ) → ℕ → List Template → List Rule → Type 0
IsComplete granted facts n templates rules =
    (known : ℕ → Bool) → IsClosed known rules → (f : Name) (t : plain.Template) →
    template_in (first_templates n templates) f ≡ Some t → ends granted (says known facts) t.body ≡ true →
    says known facts f ≡ true

-- the facts say that these may end, where that of a template says so of its body; and the rules are
-- right
pub record AreMeant (book : Book) (granted : Bool) (facts : Name → Option ℕ) (meant : List (List Contract))
    (s : Rules) : Type 0 where
  pub many : length meant ≡ s.count
  pub some : 0 < length meant
  pub given : FactHolds book granted meant 0
  pub named : (f : Name) (k : ℕ) (t : plain.Template) → facts f ≡ Some k → template_in book.templates f ≡ Some t →
      (k < length meant) × (slice_index_or meant k [] ≡ t.body ∷ [])
  pub right : All (IsRight book granted meant) s.rules.items

-- the facts are more, and the first say what they said
pub record GoOn (old new : List (List Contract)) : Type 0 where
  pub longer : length old ≤ length new
  pub same : (k : ℕ) → k < length old → slice_index_or new k [] ≡ slice_index_or old k []

-- where a fact is given, a goal follows by the new rules if the contract may end, and may be said
-- only then
pub record AreAdded (granted : Bool) (facts : Name → Option ℕ) (c : Contract) (given goal : ℕ) (old new : Rules) :
    Type 0 where
  pub complete : (known : ℕ → Bool) → IsClosed known new.rules.items →
      IsClosed known old.rules.items
      × (known given ≡ true → ends granted (says known facts) c ≡ true → known goal ≡ true)
  pub sound : (book : Book) (meant : List (List Contract)) → ApplicationsFit book c →
      AreMeant book granted facts meant old → given < length meant → goal < length meant →
      (FactHolds book granted meant given → MayEnd book granted c → FactHolds book granted meant goal) →
      (more : List (List Contract)) × GoOn meant more × AreMeant book granted facts more new

-- the rules of the bodies of the first so many templates
pub record IsBuilt (book : Book) (granted : Bool) (templates : List Template) (facts : Name → Option ℕ) (n : ℕ)
    (s : Rules) : Type 0 where
  pub meant : List (List Contract)
  pub right : AreMeant book granted facts meant s
  pub complete : IsComplete granted facts n templates s.rules.items

-- the set has those of the first so many templates that are said to end, and no others
abbrev pub IsTold : ℕ → List Template → (says ending : Name → Bool) → Type 0
IsTold n templates says ending =
    (f : Name) → ending f ≡ (says f && is_some (template_in (first_templates n templates) f))

-- the rule by which a goal follows from two facts was added at the end
abbrev pub AddsRule : (first second goal : ℕ) → (old new : Rules) → Type 0
AddsRule first second goal old new =
    new.rules.items ≡ old.rules.items ++ record { first = first; second = second; conclusion = goal } ∷ []

-- where a fact is given, a goal follows by the new rules if the contract of the term may end, and
-- may be said only then
abbrev pub AddsRules : (granted : Bool) → (facts : BTreeMap Name ℕ) → Term → (given goal : ℕ) → (old new : Rules) →
    Type 0
AddsRules granted facts term given goal old new =
    AreAdded granted (get name_cmp facts) (contract_of term) given goal old new

-- the fact of the template follows by the new rules if its body may end, and may be said only then
abbrev pub AddsBodyRules : (granted : Bool) → (facts : BTreeMap Name ℕ) → Template → (old new : Rules) → Type 0
AddsBodyRules granted facts t old new =
    (goal : ℕ) → get name_cmp facts t.name ≡ Some goal → AddsRules granted facts t.body 0 goal old new

-- each template of the book has the fact of its body, and no other name has one
abbrev pub AreFactsOf : TheBook → (facts : BTreeMap Name ℕ) → Type 0
AreFactsOf book facts = AreFacts (length book.templates.items) book.templates.items (get name_cmp facts)

-- the rules are those of the bodies of all templates of the book
abbrev pub AreRulesOf : TheBook → (granted : Bool) → (facts : BTreeMap Name ℕ) → Rules → Type 0
AreRulesOf book granted facts s =
    IsBuilt (book_of book) granted book.templates.items (get name_cmp facts) (length book.templates.items) s

-- the name was added to the set where the test holds, and no other name
abbrev pub AddsNameIf : (test : Bool) → Name → (old new : BTreeSet Name) → Type 0
AddsNameIf test name old new =
    (f : Name) →
    contains name_cmp new f ≡ (if same_name name f then test || contains name_cmp old f else contains name_cmp old f)
