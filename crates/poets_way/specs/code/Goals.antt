-- What is still to be performed while a way is checked.
use Rattle.std.specs.Prelude.{◌≡◌, ℕ, ◌+◌, ◌-◌, Bool, true, nat_eq, nat_le}
use Rattle.std.specs.Prelude.{List, [], ◌∷◌, ◌++◌, length, map, reverse, take, drop}
use Rattle.std.specs.Prelude.{Option, Some, None, option_map, if◌then◌else◌}
use Rattle.poets_value.specs.declared.event.Event.{Event}
use Rattle.poets_value.specs.declared.value.Name.{Name}
use Rattle.poets_value.specs.declared.value.Value.{Value}
use Rattle.poets_expr.specs.declared.env.Env.{Env as CodeEnv}
use Rattle.poets_expr.specs.declared.expr.Expr.{Expr}
use Rattle.poets_expr.specs.Env.{Env, declared_of}
use Rattle.poets_expr.specs.Expression.{Expression, expression_of}
use Rattle.poets_expr.specs.OfExpr.{value_of_expr}
use Rattle.poets_expr.specs.Val.{val}
use Rattle.poets_syntax.specs.declared.term.Param.{Param}
use Rattle.poets_syntax.specs.Book.{parameter_env, taken, template_in}
use Rattle.poets_syntax.specs.Contract.{Contract, Success, Transmit, Plus, Par, Seq, App}
use Rattle.poets_syntax.specs.Contract.{contract_of}
use Rattle.poets_syntax.specs.Plain.{Book, Template}
use Rattle.poets_meaning.specs.Truth.{is_true}
use Rattle.poets_way.specs.Moves.{Move, moves_of}
use Rattle.poets_way.specs.Moves as M
use Rattle.poets_way.specs.Way.{Way}
use Rattle.poets_way.specs.Ways.{Ways, first_of, second_of}
use Rattle.poets_way.specs.declared.goals.Goal.{Goal as CodeGoal}
use Rattle.poets_way.specs.declared.goals.Open.{Open}

-- names and their values, the newest last
abbrev pub Pairs : Type 0
Pairs = List (Name × Option Value)

-- the pairs are the parameters' alone, each with the value of its argument under the environment
abbrev pub AreParameters : CodeEnv → List Param → List Expr → Pairs → Type 0
AreParameters env params args pairs =
    reverse pairs
    ≡ parameter_env params
    (map (val (declared_of env.decls.now.names) (reverse env.pairs.now)) (map expression_of args))

-- whether the predicate is true under the environment
abbrev pub holds_under : CodeEnv → Expr → Bool
holds_under env when = is_true (value_of_expr env when)

-- the events of both sides, with those of the first one in front, and then the events that have no
-- side
abbrev pub ArePartedBy : List Bool → (old new : List Event) → Type 0
ArePartedBy sides old new = new ≡ first_of sides old ++ (second_of sides old ++ drop (length sides) old)

-- a contract, the values of its names, and the events that are to perform it
pub record Goal : Type 0 where
  pub env : Env
  pub contract : Contract
  pub events : List Event

-- each goal is performed in the way at its place
abbrev pub ArePerformed : Book → List Goal → List Way → Type 0
ArePerformed book [] [] = Unit {0}
ArePerformed book (g ∷ goals) (w ∷ ways) = Ways book g.env g.contract g.events w × ArePerformed book goals ways
ArePerformed book _ _ = ⊥

-- the goals where a test holds
abbrev pub where_true : Bool → List Goal → Option (List Goal)
where_true fits goals = if fits then Some goals else None

-- the goal that entering a template leaves
abbrev pub entered : Book → Env → Option Template → List Expression → List Event → Option (List Goal)
entered book env None args s = None
entered book env (Some t) args s =
    where_true (nat_eq (length t.params) (length args))
    (record { env = parameter_env t.params (map (val book.declared env) args); contract = t.body; events = s } ∷ [])

-- the goals that a move leaves of one goal, which are those of the parts; none where the move does
-- not fit the goal
abbrev pub parts_by : Book → Env → Contract → List Event → Move → Option (List Goal)
parts_by book env Success [] M.Nothing = Some []
parts_by book env (App f args) s M.Enter = entered book env (template_in book.templates f) args s
parts_by book env (Transmit b p c) (e ∷ s) M.Take =
    where_true (is_true (val book.declared (taken b e env) p))
    (record { env = taken b e env; contract = c; events = s } ∷ [])
parts_by book env (Plus c₁ c₂) s M.Left = Some (record { env = env; contract = c₁; events = s } ∷ [])
parts_by book env (Plus c₁ c₂) s M.Right = Some (record { env = env; contract = c₂; events = s } ∷ [])
parts_by book env (Par c₁ c₂) s (M.Both sides) =
    where_true (nat_eq (length sides) (length s))
    (record { env = env; contract = c₁; events = first_of sides s }
    ∷ record { env = env; contract = c₂; events = second_of sides s } ∷ [])
parts_by book env (Seq c₁ c₂) s (M.Then n) =
    where_true (nat_le n (length s))
    (record { env = env; contract = c₁; events = take n s }
    ∷ record { env = env; contract = c₂; events = drop n s } ∷ [])
parts_by book env _ _ _ = None

-- how many events the goals have
abbrev pub total : List CodeGoal → ℕ
total [] = 0
total (g ∷ goals) = g.count + total goals

-- a goal of the code, which has the first of the events
abbrev pub goal_of : CodeGoal → List Event → Goal
goal_of g s = record { env = reverse g.pairs.items; contract = contract_of g.term.now; events = take g.count s }

-- the goals of the code, which have the events in their order, each as many as it counts
abbrev pub goals_of : List CodeGoal → List Event → List Goal
goals_of [] s = []
goals_of (g ∷ goals) s = goal_of g s ∷ goals_of goals (drop g.count s)

-- what is open, the next goal and the next event first
abbrev pub goals_in : Open → List Goal
goals_in o = goals_of (reverse o.goals.items) (reverse o.events.items)

-- each event is one goal's
abbrev pub AreShared : Open → Type 0
AreShared o = total o.goals.items ≡ length o.events.items

-- each event is the goal's, which was taken out, or one of the others'
abbrev pub AreSharedWith : CodeGoal → Open → Type 0
AreSharedWith g o = g.count + total o.goals.items ≡ length o.events.items

-- the goals that a move leaves of the goals; none where it does not fit the first one
abbrev pub goals_by : Book → Move → Goal → List Goal → Option (List Goal)
goals_by book m g goals = option_map (λ parts. parts ++ goals) (parts_by book g.env g.contract g.events m)

-- the goals that a move leaves where the first goal is of that contract, and has the values and the
-- number of events of a goal of the code, which was taken out
abbrev pub followed : Book → Contract → Move → CodeGoal → Open → Option (List Goal)
followed book c m g o =
    let s = reverse o.events.items in
    goals_by book m (record { env = reverse g.pairs.items; contract = c; events = take g.count s })
    (goals_of (reverse o.goals.items) (drop g.count s))

-- those goals are open where the move fits, and else there are none
abbrev pub Follows : Book → Contract → Move → CodeGoal → (old new : Open) → Bool → Type 0
Follows book c m g old new fits =
    (where_true fits (goals_in new) ≡ followed book c m g old) × (fits ≡ true → AreShared new)

-- a goal was added in front of the others: it has the first of the events, as many as said
pub record Adds (c : Contract) (pairs : Pairs) (n : ℕ) (old new : Open) (fits : Bool) : Type 0 where
  pub yes : fits ≡ true
  pub events : new.events.items ≡ old.events.items
  pub count : total new.goals.items ≡ n + total old.goals.items
  pub goals : (s : List Event) → goals_of (reverse new.goals.items) s
      ≡ record { env = reverse pairs; contract = c; events = take n s } ∷ goals_of (reverse old.goals.items) (drop n s)

-- the goals of two parts were added in front of the others: the first part has so many events of
-- the goal's, and the second one the others
pub record AddsBoth (g : CodeGoal) (c₁ c₂ : Contract) (n : ℕ) (old new : Open) (fits : Bool) : Type 0 where
  pub yes : fits ≡ true
  pub events : new.events.items ≡ old.events.items
  pub count : total new.goals.items ≡ g.count + total old.goals.items
  pub goals : (s : List Event) → goals_of (reverse new.goals.items) s
      ≡ record { env = reverse g.pairs.items; contract = c₁; events = take n s }
      ∷ record { env = reverse g.pairs.items; contract = c₂; events = take (g.count - n) (drop n s) }
      ∷ goals_of (reverse old.goals.items) (drop (g.count - n) (drop n s))

-- the moves of some ways, one after the other
abbrev pub all_moves : List Way → List Move
all_moves [] = []
all_moves (w ∷ ways) = moves_of w ++ all_moves ways

-- while a way is checked: the moves that are left are those of ways in which the goals are
-- performed exactly where the whole is
pub record IsLeft (book : Book) (moves : List Move) (goals : List Goal) (whole : Type 0) : Type 0 where
  pub ways : List Way
  pub same : all_moves ways ≡ moves
  pub if_whole : whole → ArePerformed book goals ways
  pub is_whole : ArePerformed book goals ways → whole
