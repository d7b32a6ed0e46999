-- The changes of what an engine keeps.
use Rattle.std.specs.Prelude.{◌≡◌, ℕ, ◌-◌, List, [], ◌∷◌, ◌++◌, Option, map, remove}
use Rattle.std.specs.declared.alloc.Global.{Global}
use Rattle.std.specs.declared.sync.Arc.{Arc}
use Rattle.std.specs.Arc.{arc_value}
use Rattle.poets_value.specs.Listed.{Listed}
use Rattle.poets_value.specs.declared.event.Event.{Event}
use Rattle.poets_value.specs.declared.value.Name.{Name}
use Rattle.poets_value.specs.declared.value.Value.{Value}
use Rattle.poets_expr.specs.declared.env.Decls.{Decls}
use Rattle.poets_expr.specs.Env.{Declared, declared_of}
use Rattle.poets_syntax.specs.declared.term.Term.{Term}
use Rattle.poets_cons.specs.declared.node.Node.{Node}
use Rattle.poets_report.specs.declared.report.Report.{Report}
use Rattle.poets_table.specs.TableView.{RowView, CutView, IsCutOf, changed_at, new_row}
use Rattle.poets_table.specs.TableView.{values_of, with_event, with_room, without_event}
use Rattle.poets_live.specs.declared.watch.Move.{Move}
use Rattle.poets_live.specs.Watching.{AllBrought, AllLead, AllMoved, Begins}
use Rattle.poets_engine.specs.Store.{StoreView}

-- one contract more
pub record AddsRow (row : RowView Term (List Node)) (old new : StoreView) : Type 0 where
  pub rows : new.rows ≡ old.rows ++ row ∷ []
  pub log : new.log ≡ old.log
  pub watches : new.watches ≡ old.watches

-- one contract more under the name, without events, of which the current contract is owed
abbrev pub AddsContract : Name → Arc Term Global → Arc (List Node) Global → (old new : StoreView) → Type 0
AddsContract x original current old new = AddsRow (new_row x (arc_value original) (arc_value current)) old new

-- the event is in the row with the number, of which the current contract is then owed, in the log,
-- and in each watch
pub record RecordsEvent (declared : Declared) (number : ℕ) (e : Event) (current : List Node)
    (old new : StoreView) : Type 0 where
  pub rows : new.rows ≡ changed_at (with_event e current) (number - 1) (changed_at with_room (number - 1) old.rows)
  pub log : new.log ≡ old.log ++ (number, e) ∷ []
  pub moves : List Move
  pub brought : AllBrought declared e old.watches moves
  pub moved : AllMoved old.watches moves new.watches

-- under the declared names the event is recorded in the row with the number, in the log, and in
-- each watch
abbrev pub RecordsUnder : Decls → ℕ → Event → Arc (List Node) Global → (old new : StoreView) → Type 0
RecordsUnder decls number e current old new =
    RecordsEvent (declared_of decls.names) number e (arc_value current) old new

-- the cut takes out the event at the place k, from 0, of the row with the number n
pub record CutsStore (n k : ℕ) (store : StoreView) (cut : CutView) : Type 0 where
  pub number : cut.number ≡ n
  pub place : cut.place ≡ k
  pub fits : IsCutOf store.rows store.log cut

-- the event is out of its row, of which the current contract is then owed, and these ahead of its
-- pieces; out of the log; and out of each watch
pub record Withdraws (declared : Declared) (cut : CutView) (current : List Node) (points : List (List Node))
    (old new : StoreView) : Type 0 where
  pub rows : new.rows ≡ changed_at (without_event cut current points) (cut.number - 1) old.rows
  pub log : new.log ≡ remove old.log cut.log_place
  pub moves : List Move
  pub leads : AllLead declared (map (λ p. p.1) new.log) old.watches moves
  pub moved : AllMoved old.watches moves new.watches

-- under the declared names the event is out of its row, of the log and of each watch
abbrev pub WithdrawsUnder :
    Decls → CutView → Arc (List Node) Global → Listed (Arc (List Node) Global) → (old new : StoreView) → Type 0
WithdrawsUnder decls cut current points old new =
    Withdraws (declared_of decls.names) cut (arc_value current) (values_of points) old new

-- one watch more, which begins with the log
pub record AddsWatch (declared : Declared) (report : Report) (args : List (Option Value))
    (old new : StoreView) : Type 0 where
  pub begins : Begins declared report args old.log old.watches new.watches
  pub rows : new.rows ≡ old.rows
  pub log : new.log ≡ old.log

-- one watch more under the declared names, which begins with the log
abbrev pub AddsWatchUnder : Decls → Report → Listed (Option Value) → (old new : StoreView) → Type 0
AddsWatchUnder decls report args old new = AddsWatch (declared_of decls.names) report args.items old new
