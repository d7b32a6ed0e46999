-- What an engine keeps, as plain data, and its changes.
use Rattle.std.specs.Prelude.{ℕ, List}
use Rattle.poets_value.specs.declared.event.Event.{Event}
use Rattle.poets_syntax.specs.declared.term.Term.{Term}
use Rattle.poets_cons.specs.declared.node.Node.{Node}
use Rattle.poets_table.specs.TableView.{RowView}
use Rattle.poets_live.specs.Watching.{WatchView}

-- the contracts' rows, the log, and the watches
pub record StoreView : Type 0 where
  pub rows : List (RowView Term (List Node))
  pub log : List (ℕ × Event)
  pub watches : List WatchView
