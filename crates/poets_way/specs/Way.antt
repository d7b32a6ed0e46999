-- In which way a contract is performed.
use Rattle.std.specs.Prelude.{ℕ, Bool, List}

-- how a contract is performed: one form for each way to perform one
pub data Way : Type 0 where
  -- of `Success`: nothing is left to do
  Nothing : Way
  -- of an application: that of its template's body
  Enter : Way → Way
  -- of a transmit, which takes the first event: that of its continuation
  Take : Way → Way
  -- of a choice: that of its left part, or that of its right part
  Left : Way → Way
  Right : Way → Way
  -- of two contracts side by side: for each event whether it is the second one's, and the ways of
  -- both
  Both : List Bool → Way → Way → Way
  -- of a sequence: how many events are the first part's, and the ways of both parts
  Then : ℕ → Way → Way → Way
