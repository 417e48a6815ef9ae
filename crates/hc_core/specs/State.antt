-- The state of a core that contracts see: the history of accepted events, and that record as it was when the changes were last
-- taken.
use Rattle.hc_events.specs.Entries.{History}

-- `history` is the record of all accepted events, and `taken` is that record as it was when the changes were last taken
pub record CoreState : Type 0 where
  pub history : History
  pub taken : History
