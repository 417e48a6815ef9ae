-- The changes of a core that were not taken yet.
use Rattle.std.specs.Prelude.{◌≡◌, ℕ, ◌-◌, List, ◌++◌, length, map}
use Rattle.hc_events.specs.declared.change.Change.{Change}
use Rattle.hc_events.specs.Changes.{AreLegalFrom, updates_of, update_in}
use Rattle.hc_events.specs.Entries.{History}
use Rattle.hc_events.specs.Exact.{SwapsAreExactFrom}
use Rattle.hc_events.specs.UpdatesLaws.{state_after_changes}
use Rattle.hc_events.specs.Points.{state_of}
use Rattle.hc_core.specs.State.{CoreState}

-- changes lead from an earlier record of a core to the present one: they are its updates since then, legal from the state as it
-- was then, their swaps carry only differences, and they lead to the present state
pub record ShowUpdates (taken history : History) (changes : List Change) : Type 0 where
  pub updates : updates_of history ≡ updates_of taken ++ map update_in changes
  pub legal : AreLegalFrom (state_of taken) changes
  pub exact : SwapsAreExactFrom (state_of taken) changes
  pub after_it : state_after_changes (state_of taken) changes ≡ state_of history

-- the number of changes that were not taken: of the updates since they were last taken
abbrev pub untaken : CoreState → ℕ
untaken core = length (updates_of core.history) - length (updates_of core.taken)
