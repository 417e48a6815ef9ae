-- The changes that a history stands for.
use Rattle.std.specs.Prelude.{List, [], ◌∷◌, ◌++◌}
use Rattle.hc_events.specs.declared.change.Change.{Change}
use Rattle.hc_events.specs.declared.change.Change.TheVariants as change
use Rattle.hc_publish.specs.declared.history.History.{History}
use Rattle.hc_publish.specs.declared.history.History.TheVariants.{Opened, Swapped', Good'}

-- the changes of a history, the oldest first
abbrev pub changes_of : History → List Change
changes_of Opened = []
changes_of (Swapped' m before swap) = changes_of before ++ change.Swapped swap.value ∷ []
changes_of (Good' m before good) = changes_of before ++ change.Good good.value ∷ []
