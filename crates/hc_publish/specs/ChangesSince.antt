-- The content of a copy: the changes applied since a project's opening, and what follows from them.
use Rattle.std.specs.Prelude.{◌≡◌, ℕ, List, [], ◌∷◌, ◌++◌, Option, None}
use Rattle.hc_records.specs.declared.records.Group.{Group}
use Rattle.hc_records.specs.Line.{State, groups_of, line, opened}
use Rattle.hc_places.specs.Swap.{KeepRows}
use Rattle.hc_places.specs.Table.{Table, table_of}
use Rattle.hc_events.specs.declared.change.Change.{Change}
use Rattle.hc_events.specs.declared.change.Change.TheVariants as change
use Rattle.hc_events.specs.Changes.{AreLegal, epoch_after, slot_after, table_after}

-- the groups of the project whose line was opened, and the changes since, the oldest first
pub record ChangesSince : Type 0 where
  pub groups : List Group
  pub changes : List Change

-- no change since the opening
abbrev pub just_answered : List Group → ChangesSince
just_answered groups = record { groups = groups; changes = [] }

-- the changes, with one more
abbrev pub with_change : ChangesSince → Change → ChangesSince
with_change changes_since change = record { groups = changes_since.groups; changes = changes_since.changes ++ change ∷ [] }

-- the changes are legal for the project
abbrev pub IsLegal : ChangesSince → Type 0
IsLegal changes_since = AreLegal changes_since.groups changes_since.changes

-- the table after the changes, from the opening's
abbrev pub table_shown : ChangesSince → Table
table_shown changes_since = table_after (table_of (line (opened changes_since.groups))) changes_since.changes

-- the epoch after the changes
abbrev pub epoch_shown : ChangesSince → ℕ
epoch_shown changes_since = epoch_after 0 changes_since.changes

-- the data of a task's datagram after the changes, or none
abbrev pub data_shown : ChangesSince → ℕ → ℕ → Option (List ℕ)
data_shown changes_since task d = slot_after task d None changes_since.changes

-- a change needs no allocation: a good answer, or a swap that makes no variable appear or go
abbrev pub TakesNoMemory : ChangesSince → Change → Type 0
TakesNoMemory changes_since (change.Swapped swap) = KeepRows (table_shown changes_since).variables swap.change.rows
TakesNoMemory changes_since (change.Good good) = Unit {0}

-- the state of a plan is its opening's
abbrev pub IsOpening : State → Type 0
IsOpening state = state ≡ opened (groups_of state.groups)
