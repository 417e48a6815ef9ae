-- The line, the epoch and the next serial at the point after a record.
use Rattle.std.specs.Prelude.{ℕ, ◌+◌, List, [], ◌∷◌}
use Rattle.hc_records.specs.declared.records.Group.{Group}
use Rattle.hc_records.specs.Line.{Member, State, line, opened}
use Rattle.hc_records.specs.Edits.{state_after}
use Rattle.hc_events.specs.Entries.{History, Opened, Edited, Sent, Wrote}

-- the state that the accepted edits lead to from the project's opening
abbrev pub state_of : History → State
state_of [] = opened []
state_of (Opened groups ∷ history) = opened groups
state_of (Edited edit ∷ history) = state_after (state_of history) edit
state_of (entry ∷ history) = state_of history

-- the groups of the project that was opened
abbrev pub opened_with : History → List Group
opened_with [] = []
opened_with (Opened groups ∷ history) = groups
opened_with (entry ∷ history) = opened_with history

-- the line of a record's state: its present slaves, in order
abbrev pub line_of : History → List Member
line_of history = line (state_of history)

-- the epoch is the number of accepted edits
abbrev pub epoch_of : History → ℕ
epoch_of [] = 0
epoch_of (Opened groups ∷ history) = 0
epoch_of (Edited edit ∷ history) = epoch_of history + 1
epoch_of (entry ∷ history) = epoch_of history

-- the serial of the next sending is the number of sendings before it: frames of tasks and register writes share it
abbrev pub next_serial : History → ℕ
next_serial [] = 0
next_serial (Opened groups ∷ history) = 0
next_serial (Sent frame ∷ history) = next_serial history + 1
next_serial (Wrote blocks ∷ history) = next_serial history + 1
next_serial (entry ∷ history) = next_serial history
