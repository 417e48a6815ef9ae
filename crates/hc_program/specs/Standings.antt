-- The state of a run: the record of its core, the machines of its simulated line, the posts of its tasks, and what they are shown.
use Rattle.std.specs.Prelude.{ℕ, List, [], ◌∷◌, Option, Some, None, replicate}
use Rattle.hc_records.specs.declared.edit.Edit.{Edit}
use Rattle.hc_records.specs.declared.limits.TheConstants.{TASKS}
use Rattle.hc_events.specs.declared.faults.CoreFault.{CoreFault}
use Rattle.hc_events.specs.Entries.{History, Edited}
use Rattle.hc_events.specs.Points.{state_of}
use Rattle.hc_events.specs.Steps.{Step, edit_refused, entries_after}
use Rattle.hc_rings.specs.Post.{Post}
use Rattle.hc_segment.specs.Line.{machines_after}
use Rattle.hc_segment.specs.Machines.{machines_after_edit, opened_machines}

-- the history of the core; the memory of each machine, in the order of the line; the posts of each task that wait to be taken, the oldest first; and the record
-- as it was when it was last published, which tasks view
pub record SessionState : Type 0 where
  pub history : History
  pub machines : List (List ℕ)
  pub posts : List (List Post)
  pub seen : History

-- at the opening the line has fresh machines, no post waits, and tasks view the opening
abbrev pub opened_session_state : History → SessionState
opened_session_state history = record { history = history; machines = opened_machines (state_of history).groups; posts = replicate TASKS []; seen = history }

-- the state with another record of the core
abbrev pub session_with_history : SessionState → History → SessionState
session_with_history s history = record s { history = history }

-- the state with other machines
abbrev pub with_machines : SessionState → List (List ℕ) → SessionState
with_machines s machines = record s { machines = machines }

-- the state after an event of the core
abbrev pub stepped : SessionState → Step → SessionState
stepped s step = session_with_history s (entries_after s.history step)

-- the state after frames that went along the line
abbrev pub passed : SessionState → List (List ℕ) → SessionState
passed s frames = with_machines s (machines_after s.machines frames)

-- the state after an edit with this fault, or none: if it is accepted, machines come and go
abbrev pub edited_unless : Option CoreFault → SessionState → Edit → SessionState
edited_unless None s edit = record s { history = Edited edit ∷ s.history; machines = machines_after_edit (state_of s.history).groups edit s.machines }
edited_unless (Some fault) s edit = s

-- the state after an edit
abbrev pub session_edited : SessionState → Edit → SessionState
session_edited s edit = edited_unless (edit_refused s.history edit) s edit

-- the state once all changes that the core accepted are published
abbrev pub session_published : SessionState → SessionState
session_published s = record s { seen = s.history }
