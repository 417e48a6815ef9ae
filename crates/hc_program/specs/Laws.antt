-- Laws of a run.
use Rattle.std.specs.Prelude.{◌≡◌, ◌⊎◌, ℕ, true, false, List, [], ◌∷◌, None, Ok}
use Rattle.hc_records.specs.declared.records.Group.{Group}
use Rattle.hc_records.specs.Line.{groups_of}
use Rattle.hc_records.specs.Project.{lowest_fault}
use Rattle.hc_plan.specs.Configuration.{position_of}
use Rattle.hc_events.specs.Accepted.{just_opened}
use Rattle.hc_events.specs.Entries.{History}
use Rattle.hc_events.specs.Owed.{owed_blocks}
use Rattle.hc_events.specs.Points.{state_of}
use Rattle.hc_segment.specs.LineLaws.{HasEach}
use Rattle.hc_program.specs.Declaring.{Turn}
use Rattle.hc_program.specs.Memories.{machine_at}
use Rattle.hc_program.specs.Runs.{reply_to}
use Rattle.hc_program.specs.Starved.{StopsTurn}
use Rattle.hc_program.specs.declared.stops.Stop.{Stop}
use Rattle.hc_program.specs.Programs.{Programmed, can_write, programming_is_done, programmed, serials_left_count, block_programmed}
use Rattle.hc_program.specs.Standings.{SessionState, opened_session_state, session_published}
use Rattle.hc_program.specs.Stops.{WritesAreDone}

-- no block is owed, or no serial is left
abbrev pub HasNoWrite : History → Type 0
HasNoWrite history = (owed_blocks history ≡ []) ⊎ (serials_left_count history ≡ 0)

-- this many writes were done; then one was sent that was not done, and the run is as that left it
pub record MissesOne (s : SessionState) (p : Programmed) : Type 0 where
  pub before : SessionState
  pub done : WritesAreDone p.written s before
  pub sent : can_write before.history ≡ true
  pub missed : programming_is_done before ≡ false
  pub left : p.session_state ≡ block_programmed before

-- `program` does its writes, and ends for one of three reasons: nothing is owed, no serial is left, or the next write was sent and was not done
abbrev pub ProgrammingEnds : Type 0
ProgrammingEnds =
    (s : SessionState) → (WritesAreDone (programmed s).written s (programmed s).session_state × HasNoWrite (programmed s).session_state.history) ⊎ MissesOne s (programmed s)

-- the run's groups are a project's, and its line has a machine for each slave
pub record HasMachines (s : SessionState) : Type 0 where
  pub project : lowest_fault (groups_of (state_of s.history).groups) ≡ None
  pub each : HasEach (state_of s.history).groups s.machines

-- the state of a run after turns, one after another
abbrev pub left_by_turns : SessionState → List Turn → SessionState
left_by_turns s [] = s
left_by_turns s (turn ∷ turns) = left_by_turns (reply_to s turn).session_state turns

-- over a whole run each slave of the line has a machine: at the opening of a project, after any turns, after a turn that was stopped, and after a publishing;
-- and the machine of a slave of the line is found by its station address
pub record SlavesHaveMachines : Type 0 where
  pub opened : (groups : List Group) → lowest_fault groups ≡ None → HasMachines (opened_session_state (just_opened groups))
  pub answered : (s : SessionState) (turns : List Turn) → HasMachines s → HasMachines (left_by_turns s turns)
  pub stopped : (s next : SessionState) (turn : Turn) (why : Stop) → HasMachines s → StopsTurn s turn why next → HasMachines next
  pub shown : (s : SessionState) → HasMachines s → HasMachines (session_published s)
  pub found : (s : SessionState) (station position : ℕ) → HasMachines s → position_of (state_of s.history) station ≡ Ok position → machine_at s station ≡ Ok position
