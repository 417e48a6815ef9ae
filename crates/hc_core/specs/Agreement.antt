-- The parts of a core, and their agreement with the history of accepted events.
use Rattle.std.specs.Prelude.{◌≡◌, ℕ, ◌≤◌, List, None}
use Rattle.hc_records.specs.Line.{State, groups_of}
use Rattle.hc_records.specs.Edits.{over_limit_task}
use Rattle.hc_records.specs.Project.{lowest_fault}
use Rattle.hc_frames.specs.declared.limits.TheConstants.{SETUP_SERIAL}
use Rattle.hc_events.specs.declared.change.Change.{Change}
use Rattle.hc_events.specs.Accepted.{AreAccepted}
use Rattle.hc_events.specs.Entries.{History}
use Rattle.hc_events.specs.Points.{line_of, next_serial, state_of}
use Rattle.hc_events.specs.Owed.{known_bytes}
use Rattle.hc_sendings.specs.Waiting.{Waiting}
use Rattle.hc_images.specs.Image.{DatagramImage}
use Rattle.hc_images.specs.Packed.{Packed}
use Rattle.hc_owed.specs.declared.area.JudgedArea.{JudgedArea}
use Rattle.hc_owed.specs.RegisterState.{RegisterState, register_state_of}
use Rattle.hc_core.specs.Held.{areas_of}
use Rattle.hc_core.specs.Records.{history_read}
use Rattle.hc_core.specs.declared.keeping.Core.TheInside.{Inside}
use Rattle.hc_core.specs.Update.{ShowUpdates}
use Rattle.hc_core.specs.Ages.{Ages, ShowAges, ShowsSteadyData}
use Rattle.hc_core.specs.Changed.{ShowEpochs}
use Rattle.hc_core.specs.State.{CoreState}
use Rattle.hc_core.specs.Values.{HoldsValues}
use Rattle.hc_core.specs.Waits.{Waits}

-- the parts of a core
pub record CoreParts : Type 0 where
  pub plan : State
  pub serial : ℕ
  pub awaited : Waiting
  pub inputs : DatagramImage
  pub ages : Ages
  pub epochs : List ℕ
  pub outputs : Packed
  pub owed : RegisterState
  pub readiness : List JudgedArea
  pub changes : List Change

-- each part agrees with the record
pub record Agree (parts : CoreParts) (history taken : History) : Type 0 where
  pub accepted : AreAccepted history
  pub state : parts.plan ≡ state_of history
  pub project : lowest_fault (groups_of (state_of history).groups) ≡ None
  pub uncrowded : over_limit_task (line_of history) ≡ None
  pub serial : parts.serial ≡ next_serial history
  pub left : parts.serial ≤ SETUP_SERIAL
  pub waits : Waits history parts.awaited
  pub slots : ShowsSteadyData history parts.inputs
  pub dates : ShowAges history parts.ages
  pub epochs : ShowEpochs history parts.epochs
  pub values : HoldsValues history parts.outputs
  pub known : parts.owed ≡ register_state_of (known_bytes history) (state_of history)
  pub ready : parts.readiness ≡ areas_of history
  pub shows : ShowUpdates taken history parts.changes

-- the state of a core that contracts see
abbrev pub state_in : Inside → CoreState
state_in core = record { history = history_read core.history; taken = history_read core.taken.value }

-- the parts of a core beside the two records, the changes that were not taken among them
abbrev pub core_parts : Inside → CoreParts
core_parts core = record {
  plan = core.plan;
  serial = core.serial;
  awaited = core.awaited;
  inputs = core.inputs;
  ages = core.ages;
  epochs = core.epochs;
  outputs = core.outputs;
  owed = core.owed;
  readiness = core.readiness;
  changes = core.changes.items;
}

-- the invariant of a core: its parts agree with its record, and with that record as it was when the changes were last taken
abbrev pub Agrees : Inside → Type 0
Agrees core = Agree (core_parts core) (history_read core.history) (history_read core.taken.value)
