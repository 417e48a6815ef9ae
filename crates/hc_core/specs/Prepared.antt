-- An edit that is prepared for a core, before anything changes.
use Rattle.std.specs.Prelude.{◌≡◌, ℕ, ◌+◌, ◌*◌, ◌<◌, Bool, false, Contains, List, [], length, Option, Some, None, vec_capacity}
use Rattle.hc_records.specs.declared.edit.Edit.{Edit}
use Rattle.hc_records.specs.declared.edit.Edit.TheVariants.{Declare}
use Rattle.hc_records.specs.declared.records.Group.{Group}
use Rattle.hc_records.specs.declared.records.Slave.{Slave}
use Rattle.hc_records.specs.Edits.{declares}
use Rattle.hc_registers.specs.RankPlaces.{stations}
use Rattle.hc_places.specs.Table.{table_of}
use Rattle.hc_owed.specs.declared.area.JudgedArea.{JudgedArea}
use Rattle.hc_owed.specs.EditWaits.{areas_cleared}
use Rattle.hc_owed.specs.Readiness.{Holdings, readiness_of}
use Rattle.hc_owed.specs.ReadinessRoom.{IsReadinessRoomFor}
use Rattle.hc_owed.specs.ReadinessSteps.{IsReadinessFor, held_over, unplugged_over}
use Rattle.hc_owed.specs.Laws.{known_over}
use Rattle.hc_owed.specs.RegisterState.{RegisterState, Knowledge, register_state_of}
use Rattle.hc_owed.specs.Room.{IsOwedRoomFor}
use Rattle.hc_plan.specs.Prepared.{IsPrepared, PreparedEdit}
use Rattle.hc_events.specs.Changes.{updates_of}
use Rattle.hc_events.specs.Points.{line_of, state_of}
use Rattle.hc_core.specs.declared.declaring.SlaveRoom.{SlaveRoom}
use Rattle.hc_core.specs.declared.prepared.PlannedEdit.{PlannedEdit}
use Rattle.hc_core.specs.State.{CoreState}

-- the core that an edit is prepared for, and the edit's effect on its line
pub record CoreEdit : Type 0 where
  pub core : CoreState
  pub edit : PreparedEdit

-- an edit declares a group, and there is memory for its slaves after `count` others
pub record DeclaresWith (count : ℕ) (edit : Edit) (room : SlaveRoom) : Type 0 where
  pub group : Group
  pub named : edit ≡ Declare group
  pub fits : IsOwedRoomFor count group.slaves room.owed
  pub areas : IsReadinessRoomFor (8 * count) (length group.slaves) room.readiness

-- memory for the slaves that an edit declares after `count` others, and none if it declares none
abbrev pub HasSlaveRoom : ℕ → Edit → Option SlaveRoom → Type 0
HasSlaveRoom count edit None = declares edit ≡ false
HasSlaveRoom count edit (Some room) = DeclaresWith count edit room

-- an edit can be followed: the state of the register blocks and of the areas is right for the state before the prepared edit,
-- there is memory for the slaves that it declares, and no register of theirs has contents
pub record CanFollow (owed : RegisterState) (readiness : List JudgedArea) (edit : PreparedEdit) (memory : Option SlaveRoom) : Type 0 where
  pub known : Knowledge
  pub held : Holdings
  pub unplugged : ℕ → Bool
  pub right : owed ≡ register_state_of known edit.old
  pub areas : IsReadinessFor known held unplugged edit.old readiness
  pub empty : (group : Group) → edit.report.swap.edit ≡ Declare group → (slave : Slave) → Contains group.slaves slave → (number : ℕ) → (held slave.station number).contents ≡ []
  pub prepared : IsPrepared edit
  pub slaves : HasSlaveRoom (length (stations edit.old)) edit.report.swap.edit memory

-- the state of the areas after the edit
abbrev pub areas_followed : {owed : RegisterState} {readiness : List JudgedArea} {edit : PreparedEdit} {memory : Option SlaveRoom} → CanFollow owed readiness edit memory → List JudgedArea
areas_followed {owed} {readiness} {edit} {memory} can = readiness_of (known_over edit.old can.known) (held_over edit.old edit.new can.held) (unplugged_over edit.new can.unplugged) edit.new

-- the state of the areas after the edit, once each slave that came is cleared
abbrev pub areas_foretold : {owed : RegisterState} {readiness : List JudgedArea} {edit : PreparedEdit} {memory : Option SlaveRoom} → CanFollow owed readiness edit memory → List JudgedArea
areas_foretold {owed} {readiness} {edit} {memory} can = areas_cleared can.known can.held can.unplugged edit.old edit.new

-- an edit can be carried out: it is one of the core's line, output values are to move as it says, there is memory for the
-- slaves that it declares, and an empty list has room for the changes that were not taken and one more
pub record CanBeCarriedOut (core : CoreState) (planned : PlannedEdit) : Type 0 where
  pub made : planned.edit.old ≡ state_of core.history
  pub prepared : IsPrepared planned.edit
  pub table : planned.moves.before ≡ table_of (line_of core.history)
  pub change : planned.moves.change ≡ planned.edit.report.swap.change
  pub slaves : HasSlaveRoom (length (stations planned.edit.old)) planned.edit.report.swap.edit planned.slaves
  pub empty : planned.room.items ≡ []
  pub fits : length (updates_of core.history) < length (updates_of core.taken) + vec_capacity planned.room
