-- The memory for the areas of a declared group.
use Rattle.std.specs.Prelude.{◌≡◌, ℕ, ◌+◌, ◌*◌, ◌≤◌, ◌++◌, [], ◌∷◌, Bool, Contains, List, None, length}
use Rattle.hc_records.specs.declared.records.Group.{Group}
use Rattle.hc_records.specs.declared.records.Slave.{Slave}
use Rattle.hc_records.specs.Edits.{absent}
use Rattle.hc_records.specs.Line.{State, groups_of}
use Rattle.hc_records.specs.Project.{lowest_fault}
use Rattle.hc_owed.specs.declared.area.JudgedArea.{JudgedArea}
use Rattle.hc_owed.specs.declared.readiness_room.ReadinessRoom.{ReadinessRoom}
use Rattle.hc_owed.specs.Readiness.{Holdings}
use Rattle.hc_owed.specs.ReadinessSteps.{IsReadinessFor}
use Rattle.hc_owed.specs.RegisterState.{Knowledge}

-- there is room for the eight areas of each of so many slaves, after so many other areas
pub record IsReadinessRoomFor (count slaves : ℕ) (room : ReadinessRoom) : Type 0 where
  pub areas : count + 8 * slaves ≤ room.areas
  pub slaves_are : room.slaves ≡ slaves

-- the state of the areas is right for a project's state, in which a group can be declared; no register of the group's slaves
-- has contents; and there is room for their areas
pub record ReadinessCanAdmit (areas : List JudgedArea) (room : ReadinessRoom) : Type 0 where
  pub known : Knowledge
  pub held : Holdings
  pub unplugged : ℕ → Bool
  pub old : State
  pub group : Group
  pub right : IsReadinessFor known held unplugged old areas
  pub project : lowest_fault (groups_of (old.groups ++ absent group ∷ [])) ≡ None
  pub empty : (slave : Slave) → Contains group.slaves slave → (number : ℕ) → (held slave.station number).contents ≡ []
  pub fits : IsReadinessRoomFor (length areas) (length group.slaves) room
