-- The memory for a declared group's blocks, and the station addresses of its slaves.
use Rattle.std.specs.Prelude.{◌≡◌, ℕ, ◌+◌, ◌*◌, ◌≤◌, ◌++◌, [], ◌∷◌, List, None, length, map, replicate, false}
use Rattle.hc_records.specs.declared.records.Group.{Group}
use Rattle.hc_records.specs.declared.records.Slave.{Slave}
use Rattle.hc_records.specs.Edits.{absent}
use Rattle.hc_records.specs.Line.{State, groups_of}
use Rattle.hc_records.specs.Project.{lowest_fault}
use Rattle.hc_registers.specs.RankPlaces.{stations}
use Rattle.hc_owed.specs.RegisterState.{RegisterState, Knowledge, register_state_of}

-- room for the known bytes of so many places, for so many words of 64 flags, and for so many station addresses; and the station
-- addresses of the slaves that are added
pub record OwedRoom : Type 0 where
  pub known : ℕ
  pub owed : ℕ
  pub stations : ℕ
  pub added : List ℕ

-- there is room for sixteen places of each of these slaves, and for their station addresses, after those of so many others
pub record IsOwedRoomFor (count : ℕ) (slaves : List Slave) (room : OwedRoom) : Type 0 where
  pub known : 16 * (count + length slaves) ≤ room.known
  pub owed : 16 * (count + length slaves) ≤ 64 * room.owed
  pub stations : count + length slaves ≤ room.stations
  pub added : room.added ≡ map (λ slave. slave.station) slaves

-- a register state with empty places of slaves with these station addresses after the others
abbrev pub registers_widened : List ℕ → RegisterState → RegisterState
registers_widened added register_state = record {
  known = register_state.known ++ replicate (16 * length added) None;
  owed = register_state.owed ++ replicate (16 * length added) false;
  stations = register_state.stations ++ added;
}

-- a register state is right for a project's state, in which a group can be declared, and there is room for its slaves
pub record RegistersCanAdmit (register_state : RegisterState) (room : OwedRoom) : Type 0 where
  pub known : Knowledge
  pub old : State
  pub group : Group
  pub right : register_state ≡ register_state_of known old
  pub project : lowest_fault (groups_of (old.groups ++ absent group ∷ [])) ≡ None
  pub fits : IsOwedRoomFor (length (stations old)) group.slaves room
