-- The state of the register blocks and of the areas after an edit that is prepared.
use Rattle.std.proofs.Common.{◌≡◌, ℕ, ◌+◌, ◌*◌, ◌<◌, ◌≤◌, Bool, false, List, ◌||◌, length, map, sym, ap, ◌∙◌, subst, length-append, Option, Some, None, arith}
use Rattle.std.specs.Prelude.{AllPairs, Contains, Ok, not}
use Rattle.std.proofs.lemmas.Bool.{or_parts}
use Rattle.std.proofs.lemmas.List.{length-map}
use Rattle.std.proofs.lemmas.List.Elements.{All-contains}
use Rattle.std.proofs.lemmas.List.FromFn.{length-map-range_with_len}
use Rattle.hc_records.specs.declared.edit.Edit.{Edit}
use Rattle.hc_records.specs.declared.edit.Edit.TheVariants.{Declare}
use Rattle.hc_records.specs.declared.records.Group.{Group}
use Rattle.hc_records.specs.declared.records.Slave.{Slave}
use Rattle.hc_records.specs.Edits.{changed, declares, edit_faults, edited, is_declared_station}
use Rattle.hc_records.specs.Line.{State, groups_of, line}
use Rattle.hc_records.specs.Project.{lowest_fault, slaves_of}
use Rattle.hc_records.specs.declared.faults.EditFault.TheVariants.{EpochsSpent}
use Rattle.hc_records.specs.Lists.{lowest}
use Rattle.hc_records.proofs.lemmas.Declaring.{line-absent}
use Rattle.hc_records.proofs.lemmas.Lists.{All-from_none, none-holds}
use Rattle.hc_records.proofs.lemmas.Projects.{project-few}
use Rattle.hc_groups.proofs.lemmas.Accepted.{accepted-project, accepted-state}
use Rattle.hc_registers.specs.declared.ranked.Gone.{Gone}
use Rattle.hc_registers.specs.Ranked.{RankedBlock}
use Rattle.hc_registers.specs.RankDifferences.{Differ, block_place}
use Rattle.hc_registers.specs.RankPlaces.{places, stations}
use Rattle.hc_registers.proofs.lemmas.RanksDeclared.{declared-stations}
use Rattle.hc_places.specs.Table.{table_of, task_table}
use Rattle.hc_plan.specs.Prepared.{IsPrepared, PreparedEdit}
use Rattle.hc_events.specs.Steady.{moves_variable, same_task}
use Rattle.hc_events.proofs.lemmas.Unchanged.{same-changes}
use Rattle.hc_owed.specs.declared.area.JudgedArea.{JudgedArea}
use Rattle.hc_owed.specs.ChangedTasks.{BlocksAreEdited, changes_blocks}
use Rattle.hc_owed.specs.EditWaits.{ReadinessWillBeEdited}
use Rattle.hc_owed.specs.Readiness.{Holdings, judged_at, readiness_of}
use Rattle.hc_owed.specs.ReadinessRoom.{IsReadinessRoomFor, ReadinessCanAdmit}
use Rattle.hc_owed.specs.ReadinessSteps.{ReadinessIsEdited}
use Rattle.hc_owed.specs.RegisterState.{Knowledge, RegisterState, register_state_of}
use Rattle.hc_owed.specs.Laws.{RegistersAreEdited, known_over}
use Rattle.hc_owed.specs.Room.{RegistersCanAdmit}
use Rattle.hc_core.specs.declared.declaring.SlaveRoom.{SlaveRoom}
use Rattle.hc_core.proofs.Serves.{accepted_edit}
use Rattle.hc_core.specs.Prepared.{CanFollow, DeclaresWith, HasSlaveRoom}
use Rattle.hc_core.proofs.MovedPlaces.{moved-ascend}

-- a group that is declared

pub declares-with : (count : ℕ) (edit : Edit) (slaves : Option SlaveRoom) (room : SlaveRoom) → HasSlaveRoom count edit slaves → slaves ≡ Some room → DeclaresWith count edit room
declares-with count edit slaves room has is = subst (HasSlaveRoom count edit) is has

pub declared-next : (edit : PreparedEdit) (group : Group) → IsPrepared edit → edit.report.swap.edit ≡ Declare group → edit.new ≡ changed edit.old (Declare group)
declared-next edit group prepared named = accepted-state edit.old edit.new edit.report.swap.edit prepared.accepted ∙ ap (changed edit.old) named

pub next-project : (edit : PreparedEdit) (group : Group) → IsPrepared edit → edit.report.swap.edit ≡ Declare group → lowest_fault (groups_of (changed edit.old (Declare group)).groups) ≡ None
next-project edit group prepared named =
    subst (λ (state : State). lowest_fault (groups_of state.groups) ≡ None) (declared-next edit group prepared named)
    (accepted-project edit.old edit.new edit.report.swap.edit prepared.project prepared.accepted)

abbrev pub can-admit : (owed : RegisterState) (readiness : List JudgedArea) (edit : PreparedEdit) (slaves : Option SlaveRoom) (room : SlaveRoom) → CanFollow owed readiness edit slaves → slaves ≡ Some room → RegistersCanAdmit owed room.owed
can-admit owed readiness edit slaves room can is = record {
  known = can.known;
  old = edit.old;
  group = (declares-with (length (stations edit.old)) edit.report.swap.edit slaves room can.slaves is).group;
  right = can.right;
  project = next-project edit (declares-with (length (stations edit.old)) edit.report.swap.edit slaves room can.slaves is).group can.prepared
      (declares-with (length (stations edit.old)) edit.report.swap.edit slaves room can.slaves is).named;
  fits = (declares-with (length (stations edit.old)) edit.report.swap.edit slaves room can.slaves is).fits;
}

-- eight areas are stored for each declared slave

pub areas-many : (known : Knowledge) (held : Holdings) (unplugged : ℕ → Bool) (state : State) (areas : List JudgedArea) → areas ≡ readiness_of known held unplugged state → length areas ≡ 8 * length (stations state)
areas-many known held unplugged state areas right = ap length right ∙ length-map-range_with_len (judged_at known held unplugged state) 0 (8 * length (stations state))

pub room-fits : (count other slaves : ℕ) (room : SlaveRoom) → count ≡ other → IsReadinessRoomFor other slaves room.readiness → IsReadinessRoomFor count slaves room.readiness
room-fits count other slaves room same = subst (λ (n : ℕ). IsReadinessRoomFor n slaves room.readiness) (sym same)

abbrev pub can-admit_areas : (owed : RegisterState) (readiness : List JudgedArea) (edit : PreparedEdit) (slaves : Option SlaveRoom) (room : SlaveRoom) → CanFollow owed readiness edit slaves → slaves ≡ Some room
    → ReadinessCanAdmit readiness room.readiness
can-admit_areas owed readiness edit slaves room can is = record {
  known = can.known;
  held = can.held;
  unplugged = can.unplugged;
  old = edit.old;
  group = (declares-with (length (stations edit.old)) edit.report.swap.edit slaves room can.slaves is).group;
  right = can.areas;
  project = next-project edit (declares-with (length (stations edit.old)) edit.report.swap.edit slaves room can.slaves is).group can.prepared
      (declares-with (length (stations edit.old)) edit.report.swap.edit slaves room can.slaves is).named;
  empty = can.empty (declares-with (length (stations edit.old)) edit.report.swap.edit slaves room can.slaves is).group
      (declares-with (length (stations edit.old)) edit.report.swap.edit slaves room can.slaves is).named;
  fits = room-fits (length readiness) (8 * length (stations edit.old)) (length (declares-with (length (stations edit.old)) edit.report.swap.edit slaves room can.slaves is).group.slaves) room
      (areas-many can.known can.held can.unplugged edit.old readiness can.areas.right) (declares-with (length (stations edit.old)) edit.report.swap.edit slaves room can.slaves is).areas;
}

-- none of its slaves was declared before

pub new-slaves : (old new : State) (edit : Edit) (group : Group) (slave : Slave) → edited old edit ≡ Ok new → edit ≡ Declare group → Contains group.slaves slave → is_declared_station old slave.station ≡ false
new-slaves old new edit group slave accepted named has =
    let declared : edited old (Declare group) ≡ Ok new = subst (λ (asked : Edit). edited old asked ≡ Ok new) named accepted in
    let none : lowest (edit_faults old (Declare group)) ≡ None = accepted_edit (lowest (edit_faults old (Declare group))) (changed old (Declare group)) new declared in
    All-contains (λ (one : Slave). is_declared_station old one.station ≡ false) group.slaves slave
    (All-from_none (λ (one : Slave). is_declared_station old one.station) group.slaves (none-holds (edit_faults old (Declare group)) none 4 (false, EpochsSpent) (omega arith))) has

-- any other edit

pub none-declared : (count : ℕ) (edit : Edit) (slaves : Option SlaveRoom) → HasSlaveRoom count edit slaves → slaves ≡ None → declares edit ≡ false
none-declared count edit slaves has is = subst (HasSlaveRoom count edit) is has

abbrev pub can-change : (owed : RegisterState) (readiness : List JudgedArea) (edit : PreparedEdit) (slaves : Option SlaveRoom) (gone : Gone) (blocks : List RankedBlock) → CanFollow owed readiness edit slaves → slaves ≡ None → gone ≡ edit.gone → blocks ≡ edit.blocks
    → RegistersAreEdited owed gone blocks
can-change owed readiness edit slaves gone blocks can is left moved = record {
  known = can.known;
  old = edit.old;
  edit = edit.report.swap.edit;
  new = edit.new;
  right = can.right;
  project = can.prepared.project;
  accepted = can.prepared.accepted;
  same = none-declared (length (stations edit.old)) edit.report.swap.edit slaves can.slaves is;
  differ = subst (λ (span : Gone). Differ (places edit.old) (places edit.new) span blocks) (sym left)
      (subst (λ (list : List RankedBlock). Differ (places edit.old) (places edit.new) edit.gone list) (sym moved) can.prepared.differ);
}

abbrev pub can-change_areas : (owed : RegisterState) (readiness : List JudgedArea) (edit : PreparedEdit) (slaves : Option SlaveRoom) (now : RegisterState) (gone : Gone) (blocks : List RankedBlock) (can : CanFollow owed readiness edit slaves) → slaves ≡ None
    → gone ≡ edit.gone → blocks ≡ edit.blocks → now ≡ register_state_of (known_over edit.old can.known) edit.new → ReadinessIsEdited readiness now gone blocks
can-change_areas owed readiness edit slaves now gone blocks can is left moved flags = record {
  known = can.known;
  held = can.held;
  unplugged = can.unplugged;
  old = edit.old;
  edit = edit.report.swap.edit;
  new = edit.new;
  right = can.areas;
  accepted = can.prepared.accepted;
  same = none-declared (length (stations edit.old)) edit.report.swap.edit slaves can.slaves is;
  differ = subst (λ (span : Gone). Differ (places edit.old) (places edit.new) span blocks) (sym left)
      (subst (λ (list : List RankedBlock). Differ (places edit.old) (places edit.new) edit.gone list) (sym moved) can.prepared.differ);
  flags = flags;
}

abbrev pub can-foretell : (owed : RegisterState) (readiness : List JudgedArea) (edit : PreparedEdit) (slaves : Option SlaveRoom) (gone : Gone) (blocks : List RankedBlock) (can : CanFollow owed readiness edit slaves) → slaves ≡ None
    → gone ≡ edit.gone → blocks ≡ edit.blocks → ReadinessWillBeEdited readiness owed gone blocks
can-foretell owed readiness edit slaves gone blocks can is left moved = record {
  known = can.known;
  held = can.held;
  unplugged = can.unplugged;
  old = edit.old;
  edit = edit.report.swap.edit;
  new = edit.new;
  right = can.areas;
  accepted = can.prepared.accepted;
  same = none-declared (length (stations edit.old)) edit.report.swap.edit slaves can.slaves is;
  differ = subst (λ (span : Gone). Differ (places edit.old) (places edit.new) span blocks) (sym left)
      (subst (λ (list : List RankedBlock). Differ (places edit.old) (places edit.new) edit.gone list) (sym moved) can.prepared.differ);
  blocks = can.right;
  ascend = subst (AllPairs (λ a b. block_place a < block_place b)) (sym (moved ∙ can.prepared.blocks))
      (moved-ascend (line edit.old) edit.new (accepted-project edit.old edit.new edit.report.swap.edit can.prepared.project can.prepared.accepted));
}

-- the tasks whose register blocks it changes

abbrev pub blocks-edited : (owed : RegisterState) (readiness : List JudgedArea) (edit : PreparedEdit) (slaves : Option SlaveRoom) (gone : Gone) (blocks : List RankedBlock) → CanFollow owed readiness edit slaves → gone ≡ edit.gone → blocks ≡ edit.blocks
    → BlocksAreEdited readiness gone blocks
blocks-edited owed readiness edit slaves gone blocks can left moved = record {
  known = can.known;
  held = can.held;
  unplugged = can.unplugged;
  old = edit.old;
  edit = edit.report.swap.edit;
  new = edit.new;
  right = can.areas;
  accepted = can.prepared.accepted;
  uncrowded = can.prepared.crowds.1;
  blocks = moved ∙ can.prepared.blocks;
  differ = subst (λ (span : Gone). Differ (places edit.old) (places edit.new) span blocks) (sym left)
      (subst (λ (list : List RankedBlock). Differ (places edit.old) (places edit.new) edit.gone list) (sym moved) can.prepared.differ);
}

-- a group that is declared is in no line, so no block changes
pub declared-blocks : (edit : PreparedEdit) (group : Group) (task : ℕ) → IsPrepared edit → edit.report.swap.edit ≡ Declare group → changes_blocks edit.old edit.new task ≡ false
declared-blocks edit group task prepared named =
    let same : line edit.new ≡ line edit.old = ap line (declared-next edit group prepared named) ∙ line-absent 1 edit.old.groups group in
    let table = not (same_task (task_table (line edit.old) task) (task_table (line edit.new) task)) in
    let moves = moves_variable (table_of (line edit.old)) (table_of (line edit.new)) task in
    (or_parts (table || moves) (changes_blocks edit.old edit.new task) (same-changes edit.old edit.new task same)).1

-- the slaves that are declared then are few

pub few-declared : (old new : State) (edit : Edit) (count : ℕ) → lowest_fault (groups_of old.groups) ≡ None → edited old edit ≡ Ok new → count ≡ length (stations old)
    → (group : Group) → edit ≡ Declare group → count + length group.slaves < 65536
few-declared old new edit count project accepted many group named =
    let next : changed old (Declare group) ≡ new = sym (accepted-state old new edit accepted ∙ ap (changed old) named) in
    let few : length (slaves_of (groups_of new.groups)) ≤ 2048 = project-few (groups_of new.groups) (accepted-project old new edit project accepted) in
    let own : length (stations new) ≡ length (slaves_of (groups_of new.groups)) = length-map (slaves_of (groups_of new.groups)) (λ (slave : Slave). slave.station) in
    let more : length (stations (changed old (Declare group))) ≡ length (stations old) + length group.slaves =
    ap length (declared-stations old group) ∙ length-append (stations old) (map (λ (slave : Slave). slave.station) group.slaves)
    ∙ ap (λ (n : ℕ). length (stations old) + n) (length-map group.slaves (λ (slave : Slave). slave.station)) in
    let same : length (stations (changed old (Declare group))) ≡ length (stations new) = ap (λ (state : State). length (stations state)) next in
    omega (arith, few, own, more, same, many)

-- they have the memory of an edit of this state

pub room-answer_given : (count other : ℕ) (edit asked : Edit) (slaves : Option SlaveRoom) → HasSlaveRoom count edit slaves → count ≡ other → edit ≡ asked → HasSlaveRoom other asked slaves
room-answer_given count other edit asked slaves has many is = subst (λ (n : ℕ). HasSlaveRoom n asked slaves) many (subst (λ (e : Edit). HasSlaveRoom count e slaves) is has)
