-- The parts of a core stay right after an accepted edit.
use Rattle.std.proofs.Common.{◌≡◌, ℕ, ◌+◌, ◌*◌, ◌<◌, Bool, cond, ap₂, List, [], ◌∷◌, ◌++◌, length, refl, sym, ap, ◌∙◌, subst, append_assoc, length-append, None, Option, Vec, Global, rules}
use Rattle.std.specs.Prelude.{Contains, Err, IfSome, Ok, Result, vec_capacity}
use Rattle.std.specs.Result.{result_unwrap_or}
use Rattle.std.proofs.lemmas.List.{length-map, map-append}
use Rattle.hc_records.specs.declared.edit.Edit.{Edit}
use Rattle.hc_records.specs.declared.edit.Edit.TheVariants.{Declare}
use Rattle.hc_records.specs.declared.records.Group.{Group}
use Rattle.hc_records.specs.declared.records.Slave.{Slave}
use Rattle.hc_records.specs.declared.faults.EditFault.{EditFault}
use Rattle.hc_records.specs.Edits.{changed as changed_state, over_limit_task, edit_faults, edited, is_declared_station, state_after}
use Rattle.hc_records.specs.Line.{State, groups_of, line}
use Rattle.hc_records.specs.Lists.{lowest}
use Rattle.hc_records.specs.Project.{lowest_fault}
use Rattle.hc_groups.specs.Edits.{own_fault}
use Rattle.hc_groups.proofs.lemmas.Accepted.{accepted-project}
use Rattle.hc_registers.specs.RankPlaces.{stations}
use Rattle.hc_places.specs.declared.swap.Swap.{Swap}
use Rattle.hc_places.specs.Swap.{Leads, swapped}
use Rattle.hc_places.specs.Table.{Table, table_of}
use Rattle.hc_plan.specs.Prepared.{IsPrepared, PreparedEdit}
use Rattle.hc_plan.specs.declared.report.Report.{Report}
use Rattle.hc_plan.specs.Reports.{ReportsEdit}
use Rattle.hc_events.specs.Accepted.{AreAccepted}
use Rattle.hc_events.specs.declared.answer.Answer.TheVariants as answer
use Rattle.hc_events.specs.declared.change.Change.{Change}
use Rattle.hc_events.specs.declared.change.Change.TheVariants as change
use Rattle.hc_events.specs.Changes.{updates_of}
use Rattle.hc_events.specs.Entries.{History, Edited}
use Rattle.hc_events.specs.Holding.{is_unplugged, may_hold}
use Rattle.hc_events.specs.UpdatesLaws.{state_after_changes}
use Rattle.hc_events.specs.Outputs.{value_bit}
use Rattle.hc_events.specs.Owed.{known_bytes}
use Rattle.hc_events.specs.Points.{epoch_of, line_of, state_of}
use Rattle.hc_events.specs.Steady.{SteadyData, changes_task, edit_changes, steady_data, task_epoch}
use Rattle.hc_events.proofs.lemmas.Epochs.{epochs-counted}
use Rattle.hc_events.specs.Steps.{edit_answer}
use Rattle.hc_events.proofs.lemmas.Undeclared.{undeclared-empty}
use Rattle.hc_events.proofs.lemmas.Views.{legal-joined}
use Rattle.hc_sendings.specs.Waiting.{nothing}
use Rattle.hc_images.specs.Image.{DatagramImage}
use Rattle.hc_images.specs.Moves.{Moves, moved_table}
use Rattle.hc_images.specs.Packed.{HoldsOutputValues, Packed}
use Rattle.hc_images.specs.Values.{kept_values as unchanged_over}
use Rattle.hc_owed.specs.RegisterState.{RegisterState, register_state_of}
use Rattle.hc_owed.specs.Laws.{known_over}
use Rattle.hc_owed.specs.declared.area.JudgedArea.{JudgedArea}
use Rattle.hc_owed.specs.Readiness.{readiness_of}
use Rattle.hc_owed.specs.ReadinessSteps.{IsReadinessFor, held_over, unplugged_over}
use Rattle.hc_core.proofs.AreasKept.{areas-edited}
use Rattle.hc_core.proofs.Awaits.{waits-edited}
use Rattle.hc_core.proofs.Update.{exact-joined}
use Rattle.hc_core.proofs.Posts.{values-edited}
use Rattle.hc_core.proofs.Known.{unchanged-alike, known-edited}
use Rattle.hc_core.specs.Agreement.{Agree, CoreParts}
use Rattle.hc_core.proofs.SteadyReads.{chosen-mapped}
use Rattle.hc_core.specs.Ages.{Ages, data_age}
use Rattle.hc_core.specs.Changed.{EmptiesTasks, HasChangedTasks, RaisesTasks, UndatesTasks}
use Rattle.hc_core.specs.declared.ages.DataAge.{DataAge}
use Rattle.hc_owed.specs.declared.task_set.TaskSet.{TaskSet}
use Rattle.hc_owed.specs.TaskSets.{has_task}
use Rattle.hc_records.specs.declared.limits.TheConstants.{TASKS}
use Rattle.hc_core.specs.Update.{ShowUpdates}
use Rattle.hc_core.specs.declared.declaring.SlaveRoom.{SlaveRoom}
use Rattle.hc_core.specs.declared.prepared.PlannedEdit.{PlannedEdit}
use Rattle.hc_core.specs.Prepared.{CanFollow, CoreEdit, CanBeCarriedOut, HasSlaveRoom}
use Rattle.hc_core.specs.State.{CoreState}
use Rattle.hc_core.proofs.Followed.{areas-many, new-slaves, room-answer_given}
use Rattle.hc_core.proofs.Serves.{accepted_edit}
use Rattle.hc_core.proofs.Stations.{kept-right}

-- the state that an accepted edit leads to is that after it

pub after-is : (state : State) (edit : Edit) (next : State) → edited state edit ≡ Ok next → state_after state edit ≡ next
after-is state edit next e = ap (λ (made : Result State EditFault). result_unwrap_or made state) e

-- an edit that is accepted has no fault of its own

pub accepted-own : {X : Type 0} (state : State) (edit : Edit) (new : State) (answer_given : Result X EditFault) → edited state edit ≡ Ok new → IfSome (own_fault state.groups edit) (λ fault. answer_given ≡ Err fault)
accepted-own state edit new answer_given accepted = search rules

pub edited-answer_given : (old new : State) (edit : Edit) (report : Report) → edited old edit ≡ Ok new → ReportsEdit old edit new report
    → answer.Edited report.epoch report.recut report.moved ≡ edit_answer old (state_after old edit)
edited-answer_given old new edit report accepted say = search rules

-- a swap after the changes

swap_after : (state : State) (changes : List Change) (swap : Swap) → state_after_changes state (changes ++ change.Swapped swap ∷ []) ≡ state_after (state_after_changes state changes) swap.edit
swap_after state [] swap = refl
swap_after state (change.Swapped other ∷ changes) swap = swap_after (state_after state other.edit) changes swap
swap_after state (change.Good good ∷ changes) swap = swap_after state changes swap

updates-edited : (taken history : History) (edit : Edit) (changes : List Change) (new : State) (report : Report) → edited (state_of history) edit ≡ Ok new → ReportsEdit (state_of history) edit new report
    → ShowUpdates taken history changes → ShowUpdates taken (Edited edit ∷ history) (changes ++ change.Swapped report.swap ∷ [])
updates-edited taken history edit changes new report accepted say shows =
    let swap = report.swap in
    let after_it : state_after_changes (state_of taken) changes ≡ state_of history = shows.after_it in
    let after : state_after (state_of history) swap.edit ≡ new = ap (state_after (state_of history)) say.named ∙ after-is (state_of history) edit new accepted in
    record {
      updates = search (rules, append_assoc, map-append);
      legal = legal-joined (state_of taken) changes (change.Swapped swap ∷ []) shows.legal (
        record {
          accepted = search rules;
          leads = ap (λ state. swapped swap.change (table_of (line state))) after_it ∙ say.leads ∙ ap (λ state. table_of (line state)) (sym after) ∙ ap (λ state. table_of (line (state_after state swap.edit))) (sym after_it);
        },
        tt,
      );
      exact = exact-joined (state_of taken) changes (change.Swapped swap ∷ []) shows.exact (
        subst (λ (state : State). Leads (table_of (line state)) (table_of (line (state_after state swap.edit))) swap) (sym after_it)
            (subst (λ (state : State). Leads (table_of (line (state_of history))) (table_of (line state)) swap) (sym after) (record { leads = say.leads; says = say.says; count = say.places })),
        tt,
      );
      after_it = swap_after (state_of taken) changes swap ∙ ap (λ state. state_after state swap.edit) after_it ∙ ap (state_after (state_of history)) say.named;
    }

-- all parts of a core

agree-edited : (unchanged : CoreParts) (history taken : History) (new : State) (report : Report) (changed : TaskSet) (inputs : DatagramImage) (ages : Ages) (epochs : List ℕ) (outputs : Packed) (owed : RegisterState) (readiness : List JudgedArea) → edited (state_of history) report.swap.edit ≡ Ok new → ReportsEdit (state_of history) report.swap.edit new report
    → over_limit_task (line new) ≡ None → ((task : ℕ) → task < TASKS → has_task task changed ≡ changes_task (state_of history) new task)
    → EmptiesTasks changed unchanged.inputs inputs → UndatesTasks changed unchanged.ages ages → RaisesTasks changed report.epoch unchanged.epochs epochs → owed ≡ register_state_of (known_over (state_of history) (known_bytes history)) new
    → readiness ≡ readiness_of (known_over (state_of history) (known_bytes history)) (held_over (state_of history) new (may_hold history)) (unplugged_over new (is_unplugged history)) new
    → HoldsOutputValues (table_of (line new)) (unchanged_over (table_of (line_of history)) (value_bit history)) outputs → Agree unchanged history taken
    → Agree (record {
      plan = new;
      serial = unchanged.serial;
      awaited = nothing;
      inputs = inputs;
      ages = ages;
      epochs = epochs;
      outputs = outputs;
      owed = owed;
      readiness = readiness;
      changes = unchanged.changes ++ change.Swapped report.swap ∷ [];
    }) (Edited report.swap.edit ∷ history) taken
agree-edited unchanged history taken new report changed inputs ages epochs outputs owed readiness accepted say uncrowded has slots_so undated raised known ready carried agree =
    let edit = report.swap.edit in
    let after : state_after (state_of history) edit ≡ new = after-is (state_of history) edit new accepted in
    let all : AreAccepted (Edited edit ∷ history) = (accepted_edit (lowest (edit_faults (state_of history) edit)) (changed_state (state_of history) edit) new accepted, agree.accepted) in
    let changes : (task : ℕ) → task < TASKS → has_task task changed ≡ edit_changes history edit task = λ task low. has task low ∙ ap (λ (state : State). changes_task (state_of history) state task) (sym after) in
    let epoch : report.epoch ≡ epoch_of history + 1 = say.epoch ∙ ap (λ (state : State). state.epoch) (sym after) ∙ epochs-counted (Edited edit ∷ history) all in
    record {
      accepted = all;
      state = sym after;
      project = subst (λ state. lowest_fault (groups_of state.groups) ≡ None) (sym after) (accepted-project (state_of history) new edit agree.project accepted);
      uncrowded = subst (λ state. over_limit_task (line state) ≡ None) (sym after) uncrowded;
      serial = agree.serial;
      left = agree.left;
      waits = waits-edited history edit;
      slots = λ task d low below.
          slots_so task d low below ∙ ap₂ (λ (b : Bool) (slot : Option (List ℕ)). cond b None slot) (changes task low) (agree.slots task d low below)
          ∙ sym (chosen-mapped (λ (found : SteadyData). found.bytes) (edit_changes history edit task) (steady_data history task d));
      dates = λ task d low below.
          undated task d low below ∙ ap₂ (λ (b : Bool) (age : Option DataAge). cond b None age) (changes task low) (agree.dates task d low below)
          ∙ sym (chosen-mapped data_age (edit_changes history edit task) (steady_data history task d));
      epochs = λ task low.
          raised task low ∙ ap₂ (λ (b : Bool) (own : ℕ). cond b report.epoch own) (changes task low) (agree.epochs task low)
          ∙ ap (λ (now : ℕ). cond (edit_changes history edit task) now (task_epoch history task)) epoch;
      values = values-edited history edit outputs
          (subst (λ (state : State). HoldsOutputValues (table_of (line state)) (unchanged_over (table_of (line_of history)) (value_bit history)) outputs) (sym after) carried);
      known = search (rules, unchanged-alike, known-edited);
      ready = areas-edited readiness history edit new after ready;
      shows = updates-edited taken history edit unchanged.changes new report accepted say agree.shows;
    }

-- an edit that is planned for a core, as what the core keeps

pub core_edit-here : (made own now : CoreState) (core_edit : CoreEdit) (planned : PlannedEdit) → CanBeCarriedOut made planned
    → (let seen : CoreEdit = record { core = made; edit = planned.edit } in seen) ≡ core_edit → core_edit.core ≡ now → own ≡ now → CanBeCarriedOut own planned
core_edit-here made own now core_edit planned is view asked sees = search rules

pub still-here : (own now : CoreState) (planned : PlannedEdit) → own ≡ now → CanBeCarriedOut now planned → CanBeCarriedOut own planned
still-here own now planned same = subst (λ (core : CoreState). CanBeCarriedOut core planned) (sym same)

-- an edit of the core's line, with the memory that was taken for it
pub with-memory : (core : CoreState) (edit : PreparedEdit) (asked : Edit) (table : Table) (swap : Swap) (moves : Moves) (count : ℕ) (slaves : Option SlaveRoom) (room : Vec Change Global) → edit.old ≡ state_of core.history
    → IsPrepared edit → edit.report.swap.edit ≡ asked → table ≡ table_of (line_of core.history) → swap ≡ edit.report.swap → moves ≡ record { before = table; change = swap.change } → count ≡ length (stations edit.old)
    → HasSlaveRoom count asked slaves → room.items ≡ [] → length (updates_of core.history) < length (updates_of core.taken) + vec_capacity room
    → CanBeCarriedOut core (record { edit = edit; moves = moves; slaves = slaves; room = room })
with-memory core edit asked table swap moves count slaves room made prepared same placed shown moved known has empty fits = record {
  made = made;
  prepared = prepared;
  table = ap (λ (m : Moves). m.before) moved ∙ placed;
  change = ap (λ (m : Moves). m.change) moved ∙ ap (λ (s : Swap). s.change) shown;
  slaves = room-answer_given count (length (stations edit.old)) asked edit.report.swap.edit slaves has known (sym same);
  empty = empty;
  fits = fits;
}

pub table-leads : (core : CoreState) (planned : PlannedEdit) → CanBeCarriedOut core planned → moved_table planned.moves ≡ table_of (line planned.edit.new)
table-leads core planned can = let prepared = can.prepared in search rules

pub new-project : (edit : PreparedEdit) → IsPrepared edit → lowest_fault (groups_of edit.new.groups) ≡ None
new-project edit prepared = accepted-project edit.old edit.new edit.report.swap.edit prepared.project prepared.accepted

-- eight areas are stored for each stored station address

pub areas-declared : (unchanged : CoreParts) (history taken : History) → Agree unchanged history taken → length unchanged.readiness ≡ 8 * length unchanged.owed.stations
areas-declared unchanged history taken agree =
    areas-many (known_bytes history) (may_hold history) (is_unplugged history) (state_of history) unchanged.readiness agree.ready
    ∙ ap (λ (registers : RegisterState). 8 * length registers.stations) (sym agree.known)

-- a slave that the edit declares has registers without contents

pub declared-empty : (history : History) (edit : PreparedEdit) → edit.old ≡ state_of history → IsPrepared edit → AreAccepted history
    → (group : Group) → edit.report.swap.edit ≡ Declare group → (slave : Slave) → Contains group.slaves slave → (number : ℕ) → (may_hold history slave.station number).contents ≡ []
declared-empty history edit made prepared accepted group named slave has number =
    undeclared-empty history slave.station number accepted
    (ap (λ (state : State). is_declared_station state slave.station) (sym made) ∙ new-slaves edit.old edit.new edit.report.swap.edit group slave prepared.accepted named has)

abbrev pub can-follow : (unchanged : CoreParts) (history taken : History) (planned : PlannedEdit) → CanBeCarriedOut (record { history = history; taken = taken }) planned → Agree unchanged history taken
    → CanFollow unchanged.owed unchanged.readiness planned.edit planned.slaves
can-follow unchanged history taken planned can agree = record {
  known = known_bytes history;
  held = may_hold history;
  unplugged = is_unplugged history;
  right = agree.known ∙ ap (register_state_of (known_bytes history)) (sym can.made);
  areas = subst (λ (state : State). IsReadinessFor (known_bytes history) (may_hold history) (is_unplugged history) state unchanged.readiness) (sym can.made) (kept-right unchanged history taken agree);
  empty = declared-empty history planned.edit can.made can.prepared agree.accepted;
  prepared = can.prepared;
  slaves = can.slaves;
}

pub agree-carried : (unchanged : CoreParts) (history taken : History) (planned : PlannedEdit) (changed : TaskSet) (inputs : DatagramImage) (ages : Ages) (epochs : List ℕ) (outputs : Packed) (owed : RegisterState) (readiness : List JudgedArea)
    → CanBeCarriedOut (record { history = history; taken = taken }) planned → HasChangedTasks planned.edit changed → EmptiesTasks changed unchanged.inputs inputs → UndatesTasks changed unchanged.ages ages → RaisesTasks changed planned.edit.report.epoch unchanged.epochs epochs → owed ≡ register_state_of (known_over planned.edit.old (known_bytes history)) planned.edit.new
    → readiness ≡ readiness_of (known_over planned.edit.old (known_bytes history)) (held_over planned.edit.old planned.edit.new (may_hold history)) (unplugged_over planned.edit.new (is_unplugged history)) planned.edit.new
    → ((value : ℕ → ℕ → ℕ) → HoldsOutputValues planned.moves.before value unchanged.outputs → HoldsOutputValues (moved_table planned.moves) (unchanged_over planned.moves.before value) outputs) → Agree unchanged history taken
    → Agree (record {
      plan = planned.edit.new;
      serial = unchanged.serial;
      awaited = nothing;
      inputs = inputs;
      ages = ages;
      epochs = epochs;
      outputs = outputs;
      owed = owed;
      readiness = readiness;
      changes = unchanged.changes ++ change.Swapped planned.edit.report.swap ∷ [];
    }) (Edited planned.edit.report.swap.edit ∷ history) taken
agree-carried unchanged history taken planned changed inputs ages epochs outputs owed readiness can has slots_so undated raised known ready moves_so agree =
    let edit = planned.edit in
    let moves = planned.moves in
    let prepared = can.prepared in
    let asked = edit.report.swap.edit in
    let accepted : edited (state_of history) asked ≡ Ok edit.new = subst (λ (state : State). edited state asked ≡ Ok edit.new) can.made prepared.accepted in
    let answer_given : ReportsEdit (state_of history) asked edit.new edit.report = subst (λ (state : State). ReportsEdit state asked edit.new edit.report) can.made prepared.reported in
    let before : HoldsOutputValues moves.before (value_bit history) unchanged.outputs = subst (λ (table : Table). HoldsOutputValues table (value_bit history) unchanged.outputs) (sym can.table) agree.values in
    let carried : HoldsOutputValues (table_of (line edit.new)) (unchanged_over (table_of (line_of history)) (value_bit history)) outputs =
    subst (λ (table : Table). HoldsOutputValues (table_of (line edit.new)) (unchanged_over table (value_bit history)) outputs) can.table
    (subst (λ (table : Table). HoldsOutputValues table (unchanged_over moves.before (value_bit history)) outputs) (table-leads (record { history = history; taken = taken }) planned can) (moves_so (value_bit history) before)) in
    agree-edited unchanged history taken edit.new edit.report changed inputs ages epochs outputs owed readiness accepted answer_given prepared.crowds.1
    (λ task low. has task low ∙ ap (λ (state : State). changes_task state edit.new task) can.made) slots_so undated raised
    (known ∙ ap (λ (state : State). register_state_of (known_over state (known_bytes history)) edit.new) can.made)
    (ready ∙ ap (λ (state : State). readiness_of (known_over state (known_bytes history)) (held_over state edit.new (may_hold history)) (unplugged_over edit.new (is_unplugged history)) edit.new) can.made) carried agree

-- room that was taken for the changes of a core suffices for them and one more

pub count-waiting : (taken history : History) (changes : List Change) → ShowUpdates taken history changes → length (updates_of history) ≡ length (updates_of taken) + length changes
count-waiting taken history changes shows = search (rules, length-append, length-map)
