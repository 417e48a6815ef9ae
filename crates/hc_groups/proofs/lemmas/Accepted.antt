-- What an accepted edit leaves.
use Rattle.std.proofs.Common.{◌≡◌, Bool, true, false, List, ◌∷◌, Option, None, Ok, refl, sym, ap, subst, if◌then◌else◌, rules}
use Rattle.std.specs.Prelude.{◌==◌, Some, is_some, unwrap_or}
use Rattle.hc_records.specs.declared.limits.TheConstants.{LAST_EPOCH}
use Rattle.hc_records.specs.declared.records.Group.{Group}
use Rattle.hc_records.specs.declared.edit.Edit.{Edit}
use Rattle.hc_records.specs.declared.edit.Edit.TheVariants.{Connect, Disconnect, Remap, Move, Declare}
use Rattle.hc_records.specs.declared.faults.EditFault.{EditFault}
use Rattle.hc_records.specs.declared.faults.EditFault.TheVariants.{TooManyDatagrams, EpochsSpent}
use Rattle.hc_records.specs.Lists.{lowest}
use Rattle.hc_records.specs.Edits.{changed, over_limit_task, declaring_faults, edit_faults, edited, groups_after, refused_by}
use Rattle.hc_records.specs.Line.{State, groups_of, line}
use Rattle.hc_records.specs.Project.{lowest_fault}
use Rattle.hc_records.proofs.lemmas.Declaring.{declared-keep}
use Rattle.hc_groups.specs.Edits.{own_fault}
use Rattle.hc_groups.specs.Laws.{AcceptedEditsKeepProjects}
use Rattle.hc_groups.proofs.Unchanged.{project-unchanged}

left-by : (fault : Option EditFault) (next new : State) → refused_by fault next ≡ Ok new → new ≡ next
left-by fault next new is = search rules

pub accepted-state : (old new : State) (edit : Edit) → edited old edit ≡ Ok new → new ≡ changed old edit
accepted-state old new edit accepted = left-by (lowest (edit_faults old edit)) (changed old edit) new accepted

-- the groups that the edit leaves
pub accepted-groups : (old new : State) (edit : Edit) → edited old edit ≡ Ok new → new.groups ≡ groups_after old.groups edit
accepted-groups old new edit accepted = ap (λ (state : State). state.groups) (accepted-state old new edit accepted)

none-own : (old new : State) (edit : Edit) (own : Option EditFault) → own_fault old.groups edit ≡ own → edited old edit ≡ Ok new → own ≡ None
none-own old new edit own is accepted = search rules

-- a group that is declared has none of its faults

rest-none : (judged : Bool) (fault : EditFault) (rest : List (Bool × EditFault)) → (if judged then Some fault else lowest rest) ≡ None → lowest rest ≡ None
rest-none true fault rest none = cc
rest-none false fault rest none = none

free-by : (fault : Option EditFault) (next new : State) → refused_by fault next ≡ Ok new → fault ≡ None
free-by None next new is = refl
free-by (Some fault) next new is = cc

declared-free : (old new : State) (group : Group) → edited old (Declare group) ≡ Ok new → lowest (declaring_faults old.groups group) ≡ None
declared-free old new group accepted =
    let all = free-by (lowest (edit_faults old (Declare group))) (changed old (Declare group)) new accepted in
    let over_limit = over_limit_task (line (changed old (Declare group))) in
    let spent : List (Bool × EditFault) = (old.epoch == LAST_EPOCH, EpochsSpent) ∷ declaring_faults old.groups group in
    rest-none (old.epoch == LAST_EPOCH) EpochsSpent (declaring_faults old.groups group)
    (rest-none (is_some over_limit) (TooManyDatagrams (unwrap_or over_limit 0)) spent all)

groups-keep : (old new : State) (edit : Edit) → lowest_fault (groups_of old.groups) ≡ None → edited old edit ≡ Ok new → lowest_fault (groups_of (groups_after old.groups edit)) ≡ None
groups-keep old new (Connect alias) project accepted =
    project-unchanged old.groups (Connect alias) refl project (none-own old new (Connect alias) (own_fault old.groups (Connect alias)) refl accepted)
groups-keep old new (Disconnect alias) project accepted =
    project-unchanged old.groups (Disconnect alias) refl project (none-own old new (Disconnect alias) (own_fault old.groups (Disconnect alias)) refl accepted)
groups-keep old new (Remap station area pdos) project accepted =
    project-unchanged old.groups (Remap station area pdos) refl project (none-own old new (Remap station area pdos) (own_fault old.groups (Remap station area pdos)) refl accepted)
groups-keep old new (Move station area task) project accepted =
    project-unchanged old.groups (Move station area task) refl project (none-own old new (Move station area task) (own_fault old.groups (Move station area task)) refl accepted)
groups-keep old new (Declare group) project accepted = declared-keep old.groups group project (declared-free old new group accepted)

-- which are a project's where the old ones are
pub accepted-project : AcceptedEditsKeepProjects
accepted-project old new edit project accepted =
    subst (λ (state : State). lowest_fault (groups_of state.groups) ≡ None) (sym (accepted-state old new edit accepted)) (groups-keep old new edit project accepted)
