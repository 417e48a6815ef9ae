-- After a legal list of changes a variable's place ends in its datagram's data.
use Rattle.std.proofs.Common.{◌≡◌, ℕ, ◌+◌, ◌*◌, ◌≤◌, min, List, [], ◌∷◌, length, refl, sym, ap, ◌∙◌, subst, arith, Result, Ok, Err, Some, None}
use Rattle.std.specs.Prelude.{IsOk, option_map}
use Rattle.std.specs.List.{flat_map}
use Rattle.std.specs.Result.{result_unwrap_or}
use Rattle.hc_records.specs.declared.limits.TheConstants.{LAST_EPOCH}
use Rattle.hc_records.specs.declared.faults.EditFault.{EditFault}
use Rattle.hc_records.specs.Edits.{edited, state_after}
use Rattle.hc_records.specs.Image.{VariablePlace, task_variables, tasks, variable_place}
use Rattle.hc_records.specs.Line.{State, groups_of, line, opened}
use Rattle.hc_records.specs.Project.{lowest_fault}
use Rattle.hc_records.proofs.lemmas.VariablePlaces.{variables-lie}
use Rattle.hc_groups.proofs.lemmas.Accepted.{accepted-project}
use Rattle.hc_places.specs.Table.{VariableRow, Table, TablesHavePlaces, place_in}
use Rattle.hc_places.proofs.lemmas.Sorted.{find-by_number}
use Rattle.hc_events.specs.declared.change.Change.{Change}
use Rattle.hc_events.specs.declared.change.Change.TheVariants as change
use Rattle.hc_events.specs.Changes.{AreLegalFrom}
use Rattle.hc_events.specs.UpdatesLaws.{state_after_changes}
use Rattle.hc_events.proofs.lemmas.Changes.{changes-decide}
use Rattle.hc_events.proofs.lemmas.Views.{legal-epochs}
use Rattle.hc_publish.specs.ChangesSince.{IsLegal, ChangesSince, data_shown, epoch_shown, table_shown}
use Rattle.hc_publish.proofs.lemmas.Openings.{opened-groups}

pub table-places : TablesHavePlaces
table-places line variable = ap (option_map (λ (row : VariableRow). row.1)) (find-by_number variable (flat_map (task_variables line) tasks))

ok_is : (answer : Result State EditFault) (state : State) → IsOk answer → answer ≡ Ok (result_unwrap_or answer state)
ok_is (Ok next) state ok = refl
ok_is (Err fault) state ok = cc

-- the groups stay a project's
project-after_it : (state : State) (changes : List Change) → lowest_fault (groups_of state.groups) ≡ None → AreLegalFrom state changes → lowest_fault (groups_of (state_after_changes state changes).groups) ≡ None
project-after_it state [] project legal = project
project-after_it state (change.Swapped swap ∷ changes) project legal =
    project-after_it (state_after state swap.edit) changes
    (accepted-project state (state_after state swap.edit) swap.edit project (ok_is (edited state swap.edit) state legal.0.accepted)) legal.1
project-after_it state (change.Good good ∷ changes) project legal = project-after_it state changes project legal.1

-- a variable's place in the table is that in the line of the state after the changes
pub place-shown : (changes_since : ChangesSince) (variable : ℕ) → IsLegal changes_since → place_in (table_shown changes_since) variable ≡ variable_place variable (line (state_after_changes (opened changes_since.groups) changes_since.changes))
place-shown changes_since variable legal =
    ap (λ (table : Table). place_in table variable) (changes-decide changes_since.groups changes_since.changes legal).table
    ∙ table-places (line (state_after_changes (opened changes_since.groups) changes_since.changes)) variable

pub ends-in_data : (changes_since : ChangesSince) (variable : ℕ) (place : VariablePlace) (bytes : List ℕ) → lowest_fault changes_since.groups ≡ None → IsLegal changes_since → place_in (table_shown changes_since) variable ≡ Some place
    → data_shown changes_since place.task place.datagram ≡ Some bytes → place.bit + place.bits ≤ 8 * length bytes
ends-in_data changes_since variable place bytes project legal there has =
    let state = state_after_changes (opened changes_since.groups) changes_since.changes in
    let own : lowest_fault (groups_of (opened changes_since.groups).groups) ≡ None = ap lowest_fault (opened-groups changes_since.groups) ∙ project in
    let lies = variables-lie state variable place (project-after_it (opened changes_since.groups) changes_since.changes own legal) (sym (place-shown changes_since variable legal) ∙ there) in
    let fits = (changes-decide changes_since.groups changes_since.changes legal).fits place.task place.datagram bytes has in
    subst (λ (size : ℕ). place.bit + place.bits ≤ 8 * size) (sym fits.fits) lies.within

capped : (epoch shown : ℕ) → epoch ≡ min shown LAST_EPOCH → shown ≤ LAST_EPOCH → epoch ≡ shown
capped epoch shown is low = omega arith

pub epoch-legal_shown : (changes_since : ChangesSince) (epoch : ℕ) → epoch ≡ min (epoch_shown changes_since) LAST_EPOCH → IsLegal changes_since → epoch ≡ epoch_shown changes_since
epoch-legal_shown changes_since epoch is legal = capped epoch (epoch_shown changes_since) is (legal-epochs changes_since.groups changes_since.changes legal)
