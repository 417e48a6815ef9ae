-- The outputs of a task have at most as many bytes as the buffer of a post has room for.
use Rattle.std.proofs.Common.{◌≡◌, ℕ, zero, suc, ◌<◌, ◌≤◌, Bool, false, List, [], ◌∷◌, ◌++◌, refl, sym, ap, ◌∙◌, subst, arith, Option, Some, None}
use Rattle.std.specs.Prelude.{IsOk, is_some, unwrap_or, ◌==◌}
use Rattle.hc_records.specs.declared.edit.Edit.{Edit}
use Rattle.hc_records.specs.declared.faults.EditFault.{EditFault}
use Rattle.hc_records.specs.declared.faults.EditFault.TheVariants.{EpochsSpent, TooManyDatagrams}
use Rattle.hc_records.specs.declared.limits.TheConstants.{LAST_EPOCH, TASKS}
use Rattle.hc_records.specs.declared.records.Group.{Group}
use Rattle.hc_records.specs.Edits.{changed, over_limit_task, edit_faults, edited, late_faults, own_faults, refused_by, state_after}
use Rattle.hc_records.specs.Image.{output_length, task_places}
use Rattle.hc_records.specs.Line.{Member, State, groups_of, line, opened}
use Rattle.hc_records.specs.Lists.{lowest}
use Rattle.hc_records.specs.Project.{lowest_fault}
use Rattle.hc_records.specs.TaskList.{task_list}
use Rattle.hc_records.proofs.lemmas.Addresses.{uncrowded-few}
use Rattle.hc_records.proofs.lemmas.Packable.{project-packable}
use Rattle.hc_records.proofs.lemmas.Tiles.{image-short, outputs-inside}
use Rattle.hc_groups.proofs.lemmas.Accepted.{accepted-project}
use Rattle.hc_places.specs.Table.{Table, table_of}
use Rattle.hc_events.specs.declared.change.Change.{Change}
use Rattle.hc_events.specs.declared.change.Change.TheVariants as change
use Rattle.hc_events.specs.Changes.{AreLegalFrom}
use Rattle.hc_events.specs.UpdatesLaws.{state_after_changes}
use Rattle.hc_events.proofs.lemmas.Accepted.{passed}
use Rattle.hc_events.proofs.lemmas.Changes.{changes-decide, one-epoch}
use Rattle.hc_events.proofs.lemmas.Views.{no_fault, none_after}
use Rattle.hc_publish.specs.ChangesSince.{IsLegal, ChangesSince, table_shown}
use Rattle.hc_publish.proofs.lemmas.Openings.{opened-groups}
use Rattle.hc_rings.specs.declared.post_buffer.TheConstants.{LARGEST_IMAGE}
use Rattle.hc_conductor.specs.Openings.{IsOpenable, output_bytes}

-- a line of a project that crowds no task
pub record IsFit (state : State) : Type 0 where
  pub project : lowest_fault (groups_of state.groups) ≡ None
  pub uncrowded : over_limit_task (line state) ≡ None

-- ---- each state that legal changes lead to has such a line

none : (task : Option ℕ) → is_some task ≡ false → task ≡ None
none None e = refl
none (Some task) e = cc

fit_after : (state : State) (edit : Edit) → IsFit state → IsOk (edited state edit) → IsFit (state_after state edit)
fit_after state edit fit ok =
    let over_limit = over_limit_task (line (changed state edit)) in
    let last : List (Bool × EditFault) = (state.epoch == LAST_EPOCH, EpochsSpent) ∷ late_faults state edit in
    let free = no_fault (lowest (edit_faults state edit)) (changed state edit) ok in
    let after_it = none_after (own_faults state edit) ((is_some over_limit, TooManyDatagrams (unwrap_or over_limit 0)) ∷ last) free in
    let next : IsFit (changed state edit) = record {
      project = accepted-project state (changed state edit) edit fit.project (ap (λ (fault : Option EditFault). refused_by fault (changed state edit)) free);
      uncrowded = none over_limit (passed (is_some over_limit) (TooManyDatagrams (unwrap_or over_limit 0)) last after_it).0;
    } in
    subst IsFit (sym (one-epoch (lowest (edit_faults state edit)) state (changed state edit) ok)) next

pub fit_later : (state : State) (changes : List Change) → IsFit state → AreLegalFrom state changes → IsFit (state_after_changes state changes)
fit_later state [] fit legal = fit
fit_later state (change.Swapped swap ∷ changes) fit legal = fit_later (state_after state swap.edit) changes (fit_after state swap.edit fit legal.0.accepted) legal.1
fit_later state (change.Good good ∷ changes) fit legal = fit_later state changes fit legal.1

-- ---- its tasks' outputs

outputs_short : (state : State) → IsFit state → (task : ℕ) → task < TASKS → output_length (task_places task (line state)) ≤ LARGEST_IMAGE
outputs_short state fit task low =
    let list = task_list task (line state) in
    let image = image-short list (project-packable state task fit.project) (uncrowded-few (line state) task fit.uncrowded low) in
    let inside = outputs-inside (task_places task (line state)) in
    omega (arith, image, inside)

-- a number that is no task's has no outputs
each_task : (members : List Member) (most : ℕ) → ((task : ℕ) → task < TASKS → output_length (task_places task members) ≤ most) → (task : ℕ) → output_bytes (table_of members) task ≤ most
each_task members most short zero = short 0 (omega arith)
each_task members most short (suc zero) = short 1 (omega arith)
each_task members most short (suc (suc zero)) = short 2 (omega arith)
each_task members most short (suc (suc (suc zero))) = short 3 (omega arith)
each_task members most short (suc (suc (suc (suc zero)))) = short 4 (omega arith)
each_task members most short (suc (suc (suc (suc (suc zero))))) = short 5 (omega arith)
each_task members most short (suc (suc (suc (suc (suc (suc zero)))))) = short 6 (omega arith)
each_task members most short (suc (suc (suc (suc (suc (suc (suc zero))))))) = short 7 (omega arith)
each_task members most short (suc (suc (suc (suc (suc (suc (suc (suc task)))))))) = omega arith

table_short : (state : State) → IsFit state → (task : ℕ) → output_bytes (table_of (line state)) task ≤ LARGEST_IMAGE
table_short state fit = each_task (line state) LARGEST_IMAGE (outputs_short state fit)

pub fit_opened : (groups : List Group) → IsOpenable groups → IsFit (opened groups)
fit_opened groups is = record {
  project = ap lowest_fault (opened-groups groups) ∙ is.project;
  uncrowded = is.uncrowded;
}

pub opened-short : (groups : List Group) → IsOpenable groups → (task : ℕ) → output_bytes (table_of (line (opened groups))) task ≤ LARGEST_IMAGE
opened-short groups is = table_short (opened groups) (fit_opened groups is)

pub shown-short : (answer_given : ChangesSince) → IsOpenable answer_given.groups → IsLegal answer_given → (task : ℕ) → output_bytes (table_shown answer_given) task ≤ LARGEST_IMAGE
shown-short answer_given is legal task =
    subst (λ (table : Table). output_bytes table task ≤ LARGEST_IMAGE) (sym (changes-decide answer_given.groups answer_given.changes legal).table)
    (table_short (state_after_changes (opened answer_given.groups) answer_given.changes) (fit_later (opened answer_given.groups) answer_given.changes (fit_opened answer_given.groups is) legal) task)
