use Rattle.std.proofs.Common.{◌≡◌, ℕ, ◌<◌, ◌||◌, Bool, true, false, ap, ap₂, sym, subst, ◌∙◌, ◌⊎◌, inl, inr, rules}
use Rattle.std.specs.Prelude.{None, Ok, not}
use Rattle.hc_records.specs.Edits.{edited}
use Rattle.hc_records.specs.Line.{State, groups_of, line}
use Rattle.hc_records.specs.Project.{lowest_fault}
use Rattle.hc_places.specs.Swap.{Change, ChangesAscend}
use Rattle.hc_places.specs.Table.{Table, table_of}
use Rattle.hc_plan.specs.declared.report.Report.{Report}
use Rattle.hc_plan.specs.Prepared.{IsPrepared, PreparedEdit}
use Rattle.hc_events.specs.Steady.{changes_task}
use Rattle.hc_owed.specs.declared.task_set.TaskSet.{TaskSet}
use Rattle.hc_owed.specs.ChangedTasks.{changes_blocks}
use Rattle.hc_owed.specs.TaskSets.{has_task}
use Rattle.hc_owed.proofs.lemmas.TaskSums.{either-has, empty-set}
use Rattle.hc_core.specs.Changed.{HasChangedTasks, HasTasksOfBlocks, IsOfHistory, has_place, has_table, remaps}
use Rattle.hc_core.proofs.BlockChanges.{by-set}
use Rattle.hc_core.proofs.ChangedTasks.{place-differs, table-differs}
use Rattle.hc_core.proofs.changed.changed_tasks.Goals.{then-not-is_empty-via-then-not-is_empty, then-not-is_empty-via-else-not-is_empty+then-not-remaps}
use Rattle.hc_core.proofs.changed.changed_tasks.Goals as goal

-- the tasks of the changed blocks, if they are all
whole : (edit : PreparedEdit) (of : IsOfHistory edit) (blocks : TaskSet) → IsPrepared edit → HasTasksOfBlocks edit blocks → (remaps edit.report.swap.edit ≡ false) ⊎ (((t : ℕ) → t < 8 → has_task t blocks ≡ false) → ⊥)
    → HasChangedTasks edit blocks
whole edit of blocks prepared has which t low =
    by-set of.history edit.report.swap.edit edit.new (subst (λ (state : State). lowest_fault (groups_of state.groups) ≡ None) of.made prepared.project)
    (subst (λ (state : State). edited state edit.report.swap.edit ≡ Ok edit.new) of.made prepared.accepted) blocks
    (λ u small. has u small ∙ ap (λ (state : State). changes_blocks state edit.new u) of.made) which t low
    ∙ ap (λ (state : State). changes_task state edit.new t) (sym of.made)

pub returns-then-not-is_empty : goal.returns-then-not-is_empty
returns-then-not-is_empty c = whole c.args.edit.now c.requires.made c.args.blocks c.requires.prepared c.requires.blocks (elim c.then-not-is_empty.branch [
  | then-not-is_empty-via-then-not-is_empty w ↦ inr (λ none.
      let never : true ≡ false = sym (c.is_empty.ensures ∙ ap not (empty-set c.args.blocks (search rules) none)) ∙ w.if-not-is_empty.true in cc)
  | then-not-is_empty-via-else-not-is_empty+then-not-remaps w ↦ inl
      (ap (λ (report : Report). remaps report.swap.edit) (sym c.report.ensures.report) ∙ ap remaps (sym w.edit.ensures) ∙ sym w.remaps.ensures ∙ w.if-not-remaps.true)
])

pub returns : goal.returns
returns c = λ task low.
    let edit = c.args.edit.now in
    let old = line edit.old in
    let new = line edit.new in
    let said = edit.report.swap.change in
    let change : c.report.result.now.swap.change ≡ said = ap (λ (report : Report). report.swap.change) c.report.ensures.report in
    let says = c.requires.prepared.reported.says in
    let rows = subst (λ (ch : Change). ChangesAscend ch.rows) change c.places_changed.ensures.ascends in
    either-has task c.with.result c.args.blocks c.with-2.result low c.with-2.ensures
    ∙ ap₂ (λ (a b : Bool). a || b)
    (either-has task c.tables_changed.result c.places_changed.result c.with.result low c.with.ensures
    ∙ ap₂ (λ (a b : Bool). a || b)
    (c.tables_changed.ensures task low ∙ ap (λ (ch : Change). has_table ch task) change ∙ table-differs old new said task low says)
    (c.places_changed.ensures.tasks task low ∙ ap₂ (λ (table : Table) (ch : Change). has_place table ch task) c.requires.table change ∙ place-differs (table_of old) (table_of new) said task rows says))
    (c.requires.blocks task low)
