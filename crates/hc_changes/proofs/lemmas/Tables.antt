-- The tables of tasks, from what was known of them before an edit.
use Rattle.std.proofs.Common.{◌≡◌, ◌∙◌, ap, ℕ, ◌==◌, ◌<◌, Bool, true, false, List, [], ◌∷◌, ◌++◌, length, Option, Some, None, refl, sym, arith, cond, rules}
use Rattle.std.specs.Prelude.{All, filter, find, map, nat_lt, not, slice_get}
use Rattle.std.proofs.lemmas.Bool.{eqb-true}
use Rattle.std.proofs.lemmas.Bool.Decides.{nat_tests}
use Rattle.std.proofs.lemmas.List.Elements.{All-contains, All-cons, All-nil}
use Rattle.hc_records.specs.declared.keys.Key.{Key}
use Rattle.hc_records.specs.declared.limits.TheConstants.{TASKS}
use Rattle.hc_records.specs.declared.records.Area.{Area}
use Rattle.hc_records.specs.declared.records.Declared.{Declared}
use Rattle.hc_records.specs.Boundaries.{is_touched, is_touched_task, touched, width_in}
use Rattle.hc_records.specs.Image.{task_places}
use Rattle.hc_records.specs.Keys.{same_key}
use Rattle.hc_records.specs.Line.{State, groups_of, line, line_from}
use Rattle.hc_records.specs.Project.{lowest_fault}
use Rattle.hc_records.specs.SpanLaws.{IsTaskList}
use Rattle.hc_records.specs.TaskList.{Keyed, task_list}
use Rattle.hc_records.proofs.lemmas.KeyOrder.{same_key-same}
use Rattle.hc_records.proofs.lemmas.Lists.{All-append_left, All-append_right, All-unmap}
use Rattle.hc_records.proofs.lemmas.TaskLists.{project-list}
use Rattle.hc_bitsum.proofs.lemmas.Widths.{answer_given-by_widths}
use Rattle.hc_cuts.specs.Keeping.{is_unchanged}
use Rattle.hc_cuts.specs.Starts.{TaskCuts}
use Rattle.hc_cuts.specs.Areas.{areas_by_rank, list_by}
use Rattle.hc_cuts.specs.LineKeeping.{Before, IsKnownBefore}
use Rattle.hc_cuts.specs.Recut.{is_touched_by}
use Rattle.hc_cuts.proofs.lemmas.AnswerGiven.{task-listed}
use Rattle.hc_places.specs.DatagramUses.{datagram_use_in, datagram_use_of, datagram_use_answered}
use Rattle.hc_places.specs.Table.{Table, TaskTable, table_of, task_table}
use Rattle.hc_places.proofs.lemmas.Lines.{same-table}
use Rattle.hc_places.proofs.lemmas.DatagramUses.{datagram_use-answer_given, table-at}
use Rattle.hc_changes.specs.Tables.{TableIsEdited}
use Rattle.hc_changes.proofs.lemmas.UnchangedSpans.{unchanged-inside}
use Rattle.hc_changes.proofs.lemmas.Lists.{found-among}

abbrev pub state_of : List Declared → State
state_of groups = record { groups = groups; epoch = 0 }

pub task-list : (groups : List Declared) (task : ℕ) → lowest_fault (groups_of groups) ≡ None → IsTaskList (task_list task (line_from 1 groups))
task-list groups task none = project-list (state_of groups) task none

-- the kept datagrams are given by the areas of both lines
pub unchanged-listed : (old new : List Declared) (task datagram : ℕ)
    → is_unchanged (task_list task (line_from 1 old)) (task_list task (line_from 1 new)) datagram ≡ is_unchanged (list_by task (areas_by_rank old)) (list_by task (areas_by_rank new)) datagram
unchanged-listed old new task datagram = search (rules, task-listed)

-- the use of a kept datagram is in the old table
pub unchanged-answer_given : (old new : List Declared) (task datagram : ℕ) → lowest_fault (groups_of old) ≡ None → lowest_fault (groups_of new) ≡ None → task < TASKS
    → is_unchanged (task_list task (line_from 1 old)) (task_list task (line_from 1 new)) datagram ≡ true
    → datagram_use_answered (table_of (line_from 1 old)) task datagram ≡ datagram_use_in (task_places task (line_from 1 new)) datagram
unchanged-answer_given old new task datagram none none' low unchanged =
    datagram_use-answer_given old task datagram none low
    ∙ ap datagram_use_of (sym (unchanged-inside (task_list task (line_from 1 old)) (task_list task (line_from 1 new)) datagram (task-list old task none) (task-list new task none') unchanged))

-- if no key is touched, each has the same width in both lists, and the lists are the same

nothing-by : (passes : Bool) {X : Type 0} (x : X) (unchanged : List X) → cond passes (x ∷ unchanged) unchanged ≡ [] → (passes ≡ false) × (unchanged ≡ [])
nothing-by passes x unchanged is = search rules

nothing-unchanged : {X : Type 0} (test : X → Bool) (xs : List X) → filter test xs ≡ [] → All (λ x. test x ≡ false) xs
nothing-unchanged test [] is = All-nil (λ x. test x ≡ false)
nothing-unchanged test (x ∷ xs) is =
    let parts = nothing-by (test x) x (filter test xs) is in
    All-cons (λ x. test x ≡ false) x xs parts.0 (nothing-unchanged test xs parts.1)

same-by : (same : Bool) (a b : ℕ) → (a == b) ≡ same → not same ≡ false → a ≡ b
same-by same a b test other = search (rules, eqb-true)

abbrev HasSame : List Keyed → List Keyed → Key → Type 0
HasSame old new key = width_in old key ≡ width_in new key

same-at : (old new list : List Keyed) (key : Key) (found : Keyed) → All (λ area. is_touched old new area.0 ≡ false) list → find (λ area. same_key area.0 key) list ≡ Some found → HasSame old new key
same-at old new list key found none is =
    let here = found-among (λ (area : Keyed). same_key area.0 key) list found is in
    let other = All-contains (λ (area : Keyed). is_touched old new area.0 ≡ false) list found none here.among in
    search (rules, same_key-same, same-by)

width-by : (old new : List Keyed) (key : Key) (before after : Option Keyed) → All (λ area. is_touched old new area.0 ≡ false) old → All (λ area. is_touched old new area.0 ≡ false) new
    → find (λ area. same_key area.0 key) old ≡ before → find (λ area. same_key area.0 key) new ≡ after → HasSame old new key
width-by old new key before after none none' was is = search (rules, same-at)

untouched-list : (old new : List Keyed) → IsTaskList old → IsTaskList new → touched old new ≡ [] → old ≡ new
untouched-list old new is is' none =
    let all = All-unmap (λ key. is_touched old new key ≡ false) (λ (area : Keyed). area.0) (old ++ new) (nothing-unchanged (is_touched old new) (map (λ area. area.0) (old ++ new)) none) in
    answer_given-by_widths old new is is' (λ key.
    width-by old new key (find (λ area. same_key area.0 key) old) (find (λ area. same_key area.0 key) new)
    (All-append_left (λ area. is_touched old new area.0 ≡ false) old new all) (All-append_right (λ area. is_touched old new area.0 ≡ false) old new all) refl refl)

pub no-length : {X : Type 0} (xs : List X) → nat_lt 0 (length xs) ≡ false → xs ≡ []
no-length [] is = refl
no-length (x ∷ xs) is = let never : 0 < 0 = grind (arith, nat_tests) in absurd (omega arith)

pub untouched-lists : (old new : State) (task : ℕ) → lowest_fault (groups_of old.groups) ≡ None → lowest_fault (groups_of new.groups) ≡ None
    → is_touched_task (line old) (line new) task ≡ false → task_list task (line old) ≡ task_list task (line new)
untouched-lists old new task was is none = search (rules, untouched-list, project-list, no-length)

pub untouched-table : (old new : State) (task : ℕ) → lowest_fault (groups_of old.groups) ≡ None → lowest_fault (groups_of new.groups) ≡ None
    → is_touched_task (line old) (line new) task ≡ false → task_table (line new) task ≡ task_table (line old) task
untouched-table old new task was is none = same-table new.groups old.groups task is was (sym (untouched-lists old new task was is none))

-- whether a task is touched is given by the areas of both lines

pub touched-answer_given : (old new : List Declared) (known : Before) → IsKnownBefore (areas_by_rank old) (areas_by_rank new) known → (task : ℕ) (some : Bool)
    → ((was is : List (List Area)) → IsKnownBefore was is known → some ≡ is_touched_by task was is)
    → some ≡ is_touched_task (line_from 1 old) (line_from 1 new) task
touched-answer_given old new known is_placed task some shows = search (rules, task-listed)

-- a task that isn't touched has the table that the old line's table has of it

got : {X : Type 0} (found : Option X) (x y : X) → found ≡ Some x → found ≡ Some y → x ≡ y
got found x y one other = cc

pub old-table : (before after : List Declared) (old : Table) (known : Before) (trees : List TaskCuts) → TableIsEdited before after old known trees → (task : ℕ) → task < TASKS
    → (some : Bool) → some ≡ false → ((was is : List (List Area)) → IsKnownBefore was is known → some ≡ is_touched_by task was is)
    → (table : TaskTable) → slice_get old.tasks task ≡ Some table → table ≡ task_table (line_from 1 after) task
old-table before after old known trees edited task low some none shows table is =
    let answer_given = touched-answer_given before after known edited.tasks task some shows in
    let had : slice_get old.tasks task ≡ Some (task_table (line_from 1 before) task) = search (rules, table-at) in
    got (slice_get old.tasks task) table (task_table (line_from 1 before) task) is had
    ∙ sym (untouched-table (state_of before) (state_of after) task edited.project edited.line.project (sym answer_given ∙ none))
