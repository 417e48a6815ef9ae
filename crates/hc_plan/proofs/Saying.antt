-- The differences of an edit lead from the table of the line before it to the table of the line after it.
use Rattle.std.proofs.Common.{◌≡◌, ◌∙◌, ◌<◌, ℕ, List, None, length, map, refl, sym, ap, subst, arith, rules}
use Rattle.std.specs.Prelude.{All}
use Rattle.std.proofs.lemmas.List.{length-map}
use Rattle.std.proofs.lemmas.Simd.{map-map}
use Rattle.hc_records.specs.declared.records.Declared.{Declared}
use Rattle.hc_records.specs.Edits.{over_limit_task}
use Rattle.hc_records.specs.Line.{groups_of, line_from}
use Rattle.hc_records.specs.Project.{lowest_fault}
use Rattle.hc_registers.specs.Blocks.{moved_blocks}
use Rattle.hc_registers.specs.Ranked.{RankedBlock, moved_ranked}
use Rattle.hc_registers.proofs.lemmas.RanksMoved.{ranked-are-moved}
use Rattle.hc_cuts.specs.Areas.{areas_by_rank}
use Rattle.hc_cuts.specs.LineChange.{LineChange}
use Rattle.hc_cuts.specs.LineKeeping.{Before, IsKnownBefore}
use Rattle.hc_cuts.specs.Starts.{TaskCuts}
use Rattle.hc_cuts.specs.TaskCuts.{line_cuts}
use Rattle.hc_places.specs.Layout.{layout_of}
use Rattle.hc_places.specs.Swap.{AreDifferences, AreOnce, ChangedRow, ChangedTask, Leads, LeadsAsSaid, Swap}
use Rattle.hc_places.specs.Table.{IsTable, Table, table_of}
use Rattle.hc_places.proofs.lemmas.Ascends.{table-ascends}
use Rattle.hc_changes.specs.MaybeMovedAreas.{MaybeMoved}
use Rattle.hc_changes.specs.EditedLine.{EditedLine, IsEditedLine, maybe_moved_areas_of}
use Rattle.hc_changes.specs.Rows.{IsInside, changed_rows}
use Rattle.hc_changes.specs.Tables.{AfterEdit}
use Rattle.hc_changes.proofs.lemmas.Inside.{candidates-inside}
use Rattle.hc_changes.proofs.lemmas.SwapSays.{swap-says}
use Rattle.hc_plan.specs.Reports.{found_name}
use Rattle.hc_plan.proofs.LineBlocks.{few-moved}

-- the table of a project's line is one
pub is-table : (groups : List Declared) → lowest_fault (groups_of groups) ≡ None → IsTable (table_of (line_from 1 groups))
is-table groups none = record { eight = refl; ascends = table-ascends groups none }

-- the candidates are in datagrams that there are
pub candidates-are_placed : (it : EditedLine) (candidates read : List MaybeMoved) → IsEditedLine it → over_limit_task (line_from 1 it.new) ≡ None → candidates ≡ maybe_moved_areas_of it → read ≡ candidates
    → All IsInside read
candidates-are_placed it candidates read is fits all same = subst (λ (cs : List MaybeMoved). All IsInside cs) (sym (same ∙ all)) (candidates-inside it is fits)

-- the tables that differ are those of the new line
pub tasks-differ : (it : EditedLine) (table : Table) (known : Before) (trees : List TaskCuts) (tasks : List ChangedTask) → IsEditedLine it → table ≡ table_of (line_from 1 it.old)
    → IsKnownBefore (areas_by_rank it.old) (areas_by_rank it.new) known → trees ≡ line_cuts (areas_by_rank it.new)
    → AfterEdit table known trees (λ is. AreDifferences table.tasks (table_of (line_from 1 is)).tasks tasks)
    → AreDifferences (table_of (line_from 1 it.old)).tasks (table_of (line_from 1 it.new)).tasks tasks
tasks-differ it table known trees tasks is is_placed before turned says =
    subst (λ (t : Table). AreDifferences t.tasks (table_of (line_from 1 it.new)).tasks tasks) is_placed
    (says it.old it.new (record { project = is.was_project; table = is_placed; tasks = before; line = record { project = is.is_project; of_groups = turned } }))

-- the rows that were reported, by what was read
pub answer_given-rows : (it : EditedLine) (table : Table) (candidates read : List MaybeMoved) (change : LineChange) (rows : List ChangedRow) → table ≡ table_of (line_from 1 it.old)
    → candidates ≡ maybe_moved_areas_of it → read ≡ candidates → change ≡ it.change → rows ≡ changed_rows table read change
    → rows ≡ changed_rows (table_of (line_from 1 it.old)) (maybe_moved_areas_of it) it.change
answer_given-rows it table candidates read change rows is_placed all same is answer_given = search rules

abbrev pub AreNewTables : EditedLine → List ChangedTask → Type 0
AreNewTables it tasks = AreDifferences (table_of (line_from 1 it.old)).tasks (table_of (line_from 1 it.new)).tasks tasks

pub answer_given-once : (it : EditedLine) (tasks : List ChangedTask) (rows : List ChangedRow) → IsEditedLine it → AreNewTables it tasks
    → rows ≡ changed_rows (table_of (line_from 1 it.old)) (maybe_moved_areas_of it) it.change → AreOnce rows
answer_given-once it tasks rows is differ answer_given = (swap-says it is (table_of (line_from 1 it.old)) refl tasks rows (maybe_moved_areas_of it) refl answer_given differ).1

pub answer_given-leads : (it : EditedLine) (tasks : List ChangedTask) (rows : List ChangedRow) (swap : Swap) → IsEditedLine it → AreNewTables it tasks
    → rows ≡ changed_rows (table_of (line_from 1 it.old)) (maybe_moved_areas_of it) it.change → LeadsAsSaid (record { tasks = tasks; rows = rows }) swap
    → Leads (table_of (line_from 1 it.old)) (table_of (line_from 1 it.new)) swap
answer_given-leads it tasks rows swap is differ answer_given leads =
    leads (table_of (line_from 1 it.old)) (table_of (line_from 1 it.new)) (is-table it.old is.was_project) (is-table it.new is.is_project)
    (swap-says it is (table_of (line_from 1 it.old)) refl tasks rows (maybe_moved_areas_of it) refl answer_given differ).0

-- the moved blocks, with the ranks of their slaves, have the names of the moved blocks, are as many, and few

founds : (it : EditedLine) (blocks : List RankedBlock) → blocks ≡ moved_ranked (line_from 1 it.old) (line_from 1 it.new)
    → map (λ block. block.found) blocks ≡ moved_blocks (line_from 1 it.old) (line_from 1 it.new)
founds it blocks is = ap (map (λ (block : RankedBlock). block.found)) is ∙ ranked-are-moved (line_from 1 it.old) (line_from 1 it.new)

pub moved-named : (it : EditedLine) (blocks : List RankedBlock) (names : List (ℕ × ℕ)) → blocks ≡ moved_ranked (line_from 1 it.old) (line_from 1 it.new)
    → names ≡ map (λ block. found_name block.found) blocks → names ≡ map found_name (moved_blocks (line_from 1 it.old) (line_from 1 it.new))
moved-named it blocks names is named = named ∙ sym (map-map found_name (λ (block : RankedBlock). block.found) blocks) ∙ ap (map found_name) (founds it blocks is)

pub moved-count : (it : EditedLine) (blocks : List RankedBlock) → blocks ≡ moved_ranked (line_from 1 it.old) (line_from 1 it.new)
    → length blocks ≡ length (moved_blocks (line_from 1 it.old) (line_from 1 it.new))
moved-count it blocks is = sym (length-map blocks (λ (block : RankedBlock). block.found)) ∙ ap length (founds it blocks is)

pub moved-few : (it : EditedLine) (blocks : List RankedBlock) → IsEditedLine it → over_limit_task (line_from 1 it.new) ≡ None
    → blocks ≡ moved_ranked (line_from 1 it.old) (line_from 1 it.new) → length blocks < 4294967296
moved-few it blocks is fits moved =
    let few = few-moved it.new (layout_of (line_from 1 it.new)) (line_from 1 it.old) (record { project = is.is_project; uncrowded = fits; of_line = refl }) in
    let count = moved-count it blocks moved in
    omega (arith, few, count)
