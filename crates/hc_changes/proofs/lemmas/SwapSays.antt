-- The tables and the rows of an edit are the differences between the tables before and after it.
use Rattle.std.proofs.Common.{◌≡◌, List, sym, ap, subst, ◌∙◌, rules}
use Rattle.std.proofs.lemmas.Bool.{and_parts, ltb-false, ltb-true, not-true}
use Rattle.hc_records.specs.Line.{line_from}
use Rattle.hc_places.specs.Swap.{AreOnce, ChangedRow, ChangedTask, SaysWhatDiffers, AreDifferences}
use Rattle.hc_places.specs.Table.{Table, table_of}
use Rattle.hc_cuts.specs.LineChange.{changes}
use Rattle.hc_changes.specs.EditedLine.{EditedLine, IsEditedLine, maybe_moved_areas_of}
use Rattle.hc_changes.specs.MaybeMovedAreas.{MaybeMoved}
use Rattle.hc_changes.specs.Rows.{SayPlaces, changed_rows}
use Rattle.hc_changes.proofs.lemmas.Keeping.{edit-stays}
use Rattle.hc_changes.proofs.lemmas.Rows.{IsChange, rows-answer_given}
use Rattle.hc_changes.proofs.lemmas.Tables.{state_of}

-- what an edit makes of a line is a change of a project
edited_line-change : (edited_line : EditedLine) → IsEditedLine edited_line
    → IsChange (changes edited_line.change) edited_line.change (state_of edited_line.old) (state_of edited_line.new)
edited_line-change edited_line is = search (rules, edit-stays, and_parts, ltb-false, not-true, ltb-true)

-- so its rows give the variables whose places differ
edited_line-answer_given : (edited_line : EditedLine) → IsEditedLine edited_line
    → SayPlaces (table_of (line_from 1 edited_line.old)) (table_of (line_from 1 edited_line.new))
    (changed_rows (table_of (line_from 1 edited_line.old)) (maybe_moved_areas_of edited_line) edited_line.change)
edited_line-answer_given edited_line is =
    rows-answer_given (changes edited_line.change) edited_line.change (state_of edited_line.old) (state_of edited_line.new) (edited_line-change edited_line is)

-- with the tables that differ they are what a swap asks for
pub swap-says : (edited_line : EditedLine) → IsEditedLine edited_line → (old : Table) → old ≡ table_of (line_from 1 edited_line.old)
    → (tasks : List ChangedTask) (rows : List ChangedRow) (candidates : List MaybeMoved) → candidates ≡ maybe_moved_areas_of edited_line
    → rows ≡ changed_rows old candidates edited_line.change
    → AreDifferences old.tasks (table_of (line_from 1 edited_line.new)).tasks tasks
    → SaysWhatDiffers old (table_of (line_from 1 edited_line.new)) (record { tasks = tasks; rows = rows }) × AreOnce rows
swap-says edited_line is old was tasks rows candidates all answer_given differ =
    let new = table_of (line_from 1 edited_line.new) in
    let shows : SayPlaces old new (changed_rows old (maybe_moved_areas_of edited_line) edited_line.change) =
    subst (λ (t : Table). SayPlaces t new (changed_rows t (maybe_moved_areas_of edited_line) edited_line.change)) (sym was) (edited_line-answer_given edited_line is) in
    let same = answer_given ∙ ap (λ (cs : List MaybeMoved). changed_rows old cs edited_line.change) all in
    let own : SayPlaces old new rows = subst (SayPlaces old new) (sym same) shows in
    (record { tasks = differ; places = own.says }, own.once)
