-- Each area of a project's line is in one of 16 datagrams, if no task needs more.
use Rattle.std.proofs.Common.{◌≡◌, ℕ, ◌+◌, ◌≤◌, false, None, arith, rules}
use Rattle.std.specs.Prelude.{All, filter, nat_lt}
use Rattle.std.proofs.lemmas.Bool.{ltb-false}
use Rattle.std.proofs.lemmas.List.Elements.{All-contains, All-filter, All-map}
use Rattle.hc_records.specs.declared.limits.TheConstants.{MOST_DATAGRAMS}
use Rattle.hc_records.specs.Edits.{over_limit_task}
use Rattle.hc_records.specs.Image.{datagram_count, task_places, tasks}
use Rattle.hc_records.specs.Keys.{same_key}
use Rattle.hc_records.specs.Laws.{LiesInside}
use Rattle.hc_records.specs.Limits.{IsAreaInside}
use Rattle.hc_records.specs.Line.{State, groups_of, line, line_from}
use Rattle.hc_records.specs.Packing.{Placed, empty_front}
use Rattle.hc_records.specs.Project.{lowest_fault}
use Rattle.hc_records.specs.TaskList.{task_list}
use Rattle.hc_records.proofs.lemmas.Finds.{each-task, found-none}
use Rattle.hc_records.proofs.lemmas.Greatest.{greatest-all}
use Rattle.hc_records.proofs.lemmas.Inside.{packed-inside}
use Rattle.hc_records.proofs.lemmas.KeyOrder.{same_key-same}
use Rattle.hc_records.proofs.lemmas.Packable.{project-packable}
use Rattle.hc_places.specs.Found.{SuitsPlace}
use Rattle.hc_places.proofs.lemmas.Rows.{task-suits}
use Rattle.hc_cuts.specs.LineChange.{changes}
use Rattle.hc_changes.specs.EditedLine.{EditedLine, IsEditedLine, maybe_moved_areas_of}
use Rattle.hc_changes.specs.MaybeMovedAreas.{LineArea, is_maybe_moved, line_area_key, line_areas, maybe_moved_of}
use Rattle.hc_changes.specs.Rows.{IsInside}
use Rattle.hc_changes.proofs.lemmas.ByRank.{area-named}
use Rattle.hc_changes.proofs.lemmas.Lists.{found-among}
use Rattle.hc_changes.proofs.lemmas.Others.{IsAreaOf, line-area}
use Rattle.hc_changes.proofs.lemmas.Places.{area-inside}
use Rattle.hc_changes.proofs.lemmas.Widths.{all-contained}

is_placed-inside : (state : State) → lowest_fault (groups_of state.groups) ≡ None → over_limit_task (line state) ≡ None → (found : LineArea) → IsAreaOf (line state) found
    → IsInside (maybe_moved_of (line state) found)
is_placed-inside state none fits found of placed is =
    let task = found.area.task in
    let places = task_places task (line state) in
    let inside : IsAreaInside found.area = area-inside state none found of in
    let stood = found-among (λ (p : Placed). same_key p.key (line_area_key found)) places placed is in
    let test = λ (t : ℕ). nat_lt MOST_DATAGRAMS (datagram_count (task_places t (line state))) in
    let few = ltb-false MOST_DATAGRAMS (datagram_count places) (each-task (λ t. test t ≡ false) (found-none test tasks fits) task inside.task) in
    let number : placed.datagram + 1 ≤ datagram_count places =
    All-contains (λ (p : Placed). p.datagram + 1 ≤ datagram_count places) places placed (greatest-all (λ (p : Placed). p.datagram + 1) 0 places) stood.among in
    let lies : LiesInside placed = All-contains LiesInside places placed (packed-inside empty_front (task_list task (line state)) (project-packable state task none)) stood.among in
    let suits : SuitsPlace placed found.area = search (rules, All-contains, task-suits, same_key-same, area-named) in
    let bits = suits.bits in
    record { task = inside.task; datagram = omega (arith, few, number); inside = omega (arith, lies, bits); offers = suits.offers }

areas-inside : (state : State) → lowest_fault (groups_of state.groups) ≡ None → over_limit_task (line state) ≡ None
    → All (λ found. IsInside (maybe_moved_of (line state) found)) (line_areas (line state))
areas-inside state none fits =
    all-contained (λ (found : LineArea). IsInside (maybe_moved_of (line state) found)) (line_areas (line state))
    (λ found at. is_placed-inside state none fits found (line-area (line state) found at))

-- so is each candidate of an edit
pub candidates-inside : (it : EditedLine) → IsEditedLine it → over_limit_task (line_from 1 it.new) ≡ None → All IsInside (maybe_moved_areas_of it)
candidates-inside it is fits =
    let new = line_from 1 it.new in
    let test = is_maybe_moved (changes it.change) (line_from 1 it.old) new in
    All-map IsInside (maybe_moved_of new) (filter test (line_areas new))
    (All-filter test (λ found. IsInside (maybe_moved_of new found)) (line_areas new) (areas-inside (record { groups = it.new; epoch = 0 }) is.is_project fits))
