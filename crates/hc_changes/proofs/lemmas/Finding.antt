-- An area of the new line is a candidate, or none, by what the turned tasks and the tasks before give.
use Rattle.std.proofs.Common.{◌≡◌, ℕ, Bool, true, false, cond, List, [], ◌∷◌, Option, sym, ap, ◌∙◌, rules, ap₂}
use Rattle.std.specs.Prelude.{IfSome, None, Some, map, not, ◌||◌}
use Rattle.std.specs.Option.{option_map_or}
use Rattle.std.proofs.lemmas.Bool.{or_left}
use Rattle.hc_records.specs.declared.keys.Key.{Key}
use Rattle.hc_records.specs.declared.keys.TheConstants.Key.{END}
use Rattle.hc_records.specs.Keys.{is_before, same_key}
use Rattle.hc_records.proofs.lemmas.TaskLists.{project-list}
use Rattle.hc_records.specs.declared.records.Area.{Area}
use Rattle.hc_records.specs.Boundaries.{is_touched_task}
use Rattle.hc_records.specs.Line.{groups_of, line_from}
use Rattle.hc_records.specs.Image.{task_places}
use Rattle.hc_records.specs.Project.{lowest_fault}
use Rattle.hc_records.specs.Packing.{Placed}
use Rattle.hc_records.specs.TaskList.{task_list, Keyed}
use Rattle.hc_cuts.specs.Keeping.{is_unchanged_up_to, HoldsBefore}
use Rattle.hc_cuts.specs.Starts.{TaskCuts}
use Rattle.hc_cuts.specs.Place.{place_of as place_in}
use Rattle.hc_cuts.specs.Areas.{areas_by_rank, list_by, AreaLine}
use Rattle.hc_cuts.specs.LineKeeping.{Before, IsKnownBefore, AreTasksOfEdit}
use Rattle.hc_cuts.specs.TaskCuts.{line_cuts}
use Rattle.hc_cuts.specs.Recut.{is_touched_by}
use Rattle.hc_cuts.proofs.lemmas.AnswerGiven.{place-answer_given, task-listed}
use Rattle.hc_changes.specs.MaybeMovedAreas.{LineArea, maybe_moved_of, is_maybe_moved, is_recut, line_area_key, line_area_place}
use Rattle.hc_changes.specs.inner.Found.{IsMaybeMovedTest, area_by, area_found, found_among}
use Rattle.hc_cuts.specs.LineChange.{changes}
use Rattle.hc_cuts.proofs.lemmas.Projects.{project-line}
use Rattle.hc_changes.specs.EditedLine.{EditedLine}
use Rattle.hc_changes.proofs.lemmas.Lists.{found-among}
use Rattle.hc_changes.proofs.lemmas.Recut.{untouched-areas}
use Rattle.hc_changes.proofs.lemmas.Placing.{placed-below}
use Rattle.hc_changes.proofs.lemmas.Tables.{touched-answer_given, state_of}

-- one area that is a candidate, and one that is none

abbrev judged : EditedLine → LineArea → Bool
judged it found = is_maybe_moved (changes it.change) (line_from 1 it.old) (line_from 1 it.new) found

found-yes : (it : EditedLine) (found : LineArea) → judged it found ≡ true → found_among it (found ∷ []) ≡ maybe_moved_of (line_from 1 it.new) found ∷ []
unfolding found_among
found-yes it found is = ap (λ (b : Bool). map (maybe_moved_of (line_from 1 it.new)) (cond b (found ∷ []) [])) is

found-no : (it : EditedLine) (found : LineArea) → judged it found ≡ false → found_among it (found ∷ []) ≡ []
unfolding found_among
found-no it found is = ap (λ (b : Bool). map (maybe_moved_of (line_from 1 it.new)) (cond b (found ∷ []) [])) is

other-one : (a b : Bool) → a ≡ false → (a || b) ≡ b
other-one a b is = search rules

-- its place, and whether it is in a datagram that isn't kept up to it

pub place-is : (it : EditedLine) (cuts : List TaskCuts) → cuts ≡ line_cuts (areas_by_rank it.new) → (station rank index : ℕ) (area : Area) (key : Key) (place : Option Placed)
    → key ≡ line_area_key (area_by station rank index area) → ((slaves : List (List Area)) → cuts ≡ line_cuts slaves → place ≡ place_in key (list_by area.task slaves))
    → place ≡ line_area_place (line_from 1 it.new) (area_by station rank index area)
place-is it cuts applied station rank index area key place named shows =
    shows (areas_by_rank it.new) applied ∙ ap (λ (k : Key). place_in k (list_by area.task (areas_by_rank it.new))) named
    ∙ place-answer_given it.new area.task (line_area_key (area_by station rank index area))

-- a place that is found is of a key before END
pub place-below : (it : EditedLine) (station rank index : ℕ) (area : Area) (place : Option Placed) → lowest_fault (groups_of it.new) ≡ None
    → place ≡ line_area_place (line_from 1 it.new) (area_by station rank index area) → IfSome place (λ placed. is_before placed.key END ≡ true)
place-below it station rank index area None project is = tt
place-below it station rank index area (Some placed) project is =
    let here = found-among (λ (p : Placed). same_key p.key (line_area_key (area_by station rank index area))) (task_places area.task (line_from 1 it.new)) placed (sym is) in
    placed-below (task_list area.task (line_from 1 it.new)) placed (project-list (state_of it.new) area.task project) here.among

pub unchanged-is : (it : EditedLine) (before : Before) (cuts : List TaskCuts) → IsMaybeMovedTest it before cuts → (task number : ℕ) (until : Key)
    → ((old new : AreaLine) → AreTasksOfEdit old new before cuts → HoldsBefore until (is_unchanged_up_to (list_by task old) (list_by task new) number))
    → HoldsBefore until (is_unchanged_up_to (task_list task (line_from 1 it.old)) (task_list task (line_from 1 it.new)) number)
unchanged-is it before cuts test task number until shows key low =
    shows (areas_by_rank it.old) (areas_by_rank it.new) (record { line = project-line it.new test.is.is_project; known = test.known; of_new = test.applied }) key low
    ∙ sym (ap₂ (λ (old new : List Keyed). is_unchanged_up_to old new number key) (task-listed task it.old) (task-listed task it.new))

-- whether its task is touched

touched-is : (it : EditedLine) (before : Before) (cuts : List TaskCuts) → IsMaybeMovedTest it before cuts → (task : ℕ) (some : Bool)
    → ((old new : List (List Area)) → IsKnownBefore old new before → some ≡ is_touched_by task old new)
    → some ≡ is_touched_task (line_from 1 it.old) (line_from 1 it.new) task
touched-is it before cuts test task some shows = touched-answer_given it.old it.new before test.known task some shows

-- no area of a task that isn't touched is in a datagram that isn't kept up to it
pub untouched-unchanged : (it : EditedLine) (before : Before) (cuts : List TaskCuts) → IsMaybeMovedTest it before cuts → (found : LineArea) (some : Bool) → some ≡ false
    → ((old new : List (List Area)) → IsKnownBefore old new before → some ≡ is_touched_by found.area.task old new) → is_recut (line_from 1 it.old) (line_from 1 it.new) found ≡ false
untouched-unchanged it before cuts test found some none shows =
    untouched-areas (state_of it.old) (state_of it.new) found test.is.was_project test.is.is_project (sym (touched-is it before cuts test found.area.task some shows) ∙ none)

pub unrecut-none : (it : EditedLine) (station rank index : ℕ) (area : Area) → changes it.change rank ≡ false → is_recut (line_from 1 it.old) (line_from 1 it.new) (area_by station rank index area) ≡ false
    → area_found it station rank index area ≡ []
unrecut-none it station rank index area unchanged unmoved = search (rules, found-no, other-one)

pub untouched-area : (it : EditedLine) (before : Before) (cuts : List TaskCuts) → IsMaybeMovedTest it before cuts → (station rank index : ℕ) (area : Area) → changes it.change rank ≡ false
    → (some : Bool) → some ≡ false → ((old new : List (List Area)) → IsKnownBefore old new before → some ≡ is_touched_by area.task old new)
    → area_found it station rank index area ≡ []
untouched-area it before cuts test station rank index area unchanged some none shows = search (rules, unrecut-none, untouched-unchanged)

abbrev pub recut_by : EditedLine → ℕ → Option Placed → Bool
recut_by it task place =
    option_map_or (λ (placed : Placed). not (is_unchanged_up_to (task_list task (line_from 1 it.old)) (task_list task (line_from 1 it.new)) placed.datagram placed.key)) place false

pub unchanged-area : (it : EditedLine) (station rank index : ℕ) (area : Area) (place : Option Placed) → place ≡ line_area_place (line_from 1 it.new) (area_by station rank index area)
    → changes it.change rank ≡ false → recut_by it area.task place ≡ false → area_found it station rank index area ≡ []
unchanged-area it station rank index area place is unchanged unmoved = search (rules, found-no, other-one)

pub recut-area : (it : EditedLine) (station rank index : ℕ) (area : Area) (place : Option Placed) → place ≡ line_area_place (line_from 1 it.new) (area_by station rank index area)
    → changes it.change rank ≡ false → recut_by it area.task place ≡ true
    → area_found it station rank index area ≡ record { station = station; rank = rank; index = index; area = area; place = place } ∷ []
recut-area it station rank index area place is unchanged recut = search (rules, found-yes, other-one)

pub changed-area : (it : EditedLine) (station rank index : ℕ) (area : Area) (place : Option Placed) → place ≡ line_area_place (line_from 1 it.new) (area_by station rank index area)
    → changes it.change rank ≡ true
    → area_found it station rank index area ≡ record { station = station; rank = rank; index = index; area = area; place = place } ∷ []
changed-area it station rank index area place is changed = search (rules, found-yes, or_left)
