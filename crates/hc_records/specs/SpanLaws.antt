-- Laws of the spans of a task: a settled span carries what it carried before. Each is the contract of a function of `laws`.
use Rattle.std.specs.Prelude.{◌≡◌, ℕ, ◌&&◌, true, Bool, if◌then◌else◌, All, Contains, None, List, [], ◌∷◌, filter, map, slice_get, Some}
use Rattle.hc_records.specs.declared.keys.Key.{Key}
use Rattle.hc_records.specs.declared.keys.TheConstants.Key.{END}
use Rattle.hc_records.specs.Keys.{is_before, is_within}
use Rattle.hc_records.specs.Line.{State, groups_of, line}
use Rattle.hc_records.specs.TaskList.{Keyed, task_list}
use Rattle.hc_records.specs.Packing.{Front, Placed, front_with, fits, empty_front, packed, placed_at}
use Rattle.hc_records.specs.Image.{inside}
use Rattle.hc_records.specs.Boundaries.{Interval, boundaries, is_settled, spans}
use Rattle.hc_records.specs.Project.{lowest_fault}
use Rattle.hc_records.specs.Laws.{Ascends, IsPackable, LiesBetween}

-- the list of a task: its areas are packable, and their keys ascend between START and END
pub record IsTaskList (list : List Keyed) : Type 0 where
  pub packable : All IsPackable list
  pub ascends : Ascends list
  pub between : LiesBetween list

-- `IsTaskList` holds for the list of each task of each line of a project
abbrev pub ProjectsHaveTaskLists : Type 0
ProjectsHaveTaskLists =
    (state : State) (task : ℕ) → lowest_fault (groups_of state.groups) ≡ None
    → IsTaskList (task_list task (line state))

-- an area of a span: its key is the span's first one or a later one, and before the first one of the next span
abbrev pub lies_in : Interval → Placed → Bool
lies_in span area = is_within span.0 area.key && is_before area.key span.1

-- the areas of a datagram are those of the span with its number
abbrev pub SpansAreDatagrams : Type 0
SpansAreDatagrams =
    (list : List Keyed) (datagram : ℕ) (span : Interval) → IsTaskList list
    → slice_get (spans (boundaries list)) datagram ≡ Some span
    → inside datagram (packed empty_front list) ≡ filter (lies_in span) (packed empty_front list)

-- an area's key, its width, and its first bit in its datagram
abbrev pub seen_area : Placed → Key × (ℕ × ℕ)
seen_area area = (area.key, (area.bits, area.bit))

-- the areas of a span, each at its first bit in the span's datagram
abbrev pub span_areas : List Keyed → Interval → List (Key × (ℕ × ℕ))
span_areas list span = map seen_area (filter (lies_in span) (packed empty_front list))

-- a settled span of the new list is a span of the old list too, and its datagram carries the same areas at the same bits
pub record CarriesTheSame (old new : List Keyed) (span : Interval) : Type 0 where
  pub was_span : Contains (spans (boundaries old)) span
  pub areas : span_areas new span ≡ span_areas old span

-- `CarriesTheSame` holds for every settled span of two lists of a task
abbrev pub SettledSpansStay : Type 0
SettledSpansStay =
    (old new : List Keyed) (span : Interval) → IsTaskList old → IsTaskList new
    → Contains (spans (boundaries new)) span → is_settled old new span ≡ true → CarriesTheSame old new span

-- the key of the first area that does not fit a datagram being filled; END if all fit
abbrev pub next_cut : Front → List Keyed → Key
next_cut front [] = END
next_cut front (area ∷ areas) = if fits front area then next_cut (front_with (placed_at front area)) areas else area.0

-- the areas up to the first one that does not fit, with their places
abbrev pub places_in_span : Front → List Keyed → List Placed
places_in_span front [] = []
places_in_span front (area ∷ areas) =
    if fits front area then placed_at front area ∷ places_in_span (front_with (placed_at front area)) areas else []

-- the areas of a list from a key on
abbrev pub areas_from : Key → List Keyed → List Keyed
areas_from key list = filter (λ area. is_within key area.0) list

-- a span is cut alone: it ends at the first area that does not fit if the areas from its first key on are packed alone, and its
-- datagram carries the areas before
pub record IsCutAlone (list : List Keyed) (span : Interval) : Type 0 where
  pub next : span.1 ≡ next_cut empty_front (areas_from span.0 list)
  pub areas : span_areas list span ≡ map seen_area (places_in_span empty_front (areas_from span.0 list))

-- `IsCutAlone` holds for every span of a task's list
abbrev pub SpansAreCutAlone : Type 0
SpansAreCutAlone =
    (list : List Keyed) (span : Interval) → IsTaskList list → Contains (spans (boundaries list)) span → IsCutAlone list span
