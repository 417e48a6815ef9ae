-- Which variables of a line an edit changes, given by its candidates and by the slaves that change.
use Rattle.std.specs.Prelude.{◌≡◌, ℕ, ◌+◌, ◌==◌, ◌<◌, ◌≤◌, not, Bool, if◌then◌else◌, List, [], ◌++◌, filter, map, None, Some}
use Rattle.std.specs.List.{flat_map, list_any, zip}
use Rattle.std.specs.Option.{option_map_or}
use Rattle.hc_records.specs.declared.limits.TheConstants.{MOST_AREA_BITS, MOST_DATAGRAMS, TASKS}
use Rattle.hc_records.specs.declared.records.Area.{Area}
use Rattle.hc_records.specs.declared.records.Declared.{Declared}
use Rattle.hc_records.specs.Area.{assigned_entries, width}
use Rattle.hc_records.specs.Packing.{Placed}
use Rattle.hc_records.specs.Project.{area_names, entry_names}
use Rattle.hc_places.specs.Found.{area_rows}
use Rattle.hc_places.specs.Ranges.{OffersBits}
use Rattle.hc_places.specs.Swap.{AreOnce, ChangedRow, said_of, same_found}
use Rattle.hc_places.specs.Table.{VariableRow, Table, place_in}
use Rattle.hc_cuts.specs.LineChange.{LineChange}
use Rattle.hc_changes.specs.MaybeMovedAreas.{MaybeMoved}

-- the variables of a candidate with their places; none if it has no place
abbrev pub rows_of : MaybeMoved → List VariableRow
rows_of maybe_moved = option_map_or (area_rows maybe_moved.area.task maybe_moved.area) maybe_moved.place []

-- a variable is elsewhere in a table, or nowhere
abbrev pub is_new_row : Table → VariableRow → Bool
is_new_row table row = not (same_found (place_in table row.0) (Some row.1))

-- the new places of those variables that were elsewhere, or nowhere
abbrev pub moved_rows : Table → List VariableRow → List ChangedRow
moved_rows old rows = map (λ row. (row.0, Some row.1)) (filter (is_new_row old) rows)

-- the variables that an area's assigned PDOs carry, in order
abbrev pub area_variables_of : Area → List ℕ
area_variables_of area = entry_names (assigned_entries area)

-- the variables that the assigned PDOs of a slave's areas carry, in order
abbrev pub assigned_variables : List Area → List ℕ
assigned_variables areas = flat_map area_variables_of areas

-- an assigned PDO of one of the areas carries the variable
abbrev pub is_assigned : ℕ → List Area → Bool
is_assigned variable areas = list_any (λ other. other == variable) (assigned_variables areas)

-- a row without a place for each of these variables that is not among those after the edit
abbrev pub rows_of_gone : List ℕ → List ℕ → List ChangedRow
rows_of_gone before after = map (λ variable. (variable, None)) (filter (λ variable. not (list_any (λ other. other == variable) after)) before)

-- the variables that a slave's areas carried before and do not carry after
abbrev pub gone_variables : List Area × List Area → List ℕ
gone_variables slave = filter (λ variable. not (is_assigned variable slave.1)) (assigned_variables slave.0)

-- the variables that go with the changed slaves' areas, slave by slave, each without a new place
abbrev pub gone_rows : LineChange → List ChangedRow
gone_rows change = map (λ variable. (variable, None)) (flat_map gone_variables (zip change.areas_before change.areas_after))

-- the variables of candidates with their places
abbrev pub candidate_rows : List MaybeMoved → List VariableRow
candidate_rows candidates = flat_map rows_of candidates

-- the changes of an edit to an old table: the candidates' variables that are elsewhere, then the variables that go with the
-- changed slaves' areas
abbrev pub changed_rows : Table → List MaybeMoved → LineChange → List ChangedRow
changed_rows old candidates change = moved_rows old (candidate_rows candidates) ++ gone_rows change

-- a place lies in one of 16 datagrams of one of the eight tasks, and holds the area, whose entries have 1 to 64 bits
pub record HoldsArea (area : Area) (placed : Placed) : Type 0 where
  pub task : area.task < TASKS
  pub datagram : placed.datagram < MOST_DATAGRAMS
  pub inside : placed.bit + width area ≤ MOST_AREA_BITS
  pub offers : OffersBits area

-- if a candidate has a place, this lies in one of 16 datagrams of one of the eight tasks and holds its area
abbrev pub IsInside : MaybeMoved → Type 0
IsInside maybe_moved = (placed : Placed) → maybe_moved.place ≡ Some placed → HoldsArea maybe_moved.area placed

-- the variables that each declared slave offers, by rank
abbrev pub variables_by_rank : List Declared → List (List ℕ)
variables_by_rank groups = flat_map (λ declared. map (λ slave. area_names slave.areas) declared.group.slaves) groups

-- rows say of each variable whose place differs between two tables its new place or none, once, and nothing of any other
pub record SayPlaces (old new : Table) (rows : List ChangedRow) : Type 0 where
  pub once : AreOnce rows
  pub says : (variable : ℕ) → said_of rows variable ≡ (if same_found (place_in old variable) (place_in new variable) then None else Some (place_in new variable))
