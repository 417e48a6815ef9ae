-- The table of a project's line has the variables at the places of the line's areas.
use Rattle.std.proofs.Common.{◌≡◌, ℕ, ◌<◌, ◌==◌, Bool, true, List, [], Contains, Option, Some, None, refl, sym, ap, subst, ◌∙◌, ⊎_elim, arith, rules}
use Rattle.std.specs.Prelude.{All, filter, find, map, nat_lt, option_map, ◌&&◌}
use Rattle.std.specs.List.{enumerate_from, flat_map, zip}
use Rattle.std.specs.Option.{option_map_or}
use Rattle.std.proofs.lemmas.Bool.{and_parts, eq-eqb, eqb-true, lt-ltb}
use Rattle.std.proofs.lemmas.List.Elements.{All-contains, All-contains_itself, Contains-append_cases, filter_passes}
use Rattle.hc_records.specs.declared.keys.Key.{Key}
use Rattle.hc_records.specs.declared.records.Area.{Area}
use Rattle.hc_records.specs.declared.records.Dir.{Dir}
use Rattle.hc_records.specs.declared.records.Dir.TheVariants.{Out, In}
use Rattle.hc_records.specs.Area.{width}
use Rattle.hc_records.specs.Image.{VariablePlace, area_variables, task_places, task_variables, tasks}
use Rattle.hc_records.specs.Keys.{same_dir, same_key}
use Rattle.hc_records.specs.Limits.{IsAreaInside, IsSlaveInside}
use Rattle.hc_records.specs.Line.{Member, State, groups_of, line}
use Rattle.hc_records.specs.Packing.{Placed, empty_front, packed}
use Rattle.hc_records.specs.Project.{lowest_fault}
use Rattle.hc_records.specs.TaskList.{Keyed, Listed, belongs, slave_areas, task_areas, task_list}
use Rattle.hc_records.proofs.lemmas.Entries.{HasEntryWidths, line-widths}
use Rattle.hc_records.proofs.lemmas.Finds.{each-task, mapped-some}
use Rattle.hc_records.proofs.lemmas.KeyOrder.{same_key-refl, same_key-same}
use Rattle.hc_records.proofs.lemmas.Lists.{All-enumerate_from, AllPairs-weaker}
use Rattle.hc_records.proofs.lemmas.Packed.{area_of, packed-areas}
use Rattle.hc_records.proofs.lemmas.Slaves.{line-inside}
use Rattle.hc_records.proofs.lemmas.TaskLists.{project-list}
use Rattle.hc_records.proofs.lemmas.Tasks.{listed}
use Rattle.hc_records.proofs.lemmas.Variables.{IsPlaced, pairs-placed, task_pairs, zip-left, zip-right}
use Rattle.hc_records.proofs.lemmas.VariablePlaces.{same_dir-same}
use Rattle.hc_cuts.specs.Areas.{area_in, areas_by_rank}
use Rattle.hc_places.specs.Found.{area_rows, found_variables}
use Rattle.hc_places.specs.Table.{VariableRow, by_number, place_in, table_of}
use Rattle.hc_places.proofs.lemmas.Ascends.{table-ascends}
use Rattle.hc_places.proofs.lemmas.Rows.{task-rows}
use Rattle.hc_places.proofs.lemmas.Sorted.{filter-by_number, find-by_number}
use Rattle.hc_changes.specs.MaybeMovedAreas.{LineArea, maybe_moved_of, line_area_key, line_area_place}
use Rattle.hc_changes.specs.Rows.{area_variables_of, rows_of}
use Rattle.hc_changes.proofs.lemmas.ByRank.{area-named}
use Rattle.hc_changes.proofs.lemmas.Lists.{contains-filtered, contains-flat_map, contains-unfiltered, find-only, flat_map-piece, found-among}
use Rattle.hc_changes.proofs.lemmas.Names.{carried-wide, named-row}
use Rattle.hc_changes.proofs.lemmas.Others.{IsAreaOf, map-piece, never-both}
use Rattle.hc_changes.proofs.lemmas.Placing.{placed-found}
use Rattle.hc_changes.proofs.lemmas.Widths.{wide-listed}

-- the rows of all tasks of a line
abbrev line_rows : State → List VariableRow
line_rows state = flat_map (task_variables (line state)) tasks

-- a row of a project's line is the only one of its variable
row-is_placed : (state : State) → lowest_fault (groups_of state.groups) ≡ None → (row : VariableRow) → Contains (line_rows state) row → place_in (table_of (line state)) row.0 ≡ Some row.1
row-is_placed state none row at =
    let rows = line_rows state in
    let own : (row.0 == row.0) ≡ true = eq-eqb row.0 row.0 refl in
    let unchanged = contains-filtered (λ (r : VariableRow). r.0 == row.0) rows row at own in
    let sorted : Contains (filter (λ (r : VariableRow). r.0 == row.0) (by_number rows)) row = subst (λ (rs : List VariableRow). Contains rs row) (sym (filter-by_number row.0 rows)) unchanged in
    let among = contains-unfiltered (λ (r : VariableRow). r.0 == row.0) (by_number rows) row sorted in
    ap (option_map (λ (r : VariableRow). r.1))
    (find-only (λ (r : VariableRow). r.0 == row.0) (by_number rows) row
    (AllPairs-weaker (λ (a b : VariableRow). a.0 < b.0) (λ a b. (a.0 == row.0) ≡ true → (b.0 == row.0) ≡ true → ⊥)
    (λ a b below is is'. never-both row.0 a.0 b.0 below (eqb-true a.0 row.0 is) (eqb-true b.0 row.0 is')) (by_number rows) (table-ascends state.groups none))
    among own)

standing-row : (state : State) (variable : ℕ) (place : VariablePlace) → place_in (table_of (line state)) variable ≡ Some place → Contains (line_rows state) (variable, place)
standing-row state variable place is =
    let rows = line_rows state in
    let found = mapped-some (λ (r : VariableRow). r.1) (find (λ (r : VariableRow). r.0 == variable) rows) place
    (sym (ap (option_map (λ (r : VariableRow). r.1)) (find-by_number variable rows)) ∙ is) in
    let here = found-among (λ (r : VariableRow). r.0 == variable) rows found.0 found.1 in
    let number : found.0.0 ≡ variable = eqb-true found.0.0 variable here.passes in
    let same : found.0 ≡ (variable, place) = row-same found.0 variable place number found.2 in
    subst (λ (r : VariableRow). Contains rows r) same here.among
  where
    row-same : (row : VariableRow) (number : ℕ) (is_placed : VariablePlace) → row.0 ≡ number → row.1 ≡ is_placed → row ≡ (number, is_placed)
    row-same row number is_placed first second = ap (λ (n : ℕ). (n, row.1)) first ∙ ap (λ (p : VariablePlace). (number, p)) second

-- an area of a task's list is one of the line's
record IsListedArea (state : State) (number : ℕ) (listing : Listed) : Type 0 where
  pub found : LineArea
  pub of : IsAreaOf (line state) found
  pub key : listing.key ≡ line_area_key found
  pub area : listing.area ≡ found.area
  pub task : found.area.task ≡ number

listed-in : (state : State) (task : ℕ) (dir : Dir) (listing : Listed) → Contains (flat_map (slave_areas task dir) (line state)) listing → IsListedArea state task listing
listed-in state task dir listing at =
    let piece = flat_map-piece (slave_areas task dir) (line state) listing at in
    let member = piece.element in
    let own = enumerate_from 0 member.slave.areas in
    let test : ℕ × Area → Bool = λ e. belongs task dir e.1 in
    let made = map-piece (listed dir member.rank) (filter test own) listing piece.own in
    let e = made.0 in
    let number = contains-unfiltered test own e made.1 in
    let passes : belongs task dir e.1 ≡ true = (found-passing test own e made.1) in
    let two = (and_parts ((e.1.task == task) && same_dir e.1.dir dir) (nat_lt 0 (width e.1)) passes).0 in
    let parts = and_parts (e.1.task == task) (same_dir e.1.dir dir) two in
    let direction : dir ≡ e.1.dir = sym (same_dir-same e.1.dir dir parts.1) in
    record {
      found = record { member = member; index = e.0; area = e.1 };
      of = record { member = piece.among; own = number };
      key = ap (λ (l : Listed). l.key) (sym made.2) ∙ ap (λ (d : Dir). record { dir = d; rank = member.rank; area = e.0 }) direction;
      area = ap (λ (l : Listed). l.area) (sym made.2);
      task = eqb-true e.1.task task parts.0;
    }
  where
    found-passing : {X : Type 0} (test : X → Bool) (xs : List X) (x : X) → Contains (filter test xs) x → test x ≡ true
    found-passing test xs x at = All-contains (λ y. test y ≡ true) (filter test xs) x (filter_passes test xs) at

listed-area : (state : State) (task : ℕ) (listing : Listed) → Contains (task_areas task (line state)) listing → IsListedArea state task listing
listed-area state task listing at =
    ⊎_elim (λ own. listed-in state task Out listing own) (λ own. listed-in state task In listing own)
    (Contains-append_cases (flat_map (slave_areas task Out) (line state)) (flat_map (slave_areas task In) (line state)) listing at)

-- a variable that is in a project's line is in one of its areas
pub record IsPlacedIn (state : State) (standing : VariableRow) : Type 0 where
  pub found : LineArea
  pub of : IsAreaOf (line state) found
  pub row : Contains (rows_of (maybe_moved_of (line state) found)) standing

pair-is_placed : (state : State) → lowest_fault (groups_of state.groups) ≡ None → (task : ℕ) (pair : Listed × Placed) (row : VariableRow) → Contains (task_pairs (line state) task) pair
    → Contains (area_variables task pair) row → IsPlacedIn state row
pair-is_placed state none task pair row at own =
    let areas = task_areas task (line state) in
    let places = task_places task (line state) in
    let listing = listed-area state task pair.0 (All-contains (λ (p : Listed × Placed). Contains areas p.0) (zip areas places) pair (zip-left (Contains areas) areas places (All-contains_itself areas)) at) in
    let found = listing.found in
    let placed : IsPlaced pair = All-contains IsPlaced (zip areas places) pair (pairs-placed (line state) task) at in
    let is_placed : Contains places pair.1 = All-contains (λ (p : Listed × Placed). Contains places p.1) (zip areas places) pair (zip-right (Contains places) areas places (All-contains_itself places)) at in
    let key : pair.1.key ≡ line_area_key found = placed.key ∙ listing.key in
    let same : same_key pair.1.key (line_area_key found) ≡ true = subst (λ (k : Key). same_key pair.1.key k ≡ true) key (same_key-refl pair.1.key) in
    let there : Contains (packed empty_front (task_list found.area.task (line state))) pair.1 =
    subst (λ (t : ℕ). Contains (packed empty_front (task_list t (line state))) pair.1) (sym listing.task) is_placed in
    let place : line_area_place (line state) found ≡ Some pair.1 = search (rules, placed-found, project-list) in
    let rows : area_variables task pair ≡ option_map_or (area_rows found.area.task found.area) (line_area_place (line state) found) [] = search rules in
    record { found = found; of = listing.of; row = subst (λ (rs : List VariableRow). Contains rs row) rows own }

pub is_placed-in : (state : State) → lowest_fault (groups_of state.groups) ≡ None → (variable : ℕ) (place : VariablePlace) → place_in (table_of (line state)) variable ≡ Some place
    → IsPlacedIn state (variable, place)
is_placed-in state none variable place is =
    let row : VariableRow = (variable, place) in
    let task = flat_map-piece (task_variables (line state)) tasks row (standing-row state variable place is) in
    let pair = flat_map-piece (area_variables task.element) (task_pairs (line state) task.element) row task.own in
    pair-is_placed state none task.element pair.element row pair.among pair.own

-- and each row of an area of the line is one of the table

pub area-inside : (state : State) → lowest_fault (groups_of state.groups) ≡ None → (found : LineArea) → IsAreaOf (line state) found → IsAreaInside found.area
area-inside state none found of =
    let slave : IsSlaveInside found.member.slave = All-contains (λ (m : Member). IsSlaveInside m.slave) (line state) found.member (line-inside state.groups none) of.member in
    All-contains (λ (e : ℕ × Area). IsAreaInside e.1) (enumerate_from 0 found.member.slave.areas) (found.index, found.area)
    (All-enumerate_from IsAreaInside 0 found.member.slave.areas slave.areas) of.own

row-by : (state : State) → lowest_fault (groups_of state.groups) ≡ None → (found : LineArea) → IsAreaOf (line state) found → (row : VariableRow)
    → (place : Option Placed) → line_area_place (line state) found ≡ place → Contains (option_map_or (area_rows found.area.task found.area) place []) row
    → Contains (line_rows state) row
row-by state none found of row None is (k, within, same) = absurd (omega arith)
row-by state none found of row (Some placed) is at =
    let task = found.area.task in
    let slaves = areas_by_rank state.groups in
    let places = task_places task (line state) in
    let stood = found-among (λ (p : Placed). same_key p.key (line_area_key found)) places placed is in
    let key : placed.key ≡ line_area_key found = same_key-same placed.key (line_area_key found) stood.passes in
    let named : area_in slaves placed.key ≡ Some found.area = ap (area_in slaves) key ∙ area-named state.groups found of in
    let own : Contains (found_variables task slaves placed) row = search rules in
    let rows = contains-flat_map (found_variables task slaves) places placed row stood.among own in
    let inside : IsAreaInside found.area = area-inside state none found of in
    contains-flat_map (task_variables (line state)) tasks task row (each-task (Contains tasks) (All-contains_itself tasks) task inside.task)
    (subst (λ (rs : List VariableRow). Contains rs row) (task-rows state.groups task) rows)

pub area-is_placed-at : (state : State) → lowest_fault (groups_of state.groups) ≡ None → (found : LineArea) → IsAreaOf (line state) found → (row : VariableRow)
    → Contains (rows_of (maybe_moved_of (line state) found)) row → place_in (table_of (line state)) row.0 ≡ Some row.1
area-is_placed-at state none found of row at = row-is_placed state none row (row-by state none found of row (line_area_place (line state) found) refl at)

-- so a variable that an area of the line carries is in the table

area-placed : (state : State) → lowest_fault (groups_of state.groups) ≡ None → (found : LineArea) → IsAreaOf (line state) found → 0 < width found.area
    → (placed : Placed) × (line_area_place (line state) found ≡ Some placed)
area-placed state none found of wide =
    let list = task_list found.area.task (line state) in
    let key = line_area_key found in
    let at = wide-listed (line state) found of (lt-ltb 0 (width found.area) wide) in
    let again : Contains (map area_of (packed empty_front list)) (key, width found.area) = search (rules, packed-areas) in
    let here = map-piece area_of (packed empty_front list) (key, width found.area) again in
    let is : here.0.key ≡ key = ap (λ (a : Keyed). a.0) here.2 in
    let same : same_key here.0.key key ≡ true = subst (λ (k : Key). same_key here.0.key k ≡ true) is (same_key-refl here.0.key) in
    (here.0, placed-found list key here.0 (project-list state found.area.task none) here.1 same)

pub carried-is_placed : (state : State) → lowest_fault (groups_of state.groups) ≡ None → (found : LineArea) → IsAreaOf (line state) found → (variable : ℕ)
    → Contains (area_variables_of found.area) variable → (place : VariablePlace) × (place_in (table_of (line state)) variable ≡ Some place)
carried-is_placed state none found of variable at =
    let widths : HasEntryWidths found.area =
    All-contains (λ (e : ℕ × Area). HasEntryWidths e.1) (enumerate_from 0 found.member.slave.areas) (found.index, found.area)
    (All-enumerate_from HasEntryWidths 0 found.member.slave.areas
    (All-contains (λ (m : Member). All HasEntryWidths m.slave.areas) (line state) found.member (line-widths state none) of.member)) of.own in
    let placed = area-placed state none found of (carried-wide found.area variable widths at) in
    let named = named-row found.area.task found.area placed.0 variable at in
    let own : Contains (rows_of (maybe_moved_of (line state) found)) named.0 = search rules in
    (named.0.1, ap (place_in (table_of (line state))) (sym named.2) ∙ area-is_placed-at state none found of named.0 own)
