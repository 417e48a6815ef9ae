-- The rows that an edit changes are given by the candidates and by the slaves that change.
use Rattle.std.proofs.Common.{◌≡◌, ℕ, suc, ◌+◌, ◌-◌, ◌<◌, ◌≤◌, ◌==◌, Bool, true, false, cond, List, [], ◌∷◌, ◌++◌, Contains, Option, Some, None, length, refl, sym, ap, subst, ◌∙◌, arith}
use Rattle.std.specs.Prelude.{All, filter, find, if◌then◌else◌, map, not, option_map, slice_index_or, ◌||◌}
use Rattle.std.specs.List.{flat_map, list_any, zip}
use Rattle.std.proofs.lemmas.Bool.{eq-eqb, eqb-true, not-true, or_parts}
use Rattle.std.proofs.lemmas.List.Elements.{All-append, All-contains, All-contains_itself, All-map, All-weaker, Contains-append_left, Contains-append_right, filter_passes}
use Rattle.std.proofs.lemmas.List.Folds.{list_any_at}
use Rattle.hc_records.specs.declared.records.Area.{Area}
use Rattle.hc_records.specs.Image.{VariablePlace}
use Rattle.hc_records.specs.Line.{Member, State, groups_of, line}
use Rattle.hc_records.specs.Project.{lowest_fault}
use Rattle.hc_records.proofs.lemmas.Finds.{found-none}
use Rattle.hc_records.proofs.lemmas.Lines.{line-ascends}
use Rattle.hc_records.proofs.lemmas.TaskLists.{project-list}
use Rattle.hc_cuts.specs.Areas.{areas_of_rank, areas_by_rank}
use Rattle.hc_cuts.specs.LineChange.{LineChange}
use Rattle.hc_cuts.specs.ApplyWidths.{AreLines}
use Rattle.hc_places.specs.Swap.{ChangedRow, same_found}
use Rattle.hc_places.specs.Table.{VariableRow, Table, place_in, table_of}
use Rattle.hc_places.proofs.lemmas.Once.{of_row, own}
use Rattle.hc_places.proofs.lemmas.Same.{found-same}
use Rattle.hc_places.proofs.lemmas.Totals.{total, total-append, total-flat_map, total-less, total-map, total-zip}
use Rattle.hc_changes.specs.MaybeMovedAreas.{DifferAt, LineArea, maybe_moved_of, maybe_moved_areas, is_maybe_moved, is_recut, line_areas, line_area_place}
use Rattle.hc_changes.specs.Rows.{SayPlaces, area_variables_of, assigned_variables, gone_rows, gone_variables, is_assigned, is_new_row, moved_rows, rows_of, variables_by_rank}
use Rattle.hc_changes.proofs.lemmas.ByRank.{area-at-rank, area-of-rank, rank-offers}
use Rattle.hc_changes.proofs.lemmas.Counted.{maybe_moved_areas-once, counted, counted-none, filtered-less, offered-once, one-rank, ranks-once}
use Rattle.hc_changes.proofs.lemmas.InARow.{areas-in-row, contains-pair, rank-index, zip-piece}
use Rattle.hc_changes.proofs.lemmas.Lists.{contains-filtered, contains-flat_map, contains-unfiltered, flat_map-piece, found-among}
use Rattle.hc_changes.proofs.lemmas.Moved.{same-place}
use Rattle.hc_changes.proofs.lemmas.Names.{row-named}
use Rattle.hc_changes.proofs.lemmas.Others.{IsAreaOf, area-is_placed, contains-mapped, line-area, map-piece, others-are_placed}
use Rattle.hc_changes.proofs.lemmas.Places.{IsPlacedIn, area-is_placed-at, carried-is_placed, is_placed-in}

-- two states of one project, between which slaves in a row change
pub record IsChange (changed : ℕ → Bool) (it : LineChange) (old new : State) : Type 0 where
  pub was_project : lowest_fault (groups_of old.groups) ≡ None
  pub is_project : lowest_fault (groups_of new.groups) ≡ None
  pub variables : variables_by_rank new.groups ≡ variables_by_rank old.groups
  pub slaves : DifferAt changed (line old) (line new)
  pub areas : AreLines it (areas_by_rank old.groups) (areas_by_rank new.groups)
  pub ranks : (rank : ℕ) → changed rank ≡ true → (it.first ≤ rank) × (rank < it.first + length it.areas_before)

abbrev gone_row : ℕ → ChangedRow
gone_row variable = (variable, None)

abbrev pub moved_row : VariableRow → ChangedRow
moved_row row = (row.0, Some row.1)

abbrev table : State → Table
table state = table_of (line state)

-- a changed row has its variable's new place, which isn't the old one
record IsRight (before after : Table) (changed : ChangedRow) : Type 0 where
  new : place_in after changed.0 ≡ changed.1
  other : same_found (place_in before changed.0) changed.1 ≡ false

-- the rows of the candidates

abbrev found_rows : (ℕ → Bool) → State → State → List VariableRow
found_rows changed old new = flat_map rows_of (map (maybe_moved_of (line new)) (maybe_moved_areas changed (line old) (line new)))

found-is_placed : (changed : ℕ → Bool) (old new : State) → lowest_fault (groups_of new.groups) ≡ None → (row : VariableRow) → Contains (found_rows changed old new) row
    → place_in (table new) row.0 ≡ Some row.1
found-is_placed changed old new none row at =
    let all = maybe_moved_areas changed (line old) (line new) in
    let piece = flat_map-piece rows_of (map (maybe_moved_of (line new)) all) row at in
    let made = map-piece (maybe_moved_of (line new)) all piece.element piece.among in
    let among = contains-unfiltered (is_maybe_moved changed (line old) (line new)) (line_areas (line new)) made.0 made.1 in
    area-is_placed-at new none made.0 (line-area (line new) made.0 among) row (subst (λ (c : _). Contains (rows_of c) row) (sym made.2) piece.own)

moved-right : (changed : ℕ → Bool) (old new : State) → lowest_fault (groups_of new.groups) ≡ None → All (IsRight (table old) (table new)) (moved_rows (table old) (found_rows changed old new))
moved-right changed old new none =
    let rows = found_rows changed old new in
    let unchanged = filter (is_new_row (table old)) rows in
    All-map (IsRight (table old) (table new)) moved_row unchanged
    (All-weaker (Contains unchanged) (λ row. IsRight (table old) (table new) (row.0, Some row.1))
    (λ row at. record {
      new = found-is_placed changed old new none row (contains-unfiltered (is_new_row (table old)) rows row at);
      other = not-true (same_found (place_in (table old) row.0) (Some row.1)) (All-contains (λ r. is_new_row (table old) r ≡ true) unchanged row (filter_passes (is_new_row (table old)) rows) at);
    }) unchanged (All-contains_itself unchanged))

-- the variables that went with the slaves that change

assigned-at : (variable : ℕ) (areas : List Area) → is_assigned variable areas ≡ true → Contains (assigned_variables areas) variable
assigned-at variable areas is = among-at variable (assigned_variables areas) is
  where
    at-by : (here : Bool) (other : ℕ) (names : List ℕ) → (other == variable) ≡ here → (here || list_any (λ x. x == variable) names) ≡ true
        → (list_any (λ x. x == variable) names ≡ true → Contains names variable) → Contains (other ∷ names) variable
    at-by true other names test some later = (0, omega arith, eqb-true other variable test)
    at-by false other names test some later = let rest = later some in (suc rest.0, let low = rest.1 in omega arith, rest.2)

    among-at : (variable' : ℕ) (names : List ℕ) → list_any (λ x. x == variable) names ≡ true → Contains names variable
    among-at variable' [] some = cc
    among-at variable' (other ∷ names) some = at-by (other == variable) other names refl some (among-at variable' names)

at-assigned : (variable : ℕ) (areas : List Area) → Contains (assigned_variables areas) variable → is_assigned variable areas ≡ true
at-assigned variable areas at =
    list_any_at (λ other. other == variable) (assigned_variables areas) at.0 variable at.1 (eq-eqb _ variable at.2)

-- a variable that a slave's areas carry is in the table, and is offered at its rank
record IsCarriedAt (state : State) (rank variable : ℕ) : Type 0 where
  place : VariablePlace
  is_placed : place_in (table state) variable ≡ Some place
  offered : Contains (slice_index_or ([] ∷ variables_by_rank state.groups) rank []) variable

carried-at : (state : State) → lowest_fault (groups_of state.groups) ≡ None → (rank variable : ℕ) → Contains (assigned_variables (areas_of_rank (areas_by_rank state.groups) rank)) variable
    → IsCarriedAt state rank variable
carried-at state none rank variable at =
    let area = flat_map-piece area_variables_of (areas_of_rank (areas_by_rank state.groups) rank) variable at in
    let ranked = area-of-rank state.groups rank area.element area.among in
    let own : Contains (area_variables_of ranked.found.area) variable = subst (λ (a : Area). Contains (area_variables_of a) variable) (sym ranked.is) area.own in
    let is_placed = carried-is_placed state none ranked.found ranked.of variable own in
    record { place = is_placed.0; is_placed = is_placed.1; offered = rank-offers state.groups rank area.element variable area.among area.own }

-- and a variable that is in the table is carried by the areas of a slave
record IsCarried (state : State) (variable : ℕ) (place : VariablePlace) : Type 0 where
  found : LineArea
  of : IsAreaOf (line state) found
  row : Contains (rows_of (maybe_moved_of (line state) found)) (variable, place)
  own : Contains (area_variables_of found.area) variable
  ranked : Contains (assigned_variables (areas_of_rank (areas_by_rank state.groups) found.member.rank)) variable

own-by : (found : LineArea) (row : VariableRow) (place : Option _) → Contains (rows_of (record { station = 0; rank = 0; index = 0; area = found.area; place = place })) row
    → Contains (area_variables_of found.area) row.0
own-by found row None (k, within, is) = absurd (omega arith)
own-by found row (Some placed) at = row-named found.area.task found.area placed row at

is-carried : (state : State) → lowest_fault (groups_of state.groups) ≡ None → (variable : ℕ) (place : VariablePlace) → place_in (table state) variable ≡ Some place → IsCarried state variable place
is-carried state none variable place is =
    let is_placed : IsPlacedIn state (variable, place) = is_placed-in state none variable place is in
    let found = is_placed.found in
    let own = own-by found (variable, place) (line_area_place (line state) found) is_placed.row in
    let ranked = area-at-rank state.groups found is_placed.of in
    record {
      found = found;
      of = is_placed.of;
      row = is_placed.row;
      own = own;
      ranked = contains-flat_map area_variables_of (areas_of_rank (areas_by_rank state.groups) found.member.rank) found.area variable ranked own;
    }

gone-by : (changed : ℕ → Bool) (it : LineChange) (old new : State) → IsChange changed it old new → (rank variable : ℕ)
    → Contains (assigned_variables (areas_of_rank (areas_by_rank old.groups) rank)) variable → is_assigned variable (areas_of_rank (areas_by_rank new.groups) rank) ≡ false
    → (place : Option VariablePlace) → place_in (table new) variable ≡ place → place ≡ None
gone-by changed it old new change rank variable carried gone None is = refl
gone-by changed it old new change rank variable carried gone (Some place) is =
    let was = carried-at old change.was_project rank variable carried in
    let now : IsCarried new variable place = is-carried new change.is_project variable place is in
    let rank' = now.found.member.rank in
    let offered = (carried-at new change.is_project rank' variable now.ranked).offered in
    let offered' : Contains (slice_index_or ([] ∷ variables_by_rank old.groups) rank' []) variable =
    subst (λ (lists : List (List ℕ)). Contains (slice_index_or ([] ∷ lists) rank' []) variable) change.variables offered in
    let same : rank' ≡ rank = one-rank variable (variables_by_rank old.groups) rank' rank (offered-once old.groups change.was_project variable) offered' was.offered in
    let still : is_assigned variable (areas_of_rank (areas_by_rank new.groups) rank) ≡ true =
    at-assigned variable (areas_of_rank (areas_by_rank new.groups) rank)
    (subst (λ (r : ℕ). Contains (assigned_variables (areas_of_rank (areas_by_rank new.groups) r)) variable) same now.ranked) in
    cc

gone-right : (changed : ℕ → Bool) (it : LineChange) (old new : State) → IsChange changed it old new
    → (variable : ℕ) → Contains (flat_map gone_variables (zip it.areas_before it.areas_after)) variable → IsRight (table old) (table new) (variable, None)
gone-right changed it old new change variable at =
    let areas = change.areas in
    let piece = flat_map-piece gone_variables (zip it.areas_before it.areas_after) variable at in
    let pair = piece.element in
    let index = zip-piece [] it.areas_before it.areas_after pair piece.among in
    let rank = suc (length areas.front + index.at) in
    let low = index.within in
    let many = areas.many in
    let was : areas_of_rank (areas_by_rank old.groups) rank ≡ pair.0 = areas-in-row (areas_by_rank old.groups) areas.front it.areas_before areas.after_it index.at areas.was index.within ∙ index.first in
    let is : areas_of_rank (areas_by_rank new.groups) rank ≡ pair.1 = areas-in-row (areas_by_rank new.groups) areas.front it.areas_after areas.after_it index.at areas.is (omega arith) ∙ index.second in
    let test : ℕ → Bool = λ v. not (is_assigned v pair.1) in
    let among = contains-unfiltered test (assigned_variables pair.0) variable piece.own in
    let left : is_assigned variable pair.1 ≡ false =
    not-true (is_assigned variable pair.1) (All-contains (λ v. test v ≡ true) (filter test (assigned_variables pair.0)) variable (filter_passes test (assigned_variables pair.0)) piece.own) in
    let carried : Contains (assigned_variables (areas_of_rank (areas_by_rank old.groups) rank)) variable =
    subst (λ (own : List Area). Contains (assigned_variables own) variable) (sym was) among in
    let gone : is_assigned variable (areas_of_rank (areas_by_rank new.groups) rank) ≡ false = ap (is_assigned variable) is ∙ left in
    let stood = carried-at old change.was_project rank variable carried in
    record {
      new = gone-by changed it old new change rank variable carried gone (place_in (table new) variable) refl;
      other = ap (λ (place : Option VariablePlace). same_found place None) stood.is_placed;
    }

-- so each row that is reported is right
rows-right : (changed : ℕ → Bool) (it : LineChange) (old new : State) → IsChange changed it old new
    → All (IsRight (table old) (table new)) (moved_rows (table old) (found_rows changed old new) ++ gone_rows it)
rows-right changed it old new change =
    let gone = flat_map gone_variables (zip it.areas_before it.areas_after) in
    All-append (IsRight (table old) (table new)) (moved_rows (table old) (found_rows changed old new)) (gone_rows it)
    (moved-right changed old new change.is_project)
    (All-map (IsRight (table old) (table new)) gone_row gone
    (All-weaker (Contains gone) (λ variable. IsRight (table old) (table new) (variable, None)) (λ variable at. gone-right changed it old new change variable at) gone (All-contains_itself gone)))

-- and each variable whose place differs is reported

abbrev IsAnswered : ℕ → List ChangedRow → Type 0
IsAnswered variable rows = (place : Option VariablePlace) × Contains rows (variable, place)

appears-by : (changed : ℕ → Bool) (it : LineChange) (old new : State) → IsChange changed it old new → (variable : ℕ) (place : VariablePlace)
    → (now : IsCarried new variable place) → same_found (place_in (table old) variable) (Some place) ≡ false
    → (maybe_moved : Bool) → is_maybe_moved changed (line old) (line new) now.found ≡ maybe_moved → IsAnswered variable (moved_rows (table old) (found_rows changed old new))
appears-by changed it old new change variable place now differs true is =
    let row : VariableRow = (variable, place) in
    let all = maybe_moved_areas changed (line old) (line new) in
    let found = contains-filtered (is_maybe_moved changed (line old) (line new)) (line_areas (line new)) now.found (area-is_placed (line new) now.found now.of) is in
    let made = contains-mapped (maybe_moved_of (line new)) all now.found found in
    let rows = contains-flat_map rows_of (map (maybe_moved_of (line new)) all) (maybe_moved_of (line new) now.found) row made now.row in
    let unchanged = contains-filtered (is_new_row (table old)) (found_rows changed old new) row rows (ap not differs) in
    (Some place, contains-mapped moved_row (filter (is_new_row (table old)) (found_rows changed old new)) row unchanged)
appears-by changed it old new change variable place now differs false is =
    let found = now.found in
    let parts = or_parts (changed found.member.rank) (is_recut (line old) (line new) found) is in
    let stood = others-are_placed changed (line old) (line new) (line-ascends 1 new.groups) change.slaves found (area-is_placed (line new) found now.of) parts.0 in
    let of = line-area (line old) found stood in
    let same : line_area_place (line old) found ≡ line_area_place (line new) found =
    same-place found (line old) (line new) (line-ascends 1 old.groups) (project-list old found.area.task change.was_project) (project-list new found.area.task change.is_project) of now.of parts.1 in
    let row : Contains (rows_of (maybe_moved_of (line old) found)) (variable, place) =
    subst (λ (p : Option _). Contains (rows_of (record { station = 0; rank = 0; index = 0; area = found.area; place = p })) (variable, place)) (sym same) now.row in
    let before' : place_in (table old) variable ≡ Some place = area-is_placed-at old change.was_project found of (variable, place) row in
    let alike = found-same (place_in (table old) variable) (Some place) before' in
    cc

swapped-sides : (changed : ℕ → Bool) (old new : List Member) → DifferAt changed old new → DifferAt changed new old
swapped-sides changed old new differ rank unchanged = sym (differ rank unchanged)

unchanged-is_placed : (changed : ℕ → Bool) (it : LineChange) (old new : State) → IsChange changed it old new → (variable : ℕ) (place : VariablePlace)
    → (was : IsCarried old variable place) → changed was.found.member.rank ≡ false → (now : VariablePlace) × (place_in (table new) variable ≡ Some now)
unchanged-is_placed changed it old new change variable place was unchanged =
    let stays = others-are_placed changed (line new) (line old) (line-ascends 1 old.groups) (swapped-sides changed (line old) (line new) change.slaves) was.found
    (area-is_placed (line old) was.found was.of) unchanged in
    carried-is_placed new change.is_project was.found (line-area (line new) was.found stays) variable was.own

gone-answer_given : (changed : ℕ → Bool) (it : LineChange) (old new : State) → IsChange changed it old new → (i variable : ℕ) → i < length it.areas_before
    → Contains (assigned_variables (slice_index_or it.areas_before i [])) variable → is_assigned variable (slice_index_or it.areas_after i []) ≡ false → IsAnswered variable (gone_rows it)
gone-answer_given changed it old new change i variable within carried gone =
    let pair : List Area × List Area = (slice_index_or it.areas_before i [], slice_index_or it.areas_after i []) in
    let own = contains-filtered (λ v. not (is_assigned v (slice_index_or it.areas_after i []))) (assigned_variables (slice_index_or it.areas_before i [])) variable carried (ap not gone) in (
      None,
      contains-mapped gone_row (flat_map gone_variables (zip it.areas_before it.areas_after)) variable
          (contains-flat_map gone_variables (zip it.areas_before it.areas_after) pair variable (contains-pair [] it.areas_before it.areas_after i change.areas.many within) own),
    )

goes-by : (changed : ℕ → Bool) (it : LineChange) (old new : State) → IsChange changed it old new → (i variable : ℕ) → i < length it.areas_before
    → place_in (table new) variable ≡ None → Contains (assigned_variables (slice_index_or it.areas_before i [])) variable
    → (still : Bool) → is_assigned variable (slice_index_or it.areas_after i []) ≡ still → IsAnswered variable (gone_rows it)
goes-by changed it old new change i variable within none carried false is = gone-answer_given changed it old new change i variable within carried is
goes-by changed it old new change i variable within none carried true is =
    let areas = change.areas in
    let rank = suc (length areas.front + i) in
    let many = areas.many in
    let now : areas_of_rank (areas_by_rank new.groups) rank ≡ slice_index_or it.areas_after i [] = areas-in-row (areas_by_rank new.groups) areas.front it.areas_after areas.after_it i areas.is (omega arith) in
    let at : Contains (assigned_variables (areas_of_rank (areas_by_rank new.groups) rank)) variable =
    subst (λ (own : List Area). Contains (assigned_variables own) variable) (sym now) (assigned-at variable (slice_index_or it.areas_after i []) is) in
    let is_placed = (carried-at new change.is_project rank variable at).is_placed in
    cc

goes-from : (changed : ℕ → Bool) (it : LineChange) (old new : State) → IsChange changed it old new → (variable : ℕ) (place : VariablePlace)
    → place_in (table new) variable ≡ None → (was : IsCarried old variable place) → (changes : Bool) → changed was.found.member.rank ≡ changes → IsAnswered variable (gone_rows it)
goes-from changed it old new change variable place none was false is =
    let is_placed = (unchanged-is_placed changed it old new change variable place was is).1 in
    cc
goes-from changed it old new change variable place none was true is =
    let areas = change.areas in
    let rank = was.found.member.rank in
    let range = change.ranks rank is in
    let begins = areas.rank in
    let index = rank-index (length areas.front) (length it.areas_before) rank (omega (arith, begins, range.0)) (omega (arith, begins, range.1)) in
    let i = rank - suc (length areas.front) in
    let own : areas_of_rank (areas_by_rank old.groups) rank ≡ slice_index_or it.areas_before i [] =
    ap (areas_of_rank (areas_by_rank old.groups)) index.0 ∙ areas-in-row (areas_by_rank old.groups) areas.front it.areas_before areas.after_it i areas.was index.1 in
    let carried : Contains (assigned_variables (slice_index_or it.areas_before i [])) variable = subst (λ (own : List Area). Contains (assigned_variables own) variable) own was.ranked in
    goes-by changed it old new change i variable index.1 none carried (is_assigned variable (slice_index_or it.areas_after i [])) refl

answer_given-left : (variable : ℕ) (rows others : List ChangedRow) → IsAnswered variable rows → IsAnswered variable (rows ++ others)
answer_given-left variable rows others answer_given = (answer_given.0, Contains-append_left rows others (variable, answer_given.0) answer_given.1)

answer_given-right : (variable : ℕ) (rows others : List ChangedRow) → IsAnswered variable others → IsAnswered variable (rows ++ others)
answer_given-right variable rows others answer_given = (answer_given.0, Contains-append_right rows others (variable, answer_given.0) answer_given.1)

answer_given-by : (changed : ℕ → Bool) (it : LineChange) (old new : State) → IsChange changed it old new → (variable : ℕ) (was is : Option VariablePlace)
    → place_in (table old) variable ≡ was → place_in (table new) variable ≡ is → same_found was is ≡ false
    → IsAnswered variable (moved_rows (table old) (found_rows changed old new) ++ gone_rows it)
answer_given-by changed it old new change variable was (Some place) stood is_placed differs =
    let now = is-carried new change.is_project variable place is_placed in
    answer_given-left variable (moved_rows (table old) (found_rows changed old new)) (gone_rows it)
    (appears-by changed it old new change variable place now (ap (λ (p : Option VariablePlace). same_found p (Some place)) stood ∙ differs)
    (is_maybe_moved changed (line old) (line new) now.found) refl)
answer_given-by changed it old new change variable (Some place) None stood is_placed differs =
    let was = is-carried old change.was_project variable place stood in
    answer_given-right variable (moved_rows (table old) (found_rows changed old new)) (gone_rows it)
    (goes-from changed it old new change variable place is_placed was (changed was.found.member.rank) refl)
answer_given-by changed it old new change variable None None stood is_placed differs = cc

-- what is said of a variable

said-none : (same : Bool) (rows : List ChangedRow) (variable : ℕ) (now : Option VariablePlace) → All (λ (c : ChangedRow). (c.0 == variable) ≡ false) rows
    → (same ≡ false → IsAnswered variable rows) → None ≡ cond same None (Some now)
said-none true rows variable now none answer_given = refl
said-none false rows variable now none answer_given =
    let at = answer_given refl in
    let other : (variable == variable) ≡ false = All-contains (λ (c : ChangedRow). (c.0 == variable) ≡ false) rows (variable, at.0) none at.1 in
    let own = eq-eqb variable variable refl in
    cc

said-some : (old new : Table) (rows : List ChangedRow) (variable : ℕ) (changed : ChangedRow) → All (IsRight old new) rows → find (λ c. c.0 == variable) rows ≡ Some changed
    → Some changed.1 ≡ (if same_found (place_in old variable) (place_in new variable) then None else Some (place_in new variable))
said-some old new rows variable changed right is =
    let found = found-among (λ (c : ChangedRow). c.0 == variable) rows changed is in
    let number : changed.0 ≡ variable = eqb-true changed.0 variable found.passes in
    let own : IsRight old new changed = All-contains (IsRight old new) rows changed right found.among in
    let now : place_in new variable ≡ changed.1 = ap (place_in new) (sym number) ∙ own.new in
    let differs : same_found (place_in old variable) (place_in new variable) ≡ false =
    ap (λ (place : Option VariablePlace). same_found (place_in old variable) place) now
    ∙ ap (λ (v : ℕ). same_found (place_in old v) changed.1) (sym number) ∙ own.other in
    rw (differs, now) refl

said-by : (old new : Table) (rows : List ChangedRow) (variable : ℕ) → All (IsRight old new) rows
    → (same_found (place_in old variable) (place_in new variable) ≡ false → IsAnswered variable rows)
    → (found : Option ChangedRow) → find (λ c. c.0 == variable) rows ≡ found
    → option_map (λ (c : ChangedRow). c.1) found ≡ (if same_found (place_in old variable) (place_in new variable) then None else Some (place_in new variable))
said-by old new rows variable right answer_given None is =
    said-none (same_found (place_in old variable) (place_in new variable)) rows variable (place_in new variable) (found-none (λ (c : ChangedRow). c.0 == variable) rows is) answer_given
said-by old new rows variable right answer_given (Some changed) is = said-some old new rows variable changed right is

-- and it is said once

abbrev of_change : ℕ → ChangedRow → ℕ
of_change variable changed = own variable changed.0

moved-few : (changed : ℕ → Bool) (old new : State) → lowest_fault (groups_of new.groups) ≡ None → (variable : ℕ)
    → total (of_change variable) (moved_rows (table old) (found_rows changed old new)) ≤ 1
moved-few changed old new none variable =
    let rows = found_rows changed old new in
    let mapped = total-map (of_change variable) moved_row (filter (is_new_row (table old)) rows) in
    let fewer = filtered-less (of_row variable) (is_new_row (table old)) rows in
    let one = maybe_moved_areas-once new.groups none variable (is_maybe_moved changed (line old) (line new)) in
    omega arith

gone-few : (changed : ℕ → Bool) (it : LineChange) (old new : State) → IsChange changed it old new → (variable : ℕ)
    → total (of_change variable) (gone_rows it) ≤ 1
gone-few changed it old new change variable =
    let areas = change.areas in
    let count : List Area → ℕ = λ carried. total (own variable) (assigned_variables carried) in
    let mapped = total-map (of_change variable) gone_row (flat_map gone_variables (zip it.areas_before it.areas_after)) in
    let flat = total-flat_map (own variable) gone_variables (zip it.areas_before it.areas_after) in
    let less = total-less (λ (pair : List Area × List Area). total (own variable) (gone_variables pair)) (λ pair. count pair.0)
    (λ pair. filtered-less (own variable) (λ v. not (is_assigned v pair.1)) (assigned_variables pair.0)) (zip it.areas_before it.areas_after) in
    let firsts = total-zip count it.areas_before it.areas_after in
    let front = total-append count areas.front (it.areas_before ++ areas.after_it) in
    let after_it = total-append count it.areas_before areas.after_it in
    let was : total count (areas_by_rank old.groups) ≡ total count (areas.front ++ (it.areas_before ++ areas.after_it)) = ap (total count) areas.was in
    let one = ranks-once old.groups change.was_project variable in
    omega arith

some-none : {X : Type 0} (x : X) (found : Option X) → found ≡ Some x → found ≡ None → ⊥
some-none x found is is' = cc

few-by : (changed : ℕ → Bool) (it : LineChange) (old new : State) → IsChange changed it old new → (variable : ℕ) (place : Option VariablePlace)
    → place_in (table new) variable ≡ place
    → total (of_change variable) (moved_rows (table old) (found_rows changed old new)) + total (of_change variable) (gone_rows it) ≤ 1
few-by changed it old new change variable None is =
    let rows = found_rows changed old new in
    let unchanged = filter (is_new_row (table old)) rows in
    let mapped = total-map (of_change variable) moved_row unchanged in
    let zero = counted-none (λ (row : VariableRow). row.0) variable unchanged
    (All-weaker (Contains unchanged) (λ row. (variable == row.0) ≡ true → ⊥)
    (λ row at same. some-none row.1 (place_in (table new) variable)
    (ap (place_in (table new)) (eqb-true variable row.0 same) ∙ found-is_placed changed old new change.is_project row (contains-unfiltered (is_new_row (table old)) rows row at)) is)
    unchanged (All-contains_itself unchanged)) in
    let one = gone-few changed it old new change variable in
    omega arith
few-by changed it old new change variable (Some place) is =
    let gone = flat_map gone_variables (zip it.areas_before it.areas_after) in
    let mapped = total-map (of_change variable) gone_row gone in
    let zero = counted-none (λ (v : ℕ). v) variable gone
    (All-weaker (Contains gone) (λ v. (variable == v) ≡ true → ⊥)
    (λ v at same. some-none place (place_in (table new) variable) is
    (ap (place_in (table new)) (eqb-true variable v same) ∙ (gone-right changed it old new change v at).new)) gone (All-contains_itself gone)) in
    let one = moved-few changed old new change.is_project variable in
    omega arith

pub rows-answer_given : (changed : ℕ → Bool) (it : LineChange) (old new : State) → IsChange changed it old new
    → SayPlaces (table_of (line old)) (table_of (line new))
    (moved_rows (table_of (line old)) (flat_map rows_of (map (maybe_moved_of (line new)) (maybe_moved_areas changed (line old) (line new)))) ++ gone_rows it)
rows-answer_given changed it old new change =
    let moved = moved_rows (table old) (found_rows changed old new) in
    let gone = gone_rows it in
    record {
      once = λ variable.
          let same = counted variable (moved ++ gone) in
          let both = total-append (of_change variable) moved gone in
          let few = few-by changed it old new change variable (place_in (table new) variable) refl in
          omega arith;
      says = λ variable. said-by (table old) (table new) (moved ++ gone) variable (rows-right changed it old new change)
          (λ differs. answer_given-by changed it old new change variable (place_in (table old) variable) (place_in (table new) variable) refl refl differs)
          (find (λ c. c.0 == variable) (moved ++ gone)) refl;
    }
