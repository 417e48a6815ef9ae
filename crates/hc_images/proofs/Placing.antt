-- Where output variables are: in a table, and in the one that a change leads to.
use Rattle.std.proofs.Common.{◌≡◌, inl, inr, ℕ, ◌+◌, ◌*◌, ◌<◌, ◌≤◌, Bool, true, cond, List, [], ◌∷◌, ◌++◌, length, refl, sym, ap, ◌∙◌, subst, arith, Option, Some, None, rules}
use Rattle.std.specs.Prelude.{All, option_and_then, option_map, slice_get, unwrap_or}
use Rattle.std.proofs.lemmas.Bool.{cases_lt}
use Rattle.std.proofs.lemmas.List.{get_or_append_left, get_or_push}
use Rattle.std.proofs.lemmas.Option.{slice_get-get_or, slice_get_cases, slice_get_within, same_Some}
use Rattle.hc_records.specs.declared.records.Dir.TheVariants.{Out}
use Rattle.hc_records.specs.Image.{VariablePlace}
use Rattle.hc_records.specs.Keys.{same_dir}
use Rattle.hc_records.proofs.lemmas.VariablePlaces.{same_dir-same}
use Rattle.hc_places.specs.Swap.{Change, ChangedRow, ChangesAscend, said_of, swapped}
use Rattle.hc_places.specs.Table.{VariableRow, RowsAscend, Table, place_in}
use Rattle.hc_places.proofs.lemmas.Swaps.{swaps-move}
use Rattle.hc_images.specs.Packed.{Bytes, HasSizes, IsLaidOut, IsOutput}
use Rattle.hc_images.specs.Pieces.{PlacesAreApart, Fit, Numbered, ArePlaced, of_changed, of_list, of_rows, output_in, output_of}
use Rattle.hc_images.proofs.Numbered.{none-some, Ascend, HasNone, ascend-differ, by-number, found-at, none-found}

-- the place of an output variable

by_dir : (test : Bool) (place other : VariablePlace) → cond test (Some place) None ≡ Some other → (test ≡ true) × (place ≡ other)
by_dir test place other e = search (rules, same_Some)

found_by : (table : Table) (variable : ℕ) (place : VariablePlace) (found : Option VariablePlace) → place_in table variable ≡ found → option_and_then output_of found ≡ Some place → IsOutput table variable place
found_by table variable place found there is = search (rules, by_dir, same_dir-same)

output-found : (table : Table) (variable : ℕ) (place : VariablePlace) → output_in table variable ≡ Some place → IsOutput table variable place
output-found table variable place is = found_by table variable place (place_in table variable) refl is

out_is : (place : VariablePlace) → place.dir ≡ Out → output_of place ≡ Some place
out_is place out = ap (λ dir. cond (same_dir dir Out) (Some place) None) out

pub found-output : (table : Table) (variable : ℕ) (place : VariablePlace) → IsOutput table variable place → output_in table variable ≡ Some place
found-output table variable place is = ap (option_and_then output_of) is.there ∙ out_is place is.output

-- numbered places that are those of outputs of a table, by numbered rows

abbrev pub AreOutputs : {Y : Type 0} → Table → List (ℕ × Y) → Numbered → Type 0
AreOutputs table rows places = (i : ℕ) (row : ℕ × _) (place : VariablePlace) → slice_get rows i ≡ Some row → places i ≡ Some place → IsOutput table row.0 place

pub record RowAt {Y : Type 0} (rows : List (ℕ × Y)) (i : ℕ) : Type 0 where
  pub row : ℕ × Y
  pub there : slice_get rows i ≡ Some row

pub row-at : {Y : Type 0} (rows : List (ℕ × Y)) (i : ℕ) → i < length rows → RowAt rows i
row-at rows i low = elim ((slice_get_cases rows i).1) [
  | inl found ↦ record { row = found.0; there = found.2 }
  | inr history ↦ let after_it = history.0 in absurd (omega arith)
]

pub outputs-apart : {Y : Type 0} (table : Table) (rows : List (ℕ × Y)) (places : Numbered) → IsLaidOut table → Ascend rows → AreOutputs table rows places → PlacesAreApart (length rows) places
outputs-apart table rows places laid ascend are i j place another less low there there' =
    let first = row-at rows i (omega arith) in
    let second = row-at rows j low in
    laid.apart first.row.0 second.row.0 place another (ascend-differ rows i j first.row second.row ascend less first.there second.there)
    (are i first.row place first.there there).there (are j second.row another second.there there').there

pub outputs-fit : {Y : Type 0} (table : Table) (rows : List (ℕ × Y)) (places : Numbered) (bytes : Bytes) → IsLaidOut table → AreOutputs table rows places → HasSizes table bytes → Fit (length rows) places bytes
outputs-fit table rows places bytes laid are sizes i place low there =
    let own = row-at rows i low in
    let lies = laid.inside own.row.0 place (are i own.row place own.there there).there in
    subst (λ (s : ℕ). place.bit + place.bits ≤ 8 * s) (sym (sizes place.task place.datagram lies.task lies.datagram)) lies.within

-- the rows of a table

row_place : (table : Table) (i : ℕ) (row : VariableRow) → RowsAscend table.variables → slice_get table.variables i ≡ Some row → place_in table row.0 ≡ Some row.1
row_place table i row ascend there = ap (option_map (λ (r : VariableRow). r.1)) (found-at table.variables i row ascend there)

-- where each row's variable is
pub rows-placed : (table : Table) → RowsAscend table.variables → All (λ (row : VariableRow). place_in table row.0 ≡ Some row.1) table.variables
rows-placed table ascend i e inside = search (rules, row_place, slice_get-get_or)

of_row : (table : Table) (i : ℕ) (row : VariableRow) → RowsAscend table.variables → slice_get table.variables i ≡ Some row → of_rows table.variables i ≡ output_in table row.0
of_row table i row ascend there = search (rules, row_place)

pub rows-are : (table : Table) → RowsAscend table.variables → AreOutputs table table.variables (of_rows table.variables)
rows-are table ascend i row place there is = output-found table row.0 place (sym (of_row table i row ascend there) ∙ is)

-- each output has a row
pub record IsAmong (n : ℕ) (places : Numbered) (place : VariablePlace) : Type 0 where
  pub index : ℕ
  pub low : index < n
  pub there : places index ≡ Some place

pub has-row : (table : Table) (variable : ℕ) (place : VariablePlace) → RowsAscend table.variables → IsOutput table variable place → IsAmong (length table.variables) (of_rows table.variables) place
has-row table variable place ascend is = elim (by-number table.variables variable) [
  | inl has ↦ record {
    index = has.index;
    low = slice_get_within table.variables has.index has.row has.there;
    there = of_row table has.index has.row ascend has.there ∙ ap (output_in table) has.is ∙ found-output table variable place is;
  }
  | inr none ↦ none-some (place_in table variable) place (ap (option_map (λ (r : VariableRow). r.1)) (none-found table.variables variable none)) is.there
]

-- the changed variables, in both tables

new-place : (change : Change) (table : Table) (i : ℕ) (row : ChangedRow) → RowsAscend table.variables → ChangesAscend change.rows → slice_get change.rows i ≡ Some row → place_in (swapped change table) row.0 ≡ row.1
new-place change table i row ascend order there =
    let said : said_of change.rows row.0 ≡ Some row.1 = ap (option_map (λ (c : ChangedRow). c.1)) (found-at change.rows i row order there) in
    swaps-move change table ascend row.0 ∙ ap (λ s. unwrap_or s (place_in table row.0)) said

pub same-place : (change : Change) (table : Table) (variable : ℕ) → RowsAscend table.variables → HasNone change.rows variable → place_in (swapped change table) variable ≡ place_in table variable
same-place change table variable ascend none = search (rules, none-found, swaps-move)

pub of-new : (change : Change) (table : Table) (i : ℕ) (row : ChangedRow) → RowsAscend table.variables → ChangesAscend change.rows → slice_get change.rows i ≡ Some row
    → of_changed change.rows i ≡ output_in (swapped change table) row.0
of-new change table i row ascend order there = search (rules, new-place)

pub new-are : (change : Change) (table : Table) → RowsAscend table.variables → ChangesAscend change.rows → AreOutputs (swapped change table) change.rows (of_changed change.rows)
new-are change table ascend order i row place there is =
    output-found (swapped change table) row.0 place (sym (of-new change table i row ascend order there) ∙ is)

pub old-are : (change : Change) (table : Table) (places : List (Option VariablePlace)) → ArePlaced table change.rows places → AreOutputs table change.rows (of_list places)
old-are change table places are_placed i row place there is = output-found table row.0 place (sym (are_placed.each i row there) ∙ is)

-- one more changed variable is looked up
pub next-is_placed : (table : Table) (changed : List ChangedRow) (places : List (Option VariablePlace)) (n : ℕ) (last : ChangedRow) → slice_get changed n ≡ Some last → length places ≡ n
    → ((i : ℕ) (row : ChangedRow) → i < n → slice_get changed i ≡ Some row → of_list places i ≡ output_in table row.0)
    → (i : ℕ) (row : ChangedRow) → i < n + 1 → slice_get changed i ≡ Some row → of_list (places ++ output_in table last.0 ∷ []) i ≡ output_in table row.0
next-is_placed table changed places n last is count before i row below there = search (rules, cases_lt, get_or_append_left, same_Some, get_or_push)
