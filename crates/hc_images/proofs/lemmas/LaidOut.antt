-- The table of a project's line is laid out, and gives the lengths and the offsets of the line's datagrams.
use Rattle.std.proofs.Common.{◌≡◌, ℕ, suc, ◌+◌, ◌*◌, ◌<◌, ◌≤◌, List, length, map, refl, sym, ap, ◌∙◌, subst, arith, Some, None, rules}
use Rattle.std.specs.Prelude.{option_map, slice_get}
use Rattle.std.specs.Option.{option_and_then, option_map_or}
use Rattle.std.specs.List.{flat_map, range_with_len}
use Rattle.std.proofs.lemmas.List.FromFn.{get_or-map-range_with_len, length-map-range_with_len}
use Rattle.std.proofs.lemmas.Option.{slice_get-get_or}
use Rattle.hc_records.specs.declared.limits.TheConstants.{TASKS}
use Rattle.hc_records.specs.Edits.{over_limit_task}
use Rattle.hc_records.specs.Line.{Member, State, groups_of, line}
use Rattle.hc_records.specs.Image.{datagram_count, datagram_length, datagram_offset, task_places, task_variables, tasks, variable_place}
use Rattle.hc_records.specs.Project.{lowest_fault}
use Rattle.hc_records.proofs.lemmas.Addresses.{uncrowded-few}
use Rattle.hc_records.proofs.lemmas.VariableBits.{variables-apart}
use Rattle.hc_records.proofs.lemmas.VariablePlaces.{variables-lie}
use Rattle.hc_places.specs.declared.table.Datagram.{Datagram}
use Rattle.hc_places.specs.Table.{VariableRow, TaskTable, datagram_in, datagram_of, place_in, table_of, task_table}
use Rattle.hc_places.proofs.lemmas.Sorted.{find-by_number}
use Rattle.hc_images.specs.Packed.{IsLaidOut, length_in, offset_in}

pub place-of_line : (line : List Member) (variable : ℕ) → place_in (table_of line) variable ≡ variable_place variable line
place-of_line line variable = ap (option_map (λ (row : VariableRow). row.1)) (find-by_number variable (flat_map (task_variables line) tasks))

task_there : (line : List Member) (task : ℕ) → task < TASKS → slice_get (map (task_table line) tasks) task ≡ Some (task_table line task)
task_there line (suc (suc (suc (suc (suc (suc (suc (suc task)))))))) low = absurd (omega arith)
task_there line other low = refl

abbrev blank : Datagram
blank = record { address = 0; length = 0; expected = 0; offset = 0 }

datagram_there : (line : List Member) (task d : ℕ) → task < TASKS → d < datagram_count (task_places task line) → datagram_in (table_of line) task d ≡ Some (datagram_of line task d)
datagram_there line task d low is_placed =
    let count = datagram_count (task_places task line) in
    let own = map (datagram_of line task) (range_with_len 0 count) in
    let size : length own ≡ count = length-map-range_with_len (datagram_of line task) 0 count in
    ap (option_and_then (λ (t : TaskTable). slice_get t.datagrams d)) (task_there line task low)
    ∙ slice_get-get_or own d blank (omega arith)
    ∙ ap Some (get_or-map-range_with_len (datagram_of line task) 0 count d d blank is_placed (omega arith))

pub length-of_line : (line : List Member) (task d : ℕ) → task < TASKS → d < datagram_count (task_places task line)
    → length_in (table_of line) task d ≡ datagram_length (task_places task line) d
length-of_line line task d low is_placed = ap (λ found. option_map_or (λ (datagram : Datagram). datagram.length) found 0) (datagram_there line task d low is_placed)

pub offset-of_line : (line : List Member) (task d : ℕ) → task < TASKS → d < datagram_count (task_places task line)
    → offset_in (table_of line) task d ≡ datagram_offset (task_places task line) d
offset-of_line line task d low is_placed = ap (λ found. option_map_or (λ (datagram : Datagram). datagram.offset) found 0) (datagram_there line task d low is_placed)

pub line-laid_out : (state : State) → lowest_fault (groups_of state.groups) ≡ None → over_limit_task (line state) ≡ None → IsLaidOut (table_of (line state))
line-laid_out state none uncrowded = record {
  inside = λ variable place there.
      let lies = variables-lie state variable place none (sym (place-of_line (line state) variable) ∙ there) in
      let few = uncrowded-few (line state) place.task uncrowded lies.task in
      let is_placed = lies.datagram in
      record {
        task = lies.task;
        datagram = omega arith;
        within = subst (λ (size : ℕ). place.bit + place.bits ≤ 8 * size) (sym (length-of_line (line state) place.task place.datagram lies.task lies.datagram)) lies.within;
      };
  apart = search (rules, variables-apart, place-of_line);
}
