-- The process data image of a line: datagrams, expected working counters and variable places.
use Rattle.std.specs.Prelude.{ℕ, zero, suc, ◌+◌, ◌-◌, ◌*◌, ◌/◌, ◌==◌, ◌&&◌, max, Bool, if◌then◌else◌, List, [], ◌∷◌, ◌++◌, filter, find, fold, map, sum_by, Option, option_map}
use Rattle.std.specs.Option.{option_map_or}
use Rattle.std.specs.List.{list_any, flat_map, zip}
use Rattle.hc_records.specs.declared.records.Dir.{Dir}
use Rattle.hc_records.specs.declared.records.Dir.TheVariants.{Out, In}
use Rattle.hc_records.specs.declared.keys.Key.{Key}
use Rattle.hc_records.specs.Keys.{same_dir}
use Rattle.hc_records.specs.Area.{Entry, assigned_entries}
use Rattle.hc_records.specs.Line.{Member}
use Rattle.hc_records.specs.TaskList.{Listed, task_areas, task_list}
use Rattle.hc_records.specs.Packing.{Placed, empty_front, packed}

-- the areas of a task's list with their places
abbrev pub task_places : ℕ → List Member → List Placed
task_places task line = packed empty_front (task_list task line)

-- the areas that lie in a datagram
abbrev pub inside : ℕ → List Placed → List Placed
inside datagram areas = filter (λ area. area.datagram == datagram) areas

-- the first bit after all areas of a datagram; 0 if there are none
abbrev pub end_of : List Placed → ℕ
end_of areas = fold (λ end area. max end (area.bit + area.bits)) 0 areas

-- the length of a datagram in bytes, up to its last used one
abbrev pub datagram_length : List Placed → ℕ → ℕ
datagram_length areas datagram = (end_of (inside datagram areas) + 7) / 8

-- the number of datagrams of a task
abbrev pub datagram_count : List Placed → ℕ
datagram_count areas = fold (λ count area. max count (area.datagram + 1)) 0 areas

-- the bytes of the task's earlier datagrams
abbrev pub datagram_offset : List Placed → ℕ → ℕ
datagram_offset areas zero = 0
datagram_offset areas (suc datagram) = datagram_offset areas datagram + datagram_length areas datagram

-- the logical address of a datagram of a task
abbrev pub logical_address : ℕ → ℕ → ℕ
logical_address task datagram = 0x01000000 * (task + 1) + 2048 * datagram

-- the bytes of a task's image: its datagrams, one after another
abbrev pub image_length : List Placed → ℕ
image_length areas = datagram_offset areas (datagram_count areas)

-- the byte of the image at which an area begins
abbrev pub first_byte : List Placed → Placed → ℕ
first_byte areas area = datagram_offset areas area.datagram + area.bit / 8

-- the number of bytes that hold the outputs, which come first: those before the first byte of the first input area, or all if there is no input area
abbrev pub output_length : List Placed → ℕ
output_length areas = option_map_or (first_byte areas) (find (λ area. same_dir area.key.dir In) areas) (image_length areas)

-- the bytes that hold the inputs
abbrev pub input_length : List Placed → ℕ
input_length areas = image_length areas - output_length areas

-- an area of the slave with a rank, in a direction
abbrev pub area_is_of : ℕ → Dir → Key → Bool
area_is_of rank dir key = (key.rank == rank) && same_dir key.dir dir

-- the number that a slave adds to the working counter of a datagram with the areas of these keys: 2 if one is an output area of
-- it, and 1 if one is an input area
abbrev pub counter_share : List Key → ℕ → ℕ
counter_share keys rank =
    (if list_any (area_is_of rank Out) keys then 2 else 0) + (if list_any (area_is_of rank In) keys then 1 else 0)

-- the working counter of a datagram that every slave of the line has processed
abbrev pub expected_counter : ℕ → ℕ → List Member → ℕ
expected_counter task datagram line =
    sum_by (counter_share (map (λ area. area.key) (inside datagram (task_places task line)))) (map (λ member. member.rank) line)

-- the place of a variable: its task and datagram, its first bit in the datagram, its bits and its direction
pub record VariablePlace : Type 0 where
  pub task : ℕ
  pub datagram : ℕ
  pub bit : ℕ
  pub bits : ℕ
  pub dir : Dir

-- the variables of entries, from a bit on, each with its first bit and its bits
abbrev pub variables_from : ℕ → List Entry → List (ℕ × (ℕ × ℕ))
variables_from bit [] = []
variables_from bit (entry ∷ entries) =
    option_map_or (λ variable. (variable, (bit, entry.1)) ∷ []) entry.0 [] ++ variables_from (bit + entry.1) entries

-- the variables of an area that is in a task
abbrev pub area_variables : ℕ → Listed × Placed → List (ℕ × VariablePlace)
area_variables task pair =
    map (λ found. (
      found.0,
      record {
        task = task;
        datagram = pair.1.datagram;
        bit = found.1.0;
        bits = found.1.1;
        dir = pair.0.area.dir;
      },
    ))
    (variables_from pair.1.bit (assigned_entries pair.0.area))

-- the variables of a task
abbrev pub task_variables : List Member → ℕ → List (ℕ × VariablePlace)
task_variables line task = flat_map (area_variables task) (zip (task_areas task line) (task_places task line))

-- the eight cyclic tasks
abbrev pub tasks : List ℕ
tasks = 0 ∷ 1 ∷ 2 ∷ 3 ∷ 4 ∷ 5 ∷ 6 ∷ 7 ∷ []

-- the place of a variable in the line, if it has an assigned entry there
abbrev pub variable_place : ℕ → List Member → Option VariablePlace
variable_place variable line =
    option_map (λ found. found.1) (find (λ found. found.0 == variable) (flat_map (task_variables line) tasks))
