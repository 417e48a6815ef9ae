-- Steps of the code on the bytes of datagrams. No public contract names these words.
use Rattle.std.specs.Prelude.{◌≡◌, ◌≢◌, ℕ, ◌+◌, ◌-◌, ◌*◌, ◌^◌, ◌<◌, ◌≤◌, ◌⊎◌, Bool, if◌then◌else◌, List, [], ◌++◌, MatchOption, None, Option, Some, drop, is_some, length, min, option_and_then, replicate, slice_get, slice_index_or, sum_by, take}
use Rattle.std.specs.Int.{bit_at}
use Rattle.std.specs.Option.{option_map_or}
use Rattle.hc_bits.specs.Bits.{AreBytes, ReplacesRun, bit_of}
use Rattle.hc_records.specs.declared.limits.TheConstants.{MOST_DATAGRAMS, TASKS}
use Rattle.hc_records.specs.declared.records.Dir.TheVariants.{Out}
use Rattle.hc_records.specs.Image.{VariablePlace}
use Rattle.hc_records.specs.ImageLaws.{SharesNoBit}
use Rattle.hc_records.specs.Keys.{same_dir}
use Rattle.hc_places.specs.Ranges.{IsPlace}
use Rattle.hc_places.specs.Swap.{ChangedRow, ChangedTask}
use Rattle.hc_places.specs.Table.{IsTable, VariableRow, Table, TaskTable, datagrams_in, place_in}
use Rattle.hc_images.specs.Moves.{Moves}
use Rattle.hc_images.specs.Packed.{Bytes, LiesInTaskPlace, length_in, offset_in, slot_bytes, Carries}

-- the bytes of each datagram of a table are zeros
pub record AreBlank (table : Table) (bytes : Bytes) : Type 0 where
  pub all : length bytes ≡ MOST_DATAGRAMS * TASKS
  pub zeros :
      (task d : ℕ) → task < TASKS → d < MOST_DATAGRAMS → slot_bytes bytes task d ≡ replicate (length_in table task d) 0

-- a place, if it is an output variable's
abbrev pub output_of : VariablePlace → Option VariablePlace
output_of place = if same_dir place.dir Out then Some place else None

-- the place of an output variable in a table; none for any other variable
abbrev pub output_in : Table → ℕ → Option VariablePlace
output_in table variable = option_and_then output_of (place_in table variable)

-- the bits of a place become those of a run, and every other bit of every datagram stays
pub record WritesPlace (old new : Bytes) (place : VariablePlace) (run : ℕ → ℕ) : Type 0 where
  pub own :
      ReplacesRun (slot_bytes old place.task place.datagram) (slot_bytes new place.task place.datagram) place.bit place.bits run
  pub rest :
      (task d : ℕ) → d < MOST_DATAGRAMS → (task ≢ place.task) ⊎ (d ≢ place.datagram)
      → slot_bytes new task d ≡ slot_bytes old task d
  pub size : length (slot_bytes new place.task place.datagram) ≡ length (slot_bytes old place.task place.datagram)
  pub bytes : AreBytes (slot_bytes new place.task place.datagram)
  pub all : length new ≡ length old

-- the bits of a place, if there is one, become those of a run, and every other bit of every datagram stays
abbrev pub WritesAt : Option VariablePlace → (ℕ → ℕ) → Bytes → Bytes → Type 0
WritesAt found run old new = MatchOption found (new ≡ old) (λ place. IsPlace place × WritesPlace old new place run)

-- a word has the bits at a place
abbrev pub ReadsAt : Bytes → VariablePlace → ℕ → Type 0
ReadsAt bytes place word =
    (k : ℕ) → k < place.bits → bit_at word k ≡ bit_of (slot_bytes bytes place.task place.datagram) (place.bit + k)

-- the first n of numbered places; some may be lacking
abbrev pub Numbered : Type 0
Numbered = ℕ → Option VariablePlace

-- each lies in the bytes that are there for it
abbrev pub Fit : ℕ → Numbered → Bytes → Type 0
Fit n places bytes =
    (i : ℕ) (place : VariablePlace) → i < n → places i ≡ Some place
    → place.bit + place.bits ≤ 8 * length (slot_bytes bytes place.task place.datagram)

-- no two share a bit
abbrev pub PlacesAreApart : ℕ → Numbered → Type 0
PlacesAreApart n places =
    (i j : ℕ) (place another : VariablePlace) → i < j → j < n → places i ≡ Some place → places j ≡ Some another
    → SharesNoBit place another

-- no bit of theirs is this one
abbrev pub Miss : ℕ → Numbered → ℕ → ℕ → ℕ → Type 0
Miss n places task d k =
    (i : ℕ) (place : VariablePlace) → i < n → places i ≡ Some place → ¬ (LiesInTaskPlace place task d k)

-- the bits of each become those of its run, and every other bit of every datagram stays
pub record WritesEach (n : ℕ) (places : Numbered) (run : ℕ → ℕ → ℕ) (old new : Bytes) : Type 0 where
  pub ranges : (i : ℕ) (place : VariablePlace) → i < n → places i ≡ Some place → IsPlace place
  pub own :
      (i k : ℕ) (place : VariablePlace) → i < n → places i ≡ Some place → k < place.bits
      → bit_of (slot_bytes new place.task place.datagram) (place.bit + k) ≡ run i k
  pub rest :
      (task d k : ℕ) → d < MOST_DATAGRAMS → Miss n places task d k
      → bit_of (slot_bytes new task d) k ≡ bit_of (slot_bytes old task d) k
  pub sizes : (n : ℕ) → length (slice_index_or new n []) ≡ length (slice_index_or old n [])
  pub bytes : (task d : ℕ) → d < MOST_DATAGRAMS → AreBytes (slot_bytes old task d) → AreBytes (slot_bytes new task d)
  pub all : length new ≡ length old

-- the value at each place was taken up, and the value for a missing place is given
pub record ReadsEach (n : ℕ) (places : Numbered) (bytes : Bytes) (lacking : ℕ) (values : List ℕ) : Type 0 where
  pub read :
      (i k : ℕ) (place : VariablePlace) → i < n → places i ≡ Some place → k < place.bits
      → bit_at (slice_index_or values i 0) k ≡ bit_of (slot_bytes bytes place.task place.datagram) (place.bit + k)
  pub given : (i : ℕ) → i < n → places i ≡ None → slice_index_or values i 0 ≡ lacking

-- the output places of a table's rows
abbrev pub of_rows : List VariableRow → Numbered
of_rows rows i = option_and_then (λ row. output_of row.1) (slice_get rows i)

-- the places of a list
abbrev pub of_list : List (Option VariablePlace) → Numbered
of_list places i = slice_index_or places i None

-- the new output places of changed variables
abbrev pub of_changed : List ChangedRow → Numbered
of_changed changed i = option_and_then (λ row. option_and_then output_of row.1) (slice_get changed i)

-- bytes of another length: cut, or with zeros after
abbrev pub resized : ℕ → List ℕ → List ℕ
resized size bytes = take size bytes ++ replicate (size - length bytes) 0

-- the length of a datagram in the table of its task; 0 where the task has no such datagram
abbrev pub table_data_length : TaskTable → ℕ → ℕ
table_data_length table d = option_map_or (λ datagram. datagram.length) (slice_get table.datagrams d) 0

-- the number of bytes that a datagram has
abbrev pub byte_count : Bytes → ℕ → ℕ → ℕ
byte_count bytes task d = length (slot_bytes bytes task d)

-- zeros were added for each of the first n datagrams of a task that gets longer than `size`, as many as it gets longer
pub record AddsRoom (n : ℕ) (size : ℕ → ℕ → ℕ) (task : ℕ) (table : TaskTable) (old new : Bytes) : Type 0 where
  pub all : length new ≡ length old + n
  pub zeros :
      (d : ℕ) → d < n → size task d < table_data_length table d
      → slice_index_or new (length old + d) [] ≡ replicate (table_data_length table d) 0
  pub rest : (m : ℕ) → m < length old → slice_index_or new m [] ≡ slice_index_or old m []

-- from `at` on there are such zeros for each datagram of a task
abbrev pub HasTaskRoom : (ℕ → ℕ → ℕ) → ℕ → TaskTable → ℕ → Bytes → Type 0
HasTaskRoom size task table at room =
    (d : ℕ) → task < TASKS → d < MOST_DATAGRAMS → size task d < table_data_length table d
    → slice_index_or room (at + d) [] ≡ replicate (table_data_length table d) 0

-- the number of datagrams in the tables of the first i changed tasks: the zeros for the next one begin there
abbrev pub room_start : List ChangedTask → ℕ → ℕ
room_start changed i = sum_by (λ own. length own.1.datagrams) (take i changed)

-- there are such zeros for the first n of changed tasks, one after another
pub record HasRoomToGrow (n : ℕ) (size : ℕ → ℕ → ℕ) (changed : List ChangedTask) (room : Bytes) : Type 0 where
  pub all : length room ≡ room_start changed n
  pub zeros :
      (i d : ℕ) (own : ChangedTask) → i < n → slice_get changed i ≡ Some own → own.0 < TASKS → d < MOST_DATAGRAMS
      → size own.0 d < table_data_length own.1 d
      → slice_index_or room (room_start changed i + d) [] ≡ replicate (table_data_length own.1 d) 0

-- the bytes of a task's datagrams get the lengths of its table, and those of every other task stay
pub record Resizes (task : ℕ) (table : TaskTable) (old new : Bytes) : Type 0 where
  pub own : (d : ℕ) → d < MOST_DATAGRAMS → slot_bytes new task d ≡ resized (table_data_length table d) (slot_bytes old task d)
  pub rest : (other d : ℕ) → d < MOST_DATAGRAMS → other ≢ task → slot_bytes new other d ≡ slot_bytes old other d
  pub all : length new ≡ length old

-- the bytes of the datagrams of the first n changed tasks get the lengths of their tables, and those of every other task stay
pub record ResizesEach (n : ℕ) (changed : List ChangedTask) (old new : Bytes) : Type 0 where
  pub own :
      (i d : ℕ) (own : ChangedTask) → i < n → slice_get changed i ≡ Some own → d < MOST_DATAGRAMS
      → slot_bytes new own.0 d ≡ resized (table_data_length own.1 d) (slot_bytes old own.0 d)
  pub rest :
      (task d : ℕ) → d < MOST_DATAGRAMS
      → ((i : ℕ) (own : ChangedTask) → i < n → slice_get changed i ≡ Some own → own.0 ≢ task)
      → slot_bytes new task d ≡ slot_bytes old task d
  pub all : length new ≡ length old

-- over a change a variable keeps its value if it had a place; the bits of one that had none are all alike
abbrev pub carried_bit : Table → (ℕ → ℕ → ℕ) → Bool → ℕ → ℕ → ℕ
carried_bit old value ones variable k =
    if is_some (place_in old variable) then value variable k else (if ones then 1 else 0)

-- the bytes carry every value at its place in one table over to its place in the next
abbrev pub CarriesOver : Table → Table → Bool → Bytes → Bytes → Type 0
CarriesOver old new ones before after = (value : ℕ → ℕ → ℕ) → Carries old value before → Carries new (carried_bit old value ones) after

-- a word of ones, or of zeros
abbrev pub word_of : Bool → ℕ
word_of ones = if ones then 2 ^ 64 - 1 else 0

-- the place of each changed variable as an output in a table
pub record ArePlaced (table : Table) (changed : List ChangedRow) (places : List (Option VariablePlace)) : Type 0 where
  pub count : length places ≡ length changed
  pub each :
      (i : ℕ) (row : ChangedRow) → slice_get changed i ≡ Some row → of_list places i ≡ output_in table row.0

-- the stored moves: the places of changed variables, and memory for their values
pub record HoldsMoves (moves : Moves) (places : List (Option VariablePlace)) (values : List ℕ) : Type 0 where
  pub table : IsTable moves.before
  pub are_placed : ArePlaced moves.before moves.change.rows places
  pub room : length values ≡ length moves.change.rows

-- each datagram of the task takes the bits of its mask from the post, from its offset on, and every other one stays
pub record Posts (table : Table) (old new masks : Bytes) (task : ℕ) (bytes : List ℕ) : Type 0 where
  pub own :
      (d k : ℕ) → d < length (datagrams_in table task)
      → bit_of (slot_bytes new task d) k ≡ min (bit_of (drop (offset_in table task d) bytes) k) (bit_of (slot_bytes masks task d) k)
  pub rest :
      (t d : ℕ) → d < MOST_DATAGRAMS → (t ≢ task) ⊎ (length (datagrams_in table task) ≤ d)
      → slot_bytes new t d ≡ slot_bytes old t d
  pub sizes : (n : ℕ) → length (slice_index_or new n []) ≡ length (slice_index_or old n [])
  pub own_bytes : (d : ℕ) → d < length (datagrams_in table task) → AreBytes (slot_bytes new task d)
  pub all : length new ≡ length old
