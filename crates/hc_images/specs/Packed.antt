-- The bytes of datagrams as they are sent: at each output variable's place are the bits of its value, and every other bit is 0.
-- Bits are counted from the least significant bit of the first byte, and images are task by task: this project's profile.
use Rattle.std.specs.Prelude.{◌≡◌, ◌≢◌, ℕ, ◌+◌, ◌*◌, ◌<◌, ◌≤◌, nat_lt, ◌&&◌, if◌then◌else◌, List, [], length, slice_index_or, Some}
use Rattle.std.specs.Option.{option_map_or}
use Rattle.hc_bits.specs.Bits.{AreBytes, bit_of}
use Rattle.hc_records.specs.declared.limits.TheConstants.{MOST_DATAGRAMS, TASKS}
use Rattle.hc_records.specs.declared.records.Dir.TheVariants.{Out}
use Rattle.hc_records.specs.Image.{VariablePlace}
use Rattle.hc_records.specs.ImageLaws.{SharesNoBit}
use Rattle.hc_records.specs.Slots.{slot_number}
use Rattle.hc_places.specs.Table.{Table, datagram_in, place_in}

-- bytes for each datagram that a line can have, task by task
abbrev pub Bytes : Type 0
Bytes = List (List ℕ)

-- the bytes of a datagram among lists of bytes (`Bytes`), at its `slot_number`; empty if the lists end before it
abbrev pub slot_bytes : Bytes → ℕ → ℕ → List ℕ
slot_bytes bytes task d = slice_index_or bytes (slot_number task d) []

-- the length of a datagram in bytes, and the offset of its data in its task's image; 0 if the task has no such datagram
abbrev pub length_in : Table → ℕ → ℕ → ℕ
length_in table task d = option_map_or (λ datagram. datagram.length) (datagram_in table task d) 0

-- the byte of its task's image, counted from 0, at which a datagram's data begin; 0 if the table has no such datagram
abbrev pub offset_in : Table → ℕ → ℕ → ℕ
offset_in table task d = option_map_or (λ datagram. datagram.offset) (datagram_in table task d) 0

-- a place lies in a datagram of a table
pub record LiesInTable (table : Table) (place : VariablePlace) : Type 0 where
  pub task : place.task < TASKS
  pub datagram : place.datagram < MOST_DATAGRAMS
  pub within : place.bit + place.bits ≤ 8 * length_in table place.task place.datagram

-- each place of a table lies in a datagram of it, and no two variables share a bit
pub record IsLaidOut (table : Table) : Type 0 where
  pub inside : (variable : ℕ) (place : VariablePlace) → place_in table variable ≡ Some place → LiesInTable table place
  pub apart :
      (variable other : ℕ) (place another : VariablePlace) → variable ≢ other
      → place_in table variable ≡ Some place → place_in table other ≡ Some another → SharesNoBit place another

-- a variable is an output of the table, with this place
pub record IsOutput (table : Table) (variable : ℕ) (place : VariablePlace) : Type 0 where
  pub there : place_in table variable ≡ Some place
  pub output : place.dir ≡ Out

-- a bit of a datagram of a task lies in a place
pub record LiesInTaskPlace (place : VariablePlace) (task d k : ℕ) : Type 0 where
  pub task_is : place.task ≡ task
  pub datagram : place.datagram ≡ d
  pub from : place.bit ≤ k
  pub below : k < place.bit + place.bits

-- each datagram of the table has as many bytes as its length, and no other datagram has any
abbrev pub HasSizes : Table → Bytes → Type 0
HasSizes table bytes =
    (task d : ℕ) → task < TASKS → d < MOST_DATAGRAMS → length (slot_bytes bytes task d) ≡ length_in table task d

-- each of these numbers is a byte
abbrev pub HasBytes : Bytes → Type 0
HasBytes bytes = (task d : ℕ) → task < TASKS → d < MOST_DATAGRAMS → AreBytes (slot_bytes bytes task d)

-- each datagram has its bytes, in which each output variable has the bits of its value, and each bit that lies in no output
-- variable's place is 0
pub record Carries (table : Table) (value : ℕ → ℕ → ℕ) (bytes : Bytes) : Type 0 where
  pub sizes : HasSizes table bytes
  pub all_bytes : HasBytes bytes
  pub values :
      (variable k : ℕ) (place : VariablePlace) → IsOutput table variable place → k < place.bits
      → bit_of (slot_bytes bytes place.task place.datagram) (place.bit + k) ≡ value variable k
  pub others :
      (task d k : ℕ) → task < TASKS → d < MOST_DATAGRAMS
      → ((variable : ℕ) (place : VariablePlace) → IsOutput table variable place → ¬ (LiesInTaskPlace place task d k))
      → bit_of (slot_bytes bytes task d) k ≡ 0

-- the stored outputs: the bytes as they are sent, and masks, in which exactly the bits of output variables are 1
pub record Packed : Type 0 where
  pub sent : Bytes
  pub masks : Bytes

-- the data with which a datagram is sent; none for a task or a number that no line has
abbrev pub sent_bytes : Packed → ℕ → ℕ → List ℕ
sent_bytes packed task d =
    if nat_lt task TASKS && nat_lt d MOST_DATAGRAMS then slot_bytes packed.sent task d else []

-- the outputs of a table with these values: bit k of a variable's value is `value variable k`
pub record HoldsOutputValues (table : Table) (value : ℕ → ℕ → ℕ) (packed : Packed) : Type 0 where
  pub sent : Carries table value packed.sent
  pub masks : Carries table (λ variable k. 1) packed.masks

-- bytes and masks of a datagram are as many
pub record MasksFitBytes (packed : Packed) : Type 0 where
  pub sent : length packed.sent ≡ MOST_DATAGRAMS * TASKS
  pub masks : length packed.masks ≡ MOST_DATAGRAMS * TASKS
  pub sizes : (n : ℕ) → length (slice_index_or packed.masks n []) ≡ length (slice_index_or packed.sent n [])
