-- Look-ups of the present line's configuration, in C.
use Rattle.std.specs.Prelude.{◌≡◌, ℕ, ◌≤◌, ◌<◌, ◌++◌, nat_le, if◌then◌else◌, Bool, true, false, List, length, map, drop, option_and_then, Option, Result, Ok, Err, MatchOption}
use Rattle.std.specs.Option.{option_map_or}
use Rattle.hc_records.specs.declared.faults.EditFault.{EditFault}
use Rattle.hc_records.specs.declared.records.Dir.{Dir}
use Rattle.hc_records.specs.declared.records.Dir.TheVariants.{In, Out}
use Rattle.hc_records.specs.Image.{VariablePlace}
use Rattle.hc_records.specs.Variables.{variable_of}
use Rattle.hc_plan.specs.Configuration.{block_at}
use Rattle.hc_images.specs.Values.{table_image_bit}
use Rattle.hc_registers.specs.Blocks.{RegisterBlock}
use Rattle.hc_events.specs.Entries.{History}
use Rattle.hc_events.specs.Faults.{core_fault_number, edit_refusal}
use Rattle.hc_events.specs.Points.{line_of}
use Rattle.hc_places.specs.Table.{datagram_in, part_in, place_in, table_of}
use Rattle.hc_c.specs.declared.numbers.TheConstants.{NOTHING, DONE, MISUSED, ROOM}
use Rattle.hc_places.specs.declared.table.Datagram as line
use Rattle.hc_c.specs.declared.looking.Block.{Block}
use Rattle.hc_c.specs.declared.looking.Datagram.{Datagram}
use Rattle.hc_c.specs.declared.looking.ImageSizes.{ImageSizes}
use Rattle.hc_c.specs.declared.looking.Place.{Place}

-- the place of the variable with a number in the present line; 0 is no variable's number
unfoldable pub place_numbered : History → ℕ → Option VariablePlace
place_numbered history number = option_and_then (place_in (table_of (line_of history))) (variable_of number)

-- the datagram of a task with a number in the present line
unfoldable pub datagram_at : History → ℕ → ℕ → Option line.Datagram
datagram_at history task number = datagram_in (table_of (line_of history)) task number

-- the bytes of a task's outputs and inputs in the present line
unfoldable pub task_part_bytes : History → ℕ → ℕ × ℕ
task_part_bytes history task = part_in (table_of (line_of history)) task

-- the direction is input
abbrev pub is_input : Dir → Bool
is_input Out = false
is_input In = true

-- the first bit of a place of the present line in its task's image
unfoldable pub image_bit_of : History → VariablePlace → ℕ
image_bit_of history place = table_image_bit (table_of (line_of history)) place 0

-- the C form of a place of the present line
abbrev pub place_out : History → VariablePlace → Place
place_out history place = record {
  task = place.task;
  datagram = place.datagram;
  bits = place.bits;
  is_input = is_input place.dir;
  bit = place.bit;
  image_bit = image_bit_of history place;
}

-- the C form of a datagram
abbrev pub datagram_out : line.Datagram → Datagram
datagram_out datagram = record { address = datagram.address; length = datagram.length; expected = datagram.expected; offset = datagram.offset }

-- the C form of no place: zeros
abbrev pub no_place : Place
no_place = record { task = 0; datagram = 0; bits = 0; is_input = false; bit = 0; image_bit = 0 }

-- the C form of the place of the variable with a number; zeros if the present line has none
abbrev pub place_or_zeros : History → ℕ → Place
place_or_zeros history number = option_map_or (place_out history) (place_numbered history number) no_place

-- the C forms of the places of several variables, in their order
abbrev pub places_out : History → List ℕ → List Place
places_out history variables = map (place_or_zeros history) variables

-- 0 if this many places fit a slice of that many, else 254
abbrev pub places_number : ℕ → ℕ → ℕ
places_number count room = if nat_le count room then DONE else MISUSED

-- the C form of the bytes of a task's outputs and inputs
abbrev pub sizes_out : ℕ × ℕ → ImageSizes
sizes_out part = record { outputs = part.0; inputs = part.1 }

-- a position is written, or the fault is returned
abbrev pub GivesPosition : Result ℕ EditFault → ℕ → ℕ → Type 0
GivesPosition (Ok found) number position = (number ≡ DONE) × (position ≡ found)
GivesPosition (Err fault) number position = number ≡ core_fault_number (edit_refusal fault)

-- the register and the size of a block are written, and its bytes before the rest of the slice, if they fit
pub record GivesBlock (found : RegisterBlock) (number : ℕ) (block : Block) (before after : List ℕ) : Type 0 where
  pub start : block.start ≡ found.register
  pub size : block.size ≡ length found.bytes
  pub number_of : (length found.bytes ≤ length before → number ≡ DONE) × (length before < length found.bytes → number ≡ ROOM)
  pub bytes : number ≡ DONE → after ≡ found.bytes ++ drop (length found.bytes) before
  pub untouched : number ≡ ROOM → after ≡ before

-- the block of a slave with a number is written; if there is none, the caller's struct is unchanged
abbrev pub AnswersBlock : History → ℕ → ℕ → ℕ → Block → Block → List ℕ → List ℕ → Type 0
AnswersBlock history station block number before after out out' =
    MatchOption (block_at (line_of history) station block) ((number ≡ NOTHING) × (after ≡ before)) (λ found. GivesBlock found number after out out')
