-- The datagrams of a task as they are sent over a programmed line: with packed output bytes, each in a frame of its own.
use Rattle.std.specs.Prelude.{◌≡◌, ℕ, ◌+◌, ◌<◌, List, [], ◌∷◌, Some, length, map}
use Rattle.std.specs.List.{range_with_len}
use Rattle.hc_bits.specs.Bits.{AreBytes, bit_of}
use Rattle.hc_records.specs.declared.records.Dir.{Dir}
use Rattle.hc_records.specs.declared.records.Dir.TheVariants.{Out}
use Rattle.hc_records.specs.Image.{VariablePlace, datagram_length, logical_address, task_places, variable_place}
use Rattle.hc_records.specs.ImageLaws.{place_bit}
use Rattle.hc_records.specs.Line.{Member}
use Rattle.hc_registers.specs.Blocks.{line_blocks}
use Rattle.hc_frames.specs.FrameText.{frame_text, lrw}
use Rattle.hc_segment.specs.Line.{frames_through, machines_after}
use Rattle.hc_places.specs.Table.{datagrams_in, table_of}
use Rattle.hc_images.specs.Packed.{LiesInTaskPlace}
use Rattle.hc_exchange.specs.WritingLaws.{machines_written}

-- the number of datagrams of a task of the line; 0 if the line has no such task
abbrev pub task_datagram_count : List Member → ℕ → ℕ
task_datagram_count line task = length (datagrams_in (table_of line) task)

-- a variable of the line has this place, in the task and in this direction
pub record IsVariable (line : List Member) (task : ℕ) (dir : Dir) (variable : ℕ) (place : VariablePlace) : Type 0 where
  pub there : variable_place variable line ≡ Some place
  pub in_task : place.task ≡ task
  pub direction : place.dir ≡ dir

-- the data that a datagram of a task is sent with: each of its output variables has the bits of the task's image at its place, and every other bit is 0
pub record IsPacked (line : List Member) (task : ℕ) (image : List ℕ) (d : ℕ) (bytes : List ℕ) : Type 0 where
  pub size : length bytes ≡ datagram_length (task_places task line) d
  pub all_bytes : AreBytes bytes
  pub values : (variable k : ℕ) (place : VariablePlace) → IsVariable line task Out variable place → place.datagram ≡ d → k < place.bits
      → bit_of bytes (place.bit + k) ≡ bit_of image (place_bit line place + k)
  pub others : (k : ℕ) → ((variable : ℕ) (place : VariablePlace) → IsVariable line task Out variable place → ¬ LiesInTaskPlace place task d k) → bit_of bytes k ≡ 0

-- the frames of the first `count` datagrams of a task with these data, in their order: an LRW each (ETG.1000.4, 5.4), in a frame of its own, with serials from
-- this one on
abbrev pub task_frames : ℕ → ℕ → ℕ → (ℕ → List ℕ) → List (List ℕ)
task_frames serial task count bytes = map (λ d. frame_text (serial + d) (lrw (logical_address task d) (bytes d) ∷ [])) (range_with_len 0 count)

-- the frames of a task go through machines, with serials from this one on: the frames that come back, and the machines after them
pub record IsSentOver (line : List Member) (task serial : ℕ) (image : List ℕ) (machines frames machines' : List (List ℕ)) : Type 0 where
  pub bytes : ℕ → List ℕ
  pub packed : (d : ℕ) → d < task_datagram_count line task → IsPacked line task image d (bytes d)
  pub returned : frames ≡ frames_through machines (task_frames serial task (task_datagram_count line task) bytes)
  pub left : machines' ≡ machines_after machines (task_frames serial task (task_datagram_count line task) bytes)

-- the frames of a task go through the machines of a line after the writes of all its blocks, with the serials after those of the writes
abbrev pub IsSent : List Member → ℕ → List ℕ → List (List ℕ) → List (List ℕ) → List (List ℕ) → Type 0
IsSent line task image machines frames machines' = IsSentOver line task (length (line_blocks line)) image (machines_written line machines) frames machines'
