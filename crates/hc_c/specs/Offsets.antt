-- The places of datagrams' data in a task's image.
use Rattle.std.specs.Prelude.{◌≡◌, ℕ, ◌+◌, ◌<◌, ◌≤◌, ◌⊎◌, List, drop, slice_get, take, Some}
use Rattle.hc_places.specs.declared.table.Datagram.{Datagram}
use Rattle.hc_events.specs.Entries.{History}
use Rattle.hc_events.specs.Steady.{steady_slot}
use Rattle.hc_c.specs.declared.reading.Image.{Image}
use Rattle.hc_c.specs.Looks.{datagram_at, task_part_bytes}
use Rattle.hc_c.specs.Reads.{HoldsImage, datagrams_of}

-- this many bytes from an offset on
abbrev pub bytes_at : ℕ → ℕ → List ℕ → List ℕ
bytes_at offset size bytes = take size (drop offset bytes)

-- a byte of a task's image lies before or after a datagram
abbrev pub LiesOutside : Datagram → ℕ → Type 0
LiesOutside datagram byte = (byte < datagram.offset) ⊎ (datagram.offset + datagram.length ≤ byte)

-- a byte of a task's image lies in no datagram that has data
abbrev pub HasNoData : History → ℕ → ℕ → Type 0
HasNoData history task byte =
    (number : ℕ) (datagram : Datagram) (bytes : List ℕ) → datagram_at history task number ≡ Some datagram
    → steady_slot history task number ≡ Some bytes → LiesOutside datagram byte

-- the data of each datagram with data lie at its offset, every other byte of the image is 0, and the image has the task's
-- outputs and inputs
pub record HoldsByOffset (history : History) (task : ℕ) (image : Image) (out : List ℕ) : Type 0 where
  pub each : (number : ℕ) (datagram : Datagram) (bytes : List ℕ) → datagram_at history task number ≡ Some datagram
      → steady_slot history task number ≡ Some bytes → bytes_at datagram.offset datagram.length out ≡ bytes
  pub others : (byte : ℕ) → byte < image.size → HasNoData history task byte → slice_get out byte ≡ Some 0
  pub size : image.size ≡ (task_part_bytes history task).0 + (task_part_bytes history task).1

-- the image that the contract of a read builds datagram by datagram holds the data by offsets
abbrev pub ReadsHoldByOffset : Type 0
ReadsHoldByOffset =
    (history : History) (task first : ℕ) (image : Image) (before after serials serials' : List ℕ)
    → HoldsImage history task (datagrams_of history task) first image before after serials serials' → HoldsByOffset history task image after
