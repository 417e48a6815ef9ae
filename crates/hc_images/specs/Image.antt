-- The input image: for each datagram the data of its last good answer since they were cleared, or none (this project's profile; a datagram has at most 1,486 bytes of data by ETG.1000.4, 5.3 and 5.4).
use Rattle.std.specs.Prelude.{◌≡◌, ℕ, ◌+◌, ◌*◌, ◌<◌, ◌==◌, ◌&&◌, if◌then◌else◌, List, length, map, slice_index_or, Option, Some, None}
use Rattle.std.specs.List.{range_with_len}
use Rattle.hc_records.specs.declared.limits.TheConstants.{MOST_DATAGRAMS, TASKS}
use Rattle.hc_records.specs.Slots.{slot_number}

-- the data of each datagram that a line can have, or none, task by task
abbrev pub DatagramImage : Type 0
DatagramImage = List (Option (List ℕ))

-- an image has a slot for each datagram that each of the eight tasks can have
abbrev pub HasAllSlots : DatagramImage → Type 0
HasAllSlots image = length image ≡ MOST_DATAGRAMS * TASKS

-- what an image has of a datagram of a task
abbrev pub data_of : DatagramImage → ℕ → ℕ → Option (List ℕ)
data_of image task d = slice_index_or image (slot_number task d) None

-- those of the first datagrams of a task, as many as the task has in a line
abbrev pub data_of_first : DatagramImage → ℕ → ℕ → List (Option (List ℕ))
data_of_first image task count = map (data_of image task) (range_with_len 0 count)

-- no datagram has data
abbrev pub HasNone : DatagramImage → Type 0
HasNone image = (task d : ℕ) → data_of image task d ≡ None

-- a datagram has these data from then on, and every other one keeps what it had
abbrev pub Renews : DatagramImage → DatagramImage → ℕ → ℕ → List ℕ → Type 0
Renews old new task d bytes =
    (t e : ℕ) → e < MOST_DATAGRAMS
    → data_of new t e ≡ (if (task == t) && (d == e) then Some bytes else data_of old t e)

-- no datagram of a task has data from then on, and each of another task keeps what it had
abbrev pub Empties : DatagramImage → DatagramImage → ℕ → Type 0
Empties old new task = (t e : ℕ) → e < MOST_DATAGRAMS → data_of new t e ≡ (if task == t then None else data_of old t e)
