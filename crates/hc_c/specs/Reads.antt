-- The image of a task, in C.
use Rattle.std.specs.Prelude.{◌≡◌, ℕ, ◌+◌, ◌*◌, if◌then◌else◌, nat_le, Bool, List, [], ◌∷◌, ◌++◌, length, map, sum_by, drop, is_some, replicate, unwrap_or, Option, Some, None}
use Rattle.std.specs.List.{range_with_len}
use Rattle.hc_places.specs.declared.table.Datagram.{Datagram}
use Rattle.hc_places.specs.Table.{datagrams_in, table_of}
use Rattle.hc_events.specs.declared.answer.Answer.{Answer}
use Rattle.hc_events.specs.declared.answer.Answer.TheVariants as answer
use Rattle.hc_events.specs.Entries.{History}
use Rattle.hc_events.specs.Faults.{core_fault_number}
use Rattle.hc_events.specs.Points.{epoch_of, line_of}
use Rattle.hc_events.specs.Steady.{steady_serial, steady_slot, task_epoch}
use Rattle.hc_events.specs.Steps.{Reads, answer_to}
use Rattle.hc_c.specs.declared.numbers.TheConstants.{DONE, NOTHING, ROOM}
use Rattle.hc_c.specs.declared.reading.Image.{Image}
use Rattle.hc_c.specs.declared.embedded.Embedded.{Embedded}
use Rattle.hc_c.specs.Embedded.{embedded_history, task_sent_from}
use Rattle.hc_c.specs.Lists.{put_first}
use Rattle.hc_c.specs.States.{task_state}

-- the datagrams of a task in the present line, in order
abbrev pub datagrams_of : History → ℕ → List Datagram
datagrams_of history task = datagrams_in (table_of (line_of history)) task

-- the bytes of datagrams
abbrev pub image_size : List Datagram → ℕ
image_size datagrams = sum_by (λ datagram. datagram.length) datagrams

-- the data of a datagram of this length, or zeros if it has none
abbrev pub data_or_zeros : ℕ → Option (List ℕ) → List ℕ
data_or_zeros size None = replicate size 0
data_or_zeros size (Some bytes) = bytes

-- the data of a task's datagrams from a number on, each with as many bytes as the line says, so that each begins at its offset
abbrev pub image_from : History → ℕ → ℕ → List Datagram → List ℕ
image_from history task number [] = []
image_from history task number (datagram ∷ datagrams) =
    data_or_zeros datagram.length (steady_slot history task number) ++ image_from history task (number + 1) datagrams

-- the number whose bits, from the least significant one on, are these
abbrev pub bit_mask : List Bool → ℕ
bit_mask [] = 0
bit_mask (bit ∷ bits) = (if bit then 1 else 0) + 2 * bit_mask bits

-- for each of these datagrams of a task, from a number on, whether it has data
abbrev pub have_data : History → ℕ → ℕ → ℕ → List Bool
have_data history task number count = map (λ d. is_some (steady_slot history task d)) (range_with_len number count)

-- for each of these datagrams of a task, from a number on, the serial of the frame that its data answer; 0 if it has none
abbrev pub serials_from : History → ℕ → ℕ → ℕ → List ℕ
serials_from history task number count = map (λ d. unwrap_or (steady_serial history task d) 0) (range_with_len number count)

-- 0 if this many bytes fit a slice of that many, else 29
abbrev pub fit_number : ℕ → ℕ → ℕ
fit_number size room = if nat_le size room then DONE else ROOM

-- the answer to reading an image of this many bytes into a slice of that many: the refusal's number, or 29 if the slice is too
-- short, else 0
abbrev pub image_number : Answer → ℕ → ℕ → ℕ
image_number (answer.Image epoch slots) size room = fit_number size room
image_number (answer.Refused fault) size room = core_fault_number fault
image_number _ size room = NOTHING

-- the answer to a read of a task into a slice of this length
abbrev pub read_number : History → ℕ → ℕ → ℕ
read_number history task room = image_number (answer_to history (Reads task)) (image_size (datagrams_of history task)) room

-- for each of these datagrams of a task, from a number on, the serial that its data answer, or none
abbrev pub serials_read : History → ℕ → ℕ → ℕ → List (Option ℕ)
serials_read history task number count = map (steady_serial history task) (range_with_len number count)

-- the C form of a task's image beside its data: the first serial of the task's last sending, the epoch and the task's epoch,
-- the bytes and the number of the datagrams, those with data by their bits, and how far the data answer that sending
abbrev pub image_out : History → ℕ → List Datagram → ℕ → Image
image_out history task datagrams first = record {
  first_serial = first;
  epoch = epoch_of history;
  task_epoch = task_epoch history task;
  size = image_size datagrams;
  datagrams = length datagrams;
  has = bit_mask (have_data history task 0 (length datagrams));
  state = task_state first (serials_read history task 0 (length datagrams));
  reserved = replicate 7 0;
}

-- the image of these datagrams is written: the struct, the bytes before the rest of the slice, and each datagram's serial, as
-- many as fit
pub record HoldsImage (history : History) (task : ℕ) (datagrams : List Datagram) (first : ℕ) (image : Image) (before after serials serials' : List ℕ) : Type 0 where
  pub reported : image ≡ image_out history task datagrams first
  pub bytes : after ≡ image_from history task 0 datagrams ++ drop (image_size datagrams) before
  pub answered_serials : serials' ≡ put_first (serials_from history task 0 (length datagrams)) serials

-- the image of all datagrams of a task is written
abbrev pub HoldsTask : History → ℕ → ℕ → Image → List ℕ → List ℕ → List ℕ → List ℕ → Type 0
HoldsTask history task first image before after serials serials' = HoldsImage history task (datagrams_of history task) first image before after serials serials'

-- the image of a line's task is written, with the first serial of the task's last sending
abbrev pub ReadsTask : Embedded → ℕ → Image → List ℕ → List ℕ → List ℕ → List ℕ → Type 0
ReadsTask old task image before after serials serials' = HoldsTask (embedded_history old) task (task_sent_from old task) image before after serials serials'
