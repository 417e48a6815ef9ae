-- The images that the owner of a line shows to its seats.
use Rattle.std.specs.Prelude.{◌≡◌, ℕ, ◌+◌, Bool, false, List, [], ◌∷◌, ◌++◌, Option, None, Some, length, map, take, option_map, slice_index_or, unwrap_or}
use Rattle.std.specs.List.{range_with_len}
use Rattle.hc_places.specs.declared.table.Datagram.{Datagram}
use Rattle.hc_events.specs.Entries.{History}
use Rattle.hc_events.specs.Outputs.{sent_data}
use Rattle.hc_events.specs.Points.{epoch_of}
use Rattle.hc_events.specs.Steady.{steady_serial, steady_slot, task_epoch}
use Rattle.hc_mail.specs.Contents.{counted, newest}
use Rattle.hc_mail.specs.Ends.{SenderEnd, reported, seen}
use Rattle.hc_mail.specs.Images.{Image, image_kind}
use Rattle.hc_mail.specs.declared.image.ImageHead.{ImageHead}
use Rattle.hc_mail.specs.declared.image.LineState.{LineState}
use Rattle.hc_c.specs.Looks.{task_part_bytes}
use Rattle.hc_c.specs.Reads.{data_or_zeros, datagrams_of, image_from}
use Rattle.hc_c.specs.SeatRoom.{image_room}
use Rattle.hc_c.specs.declared.seat.ends.OwnerEnd.{OwnerEnd}
use Rattle.hc_c.specs.declared.seat.ends.OwnerEnds.{OwnerEnds}
use Rattle.hc_c.specs.declared.seat.lookers.LookerEnd.{LookerEnd}

-- the serial of the frame that a datagram's data answer; none if it has no data
abbrev pub serial_shown : Option (List ℕ) → Option ℕ → Option ℕ
serial_shown slot serial = option_map (λ _. unwrap_or serial 0) slot

-- the serials that an image has of `count` datagrams of a task, from a number on
abbrev pub serials_shown : History → ℕ → ℕ → ℕ → List (Option ℕ)
serials_shown history task number count = map (λ d. serial_shown (steady_slot history task d) (steady_serial history task d)) (range_with_len number count)

-- the data with which a task's datagrams, from a number on, would be sent now, one after another
abbrev pub sent_from : History → ℕ → ℕ → List Datagram → List ℕ
sent_from history task number [] = []
sent_from history task number (datagram ∷ datagrams) = sent_data history task number ++ sent_from history task (number + 1) datagrams

-- the outputs of a task as they would be sent now, which come first in its image
abbrev pub outputs_of : History → ℕ → List ℕ
outputs_of history task = take (task_part_bytes history task).0 (sent_from history task 0 (datagrams_of history task))

-- the head of a task's image: the epochs, the first serial of the task's last sending, the number of the post that was taken
-- last, whether that was refused, and what became of the line
abbrev pub head_shown : History → ℕ → ℕ → ℕ → Bool → LineState → ImageHead
head_shown history task first taken is_refused line =
    record { epoch = epoch_of history; task_epoch = task_epoch history task; first_serial = first; taken = taken; is_refused = is_refused; line = line }

-- an image of a task with this head: the task's data, their serials, and the task's outputs
abbrev pub image_shown : History → ℕ → ImageHead → Image
image_shown history task head = record {
  head = head;
  bytes = image_from history task 0 (datagrams_of history task);
  serials = serials_shown history task 0 (length (datagrams_of history task));
  outputs = outputs_of history task;
  room = image_room;
}

-- the image with one more datagram: its data, and the serial that they answer
abbrev pub with_slot : ℕ → Option (List ℕ) → Option ℕ → Image → Image
with_slot size slot serial image = record image { bytes = image.bytes ++ data_or_zeros size slot; serials = image.serials ++ serial_shown slot serial ∷ [] }

-- the image with these datagrams of a task, from a number on
abbrev pub with_slots : History → ℕ → ℕ → List Datagram → Image → Image
with_slots history task number datagrams image =
    record image { bytes = image.bytes ++ image_from history task number datagrams; serials = image.serials ++ serials_shown history task number (length datagrams) }

-- an owner's end of a seat's mailbox sent this image, and no other
pub record SendsImage (image : Image) (old new : SenderEnd Image) : Type 0 where
  pub shown : seen new.place ≡ seen old.place ++ image ∷ []
  pub reported : reported new.place ≡ reported old.place
  pub one_mail : new.place.table_id ≡ old.place.table_id
  pub roomy : new.own.room ≡ old.own.room

-- the image shown to a task's seat, from the first serial of the task's last sending and what became of the line; the post that
-- was taken last is the newest that the owner saw
abbrev pub seat_image : History → ℕ → ℕ → LineState → OwnerEnd → Image
seat_image history task first line end = image_shown history task (head_shown history task first (counted (length (seen end.posts.place))) end.is_refused line)

-- the image shown to a seat that only looks, which has no post
abbrev pub looker_image : History → ℕ → ℕ → LineState → Image
looker_image history task first line = image_shown history task (head_shown history task first 0 false line)

-- a task's seat was shown one more image, and its posts are unchanged
pub record Shows (history : History) (task first : ℕ) (line : LineState) (old new : OwnerEnd) : Type 0 where
  pub images : SendsImage (seat_image history task first line old) old.images new.images
  pub posts : new.posts ≡ old.posts
  pub refused : new.is_refused ≡ old.is_refused

-- a task's seat, if it has one, was shown one more image
abbrev pub ShowsEnd : History → ℕ → ℕ → LineState → Option OwnerEnd → Option OwnerEnd → Type 0
ShowsEnd history task first line None None = Unit {0}
ShowsEnd history task first line (Some old) (Some new) = Shows history task first line old new
ShowsEnd history task first line old new = ⊥

-- the seat of each task from a number on was shown one more image; the list has the first serial of each task's last sending
abbrev pub ShowsAll : History → List ℕ → LineState → ℕ → List (Option OwnerEnd) → List (Option OwnerEnd) → Type 0
ShowsAll history firsts line task [] [] = Unit {0}
ShowsAll history firsts line task (old ∷ olds) (new ∷ updates) = ShowsEnd history task (slice_index_or firsts task 0) line old new × ShowsAll history firsts line (task + 1) olds updates
ShowsAll history firsts line task olds updates = ⊥

-- a seat that only looks was shown one more image of its task
pub record ShowsLooker (history : History) (firsts : List ℕ) (line : LineState) (old new : LookerEnd) : Type 0 where
  pub images : SendsImage (looker_image history old.task (slice_index_or firsts old.task 0) line) old.images new.images
  pub task : new.task ≡ old.task

-- each seat that only looks, of some numbers, was shown one more image
abbrev pub ShowsLookers : History → List ℕ → LineState → List (Option LookerEnd) → List (Option LookerEnd) → Type 0
ShowsLookers history firsts line [] [] = Unit {0}
ShowsLookers history firsts line (None ∷ olds) (None ∷ updates) = ShowsLookers history firsts line olds updates
ShowsLookers history firsts line (Some old ∷ olds) (Some new ∷ updates) = ShowsLooker history firsts line old new × ShowsLookers history firsts line olds updates
ShowsLookers history firsts line olds updates = ⊥

-- each seat of a line was shown one more image
abbrev pub ShowsEnds : History → List ℕ → LineState → OwnerEnds → OwnerEnds → Type 0
ShowsEnds history firsts line old new = ShowsAll history firsts line 0 old.by_task new.by_task × ShowsLookers history firsts line old.lookers new.lookers

-- the last image that an owner's end sent has this state of the line
abbrev pub SaysLast : LineState → SenderEnd Image → Type 0
SaysLast line images = (newest image_kind image_room (seen images.place)).head.line ≡ line

-- the last image of a task's seat, if there is one, has this state of the line
abbrev pub SeatTold : LineState → Option OwnerEnd → Type 0
SeatTold line None = Unit {0}
SeatTold line (Some end) = SaysLast line end.images

-- the last image of the seat that only looks at a number, if there is one, has this state of the line
abbrev pub LookerTold : LineState → Option LookerEnd → Type 0
LookerTold line None = Unit {0}
LookerTold line (Some end) = SaysLast line end.images

-- the last image of each task's seat has this state of the line
abbrev pub SeatsTold : LineState → List (Option OwnerEnd) → Type 0
SeatsTold line [] = Unit {0}
SeatsTold line (end ∷ ends) = SeatTold line end × SeatsTold line ends

-- the last image of each seat that only looks has this state of the line
abbrev pub LookersTold : LineState → List (Option LookerEnd) → Type 0
LookersTold line [] = Unit {0}
LookersTold line (end ∷ ends) = LookerTold line end × LookersTold line ends

-- the last image of each seat of a line has this state of the line
abbrev pub EachTold : LineState → OwnerEnds → Type 0
EachTold line ends = SeatsTold line ends.by_task × LookersTold line ends.lookers
