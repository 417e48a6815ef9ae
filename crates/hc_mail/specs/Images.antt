-- The images of a task, as contents of a mailbox.
use Rattle.std.specs.Prelude.{ℕ, false, List, [], ◌∷◌, ◌++◌, Option, None, Some, replicate}
use Rattle.std.specs.Global.{Global}
use Rattle.std.specs.declared.vec.Vec.{Vec}
use Rattle.hc_mail.specs.Contents.{Kind, Room}
use Rattle.hc_mail.specs.Ends.{Place}
use Rattle.hc_mail.specs.declared.image.ImageHead.{ImageHead}
use Rattle.hc_mail.specs.declared.image.LineState.TheVariants as line

-- the image of a task: its head, the data of its datagrams, the serial that the data of each answer (none if it has no data),
-- the task's outputs, and the capacity
pub record Image : Type 0 where
  pub head : ImageHead
  pub bytes : List ℕ
  pub serials : List (Option ℕ)
  pub outputs : List ℕ
  pub room : Room

-- an image with this head, without a datagram
abbrev pub begun : ImageHead → Room → Image
begun head room = record { head = head; bytes = []; serials = []; outputs = []; room = room }

-- the head of a blank image: of epoch 0 on an open line, without a sending and a post
abbrev pub blank_head : ImageHead
blank_head = record { epoch = 0; task_epoch = 0; first_serial = 0; taken = 0; is_refused = false; line = line.Open }

-- the blank image, which a task sees before an image was sent
abbrev pub blank_image : Room → Image
blank_image = begun blank_head

-- images as contents of a mailbox
abbrev pub image_kind : Kind Image
image_kind = record { room = λ image. image.room; blank = blank_image }

-- an image with one more datagram, whose data answer the sending with a serial
abbrev pub with_data : List ℕ → ℕ → Image → Image
with_data bytes serial image = record image { bytes = image.bytes ++ bytes; serials = image.serials ++ Some serial ∷ [] }

-- an image with one more datagram, which has no data: `size` zeros
abbrev pub with_zeros : ℕ → Image → Image
with_zeros size image = record image { bytes = image.bytes ++ replicate size 0; serials = image.serials ++ None ∷ [] }

-- an image with more outputs
abbrev pub with_outputs : List ℕ → Image → Image
with_outputs outputs image = record image { outputs = image.outputs ++ outputs }

-- an image, and the memory that begins with its data
pub record LentImage : Type 0 where
  pub image : Image
  pub memory : Vec ℕ Global

-- the receiver of images: its place at the table, without the slot in hand, the mailbox's capacity, and the memory that begins
-- with the data of the newest image
pub record ImageEnd : Type 0 where
  pub place : Place Image
  pub room : Room
  pub memory : Vec ℕ Global
