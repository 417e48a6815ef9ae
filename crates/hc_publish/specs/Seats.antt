-- Seats and notes, as clauses see them.
use Rattle.std.specs.Prelude.{◌≡◌, ℕ, List, []}
use Rattle.hc_events.specs.declared.change.Change.{Change}
use Rattle.hc_publish.specs.declared.publisher.Note.{Note}
use Rattle.hc_publish.specs.declared.seat.Seat.{Seat}
use Rattle.hc_publish.specs.PublicationLog.{TheSeen, top}
use Rattle.hc_publish.specs.Stories.{Origin}

-- the publisher that a prefix belongs to
abbrev pub front_origin : TheSeen → Origin
front_origin f = record { publication_log = f.book; groups = (top f.log).groups }

-- the longest list that the seat saw or learnt
abbrev pub known : Seat → List Change
known s = (top s.front.log).changes

-- the list that was published when the note was made
abbrev pub noted_changes : Note → List Change
noted_changes n = (top n.front.log).changes

-- the publisher that a seat belongs to
abbrev pub seat_origin : Seat → Origin
seat_origin s = front_origin s.front

-- the publisher that made a note
abbrev pub note_origin : Note → Origin
note_origin n = front_origin n.front

-- the task of a seat
abbrev pub task_of : Seat → ℕ
task_of s = s.task

-- the seat belongs to this publisher, and has seen or learnt nothing yet
abbrev pub SeatIsAtOpening : Origin → Seat → Type 0
SeatIsAtOpening origin s = (known s ≡ []) × (seat_origin s ≡ origin)
