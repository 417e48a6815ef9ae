-- The seat of a task, as clauses see it.
use Rattle.std.specs.Prelude.{◌≡◌, ℕ, List, Option}
use Rattle.hc_events.specs.declared.change.Change.{Change}
use Rattle.hc_publish.specs.declared.seat.Seat.{Seat}
use Rattle.hc_publish.specs.Seats as inner
use Rattle.hc_publish.specs.Stories.{Origin}
use Rattle.hc_rings.specs.declared.posts.PostSender.{PostSender}
use Rattle.hc_rings.specs.Post.{Post}
use Rattle.hc_rings.specs.Ring as ring
use Rattle.hc_conductor.specs.declared.seat.TaskSeat.{TaskSeat}
use Rattle.hc_conductor.specs.declared.viewer.Viewer.{Viewer}

-- a seat at the published copies, with the epoch that it viewed last and the bytes of its task's outputs in that epoch
abbrev pub viewer_of : TaskSeat → Viewer
viewer_of s = s.viewer

-- the seat at the published copies
abbrev pub seat_of : TaskSeat → Seat
seat_of s = s.viewer.seat

-- the longest list that it saw or learnt
abbrev pub seat_known : TaskSeat → List Change
seat_known s = inner.known (seat_of s)

-- the conductor that a seat belongs to
abbrev pub task_seat_origin : TaskSeat → Origin
task_seat_origin s = inner.seat_origin (seat_of s)

-- the task of a seat
abbrev pub seat_task : TaskSeat → ℕ
seat_task s = (seat_of s).task

-- the epoch that a seat viewed last, 0 before any view
abbrev pub seat_epoch : TaskSeat → ℕ
seat_epoch s = s.viewer.epoch

-- the bytes of the task's outputs in the epoch that was viewed last, in the opening's before any view
abbrev pub outputs_size : TaskSeat → ℕ
outputs_size s = s.viewer.size

-- a seat's end of the ring of its posts
abbrev pub sender : TaskSeat → PostSender
sender s = s.posts

-- every post of a seat, oldest first
abbrev pub seat_posted : TaskSeat → List Post
seat_posted s = ring.posted s.posts

-- the outputs that a seat holds for its next post, as they are now
abbrev pub seat_held : TaskSeat → Option Post
seat_held s = ring.held s.posts

-- each buffer that the ring handed out was posted or is held; this holds for every seat that was opened
abbrev pub SeatPostsEach : TaskSeat → Type 0
SeatPostsEach s = ring.PostsEach s.posts

-- posts and held outputs of a seat are unchanged, and so is what it viewed last
abbrev pub SamePosts : TaskSeat → TaskSeat → Type 0
SamePosts s t = (sender t ≡ sender s) × (seat_epoch t ≡ seat_epoch s) × (outputs_size t ≡ outputs_size s)
