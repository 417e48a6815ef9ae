-- A master, as contracts see it: its conductor, and the seats of its tasks.
use Rattle.std.specs.Prelude.{◌≡◌, List, None, map, replicate}
use Rattle.std.specs.List.{range_with_len}
use Rattle.hc_records.specs.declared.limits.TheConstants.{TASKS}
use Rattle.hc_events.specs.declared.change.Change.{Change}
use Rattle.hc_events.specs.Entries.{History}
use Rattle.hc_publish.specs.ChangesSince.{ChangesSince}
use Rattle.hc_rings.specs.Post.{Post}
use Rattle.hc_conductor.specs.declared.seat.TaskSeat.{TaskSeat}
use Rattle.hc_conductor.specs.Conducting as conducting
use Rattle.hc_conductor.specs.Conducting.{Conducting, conductor_origin}
use Rattle.hc_conductor.specs.Seats.{seat_held, seat_known, task_seat_origin, sender, seat_task}
use Rattle.hc_conductor.specs.Together.{EachRing, LostNoBuffer, posts_waiting}

-- the conductor, and the seats in the order of their tasks
pub record Mastering : Type 0 where
  pub conductor : Conducting
  pub seats : List TaskSeat

-- the history of the core
abbrev pub master_history : Mastering → History
master_history m = conducting.core_history m.conductor

-- the changes that are published
abbrev pub master_published : Mastering → List Change
master_published m = conducting.conductor_published m.conductor

-- the state that is shown: the opened groups, with the published changes
abbrev pub master_shown : Mastering → ChangesSince
master_shown m = record { groups = (conductor_origin m.conductor).groups; changes = master_published m }

-- the posts of each task that wait to be taken, the oldest first
abbrev pub waiting : Mastering → List (List Post)
waiting m = posts_waiting (map sender m.seats) m.conductor.rings

-- the invariant of a master: seat i is task i's and this conductor's, knows exactly what is published, holds no outputs, and
-- has lost no buffer of its ring
pub record IsMastering (m : Mastering) : Type 0 where
  pub tasks : map seat_task m.seats ≡ range_with_len 0 TASKS
  pub known : map seat_known m.seats ≡ replicate TASKS (master_published m)
  pub origins : map task_seat_origin m.seats ≡ replicate TASKS (conductor_origin m.conductor)
  pub none_held : map seat_held m.seats ≡ replicate TASKS None
  pub whole : EachRing LostNoBuffer (map sender m.seats) m.conductor.rings

-- the shown state and the waiting posts are unchanged
abbrev pub SameTasks : Mastering → Mastering → Type 0
SameTasks old new = (master_shown new ≡ master_shown old) × (waiting new ≡ waiting old)
