use Rattle.std.proofs.Common.{◌≡◌, ◌≤◌, map, vec_len, vec_capacity}
use Rattle.std.specs.List.{All, range_with_len}
use Rattle.hc_records.specs.declared.limits.TheConstants.{TASKS}
use Rattle.hc_publish.specs.PublishedState.{origin_of}
use Rattle.hc_publish.specs.Published.{AreSame}
use Rattle.hc_publish.specs.Seats.{SeatIsAtOpening, task_of}
use Rattle.hc_publish.proofs.opening.open.Given as goal

abbrev pub invariant-loop-task : goal.invariant-loop-task
invariant-loop-task g l =
    AreSame l.initial.publisher l.publisher × (map task_of l.seats.items ≡ range_with_len 0 l.task) × All (SeatIsAtOpening (origin_of l.initial.publisher)) l.seats.items
    × (vec_len l.seats ≡ l.task) × (TASKS ≤ vec_capacity l.seats)
