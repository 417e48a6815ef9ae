-- Seats that learn what their conductor published.
use Rattle.std.specs.Prelude.{◌≡◌, List, [], ◌∷◌}
use mathlib.Core.List.{IsPrefix}
use Rattle.hc_conductor.specs.declared.seat.TaskSeat.{TaskSeat}
use Rattle.hc_conductor.specs.Conducting.{Conducting, conductor_origin, conductor_published}
use Rattle.hc_conductor.specs.Seats.{seat_known, task_seat_origin}

-- each seat is of this conductor, and knows a beginning of what is published
abbrev pub CanLearn : Conducting → List TaskSeat → Type 0
CanLearn c [] = Unit {0}
CanLearn c (s ∷ ss) = (task_seat_origin s ≡ conductor_origin c) × IsPrefix (seat_known s) (conductor_published c) × CanLearn c ss
