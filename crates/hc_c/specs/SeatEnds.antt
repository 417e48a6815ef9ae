-- Tasks with a seat.
use Rattle.std.specs.Prelude.{ℕ, Bool, List, Option, drop, is_some}
use Rattle.std.specs.List.{list_any}

-- some task from this one on has the end of a seat
abbrev pub has_seat_from : {X : Type 0} → ℕ → List (Option X) → Bool
has_seat_from task ends = list_any is_some (drop task ends)
