-- The first seat of those that were opened.
use Rattle.std.proofs.Common.{◌≡◌, All, List, ◌∷◌, map, subst}
use Rattle.std.proofs.lemmas.List.Elements.{All-head, All-tail}
use Rattle.hc_publish.specs.Seats.{SeatIsAtOpening}
use Rattle.hc_publish.specs.Stories.{Origin}
use Rattle.hc_conductor.specs.Seats.{seat_of, task_seat_origin}
use Rattle.hc_conductor.specs.declared.seat.TaskSeat.{TaskSeat}

pub first-origin : (origin : Origin) (seats rest : List TaskSeat) (first : TaskSeat) → All (SeatIsAtOpening origin) (map seat_of seats) → seats ≡ first ∷ rest → task_seat_origin first ≡ origin
first-origin origin seats rest first fresh e =
    (All-head (SeatIsAtOpening origin) (seat_of first) (map seat_of rest) (subst (λ (ss : List TaskSeat). All (SeatIsAtOpening origin) (map seat_of ss)) e fresh)).1

pub second-origin : (origin : Origin) (seats rest : List TaskSeat) (first second : TaskSeat) → All (SeatIsAtOpening origin) (map seat_of seats) → seats ≡ first ∷ second ∷ rest → task_seat_origin second ≡ origin
second-origin origin seats rest first second fresh e =
    (All-head (SeatIsAtOpening origin) (seat_of second) (map seat_of rest) (All-tail (SeatIsAtOpening origin) (seat_of first) (map seat_of (second ∷ rest)) (subst (λ (ss : List TaskSeat). All (SeatIsAtOpening origin) (map seat_of ss)) e fresh))).1
