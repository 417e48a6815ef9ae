use Rattle.std.proofs.Common.{List, map, subst, sym}
use Rattle.hc_conductor.specs.declared.seat.TaskSeat.{TaskSeat}
use Rattle.hc_conductor.specs.Seats.{sender}
use Rattle.hc_conductor.specs.Together.{AreJoined, EachRing}
use Rattle.hc_conductor.proofs.lemmas.Joined.{whole-joined}
use Rattle.worked_conductor.proofs.joined.all_taken_on_axis.Goals as goal

pub all_taken-joined-requires : goal.all_taken-joined-requires
all_taken-joined-requires g c =
    subst (λ (seats : List TaskSeat). EachRing AreJoined (map sender seats) c.in_ok-conductor.conductor.rings) (sym c.deref_mut.ensures.value)
    (whole-joined (map sender c.in_ok-conductor.seats.items) c.in_ok-conductor.conductor.rings c.in_ok-conductor.ensures)
