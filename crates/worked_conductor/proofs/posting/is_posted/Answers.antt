use Rattle.std.proofs.Common.{Err, Ok}
use Rattle.std.specs.Prelude.{IsSome, OnErr, OnOk, Result}
use Rattle.hc_rings.specs.Post.{Post}
use Rattle.hc_rings.specs.Ring.{SameSender}
use Rattle.hc_rings.proofs.lemmas.Same.{sender-still}
use Rattle.hc_conductor.specs.Outputs.{HoldsNone, HoldsOutputs, blank_outputs}
use Rattle.hc_conductor.specs.Seats.{seat_held, sender}
use Rattle.hc_conductor.specs.declared.seat.TaskSeat.{TaskSeat}
use Rattle.worked_conductor.proofs.posting.is_posted.Goals as goal

-- outputs are held or not: the seat has the same end of its ring
same-ring : {A E : Type 0} (found : Result A E) (old new : TaskSeat) (post : Post) → OnOk found (HoldsOutputs old new post × IsSome (seat_held new)) → OnErr found (HoldsNone old new) → SameSender (sender old) (sender new)
same-ring (Ok x) old new post holds none = holds.0.1.0
same-ring (Err e) old new post holds none = none.1.0

pub returns-clause-ring : goal.returns-clause-ring
returns-clause-ring c =
    let hold = same-ring c.hold.result c.args.seat.now c.hold.new.self (blank_outputs c.args.seat.now) c.hold.ensures.held c.hold.ensures.none_held in
    sender-still (sender c.args.seat.now) (sender c.hold.new.self) (sender c.post.new.self) hold c.post.ensures.ring
