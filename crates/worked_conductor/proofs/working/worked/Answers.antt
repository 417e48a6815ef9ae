use denote.Param.Send.{sendable}
use Rattle.hc_conductor.proofs.lemmas.Crossing.{task_seat_send}
use Rattle.worked_conductor.proofs.working.worked.Goals as goal

pub map_vec-requires-send-J : goal.map_vec-requires-send-J
map_vec-requires-send-J g c κs within = search (sendable, task_seat_send) depth 12
