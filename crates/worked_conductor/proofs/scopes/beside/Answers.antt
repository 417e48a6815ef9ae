use denote.Param.Send.{sendable}
use Rattle.hc_conductor.proofs.lemmas.Crossing.{task_seat_field_send}
use Rattle.worked_conductor.proofs.scopes.beside.Goals as goal

pub join-requires-send-F : goal.join-requires-send-F
join-requires-send-F g c κs within = search (sendable, task_seat_field_send) depth 12

pub join-requires-send-A : goal.join-requires-send-A
join-requires-send-A g c κs within = search (sendable, task_seat_field_send) depth 12
