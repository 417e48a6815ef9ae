use denote.Param.Send.{sendable}
use Rattle.hc_conductor.proofs.lemmas.Crossing.{task_seat_send}
use Rattle.hc_publish.proofs.lemmas.Crossing.{note_field_send}
use Rattle.worked_conductor.proofs.scopes.both_learned.Goals as goal

pub join-shown-requires-send-F : goal.join-shown-requires-send-F
join-shown-requires-send-F g c κs within = search (sendable, task_seat_send, note_field_send) depth 12
