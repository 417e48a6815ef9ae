use denote.Param.Send.{sendable}
use Rattle.std.proofs.Crossing.{crosses}
use Rattle.std.proofs.sync.atomic.AtomicBool.TheSendSync as atomic_bool
use Rattle.hc_conductor.proofs.lemmas.Crossing.{task_seat_send}
use Rattle.worked_conductor.proofs.working.work_eight.Goals as goal

pub join-requires-send-F : goal.join-requires-send-F
join-requires-send-F g c κs within = search (sendable, crosses, task_seat_send, atomic_bool.the_sync) depth 24
