-- A task's seat may go to a thread of its own. A caller that starts one cites it.
use denote.Param.Send.{IsSend, recorded_send, sendable, struct_send}
use denote.Struct.Declared.{shape}
use Rattle.hc_publish.proofs.lemmas.Crossing.{seat_field_send}
use Rattle.hc_rings.proofs.lemmas.Crossing.{post_sender_field_send}
use Rattle.hc_conductor.specs.contracts.seat.TaskSeat as TaskSeat
use Rattle.hc_conductor.specs.contracts.viewer.Viewer as Viewer

viewer_field_send : IsSend (Viewer.the_field).row
viewer_field_send = struct_send (shape Viewer.the_type) (seat_field_send, (search sendable, (search sendable, tt)))

pub task_seat_field_send : IsSend (TaskSeat.the_field).row
task_seat_field_send = struct_send (shape TaskSeat.the_type) (viewer_field_send, (post_sender_field_send, tt))

pub task_seat_send : IsSend TaskSeat.the_row
task_seat_send = recorded_send (TaskSeat.the_field).row _ _ (TaskSeat.the_type).to_one task_seat_field_send
