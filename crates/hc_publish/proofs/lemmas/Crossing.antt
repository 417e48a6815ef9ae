-- Threads may share a published copy, so a seat may go to a thread of its own. A caller that starts one cites it.
use denote.Param.Send.{IsSend, IsSync, recorded_send, sendable, struct_send}
use denote.Struct.Declared.{shape}
use Rattle.std.proofs.Crossing.{crosses}
use Rattle.left_right.proofs.reader.Reader.TheSendSync as reader
use Rattle.hc_publish.proofs.lemmas.ShownCrossing.{shown_sync}
use Rattle.hc_events.proofs.lemmas.Crossing.{good_answer_send}
use Rattle.hc_publish.proofs.publication_log.LogPrefix.TheSendSync as front
use Rattle.hc_publish.proofs.publisher.Note.TheSendSync as note
use Rattle.hc_publish.specs.contracts.copies.Copy as Copy
use Rattle.hc_publish.specs.contracts.publisher.Note as Note
use Rattle.hc_publish.specs.contracts.seat.Seat as Seat

copy_sync : IsSync Copy.the_row
copy_sync = search (sendable, crosses, shown_sync, front.the_sync, good_answer_send) depth 24

pub seat_field_send : IsSend (Seat.the_field).row
seat_field_send = struct_send (shape Seat.the_type) (search sendable, (search (sendable, crosses, reader.the_field_send, copy_sync) depth 24, (search (sendable, front.the_send), tt)))

pub seat_send : IsSend Seat.the_row
seat_send = recorded_send (Seat.the_field).row _ _ (Seat.the_type).to_one seat_field_send

-- and a note may go to that thread
pub note_field_send : IsSend (Note.the_field).row
note_field_send = note.the_field_send
