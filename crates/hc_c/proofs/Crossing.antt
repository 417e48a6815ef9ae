-- An opened line may go to another thread between two calls.
use denote.Param.Send.{IsSend, recorded_send, sendable, struct_send}
use denote.Struct.Declared.{shape}
use Rattle.std.proofs.Crossing.{crosses}
use Rattle.hc_core.proofs.lemmas.Crossing.{core_field_send}
use Rattle.hc_c.specs.contracts.embedded.Embedded as Line
use Rattle.hc_c.proofs.seat.ends.OwnerEnds.TheSendSync as ends

line_field_send : IsSend (Line.the_field).row
line_field_send = struct_send (shape Line.the_type) (core_field_send, (search (sendable, crosses) depth 400 fits 100000, (search (sendable, crosses) depth 400 fits 100000, (ends.the_field_send, (search (sendable, crosses) depth 400 fits 100000, (search (sendable, crosses) depth 400 fits 100000, tt))))))

pub line_send : IsSend Line.the_row
line_send = recorded_send (Line.the_field).row _ _ (Line.the_type).to_one line_field_send
