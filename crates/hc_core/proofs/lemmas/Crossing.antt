-- A core may go to another thread between two calls, and threads may share it.
use denote.Param.Send.{IsSend, IsSync, recorded_send, recorded_sync, sendable, struct_send, struct_sync}
use denote.Struct.Declared.{shape}
use Rattle.std.proofs.Crossing.{crosses}
use Rattle.hc_plan.specs.contracts.plan.Plan as Plan
use Rattle.hc_sendings.specs.contracts.awaited.Awaited as Awaited
use Rattle.hc_sendings.specs.contracts.write_frames.WriteFrame as WriteFrame
use Rattle.hc_core.specs.contracts.keeping.Core as Core
use Rattle.hc_core.specs.contracts.keeping.Core.TheInside as Inside

plan_send : IsSend (Plan.the_field).row
plan_send = search (sendable, crosses) depth 400 fits 100000

awaited_send : IsSend (Awaited.the_field).row
awaited_send = search (sendable, crosses) depth 400 fits 100000

write_frame_send : IsSend (WriteFrame.the_field).row
write_frame_send = search (sendable, crosses) depth 400 fits 100000

inside_field_send : IsSend (Inside.the_field).row
inside_field_send = struct_send (shape Inside.the_type) (plan_send, (search sendable, (awaited_send, (search (sendable, crosses) depth 400 fits 100000, (search (sendable, crosses) depth 400 fits 100000, (search (sendable, crosses) depth 400 fits 100000, (search (sendable, crosses) depth 400 fits 100000, (search (sendable, crosses) depth 400 fits 100000, (search (sendable, crosses) depth 400 fits 100000, (search (sendable, crosses) depth 400 fits 100000, (search (sendable, crosses) depth 400 fits 100000, (search (sendable, crosses) depth 400 fits 100000, (search (sendable, crosses) depth 400 fits 100000, (write_frame_send, (search (sendable, crosses) depth 400 fits 100000, (search (sendable, crosses) depth 400 fits 100000, tt))))))))))))))))

inside_send : IsSend Inside.the_row
inside_send = recorded_send (Inside.the_field).row _ _ (Inside.the_type).to_one inside_field_send

pub core_send : IsSend Core.the_row
core_send = search (sendable, inside_send) depth 20

pub core_field_send : IsSend (Core.the_field).row
core_field_send = search (sendable, core_send) depth 20

-- the parts that threads may share

plan_sync : IsSync (Plan.the_field).row
plan_sync = search (sendable, crosses) depth 400 fits 100000

awaited_sync : IsSync (Awaited.the_field).row
awaited_sync = search (sendable, crosses) depth 400 fits 100000

write_frame_sync : IsSync (WriteFrame.the_field).row
write_frame_sync = search (sendable, crosses) depth 400 fits 100000

inside_field_sync : IsSync (Inside.the_field).row
inside_field_sync = struct_sync (shape Inside.the_type) (plan_sync, (search sendable, (awaited_sync, (search (sendable, crosses) depth 400 fits 100000, (search (sendable, crosses) depth 400 fits 100000, (search (sendable, crosses) depth 400 fits 100000, (search (sendable, crosses) depth 400 fits 100000, (search (sendable, crosses) depth 400 fits 100000, (search (sendable, crosses) depth 400 fits 100000, (search (sendable, crosses) depth 400 fits 100000, (search (sendable, crosses) depth 400 fits 100000, (search (sendable, crosses) depth 400 fits 100000, (search (sendable, crosses) depth 400 fits 100000, (write_frame_sync, (search (sendable, crosses) depth 400 fits 100000, (search (sendable, crosses) depth 400 fits 100000, tt))))))))))))))))

inside_sync : IsSync Inside.the_row
inside_sync = recorded_sync (Inside.the_field).row _ _ (Inside.the_type).to_one inside_field_sync

pub core_sync : IsSync Core.the_row
core_sync = search (sendable, inside_sync) depth 20

pub core_field_sync : IsSync (Core.the_field).row
core_field_sync = search (sendable, core_sync) depth 20
