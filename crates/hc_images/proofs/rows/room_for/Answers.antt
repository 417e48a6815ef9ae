use Rattle.std.proofs.Common.{length, refl}
use Rattle.std.proofs.lemmas.Option.{slice_get_read}
use Rattle.hc_images.specs.Packed.{length_in}
use Rattle.hc_images.proofs.Growing.{next-room}
use Rattle.hc_images.proofs.rows.room_for.Goals as goal

pub loop-task-preserved : goal.loop-task-preserved
loop-task-preserved c =
    let changed = c.args.changed.now in
    let n = c.loop-task.task-index in
    let own = c.loop-task-item.result in
    next-room n (length_in c.args.places.now) changed own c.loop-task.room.items c.push_room.new.room.items
    (slice_get_read changed (length changed) n own refl c.loop-task-test.true c.loop-task-item.is) c.loop-task.invariant c.in_ok-push_room.ensures
