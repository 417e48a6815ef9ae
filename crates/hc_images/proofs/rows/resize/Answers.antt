use Rattle.std.proofs.Common.{◌+◌, ◌<◌, ◌≤◌, ◌∙◌, ap, arith, length, refl, subst, sym}
use Rattle.std.proofs.lemmas.Option.{slice_get_read}
use Rattle.hc_images.specs.Pieces.{HasTaskRoom, byte_count}
use Rattle.hc_images.proofs.Growing.{next-start, own-room, start-grows}
use Rattle.hc_images.proofs.Resizing.{next-resized}
use Rattle.hc_images.proofs.rows.resize.Goals as goal

pub resize_task-requires-clause-room : goal.resize_task-requires-clause-room
resize_task-requires-clause-room c =
    let changed = c.args.changed.now in
    let n = c.loop-task.task-index in
    let own = c.loop-task-item.result in
    let there = slice_get_read changed (length changed) n own refl c.loop-task-test.true c.loop-task-item.is in
    let next = next-start n changed own there in
    let low : n < length changed = c.loop-task-test.true in
    let grows = start-grows (n + 1) (length changed) changed (omega (arith, low)) in
    let all = c.requires.room.all in
    let same = c.loop-task.invariant.size in
    let at = c.loop-task.invariant.at in
    omega (arith, all, same, at, next, grows)

pub resize_task-requires-clause-zeros : goal.resize_task-requires-clause-zeros
resize_task-requires-clause-zeros c =
    let changed = c.args.changed.now in
    let n = c.loop-task.task-index in
    let own = c.loop-task-item.result in
    let there = slice_get_read changed (length changed) n own refl c.loop-task-test.true c.loop-task-item.is in
    let at = c.loop-task.invariant.at in
    subst (λ start. HasTaskRoom (byte_count c.loop-task.rows) own.0 own.1 start c.loop-task.room) (sym at)
    (own-room n changed own c.args.rows.now c.loop-task.rows c.args.room.now c.loop-task.room there c.loop-task-test.true c.requires.ascends c.requires.room
    c.loop-task.invariant.each
    (λ m later. c.loop-task.invariant.rest m (omega (arith, at, later))))

pub loop-task-preserved : goal.loop-task-preserved
loop-task-preserved c =
    let changed = c.args.changed.now in
    let n = c.loop-task.task-index in
    let own = c.loop-task-item.result in
    let there = slice_get_read changed (length changed) n own refl c.loop-task-test.true c.loop-task-item.is in
    let next = next-start n changed own there in
    let at = c.loop-task.invariant.at in
    let count = ap length c.datagrams.ensures.datagrams in
    record {
      at = omega (arith, at, next, count);
      each =
          next-resized n changed own c.args.rows.now c.loop-task.rows c.resize_task.new.rows there c.requires.ascends c.loop-task.invariant.each c.resize_task.ensures.resizes;
      rest = λ m later. c.resize_task.ensures.rest m (omega (arith, later, count)) ∙ c.loop-task.invariant.rest m (omega arith);
      size = c.resize_task.ensures.size ∙ c.loop-task.invariant.size;
    }
