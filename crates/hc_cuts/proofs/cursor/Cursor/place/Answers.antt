use Rattle.std.proofs.Common.{sym, ◌∙◌, arith}
use Rattle.hc_records.specs.Packing.{empty_front}
use Rattle.hc_cuts.proofs.Cursors.{GoesOn, goes-on}
use Rattle.hc_cuts.proofs.Placed.{none-found}
use Rattle.hc_cuts.proofs.cursor.Cursor.place.Goals as goal

pub returns-then-bits-eq0-clause-place : goal.returns-then-bits-eq0-clause-place
returns-then-bits-eq0-clause-place c =
    sym (none-found c.args.key empty_front c.args.task.now.list c.requires.holds.list.packable (sym c.bits-bits.ensures.width ∙ c.if-bits-eq0.true))

pub filled-requires : goal.filled-requires
filled-requires c =
    let on : GoesOn c.args.task.now c.args.starts.now c.before-from.result.datagram c.filled_between-filled.result c.args.key c.bits-bits.result =
    goes-on c.args.task.now c.args.starts.now c.before-from.result c.args.key c.bits-bits.result c.filled_between-filled.result c.requires.holds c.requires.all
    (c.before-from.ensures.in_task c.args.task.now.list c.requires.stood) c.before-from.ensures.low c.before-from.ensures.next (sym c.bits-bits.ensures.width) (omega arith)
    c.filled_between-filled.ensures in
    on.cursor.low

pub returns : goal.returns
returns c =
    let on : GoesOn c.args.task.now c.args.starts.now c.before-from.result.datagram c.filled_between-filled.result c.args.key c.bits-bits.result =
    goes-on c.args.task.now c.args.starts.now c.before-from.result c.args.key c.bits-bits.result c.filled_between-filled.result c.requires.holds c.requires.all
    (c.before-from.ensures.in_task c.args.task.now.list c.requires.stood) c.before-from.ensures.low c.before-from.ensures.next (sym c.bits-bits.ensures.width) (omega arith)
    c.filled_between-filled.ensures in
    record {
      place = rw (c.place.ensures, c.filled.ensures) (sym on.area.place);
      in_task = on.cursor;
    }
