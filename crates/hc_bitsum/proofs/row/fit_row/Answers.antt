use Rattle.std.proofs.Common.{◌+◌, ◌<◌, drop, get_or, length, ap, sym, ◌∙◌, arith}
use Rattle.std.proofs.Math.ListN.{drop_of_length-le}
use Rattle.hc_bitsum.specs.declared.row.Fit.TheVariants.{Found}
use Rattle.hc_records.specs.TaskList.{Keyed}
use Rattle.hc_bitsum.specs.Rows.{row_areas}
use Rattle.hc_bitsum.specs.Search.{scan}
use Rattle.hc_bitsum.specs.Slots.{key_at}
use Rattle.hc_bitsum.proofs.Parts.{length-row}
use Rattle.hc_bitsum.proofs.Run.{row-drop, scan-in, scan-out}
use Rattle.hc_bitsum.proofs.row.fit_row.Goals as goal

pub returns-then-end-room-clause-fit : goal.returns-then-end-room-clause-fit
returns-then-end-room-clause-fit g c =
    let row = c.args.row.now in
    let i = c.loop-area.area in
    let inside : i < length row = let many = c.requires.row.many in let less = c.loop-area-test.true in omega arith in
    let area : Keyed = (key_at c.args.dir (c.args.place + i), get_or row i 0) in
    let out = scan-out c.args.room c.loop-area.so_far c.after_area-end.result area (drop (i + 1) (row_areas c.args.dir c.args.place row))
    (c.after_area-end.ensures (c.args.place + i)) c.if-end-room.true in
    ap Found c.key_at.ensures ∙ sym (ap (scan c.args.room c.loop-area.so_far) (row-drop c.args.dir c.args.place i row inside) ∙ out) ∙ c.loop-area.invariant.fit

pub loop-area-preserved : goal.loop-area-preserved
loop-area-preserved g c =
    let row = c.args.row.now in
    let i = c.loop-area.area in
    let inside : i < length row = let many = c.requires.row.many in let less = c.loop-area-test.true in omega arith in
    let area : Keyed = (key_at c.args.dir (c.args.place + i), get_or row i 0) in
    let within = scan-in c.args.room c.loop-area.so_far c.after_area-end.result area (drop (i + 1) (row_areas c.args.dir c.args.place row))
    (c.after_area-end.ensures (c.args.place + i)) c.if-end-room.false in
    record {
      fit = sym (ap (scan c.args.room c.loop-area.so_far) (row-drop c.args.dir c.args.place i row inside) ∙ within) ∙ c.loop-area.invariant.fit;
      here = c.if-end-room.false;
      count = let tick = c.tick.ensures in let count = c.loop-area.invariant.count in omega arith;
    }

pub returns-clause-fit : goal.returns-clause-fit
returns-clause-fit g c = grind (arith, length-row, drop_of_length-le)
