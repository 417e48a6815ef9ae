use Rattle.std.proofs.Common.{ℕ, ◌<◌, ◌∙◌, length, sym, ap, ap₂, subst, arith}
use Rattle.hc_records.specs.Line.{line}
use Rattle.hc_segment.specs.Line.{frames_through, machines_after}
use Rattle.hc_places.specs.Table.{Table, datagrams_in}
use Rattle.hc_images.specs.Packed.{IsLaidOut, sent_bytes}
use Rattle.hc_images.proofs.lemmas.LaidOut.{line-laid_out}
use Rattle.hc_exchange.specs.Sent.{task_frames}
use Rattle.hc_registers.specs.Blocks.{line_blocks}
use Rattle.hc_exchange.specs.Carrying.{IsBitOfTask}
use Rattle.hc_exchange.specs.WritingLaws.{machines_written}
use Rattle.hc_exchange.proofs.Bare.{exchanged-alone}
use Rattle.hc_exchange.proofs.Joined.{joined}
use Rattle.hc_exchange.proofs.Packing.{can-configure, holds-in, lengths-sent, packed-data}
use Rattle.hc_exchange.proofs.Ready.{machines-of}
use Rattle.hc_exchange.proofs.lemmas.Asked.{programmed-carry}
use Rattle.hc_exchange.proofs.lemmas.Ready.{written-programmed}
use Rattle.hc_exchange.proofs.exchanging.exchange.Goals as goal

pub packed-requires : goal.packed-requires
packed-requires c =
    subst IsLaidOut (sym c.places-places.ensures.table) (line-laid_out c.args.plan.now c.places-places.ensures.project c.places-places.ensures.uncrowded)

pub frames_of-requires-clause-sizes : goal.frames_of-requires-clause-sizes
frames_of-requires-clause-sizes c d low =
    let state = c.args.plan.now in
    let places = c.places-places.ensures in
    let count = ap length (c.datagrams-count.ensures.datagrams ∙ ap (λ (t : Table). datagrams_in t c.args.task) places.table) in
    lengths-sent state c.args.task d c.args.outputs.now c.in_ok-packed.packed (can-configure state places.project places.uncrowded)
    (holds-in state c.args.task c.args.outputs.now c.in_ok-packed.packed c.places-places.result.now places.table c.in_ok-packed.ensures) (subst (λ (n : ℕ). d < n) count low)

pub returns-clause-sent : goal.returns-clause-sent
returns-clause-sent c =
    let state = c.args.plan.now in
    let task = c.args.task in
    let packed = c.in_ok-packed.packed in
    let places = c.places-places.ensures in
    let count = ap length (c.datagrams-count.ensures.datagrams ∙ ap (λ (t : Table). datagrams_in t task) places.table) in
    let frames = c.in_ok-frames.ensures ∙ ap₂ (λ (serial n : ℕ). task_frames serial task n (sent_bytes packed task)) (c.from.ensures ∙ c.blocks-2.ensures) count in
    record {
      bytes = sent_bytes packed task;
      packed = λ d low. packed-data state task d c.args.outputs.now packed (can-configure state places.project places.uncrowded)
          (holds-in state task c.args.outputs.now packed c.places-places.result.now places.table c.in_ok-packed.ensures) low;
      returned = c.send_all.ensures.frames ∙ ap₂ frames_through c.program.ensures frames;
      left = c.send_all.ensures.machines ∙ ap₂ machines_after c.program.ensures frames;
    }

pub returns-clause-meant : goal.returns-clause-meant
returns-clause-meant c can_be =
    let state = c.args.plan.now in
    let places = c.places-places.ensures in
    let can = can-configure state places.project places.uncrowded in
    let bytes = c.hold_bytes.ensures.bytes in
    let of_line = machines-of (line state) c.args.segment.now bytes c.hold_bytes.ensures.sizes can_be in
    let written = machines_written (line state) c.args.segment.now in
    joined state c.args.task (length (line_blocks (line state))) c.args.outputs.now c.args.segment.now _ c.send_all.new.segment can of_line
    (exchanged-alone state c.args.task (length (line_blocks (line state))) c.args.outputs.now written _ c.send_all.new.segment
    (record {
      can = can;
      few = omega (arith, c.blocks-2.type_inv, c.blocks-2.ensures);
      sent = returns-clause-sent c;
      carrying = programmed-carry (IsBitOfTask (line state) c.args.task) state written can (written-programmed state c.args.segment.now can of_line bytes);
    }))
