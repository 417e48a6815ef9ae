use Rattle.std.proofs.Common.{rules, ◌∙◌, ap, arith, length, subst}
use Rattle.std.specs.Option.{option_copied}
use Rattle.hc_events.specs.Points.{line_of}
use Rattle.hc_mail.specs.Contents.{Room}
use Rattle.hc_c.specs.Pieces.{HaveLengths}
use Rattle.hc_c.proofs.Images.{slot-fits}
use Rattle.hc_c.proofs.Showing.{sizes-cons, slot_added}
use Rattle.hc_c.proofs.seat.showing.+add_slots.Goals as goal

pub add_slot-requires-clause-fits : goal.add_slot-requires-clause-fits
add_slot-requires-clause-fits t c =
    let history = c.args.core.now.history in
    let cut = c.in-Some.ensures.cases.0 in
    let few = ap length cut in
    let lengths = subst (HaveLengths (line_of history) c.args.task c.args.number) cut c.requires.lengths in
    slot-fits history c.args.task c.args.number c.from.result (option_copied c.steady_data-slot.result) (c.steady_data-slot.ensures.slot c.requires.task (omega (arith, few, c.requires.few))) (c.from.ensures ∙ lengths.0)

pub add_slots-requires : goal.add_slots-requires
add_slots-requires t c =
    let history = c.args.core.now.history in
    let cut = c.in-Some.ensures.cases.0 in
    let few = ap length cut in
    let lengths = subst (HaveLengths (line_of history) c.args.task c.args.number) cut c.requires.lengths in
    let slot = option_copied c.steady_data-slot.result in
    let fits = slot-fits history c.args.task c.args.number c.from.result slot (c.steady_data-slot.ensures.slot c.requires.task (omega (arith, few, c.requires.few))) (c.from.ensures ∙ lengths.0) in
    let sizes = sizes-cons c.args.datagrams.now c.in-Some.rest.now c.in-Some.first.now cut in
    let added = slot_added c.from.result slot c.steady_serial-serial.result c.args.images.now.own c.add_slot.new.images.own fits c.add_slot.ensures.own in
    let long = added.0 in let more = added.1 in let bytes = ap (λ (room : Room). room.0) added.2 in let datagrams = ap (λ (room : Room). room.1) added.2 in (
      search rules,
      (c.requires.task, (omega (arith, few, c.requires.few), (lengths.1, (omega (arith, long, bytes, sizes, c.from.ensures, c.requires.bytes), omega (arith, more, datagrams, few, c.requires.room))))),
    )
