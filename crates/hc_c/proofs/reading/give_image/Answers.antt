use Rattle.std.proofs.Common.{◌∙◌, List, ap, length, subst, sym}
use Rattle.hc_places.specs.declared.table.Datagram.{Datagram}
use Rattle.hc_c.specs.Reads.{HoldsImage, datagrams_of, fit_number, image_size}
use Rattle.hc_c.proofs.Images.{listed-here, listed-lengths, read-numbered}
use Rattle.hc_c.proofs.reading.give_image.Goals as goal

pub give_slots-requires-clause-lengths : goal.give_slots-requires-clause-lengths
give_slots-requires-clause-lengths c =
    listed-lengths c.args.core.now.history c.plan.result.now c.places.result.now c.args.task c.datagrams-datagrams.result.now c.plan.ensures.state c.places.ensures.project c.places.ensures.table c.datagrams-datagrams.ensures.datagrams

pub returns-clause-number : goal.returns-clause-number
returns-clause-number c =
    let here = listed-here c.args.core.now.history c.plan.result.now c.places.result.now c.args.task c.datagrams-datagrams.result.now c.plan.ensures.state c.places.ensures.table c.datagrams-datagrams.ensures.datagrams in
    c.give_slots.ensures.number ∙ ap (λ (all : List Datagram). fit_number (image_size all) (length c.args.out.now)) here
    ∙ sym (read-numbered c.args.core.now.history c.args.task (image_size (datagrams_of c.args.core.now.history c.args.task)) (length c.args.out.now) c.if-task-ge-TASKS.false)

pub returns-clause-image : goal.returns-clause-image
returns-clause-image c done =
    let here = listed-here c.args.core.now.history c.plan.result.now c.places.result.now c.args.task c.datagrams-datagrams.result.now c.plan.ensures.state c.places.ensures.table c.datagrams-datagrams.ensures.datagrams in
    subst (λ (all : List Datagram). HoldsImage c.args.core.now.history c.args.task all c.args.first c.give_slots.new.image c.args.out.now c.give_slots.new.out c.args.serials.now c.give_slots.new.serials) here (c.give_slots.ensures.image done)
