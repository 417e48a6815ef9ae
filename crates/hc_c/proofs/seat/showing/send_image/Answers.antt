use Rattle.std.proofs.Common.{◌∙◌, List, [], ◌∷◌, ◌++◌, ap, arith, length, sym}
use Rattle.hc_records.specs.Image.{datagram_count, task_places}
use Rattle.hc_records.specs.Line.{State, line}
use Rattle.hc_places.specs.Table.{Table, datagrams_in}
use Rattle.hc_sendings.proofs.lemmas.Listed.{listed-count}
use Rattle.hc_mail.specs.Ends.{Place, reported, seen}
use Rattle.hc_mail.specs.Contents.{Room}
use Rattle.hc_mail.specs.Images.{Image}
use Rattle.hc_c.proofs.Images.{listed-here, listed-lengths}
use Rattle.hc_c.proofs.Showing.{shown_image, sizes-most}
use Rattle.hc_c.proofs.seat.showing.send_image.Goals as goal

pub add_slots-requires-clause-lengths : goal.add_slots-requires-clause-lengths
add_slots-requires-clause-lengths c =
    listed-lengths c.args.core.now.history c.plan-plan.result.now c.places-places.result.now c.args.task c.datagrams-datagrams.result.now c.plan-plan.ensures.state c.places-places.ensures.project c.places-places.ensures.table c.datagrams-datagrams.ensures.datagrams

pub add_slots-requires-clause-bytes : goal.add_slots-requires-clause-bytes
add_slots-requires-clause-bytes c =
    let own = c.begin.ensures.own in
    let none = ap (λ (image : Image). length image.bytes) own in
    let room = ap (λ (image : Image). image.room.0) own in
    let roomy = ap (λ (it : Room). it.0) c.requires.room in
    let most = sizes-most c.datagrams-datagrams.result.now c.datagrams-datagrams.ensures.ranges in
    omega (arith, none, room, roomy, most, c.datagrams-datagrams.ensures.few)

pub add_outputs-requires-clause-count : goal.add_outputs-requires-clause-count
add_outputs-requires-clause-count c =
    let plan = c.plan-plan.result.now in
    let are = c.datagrams-datagrams.ensures.datagrams ∙ ap (λ (it : Table). datagrams_in it c.args.task) c.places-places.ensures.table in
    let count = listed-count plan c.args.task c.datagrams-datagrams.result.now c.places-places.ensures.project are in
    let here = ap (λ (state : State). datagram_count (task_places c.args.task (line state))) c.plan-plan.ensures.state in
    omega (arith, count, here)

pub add_outputs-requires-clause-lengths : goal.add_outputs-requires-clause-lengths
add_outputs-requires-clause-lengths c =
    listed-lengths c.args.core.now.history c.plan-plan.result.now c.places-places.result.now c.args.task c.datagrams-datagrams.result.now c.plan-plan.ensures.state c.places-places.ensures.project c.places-places.ensures.table c.datagrams-datagrams.ensures.datagrams

pub add_outputs-requires-clause-room : goal.add_outputs-requires-clause-room
add_outputs-requires-clause-room c =
    let own = c.begin.ensures.own in
    let slots = c.add_slots.ensures.own in
    let none = ap (λ (image : Image). length image.outputs) slots ∙ ap (λ (image : Image). length image.outputs) own in
    let room = ap (λ (image : Image). image.room.0) slots ∙ ap (λ (image : Image). image.room.0) own in
    let roomy = ap (λ (it : Room). it.0) c.requires.room in
    let most = sizes-most c.datagrams-datagrams.result.now c.datagrams-datagrams.ensures.ranges in
    omega (arith, none, room, roomy, most, c.datagrams-datagrams.ensures.few)

pub returns : goal.returns
returns c =
    let history = c.args.core.now.history in
    let old = c.args.images.now in
    let here = listed-here history c.plan-plan.result.now c.places-places.result.now c.args.task c.datagrams-datagrams.result.now c.plan-plan.ensures.state c.places-places.ensures.table c.datagrams-datagrams.ensures.datagrams in
    let image = shown_image history c.args.task c.from.result c.args.head c.datagrams-datagrams.result.now old.own.room c.begin.new.self.own c.add_slots.new.images.own c.add_outputs.new.images.own
    c.begin.ensures.own c.add_slots.ensures.own c.add_outputs.ensures.own here (c.from.ensures ∙ ap (λ part. part.0) c.part_at-outputs.ensures) c.requires.room in
    let place = c.add_outputs.ensures.unsent ∙ c.add_slots.ensures.unsent ∙ c.begin.ensures.unchanged in
    let table = c.send.ensures.table in record {
      shown = c.send.ensures.sent ∙ ap (λ (l : List Image). l ++ c.add_outputs.new.images.own ∷ []) (ap seen place) ∙ ap (λ (it : Image). seen old.place ++ it ∷ []) image;
      reported = table.1 ∙ ap reported place;
      one_mail = table.0 ∙ ap (λ (it : Place Image). it.table_id) place;
      roomy = c.send.ensures.room ∙ ap (λ (it : Image). it.room) image ∙ sym c.requires.room;
    }
