use Rattle.std.proofs.Common.{rules, ◌∙◌, ◌++◌, List, ℕ, ◌+◌, ap, arith, length, subst, sym, take}
use Rattle.std.proofs.lemmas.List.{length-append}
use Rattle.hc_events.specs.Points.{line_of}
use Rattle.hc_events.proofs.lemmas.SentBits.{sent-data}
use Rattle.hc_mail.specs.Images.{Image, with_outputs}
use Rattle.hc_c.specs.Pieces.{HaveLengths}
use Rattle.hc_c.specs.SeatImages.{sent_from}
use Rattle.hc_c.proofs.Showing.{outputs_joined, sizes-cons, take_short}
use Rattle.hc_c.proofs.seat.showing.+add_outputs.Goals as goal

pub add_outputs-requires : goal.add_outputs-requires
add_outputs-requires t c =
    let args = c.args in
    let history = args.core.now.history in
    let cut = c.in-Some.ensures.cases.0 in
    let own = (subst (HaveLengths (line_of history) args.task args.number) cut c.requires.lengths).0 in
    let long = ap length c.outputs-sent.ensures ∙ (sent-data history args.task args.number).size in
    let sizes = sizes-cons args.datagrams.now c.in-Some.rest.now c.in-Some.field-0-0.now cut in
    let short = take_short args.size c.outputs-sent.result.now in
    let front = ap length c.front.ensures in
    omega (arith, own, long, sizes, short, front, c.requires.room)

pub add_outputs-requires-2 : goal.add_outputs-requires-2
add_outputs-requires-2 t c =
    let args = c.args in
    let history = args.core.now.history in
    let cut = c.in-Some.ensures.cases.0 in
    let few = ap length cut in
    let lengths = subst (HaveLengths (line_of history) args.task args.number) cut c.requires.lengths in
    let own = lengths.0 in
    let long = ap length c.outputs-sent.ensures ∙ (sent-data history args.task args.number).size in
    let sizes = sizes-cons args.datagrams.now c.in-Some.rest.now c.in-Some.field-0-0.now cut in
    let short = take_short args.size c.outputs-sent.result.now in
    let front = ap length c.front.ensures in
    let old = args.images.now.own in
    let added = ap (λ (image : Image). length image.outputs) c.add_outputs.ensures.own ∙ length-append old.outputs c.front.result.now in
    let room = ap (λ (image : Image). image.room.0) c.add_outputs.ensures.own in (
      search rules,
      (omega (arith, few, c.requires.count), (omega (arith, few, c.requires.few), (lengths.1, omega (arith, own, long, sizes, short, front, added, room, c.requires.room)))),
    )

pub returns-clause-own : goal.returns-clause-own
returns-clause-own t c =
    let args = c.args in
    let history = args.core.now.history in
    let others = sent_from history args.task (args.number + 1) c.in-Some.rest.now in
    let sent = c.outputs-sent.result.now in
    let left = c.saturating_sub-left.result in
    let all = ap (sent_from history args.task args.number) c.in-Some.ensures.cases.0 ∙ ap (λ (l : List ℕ). l ++ others) (sym c.outputs-sent.ensures) in
    c.add_outputs-2.ensures.own
    ∙ (ap (with_outputs (take left others)) c.add_outputs.ensures.own
    ∙ outputs_joined args.size left sent c.front.result.now others (sent_from history args.task args.number args.datagrams.now) args.images.now.own c.front.ensures c.saturating_sub-left.ensures all)
