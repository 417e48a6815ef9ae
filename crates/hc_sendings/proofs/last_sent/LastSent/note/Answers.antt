use Rattle.std.proofs.Common.{◌∙◌, ap, arith, cond, get_or, length-set, set, ℕ, List, Some}
use Rattle.std.specs.List.{list_any}
use Rattle.std.proofs.lemmas.List.{take_all}
use Rattle.hc_events.specs.Sendings.{Named}
use Rattle.hc_sendings.specs.Stored.{LastSent, last_sent_of}
use Rattle.hc_sendings.specs.Waiting.{IsTaskDatagram, is_named}
use Rattle.hc_sendings.proofs.Noted.{noted-more, place-low}
use Rattle.hc_sendings.proofs.last_sent.LastSent.note.Goals as goal

pub loop-datagram-init : goal.loop-datagram-init
loop-datagram-init c = record { places = c.self.invariant; noted = λ named is. ap (λ (last_sent : LastSent). last_sent_of last_sent named) c.self.view_is }

pub loop-datagram-preserved : goal.loop-datagram-preserved
loop-datagram-preserved c =
    let last_sent : LastSent = c.loop-datagram.self-inside.serials.items in
    let number : ℕ = c.loop-datagram.datagram-index in
    let datagram : Named = get_or c.args.datagrams.now number (0, 0) in
    let own : IsTaskDatagram datagram = c.requires number (0, 0) c.loop-datagram-test.true in
    let low = place-low datagram own in
    let places = c.loop-datagram.invariant.places in
    record {
      places = length-set last_sent c.slot_number.result (Some c.args.serial) ∙ places;
      noted = λ named is.
          ap (λ (place : ℕ). last_sent_of (set last_sent place (Some c.args.serial)) named) c.slot_number.ensures
          ∙ noted-more last_sent (last_sent_of c.args.self.now named) c.args.serial number c.args.datagrams.now named c.loop-datagram-test.true own is
          (omega (arith, low, places)) (c.loop-datagram.invariant.noted named is);
    }

pub returns-clause-noted : goal.returns-clause-noted
returns-clause-noted c = λ named is.
    c.loop-datagram.invariant.noted named is
    ∙ ap (λ (datagrams : List Named). cond (list_any (is_named named) datagrams) (Some c.args.serial) (last_sent_of c.args.self.now named))
    (take_all c.loop-datagram.datagram-index c.args.datagrams.now (omega (arith, c.loop-datagram-test.false)))
