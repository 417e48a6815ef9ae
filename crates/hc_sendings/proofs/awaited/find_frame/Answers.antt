use Rattle.std.proofs.Common.{◌∙◌, arith, sym}
use Rattle.std.specs.Prelude.{None, Some}
use Rattle.std.proofs.lemmas.Option.{gets}
use Rattle.std.proofs.lemmas.Grind.{common_steps}
use Rattle.hc_sendings.specs.Stored.{StoredFrame, last_sent_of}
use Rattle.hc_sendings.proofs.AwaitedStill.{Table}
use Rattle.hc_sendings.proofs.Found.{found-at, not-serial, sought-is, sought-not}
use Rattle.hc_sendings.proofs.awaited.find_frame.Goals as goal
use Rattle.hc_sendings.proofs.awaited.find_frame.Goals.{else-serial-via-then-serial+else-is_still_awaited, else-serial-via-else-serial}

pub returns-in_err-frame-clause-found : goal.returns-in_err-frame-clause-found
returns-in_err-frame-clause-found c =
    let at : Table = last_sent_of c.args.last_sent.now in
    rw c.from_residual.ensures
    (found-at at c.args.serial c.args.frames.now c.count_below.result None c.requires c.count_below.ensures (grind (arith, common_steps, gets)))

pub returns-then-is_still_awaited-clause-found : goal.returns-then-is_still_awaited-clause-found
returns-then-is_still_awaited-clause-found c =
    let at : Table = last_sent_of c.args.last_sent.now in
    let frame : StoredFrame = c.in_ok-frame.frame.now in
    let found = found-at at c.args.serial c.args.frames.now c.count_below.result (Some frame) c.requires c.count_below.ensures (grind (arith, common_steps, gets)) in
    sym (sought-is at c.args.serial frame (sym c.serial.ensures ∙ c.if-serial.true) (sym c.is_still_awaited.ensures ∙ c.if-is_still_awaited.true)) ∙ found

pub returns-else-serial-clause-found : goal.returns-else-serial-clause-found
returns-else-serial-clause-found c =
    let at : Table = last_sent_of c.args.last_sent.now in
    let frame : StoredFrame = c.in_ok-frame.frame.now in
    let found = found-at at c.args.serial c.args.frames.now c.count_below.result (Some frame) c.requires c.count_below.ensures (grind (arith, common_steps, gets)) in
    elim c.else-serial.branch [
      | else-serial-via-then-serial+else-is_still_awaited w ↦ sym (sought-not at c.args.serial frame (sym w.is_still_awaited.ensures ∙ w.if-is_still_awaited.false)) ∙ found
      | else-serial-via-else-serial w ↦ sym (not-serial at c.args.serial frame (λ same. w.if-serial.false (c.serial.ensures ∙ same))) ∙ found
    ]
