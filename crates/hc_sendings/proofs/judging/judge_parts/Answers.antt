use Rattle.std.proofs.Common.{◌∙◌, ap, sym, drop, length, ℕ, List, arith}
use Rattle.hc_frames.specs.Arrived.{ArrivedDatagram}
use Rattle.hc_records.specs.Line.{line}
use Rattle.hc_sendings.specs.Walk.{outcomes_in}
use Rattle.hc_sendings.proofs.Walked.{after_it, due_by, parts_of, walked-none, walked-short}
use Rattle.hc_sendings.proofs.judging.judge_parts.Goals as goal

pub loop-datagram-init : goal.loop-datagram-init
loop-datagram-init c = record {
  walked = walked-none (line c.args.plan.now) c.args.last_sent.now c.args.frame.now.serial c.args.frame.now.datagrams c.args.arrival.now.parts c.parts-parts.result
      c.reserve.new.self.items c.parts-parts.ensures (c.reserve.ensures.items ∙ c.requires.empty);
  count = grind (arith, c.in_ok-reserve.ensures.len, c.requires.empty);
  room = grind (arith, c.in_ok-reserve.ensures.len, c.in_ok-reserve.ensures.ok, c.requires.empty, c.datagrams.ensures.datagrams);
  capacity = omega arith;
}

pub returns-in_default-clause-outcomes : goal.returns-in_default-clause-outcomes
returns-in_default-clause-outcomes c =
    let number : ℕ = c.loop-datagram.datagram-index in
    let frame = c.args.frame.now in
    let count = ap length c.datagrams-datagram-items.ensures.datagrams in
    sym (walked-short (line c.args.plan.now) c.args.last_sent.now frame.serial number frame.datagrams c.loop-datagram.outcomes.items _ (omega (arith, count, c.loop-datagram-test.true))
    (c.loop-datagram.invariant.walked ∙ ap (λ (left : List ArrivedDatagram). after_it c.loop-datagram.outcomes.items (outcomes_in (due_by (line c.args.plan.now) c.args.last_sent.now frame.serial (drop number frame.datagrams)) (parts_of left))) c.in_default.ensures.steps.0))
