use Rattle.std.proofs.Common.{◌≤◌, ap, length, sym, subst}
use Rattle.hc_records.specs.declared.limits.TheConstants.{MOST_DATAGRAM_BYTES}
use Rattle.hc_frames.specs.Arrived.{ArrivedDatagram}
use Rattle.hc_core.proofs.GoodAnswersSteps.{input-fits}
use Rattle.hc_core.proofs.good_answers.put_good.Goals as goal

pub invariant_of-task : goal.invariant_of-task
invariant_of-task c = (input-fits c.args.outcome.now c.in-Inputs.task c.in-Inputs.datagram c.args.part.now.carried c.in-Inputs.is c.requires).task

pub put-requires-clause-number : goal.put-requires-clause-number
put-requires-clause-number c = (input-fits c.args.outcome.now c.in-Inputs.task c.in-Inputs.datagram c.args.part.now.carried c.in-Inputs.is c.requires).datagram

pub put-requires-clause-few : goal.put-requires-clause-few
put-requires-clause-few c =
    subst (λ n. n ≤ MOST_DATAGRAM_BYTES) (sym (ap (λ (part : ArrivedDatagram). length part.carried.bytes) c.part.view_is))
    (input-fits c.args.outcome.now c.in-Inputs.task c.in-Inputs.datagram c.args.part.now.carried c.in-Inputs.is c.requires).few

pub put-requires-in-Inputs : goal.put-requires-in-Inputs
put-requires-in-Inputs c = (input-fits c.args.outcome.now c.in-Inputs.task c.in-Inputs.datagram c.args.part.now.carried c.in-Inputs.is c.requires).datagram
