use Rattle.std.proofs.Common.{◌≤◌, ◌∙◌, ℕ, List, ap, length, sym, subst}
use Rattle.hc_records.specs.declared.limits.TheConstants.{MOST_DATAGRAM_BYTES}
use Rattle.hc_frames.specs.Arrived.{ArrivedDatagram}
use Rattle.hc_core.proofs.GoodAnswersSteps.{input-fits}
use Rattle.hc_core.proofs.good_answers.change_of.Goals as goal

pub of-good-requires-clause-task : goal.of-good-requires-clause-task
of-good-requires-clause-task c = (input-fits c.args.outcome.now c.in-Inputs.task c.in-Inputs.datagram c.args.part.now.carried c.in-Inputs.is c.requires).task

pub of-good-requires-clause-datagram : goal.of-good-requires-clause-datagram
of-good-requires-clause-datagram c = (input-fits c.args.outcome.now c.in-Inputs.task c.in-Inputs.datagram c.args.part.now.carried c.in-Inputs.is c.requires).datagram

pub of-good-requires-clause-few : goal.of-good-requires-clause-few
of-good-requires-clause-few c =
    let same = c.in_ok-bytes-in-Inputs.ensures ∙ ap (λ (part : ArrivedDatagram). part.carried.bytes) c.part.view_is in
    subst (λ (bytes : List ℕ). length bytes ≤ MOST_DATAGRAM_BYTES) (sym same)
    (input-fits c.args.outcome.now c.in-Inputs.task c.in-Inputs.datagram c.args.part.now.carried c.in-Inputs.is c.requires).few
