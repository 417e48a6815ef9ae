use Rattle.std.proofs.Common.{◌∙◌, ap}
use Rattle.hc_events.specs.Outcomes.{arrived_answer}
use Rattle.hc_core.proofs.AnswerGiven.{written-done, written-missed, written-several}
use Rattle.hc_core.proofs.keeping.Core.take_arrival.Goals as goal

pub take_writes-requires-clause-judged : goal.take_writes-requires-clause-judged
take_writes-requires-clause-judged c = written-done _ (c.requires.judged ∙ ap (λ which. arrived_answer which c.args.outcomes.now) c.in-WriteDone.is)

pub take_writes-requires-in-WriteMissed-clause-judged : goal.take_writes-requires-in-WriteMissed-clause-judged
take_writes-requires-in-WriteMissed-clause-judged c = written-missed _ (c.requires.judged ∙ ap (λ which. arrived_answer which c.args.outcomes.now) c.in-WriteMissed.is)

pub take_writes-requires-in-Written-clause-judged : goal.take_writes-requires-in-Written-clause-judged
take_writes-requires-in-Written-clause-judged c = written-several _ c.args.outcomes.now (c.requires.judged ∙ ap (λ which. arrived_answer which c.args.outcomes.now) c.in-Written.is)
