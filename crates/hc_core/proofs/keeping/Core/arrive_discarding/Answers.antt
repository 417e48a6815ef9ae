use Rattle.std.proofs.Common.{◌∙◌, ap, sym}
use Rattle.hc_events.specs.Steps.{arrival_answer}
use Rattle.hc_core.proofs.keeping.Core.arrive_discarding.Goals as goal

pub returns-clause-answer : goal.returns-clause-answer
returns-clause-answer c = c.in_ok-arrived.ensures.answer ∙ sym (ap (arrival_answer c.args.self.now.history) c.requires)
