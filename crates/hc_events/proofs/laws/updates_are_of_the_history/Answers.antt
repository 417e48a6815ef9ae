use Rattle.hc_events.proofs.AnswerGiven.{updates-of_history}
use Rattle.hc_events.proofs.laws.updates_are_of_the_history.Goals as goal

pub returns : goal.returns
returns c = updates-of_history
