use Rattle.hc_events.proofs.lemmas.Answers.{answered-of_line}
use Rattle.hc_events.proofs.laws.answered_are_of_the_line.Goals as goal

pub returns : goal.returns
returns c history arrival sending reachable = answered-of_line history arrival sending reachable.accepted
