use Rattle.hc_events.proofs.lemmas.Once.{answers-once}
use Rattle.hc_events.proofs.laws.answers_once.Goals as goal

pub returns : goal.returns
returns c = answers-once
