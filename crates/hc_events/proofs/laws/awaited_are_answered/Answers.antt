use Rattle.hc_events.proofs.lemmas.Answers.{awaited-answered}
use Rattle.hc_events.proofs.laws.awaited_are_answered.Goals as goal

pub returns : goal.returns
returns c = awaited-answered
