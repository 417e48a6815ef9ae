use Rattle.hc_events.proofs.lemmas.Answers.{answers-first}
use Rattle.hc_events.proofs.laws.answers_the_serial.Goals as goal

pub returns : goal.returns
returns c = answers-first
