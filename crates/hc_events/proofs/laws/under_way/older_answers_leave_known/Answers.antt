use Rattle.hc_events.proofs.lemmas.UnderWay.{older-answers}
use Rattle.hc_events.proofs.laws.under_way.older_answers_leave_known.Goals as goal

pub returns : goal.returns
returns c history arrival station number serial bytes last other = older-answers history arrival station number serial bytes last other
