use Rattle.hc_c.proofs.LinesLed.{calls-lead}
use Rattle.hc_c.proofs.laws.calls_lead.Goals as goal

pub returns : goal.returns
returns c = calls-lead
