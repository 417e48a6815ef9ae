use Rattle.hc_events.proofs.AsAtFirst.{says-first}
use Rattle.hc_events.proofs.laws.histories_without_forgetting.Goals as goal

pub returns : goal.returns
returns c history plain one = says-first history (plain, one)
