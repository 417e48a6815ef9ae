use Rattle.hc_exchange.proofs.lemmas.Counts.{counts-expected}
use Rattle.hc_exchange.proofs.carrying_laws.counters_are_expected.Goals as goal

pub returns : goal.returns
returns c = counts-expected
