use Rattle.hc_exchange.proofs.lemmas.Contents.{record-configurable}
use Rattle.hc_exchange.proofs.holding_laws.records_are_configurable.Goals as goal

pub returns : goal.returns
returns c = record-configurable
