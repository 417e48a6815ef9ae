use Rattle.hc_events.proofs.lemmas.SentValues.{sent-values}
use Rattle.hc_events.proofs.laws.sent_data_are_values.Goals as goal

pub returns : goal.returns
returns c = sent-values
