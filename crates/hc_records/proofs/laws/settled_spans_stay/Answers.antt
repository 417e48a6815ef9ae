use Rattle.hc_records.proofs.lemmas.SettledSpans.{settled-stays}
use Rattle.hc_records.proofs.laws.settled_spans_stay.Goals as goal

pub returns : goal.returns
returns c = settled-stays
