use Rattle.hc_records.proofs.lemmas.SpanCuts.{span-alone}
use Rattle.hc_records.proofs.laws.spans_are_cut_alone.Goals as goal

pub returns : goal.returns
returns c = span-alone
