use Rattle.hc_records.proofs.lemmas.Cuts.{count-later_keys}
use Rattle.hc_records.proofs.laws.datagrams_are_spans.Goals as goal

pub returns : goal.returns
returns c = count-later_keys
