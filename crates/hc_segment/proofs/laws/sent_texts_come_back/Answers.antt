use Rattle.hc_segment.proofs.Returned.{sent-through}
use Rattle.hc_segment.proofs.laws.sent_texts_come_back.Goals as goal

pub returns : goal.returns
returns c = sent-through
