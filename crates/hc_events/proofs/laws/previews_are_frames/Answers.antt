use Rattle.hc_events.proofs.Sizes.{previews-are}
use Rattle.hc_events.proofs.laws.previews_are_frames.Goals as goal

pub returns : goal.returns
returns c = previews-are
