use Rattle.hc_events.proofs.Sizes.{writes-filled}
use Rattle.hc_events.proofs.laws.writes_fill_their_bytes.Goals as goal

pub returns : goal.returns
returns c = writes-filled
