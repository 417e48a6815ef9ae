use Rattle.hc_frames.proofs.lemmas.Replaced.{datagram-filled}
use Rattle.hc_frames.proofs.laws.blank_datagrams_are_filled.Goals as goal

pub returns : goal.returns
returns c = datagram-filled
