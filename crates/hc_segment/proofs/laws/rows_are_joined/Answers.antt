use Rattle.hc_segment.proofs.Lines.{frames_through-both, machines_after-both}
use Rattle.hc_segment.proofs.laws.rows_are_joined.Goals as goal

pub returns : goal.returns
returns c = λ a b frames. (frames_through-both a b frames, machines_after-both a b frames)
