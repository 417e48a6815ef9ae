use Rattle.hc_segment.proofs.Lines.{line_after-joined, line_frames-joined}
use Rattle.hc_segment.proofs.laws.lines_are_segments.Goals as goal

pub returns : goal.returns
returns c = λ line frames. (line_frames-joined line frames, line_after-joined line frames)
