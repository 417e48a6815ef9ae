use Rattle.std.proofs.Common.{ℕ, take, ap, ◌∙◌}
use Rattle.hc_frames.proofs.Zeros.{zeros_taken}
use Rattle.hc_frames.proofs.building.frames.zeros_of.Goals as goal

pub returns : goal.returns
returns c = ap (take {A = ℕ} c.args.size) c.requires.zeros ∙ zeros_taken c.args.size 256 c.requires.few
