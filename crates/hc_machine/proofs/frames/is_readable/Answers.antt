use Rattle.std.proofs.Common.{◌∙◌}
use Rattle.hc_machine.proofs.Framed.{ok-unless-fault}
use Rattle.hc_machine.proofs.frames.is_readable.Goals as goal

pub returns : goal.returns
returns c = c.is_ok.ensures.value ∙ ok-unless-fault c.args.frame.now c.read_frame.result c.read_frame.ensures
