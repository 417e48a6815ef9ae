use Rattle.hc_exchange.proofs.Together.{joint-alike}
use Rattle.hc_exchange.proofs.programmed_laws.joint_frames_program_alike.Goals as goal

pub returns : goal.returns
returns c = joint-alike
