use Rattle.hc_machine.proofs.lemmas.Passed.{served-read}
use Rattle.hc_machine.proofs.laws.served_frames_are_read.Goals as goal

pub returns : goal.returns
returns c = served-read
