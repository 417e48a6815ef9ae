-- The law is the lemma on one number.
use Rattle.hc_project.proofs.Numbers.{ranges-whole}
use Rattle.hc_project.proofs.laws.ranges_are_judged_whole.Goals as goal

pub returns : goal.returns
returns c = ranges-whole
