use Rattle.hc_cuts.proofs.lemmas.HullKeys.{in-taken, out-taken}
use Rattle.hc_cuts.proofs.hulls.Hulls.add.Goals as goal

pub returns-in-Out : goal.returns-in-Out
returns-in-Out c = out-taken c.args.key c.args.self.now c.widened-self.result c.in-Out.is c.widened-self.ensures

pub returns-in-In : goal.returns-in-In
returns-in-In c = in-taken c.args.key c.args.self.now c.widened-self-in-In.result c.in-In.is c.widened-self-in-In.ensures
