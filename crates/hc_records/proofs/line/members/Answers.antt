use Rattle.std.proofs.Common.{arith}
use Rattle.hc_records.proofs.lemmas.Walks.{length-line}
use Rattle.hc_records.proofs.line.members.Goals as goal

pub returns-clause-few : goal.returns-clause-few
returns-clause-few c = let few = length-line 1 c.args.groups.now in omega (arith, few, c.requires)
