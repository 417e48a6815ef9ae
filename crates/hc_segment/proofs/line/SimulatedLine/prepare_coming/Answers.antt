use Rattle.std.proofs.Common.{arith}
use Rattle.hc_records.proofs.lemmas.Slaves.{project-counted}
use Rattle.hc_segment.proofs.Counted.{before-few}
use Rattle.hc_segment.proofs.line.SimulatedLine.prepare_coming.Goals as goal

pub slaves_before-position-requires : goal.slaves_before-position-requires
slaves_before-position-requires c = project-counted c.args.groups.now c.requires

pub new-requires : goal.new-requires
new-requires c =
    let groups = c.args.groups.now in
    omega (arith, c.slaves_before-position.ensures, before-few c.args.alias groups, project-counted groups c.requires)
