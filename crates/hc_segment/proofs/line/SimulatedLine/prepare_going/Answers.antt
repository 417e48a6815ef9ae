use Rattle.std.proofs.Common.{sym, arith}
use Rattle.hc_records.proofs.lemmas.Slaves.{project-counted}
use Rattle.hc_segment.proofs.Counted.{before-few, found-few}
use Rattle.hc_segment.proofs.line.SimulatedLine.prepare_going.Goals as goal

pub slaves_before-position-requires : goal.slaves_before-position-requires
slaves_before-position-requires c = project-counted c.args.groups.now c.requires

pub new-requires-in-Some : goal.new-requires-in-Some
new-requires-in-Some c =
    let groups = c.args.groups.now in
    omega (arith, c.slaves_before-position.ensures, c.len-gone.ensures, before-few c.args.alias groups, found-few c.args.alias groups c.in-Some.declared.now (sym c.in-Some.ensures), project-counted groups c.requires)
