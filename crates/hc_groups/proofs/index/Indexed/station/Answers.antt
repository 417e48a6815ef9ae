use Rattle.std.proofs.Common.{arith, sym}
use Rattle.hc_groups.proofs.Indexes.{seen}
use Rattle.hc_groups.proofs.LineLists.{station-found, station-inside}
use Rattle.hc_groups.proofs.index.Indexed.station.Goals as goal

pub bounds-self-inside-position : goal.bounds-self-inside-position
bounds-self-inside-position c =
    station-inside c.args.self.now c.self.inside.line.now c.args.position (seen c.self.view_is c.self.invariant.0).line (omega (arith, c.if-position-slaves.false, c.slaves.ensures.value))

pub returns : goal.returns
returns c =
    sym (station-found c.args.self.now c.self.inside.line.now c.args.position (seen c.self.view_is c.self.invariant.0).line (omega (arith, c.if-position-slaves.false, c.slaves.ensures.value)))
