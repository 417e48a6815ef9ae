use Rattle.std.proofs.Common.{◌∙◌}
use Rattle.hc_groups.specs.Index.{addresses}
use Rattle.hc_groups.proofs.Indexes.{declared-is, seen}
use Rattle.hc_groups.proofs.index.Indexed.is_declared_station.Goals as goal

pub returns : goal.returns
returns c = c.is_some.ensures ∙ declared-is c.args.self.now _ c.args.station c.find_rank.result (seen c.self.view_is c.self.invariant.0) (c.find_rank.ensures (addresses c.args.self.now) (seen c.self.view_is c.self.invariant.0).declared.stations)
