use Rattle.std.proofs.Common.{◌-◌, subst, sym}
use Rattle.hc_groups.specs.Index.{AreRanks}
use Rattle.hc_groups.proofs.IndexStations.{ranks-longer}
use Rattle.hc_groups.proofs.addresses.lengthen.Goals as goal

pub returns-clause-same : goal.returns-clause-same
returns-clause-same c all are =
    subst (AreRanks all) (sym c.fill.ensures) (ranks-longer all c.args.ranks.now.items (c.args.reach - c.len-count.result) are)
