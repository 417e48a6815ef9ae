use Rattle.std.proofs.Common.{◌≡◌, None, arith}
use Rattle.std.specs.Prelude.{slice_get}
use Rattle.std.proofs.lemmas.Grind.{common_steps}
use Rattle.std.proofs.lemmas.Option.{gets}
use Rattle.hc_groups.proofs.IndexStations.{no-rank, none-there}
use Rattle.hc_groups.proofs.addresses.find_rank.Goals as goal

pub returns-in_err-rank : goal.returns-in_err-rank
returns-in_err-rank c all are =
    let none : slice_get c.args.ranks.now c.args.station ≡ None = grind (arith, common_steps, gets) in
    rw c.from_residual.ensures (no-rank all c.args.ranks.now c.args.station are (none-there c.args.ranks.now c.args.station none))
