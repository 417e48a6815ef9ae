use Rattle.std.proofs.Common.{◌≡◌, drop, length}
use Rattle.hc_groups.proofs.IndexStations.{written}
use Rattle.hc_groups.proofs.addresses.write_ranks.Given as goal

abbrev pub invariant-loop-address : goal.invariant-loop-address
invariant-loop-address l = (length l.ranks.items ≡ length l.initial.ranks.items) × (written (drop l.address-index l.addresses) l.ranks.items ≡ written l.addresses l.initial.ranks.items)
