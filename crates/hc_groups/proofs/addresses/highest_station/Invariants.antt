use Rattle.std.proofs.Common.{◌≤◌}
use Rattle.std.specs.List.{AllWithin}
use Rattle.hc_groups.proofs.addresses.highest_station.Given as goal

abbrev pub invariant-loop-address : goal.invariant-loop-address
invariant-loop-address l = AllWithin (λ address. address.station ≤ l.highest) l.addresses 0 l.address-index
