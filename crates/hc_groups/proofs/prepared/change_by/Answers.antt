use Rattle.std.proofs.Common.{ap}
use Rattle.std.specs.Prelude.{option_map}
use Rattle.hc_groups.specs.declared.prepared.Prepared.TheVariants.{Areas}
use Rattle.hc_groups.proofs.prepared.change_by.Goals as goal

pub returns-in_ok-areas_change-in-Remap : goal.returns-in_ok-areas_change-in-Remap
returns-in_ok-areas_change-in-Remap c = rw c.in-Remap.is (ap (option_map Areas) c.in_ok-areas_change-in-Remap.ensures)

pub returns-in_ok-areas_change-in-Move : goal.returns-in_ok-areas_change-in-Move
returns-in_ok-areas_change-in-Move c = rw c.in-Move.is (ap (option_map Areas) c.in_ok-areas_change-in-Move.ensures)
