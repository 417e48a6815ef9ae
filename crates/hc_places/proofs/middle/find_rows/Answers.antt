use Rattle.std.proofs.Common.{◌-◌, arith}
use Rattle.std.proofs.lemmas.List.{length-drop, take_all}
use Rattle.hc_places.proofs.Parted.{rows-parted}
use Rattle.hc_places.proofs.middle.find_rows.Goals as goal

pub returns-clause-parts : goal.returns-clause-parts
returns-clause-parts c = grind (arith, length-drop, take_all, rows-parted)
