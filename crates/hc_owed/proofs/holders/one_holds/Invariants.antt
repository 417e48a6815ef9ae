use Rattle.std.proofs.Common.{◌≡◌, drop}
use Rattle.std.specs.List.{list_any}
use Rattle.hc_owed.specs.Holders.{area_holds}
use Rattle.hc_owed.proofs.holders.one_holds.Given as goal

abbrev pub invariant-loop-area : goal.invariant-loop-area
invariant-loop-area l = list_any (area_holds l.task) (drop l.area-index l.areas) ≡ list_any (area_holds l.task) l.fn.areas
