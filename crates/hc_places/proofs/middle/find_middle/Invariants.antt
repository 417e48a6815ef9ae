use Rattle.std.proofs.Common.{◌≤◌, length}
use Rattle.std.specs.Prelude.{IsTrue}
use Rattle.std.specs.List.{AllWithin}
use Rattle.hc_places.specs.Swap.{keeps_row}
use Rattle.hc_places.proofs.Reached.{AreLower}
use Rattle.hc_places.proofs.middle.find_middle.Given as goal

-- the rows in front are lower than the changes that are left; those so far before the first and after the end keep their rows
abbrev pub invariant-loop-i : goal.invariant-loop-i
invariant-loop-i l = record {
  within : l.lower ≤ length l.rows;
  below : AreLower l.rows l.lower l.changed l.i;
  order : l.first ≤ l.end;
  bound : l.end ≤ l.i;
  front : AllWithin (λ change. IsTrue (keeps_row l.rows change)) l.changed 0 l.first;
  after_it : AllWithin (λ change. IsTrue (keeps_row l.rows change)) l.changed l.end l.i;
}
