use Rattle.std.proofs.Common.{◌≡◌, length}
use Rattle.std.specs.Int.{bit_at}
use Rattle.hc_images.specs.Pieces.{ReadsEach, WritesEach, of_list}
use Rattle.hc_images.proofs.rows.take_up.Given as goal

abbrev pub invariant-loop-i : goal.invariant-loop-i
invariant-loop-i l = record {
  writes : WritesEach l.i (of_list l.places) (λ i. bit_at 0) l.fn.rows l.rows;
  reads : ReadsEach l.i (of_list l.places) l.fn.rows l.lacking l.values;
  count : length l.values ≡ length l.places;
}
