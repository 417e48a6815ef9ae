use Rattle.std.specs.Int.{bit_at}
use Rattle.std.specs.Prelude.{slice_index_or}
use Rattle.hc_images.specs.Pieces.{WritesEach, of_changed}
use Rattle.hc_images.proofs.rows.put_down.Given as goal

abbrev pub invariant-loop-i : goal.invariant-loop-i
invariant-loop-i l = WritesEach l.i (of_changed l.changed) (λ i. bit_at (slice_index_or l.values i 0)) l.fn.rows l.rows
