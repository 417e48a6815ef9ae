use Rattle.std.specs.Int.{bit_at}
use Rattle.hc_images.specs.Pieces.{WritesEach, of_rows}
use Rattle.hc_images.proofs.rows.mark.Given as goal

abbrev pub invariant-loop-place : goal.invariant-loop-place
invariant-loop-place l = WritesEach l.place-index (of_rows l.places.variables) (λ i. bit_at 18446744073709551615) l.fn.rows l.rows
