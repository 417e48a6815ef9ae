use Rattle.std.proofs.Common.{◌≡◌, ◌<◌, ℕ, length}
use Rattle.std.specs.Prelude.{Some, slice_get}
use Rattle.hc_places.specs.Swap.{ChangedRow}
use Rattle.hc_images.specs.Pieces.{of_list, output_in}
use Rattle.hc_images.proofs.moves.MovedPlaces.of.Given as goal

abbrev pub invariant-loop-row : goal.invariant-loop-row
invariant-loop-row l = record {
  count : length l.places.items ≡ l.row-index;
  room : length l.values.items ≡ l.row-index;
  each : (i : ℕ) (row : ChangedRow) → i < l.row-index → slice_get l.swap.change.rows i ≡ Some row → of_list l.places.items i ≡ output_in l.old row.0;
}
