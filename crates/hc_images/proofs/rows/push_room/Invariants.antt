use Rattle.hc_images.specs.Packed.{length_in}
use Rattle.hc_images.specs.Pieces.{AddsRoom}
use Rattle.hc_images.proofs.rows.push_room.Given as goal

abbrev pub invariant-loop-number : goal.invariant-loop-number
invariant-loop-number l = AddsRoom l.number (length_in l.places) l.task l.table l.fn.room.items l.room.items
