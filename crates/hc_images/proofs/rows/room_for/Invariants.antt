use Rattle.hc_images.specs.Packed.{length_in}
use Rattle.hc_images.specs.Pieces.{HasRoomToGrow}
use Rattle.hc_images.proofs.rows.room_for.Given as goal

abbrev pub invariant-loop-task : goal.invariant-loop-task
invariant-loop-task l = HasRoomToGrow l.task-index (length_in l.places) l.changed l.room.items
