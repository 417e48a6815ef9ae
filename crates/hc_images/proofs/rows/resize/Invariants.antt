use Rattle.std.proofs.Common.{◌≡◌, ◌≤◌, ℕ, [], get_or, length}
use Rattle.hc_images.specs.Pieces.{ResizesEach, room_start}
use Rattle.hc_images.proofs.rows.resize.Given as goal

abbrev pub invariant-loop-task : goal.invariant-loop-task
invariant-loop-task l = record {
  at : l.at ≡ room_start l.changed l.task-index;
  each : ResizesEach l.task-index l.changed l.fn.rows l.rows;
  rest : (m : ℕ) → l.at ≤ m → get_or l.room m [] ≡ get_or l.fn.room m [];
  size : length l.room ≡ length l.fn.room;
}
