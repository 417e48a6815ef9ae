use Rattle.std.proofs.Common.{◌≡◌, ◌⊎◌, ◌+◌, ◌*◌, ◌<◌, ◌≤◌, ℕ, [], get_or, length}
use Rattle.hc_images.specs.Packed.{slot_bytes}
use Rattle.hc_images.specs.Pieces.{table_data_length, resized}
use Rattle.hc_images.proofs.rows.resize_task.Given as goal

abbrev pub invariant-loop-number : goal.invariant-loop-number
invariant-loop-number l = record {
  own : (d : ℕ) → d < l.number → slot_bytes l.rows l.task d ≡ resized (table_data_length l.table d) (slot_bytes l.fn.rows l.task d);
  rest : (n : ℕ) → (n < 16 * l.task) ⊎ (16 * l.task + l.number ≤ n) → get_or l.rows n [] ≡ get_or l.fn.rows n [];
  room : (n : ℕ) → l.at + l.number ≤ n → get_or l.room n [] ≡ get_or l.fn.room n [];
  history : (n : ℕ) → l.at + length l.table.datagrams ≤ n → get_or l.room n [] ≡ get_or l.fn.room n [];
  size : length l.room ≡ length l.fn.room;
}
