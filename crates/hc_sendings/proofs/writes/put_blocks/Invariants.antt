use Rattle.std.proofs.Common.{◌≡◌, map, take}
use Rattle.std.specs.Prelude.{vec_capacity, vec_len}
use Rattle.hc_sendings.specs.Waiting.{awaited_block}
use Rattle.hc_sendings.proofs.writes.put_blocks.Given as goal

abbrev pub invariant-loop-block : goal.invariant-loop-block
invariant-loop-block l = record {
  items : l.blocks.items ≡ map awaited_block (take l.block-index l.placed);
  count : vec_len l.blocks ≡ l.block-index;
  room : vec_capacity l.blocks ≡ vec_capacity l.fn.blocks;
}
