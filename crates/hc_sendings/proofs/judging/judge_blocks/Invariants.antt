use Rattle.std.proofs.Common.{◌≡◌, ◌≤◌, drop, length, map}
use Rattle.std.specs.Prelude.{vec_capacity, vec_len}
use Rattle.hc_sendings.specs.Judging.{block_due}
use Rattle.hc_sendings.specs.Walk.{outcomes_in}
use Rattle.hc_sendings.proofs.Walked.{after_it, parts_of}
use Rattle.hc_sendings.proofs.judging.judge_blocks.Given as goal

abbrev pub invariant-loop-block : goal.invariant-loop-block
invariant-loop-block l = record {
  walked : outcomes_in (map block_due l.blocks) l.arrival.parts
      ≡ after_it l.outcomes.items (outcomes_in (map block_due (drop l.block-index l.blocks)) (parts_of l.came));
  count : vec_len l.outcomes ≡ l.block-index;
  room : length l.blocks ≤ vec_capacity l.outcomes;
  capacity : vec_capacity l.initial.outcomes ≤ vec_capacity l.outcomes;
}
