use Rattle.std.proofs.Common.{◌≡◌, ◌≤◌, All, length, map}
use Rattle.std.specs.Prelude.{filter}
use Rattle.std.specs.List.{range_with_len}
use Rattle.hc_machine.specs.Fmmus.{fmmu_block_at, fmmu_of, IsInMemory}
use Rattle.hc_machine.specs.Logical.{fmmu_meets}
use Rattle.hc_machine.proofs.fmmu.add_all_mapped.Given as goal

abbrev pub invariant-loop-i : goal.invariant-loop-i
invariant-loop-i l = record {
  value : l.mapped.items ≡ filter (fmmu_meets l.from l.n) (map (λ i. fmmu_of (fmmu_block_at l.memory i)) (range_with_len 0 l.i));
  few : length l.mapped.items ≤ l.i;
  in_memory : All IsInMemory l.mapped.items;
}
