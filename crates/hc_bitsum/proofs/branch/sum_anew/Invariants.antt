use Rattle.std.proofs.Common.{◌≡◌, ◌≢◌, ◌*◌, ◌^◌, ◌/◌, length}
use Rattle.hc_bitsum.specs.Branch.{AreForks, AreRowSums, IsNode}
use Rattle.hc_bitsum.proofs.branch.sum_anew.Given as goal

abbrev pub invariant-loop-level : goal.invariant-loop-level
invariant-loop-level l = record {
  many : length l.sums ≡ 2 * 2 ^ l.levels;
  node : IsNode l.levels l.level l.node;
  leaves : AreRowSums (λ i. Unit {0}) l.fn.dir l.rows l.sums;
  forks : AreForks (λ k. k ≢ l.node / 2) (length l.rows) l.sums;
}
