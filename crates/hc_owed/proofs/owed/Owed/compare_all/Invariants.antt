use Rattle.std.proofs.Common.{◌≡◌, drop, length}
use Rattle.hc_owed.specs.Steps.{compared_all}
use Rattle.hc_owed.proofs.owed.Owed.compare_all.Given as goal

abbrev pub invariant-loop-block : goal.invariant-loop-block
invariant-loop-block l = (compared_all (drop l.block-index l.moved) l.self ≡ compared_all l.moved l.fn.self) × (length l.self.known ≡ length l.fn.self.known)
