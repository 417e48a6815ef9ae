use Rattle.std.proofs.Common.{sym, ◌∙◌}
use Rattle.hc_bitsum.specs.Branch.{branch_slots}
use Rattle.hc_bitsum.proofs.Between.{sum-none}
use Rattle.hc_bitsum.proofs.branch.Branch.is_empty.Goals as goal

pub returns-in-Empty : goal.returns-in-Empty
returns-in-Empty c = λ yes. sum-none (branch_slots c.args.self.now).areas (sym c.total.ensures.sum ∙ c.in-Empty.is)
