use Rattle.std.proofs.Common.{ℕ, List, subst}
use Rattle.std.specs.Prelude.{◌≢◌, All}
use Rattle.hc_records.specs.Line.{line}
use Rattle.hc_plan.specs.Reports.{found_name}
use Rattle.hc_plan.proofs.lemmas.Unmoved.{stays}
use Rattle.hc_plan.proofs.laws.unmoved_blocks_stay.Goals as goal

pub returns : goal.returns
returns c old new edit report found none shows at unnamed =
    stays old.groups (line new) found none (subst (λ (names : List (ℕ × ℕ)). All (λ name. name ≢ found_name found) names) shows.blocks unnamed) at
