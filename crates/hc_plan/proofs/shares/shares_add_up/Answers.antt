use Rattle.hc_plan.proofs.Sharing.{shares-add-up}
use Rattle.hc_plan.proofs.shares.shares_add_up.Goals as goal

pub returns : goal.returns
returns c = shares-add-up
