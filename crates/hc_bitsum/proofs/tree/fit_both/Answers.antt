use Rattle.hc_bitsum.specs.Branch.{branch_slots}
use Rattle.hc_bitsum.proofs.Scan.{found-left, through-left}
use Rattle.hc_bitsum.proofs.tree.fit_both.Goals as goal

pub returns-in-Found-clause-fit : goal.returns-in-Found-clause-fit
returns-in-Found-clause-fit g c =
    found-left (branch_slots c.args.first.now).areas (branch_slots c.args.second.now).areas c.args.skip c.args.room c.args.filled c.in-Found.key c.requires.within c.in-Found.ensures.fit

pub returns-in-Through-clause-fit : goal.returns-in-Through-clause-fit
returns-in-Through-clause-fit g c =
    through-left (branch_slots c.args.first.now).areas (branch_slots c.args.second.now).areas c.args.skip c.args.room c.args.filled c.in-Through.end c.fit_all.result c.requires.within
    c.in-Through.ensures.fit c.fit_all.ensures.fit
