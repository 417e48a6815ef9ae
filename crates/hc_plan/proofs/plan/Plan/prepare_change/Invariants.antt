use Rattle.hc_plan.proofs.plan.Plan.prepare_change.Given as goal

abbrev pub ghosts-work_out : goal.ghosts-work_out
ghosts-work_out a = record { name = a.blank.name; parts = a.blank.parts }
