use Rattle.hc_plan.proofs.plan.Plan.new.Given as goal

abbrev pub ghosts-open_line : goal.ghosts-open_line
ghosts-open_line a = record { name = a.blank.name; parts = a.blank.parts }
