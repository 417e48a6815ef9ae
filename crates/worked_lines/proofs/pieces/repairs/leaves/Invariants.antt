use Rattle.worked_lines.proofs.pieces.repairs.leaves.Given as goal

abbrev pub ghosts-leaves_counted : goal.ghosts-leaves_counted
ghosts-leaves_counted a = record { name = a.blank.name; parts = a.blank.parts }
