use Rattle.worked_lines.proofs.pieces.growing.holds.Given as goal

abbrev pub ghosts-repaired : goal.ghosts-repaired
ghosts-repaired a = record { name = a.blank.name; parts = a.blank.parts }
