use Rattle.worked_lines.proofs.pieces.trees.from_start.Given as goal

abbrev pub ghosts-searched : goal.ghosts-searched
ghosts-searched a = record { name = a.blank.name; parts = a.blank.parts }
