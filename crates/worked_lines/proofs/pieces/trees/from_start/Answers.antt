use Rattle.std.proofs.Common.{inl, refl}
use Rattle.worked_lines.proofs.pieces.trees.from_start.Goals as goal

pub searched-requires-clause-from : goal.searched-requires-clause-from
searched-requires-clause-from c = inl refl
