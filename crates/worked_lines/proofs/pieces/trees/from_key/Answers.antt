use Rattle.std.proofs.Common.{inr}
use Rattle.worked_lines.proofs.pieces.trees.from_key.Goals as goal

pub searched-requires-clause-from : goal.searched-requires-clause-from
searched-requires-clause-from c = inr c.requires
