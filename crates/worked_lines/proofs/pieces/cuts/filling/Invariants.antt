use Rattle.std.specs.Prelude.{All}
use Rattle.hc_records.specs.Laws.{IsPackable}
use Rattle.worked_lines.proofs.pieces.cuts.filling.Given as goal

abbrev pub invariant-loop-rank : goal.invariant-loop-rank
invariant-loop-rank l = All IsPackable l.list.items
