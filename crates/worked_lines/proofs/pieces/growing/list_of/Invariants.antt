use Rattle.std.specs.Prelude.{All}
use Rattle.hc_records.specs.Laws.{IsPackable}
use Rattle.worked_lines.proofs.pieces.growing.list_of.Given as goal

abbrev pub invariant-loop-width : goal.invariant-loop-width
invariant-loop-width l = All IsPackable l.list.items
