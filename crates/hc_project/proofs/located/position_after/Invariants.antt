use Rattle.std.proofs.Common.{◌≡◌, ◌+◌, ◌≤◌, drop}
use Rattle.hc_project.specs.Located.{position_from}
use Rattle.hc_project.proofs.located.position_after.Given as goal

-- what is left leads on from the line and the column reached, which are no more than the bytes passed and one
abbrev pub invariant-loop-byte : goal.invariant-loop-byte
invariant-loop-byte l = record {
  position : position_from (l.line, l.column) (drop l.byte-index l.front) ≡ position_from (1, 1) l.front;
  lines : l.line ≤ l.byte-index + 1;
  columns : l.column ≤ l.byte-index + 1;
}
