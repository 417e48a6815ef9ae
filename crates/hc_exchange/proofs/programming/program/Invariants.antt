use Rattle.std.proofs.Common.{◌≡◌, take}
use Rattle.hc_records.specs.Line.{line}
use Rattle.hc_registers.specs.Blocks.{line_blocks}
use Rattle.hc_segment.specs.Line.{machines_after}
use Rattle.hc_exchange.specs.Writing.{write_frames}
use Rattle.hc_exchange.proofs.programming.program.Given as goal

abbrev pub invariant-loop-n : goal.invariant-loop-n
invariant-loop-n l = l.segment ≡ machines_after l.initial.segment (write_frames 0 (take l.n (line_blocks (line l.plan))))
