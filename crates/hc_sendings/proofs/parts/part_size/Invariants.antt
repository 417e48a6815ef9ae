use Rattle.std.proofs.Common.{◌≡◌, ◌*◌, ◌≤◌, take}
use Rattle.std.specs.Prelude.{sum_by}
use Rattle.hc_records.specs.Line.{line}
use Rattle.hc_sendings.specs.Parts.{frame_part}
use Rattle.hc_sendings.proofs.parts.part_size.Given as goal

abbrev pub invariant-loop-frame : goal.invariant-loop-frame
invariant-loop-frame l = record {
  size : l.size ≡ sum_by (λ frame. frame_part (line l.plan) l.task frame.datagrams) (take l.frame-index l.frames);
  most : l.size ≤ 172330 * l.frame-index;
}
