use Rattle.std.proofs.Common.{length, ◌+◌, ◌-◌, ◌≤◌, take}
use Rattle.std.specs.Io.KnownBytes.{Appends}
use Rattle.hc_text.proofs.output.write_text.Given as goal

-- the bytes up to here are written
abbrev pub invariant-loop-written : goal.invariant-loop-written
invariant-loop-written g l =
    let contents = g.W.Write.contents in
    record {
      within : l.written ≤ length l.text;
      appended : Appends (contents l.fn.output) (contents l.output) (take l.written l.text);
    }

abbrev pub decreases-loop-written : goal.decreases-loop-written
decreases-loop-written g l = (length l.text - l.written) + l.left
