use Rattle.std.proofs.Common.{◌≡◌, ◌+◌, ◌≤◌, ◌++◌, List, ℕ, map}
use Rattle.std.specs.Prelude.{IfSome, vec_capacity, vec_len}
use Rattle.std.specs.List.{range_with_len}
use Rattle.hc_records.specs.Line.{line}
use Rattle.hc_events.specs.Sendings.{Named}
use Rattle.hc_sendings.specs.Framing.{closed, framed_from, open_in}
use Rattle.hc_sendings.proofs.framing.place_task.Given as goal

abbrev pub invariant-loop-number : goal.invariant-loop-number
invariant-loop-number l = record {
  framed : (rest : List Named) → closed l.frames.items ++ framed_from (line l.plan) l.serial (open_in l.frames.items) rest
      ≡ closed l.initial.frames.items ++ framed_from (line l.plan) l.serial (open_in l.initial.frames.items) (map (λ d. (l.task, d)) (range_with_len 0 l.number) ++ rest);
  serials : (bound : ℕ) → l.serial ≤ bound → IfSome (open_in l.initial.frames.items) (λ frame. frame.serial ≤ bound) → IfSome (open_in l.frames.items) (λ frame. frame.serial ≤ bound + l.number);
  more : vec_len l.frames ≤ vec_len l.initial.frames + l.number;
  room : vec_capacity l.initial.frames ≤ vec_capacity l.frames;
}
