use Rattle.std.proofs.Common.{◌≡◌, ◌+◌, ◌*◌, ◌≤◌, ◌++◌, drop}
use Rattle.std.specs.Prelude.{IfSome, vec_capacity, vec_len}
use Rattle.std.specs.List.{flat_map}
use Rattle.hc_records.specs.Line.{line}
use Rattle.hc_events.specs.Sendings.{sendings_of, task_datagrams}
use Rattle.hc_sendings.specs.Framing.{closed, framed_from, open_in}
use Rattle.hc_sendings.proofs.framing.put_frames.Given as goal

abbrev pub invariant-loop-task : goal.invariant-loop-task
invariant-loop-task l = record {
  framed : closed l.frames.items ++ framed_from (line l.plan) l.serial (open_in l.frames.items) (flat_map (task_datagrams (line l.plan)) (drop l.task-index l.tasks)) ≡ sendings_of (line l.plan) l.serial l.tasks;
  serials : IfSome (open_in l.frames.items) (λ frame. frame.serial ≤ l.serial + 16 * l.task-index);
  more : vec_len l.frames ≤ 16 * l.task-index;
  room : vec_capacity l.initial.frames ≤ vec_capacity l.frames;
}
