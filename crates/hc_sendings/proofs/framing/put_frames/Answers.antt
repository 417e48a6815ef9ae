use Rattle.std.proofs.Common.{◌≡◌, ◌+◌, ◌*◌, ◌≤◌, ◌++◌, ◌∙◌, ℕ, List, ap, sym, subst, arith, drop, drop-cons, get_or, add-one, ◌∷◌, []}
use Rattle.std.specs.Prelude.{IfSome}
use Rattle.std.specs.List.{flat_map}
use Rattle.std.proofs.lemmas.List.{drop_all}
use Rattle.hc_records.specs.Line.{line}
use Rattle.hc_events.specs.Sendings.{task_datagrams}
use Rattle.hc_sendings.specs.Framing.{closed, framed_from, open_in}
use Rattle.hc_sendings.proofs.Framed.{whole-of}
use Rattle.hc_sendings.proofs.framing.put_frames.Goals as goal

pub loop-task-preserved : goal.loop-task-preserved
loop-task-preserved c =
    let members = line c.args.plan.now in
    let index = c.loop-task.task-index in
    let split : drop index c.args.tasks.now ≡ get_or c.args.tasks.now index 0 ∷ drop (index + 1) c.args.tasks.now =
    rw add-one (drop-cons c.args.tasks.now index 0 c.loop-task-test.true) in
    let left = flat_map (task_datagrams members) (drop (index + 1) c.args.tasks.now) in
    let bound : ℕ = c.args.serial + 16 * index in
    record {
      framed =
          c.in_ok-place_task.ensures.framed left
          ∙ ap (λ (tasks : List ℕ). closed c.loop-task.frames.items ++ framed_from members c.args.serial (open_in c.loop-task.frames.items) (flat_map (task_datagrams members) tasks))
          (sym split)
          ∙ c.loop-task.invariant.framed;
      serials = subst (λ (n : ℕ). IfSome (open_in c.place_task.new.frames.items) (λ frame. frame.serial ≤ n)) (omega arith) (c.in_ok-place_task.ensures.serials bound (omega arith) c.loop-task.invariant.serials);
      more = omega (arith, c.in_ok-place_task.ensures.more, c.loop-task.invariant.more);
      room = omega (arith, c.place_task.ensures.room, c.loop-task.invariant.room);
    }

pub returns-clause-frames : goal.returns-clause-frames
returns-clause-frames c =
    let members = line c.args.plan.now in
    let frames = c.loop-task.frames.items in
    let done : drop c.loop-task.task-index c.args.tasks.now ≡ [] = drop_all c.loop-task.task-index c.args.tasks.now (grind (arith, c.loop-task.auto.task-index-end, c.loop-task-test.false)) in
    sym (whole-of members c.args.serial frames)
    ∙ ap (λ (tasks : List ℕ). closed frames ++ framed_from members c.args.serial (open_in frames) (flat_map (task_datagrams members) tasks)) (sym done)
    ∙ c.loop-task.invariant.framed
