use Rattle.std.proofs.Common.{◌≤◌, sym, subst, arith}
use Rattle.hc_images.specs.Packed.{HoldsOutputValues, Packed}
use Rattle.hc_images.specs.Values.{posted_values}
use Rattle.hc_exchange.proofs.sending.packed.Goals as goal
use Rattle.hc_exchange.proofs.sending.packed.Goals.{then-task-lt-TASKS, else-task-lt-TASKS}

pub returns : goal.returns
returns c low = elim c.if-task-lt-TASKS.branch [
  | then-task-lt-TASKS w ↦ subst (λ (p : Packed). HoldsOutputValues c.args.places.now (posted_values c.args.places.now c.args.task c.args.image.now (λ variable k. 0)) p) (sym w.packed-is) (w.post.ensures (λ variable k. 0) c.in_ok-packed.ensures)
  | else-task-lt-TASKS w ↦ let high : 8 ≤ c.args.task = w.if-task-lt-TASKS.false in absurd (omega arith)
]
