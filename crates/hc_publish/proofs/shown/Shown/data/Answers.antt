use Rattle.std.proofs.Common.{◌≤◌, ◌⊎◌, ◌∙◌, ap, arith, inl, inr, sym}
use Rattle.hc_records.specs.declared.limits.TheConstants.{MOST_DATAGRAMS, TASKS}
use Rattle.hc_publish.specs.Histories.{changes_of}
use Rattle.hc_publish.specs.ChangesSince.{data_shown}
use Rattle.hc_publish.proofs.Taken.{no-data}
use Rattle.hc_publish.proofs.shown.Shown.data.Goals as goal
use Rattle.hc_publish.proofs.shown.Shown.data.Goals.{else-task-lt-TASKS-via-then-task-lt-TASKS+else-from-lt-MOST_DATAGRAMS, else-task-lt-TASKS-via-else-task-lt-TASKS}

pub returns-else-task-lt-TASKS : goal.returns-else-task-lt-TASKS
returns-else-task-lt-TASKS c =
    let outside : (TASKS ≤ c.args.task) ⊎ (MOST_DATAGRAMS ≤ c.args.datagram) = elim c.else-task-lt-TASKS.branch [
      | else-task-lt-TASKS-via-then-task-lt-TASKS+else-from-lt-MOST_DATAGRAMS w ↦ inr (omega (arith, w.from.ensures, w.if-from-lt-MOST_DATAGRAMS.false))
      | else-task-lt-TASKS-via-else-task-lt-TASKS w ↦ inl w.if-task-lt-TASKS.false
    ] in
    sym (no-data c.args.task c.args.datagram (changes_of c.self.inside.history) c.self.invariant.fits outside)
    ∙ ap (λ changes_since. data_shown changes_since c.args.task c.args.datagram) c.self.view_is
