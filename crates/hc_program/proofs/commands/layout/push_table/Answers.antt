use Rattle.hc_program.specs.Layout.{task_text}
use Rattle.hc_program.proofs.Numbered.{one_more}
use Rattle.hc_program.proofs.commands.layout.push_table.Goals as goal

pub loop-task-preserved : goal.loop-task-preserved
loop-task-preserved c = one_more (task_text c.args.places.now) c.loop-task.task _ _ _ c.loop-task.invariant c.in_ok-push_task.ensures
