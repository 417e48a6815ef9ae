use Rattle.std.proofs.Common.{◌<◌, ◌∙◌, length, arith, sym}
use Rattle.std.proofs.lemmas.Bool.{eqb-true}
use Rattle.hc_records.specs.declared.limits.TheConstants.{TASKS}
use Rattle.hc_records.specs.Image.{output_length, task_places}
use Rattle.hc_events.specs.Points.{line_of}
use Rattle.hc_core.proofs.lemmas.PostFaults.{steady_post-accepted, steady_post-length, steady_post-stale}
use Rattle.hc_core.proofs.keeping.Core.post_steady.Goals as goal

pub take_post-requires : goal.take_post-requires
take_post-requires c = record {
  in_range = omega (arith, c.if-task-ge-TASKS.false);
  fits =
      eqb-true (length c.args.bytes.now) (output_length (task_places c.args.task (line_of c.args.self.now.history)))
      (sym c.fits_outputs.ensures ∙ c.if-not-fits_outputs.false);
}

pub returns-then-is_stale_epoch-clause-refused : goal.returns-then-is_stale_epoch-clause-refused
returns-then-is_stale_epoch-clause-refused c =
    let low : c.args.task < TASKS = omega (arith, c.if-task-ge-TASKS.false) in
    steady_post-stale c.args.self.now.history c.args.task c.args.epoch c.args.bytes.now low (sym c.is_stale_epoch.ensures ∙ c.if-is_stale_epoch.true)

pub returns-then-not-fits_outputs-clause-refused : goal.returns-then-not-fits_outputs-clause-refused
returns-then-not-fits_outputs-clause-refused c =
    let low : c.args.task < TASKS = omega (arith, c.if-task-ge-TASKS.false) in
    steady_post-length c.args.self.now.history c.args.task c.args.epoch c.args.bytes.now low (sym c.is_stale_epoch.ensures ∙ c.if-is_stale_epoch.false) (sym c.fits_outputs.ensures ∙ c.if-not-fits_outputs.true)

pub returns-clause-accepted : goal.returns-clause-accepted
returns-clause-accepted c =
    let low : c.args.task < TASKS = omega (arith, c.if-task-ge-TASKS.false) in
    steady_post-accepted c.args.self.now.history c.args.task c.args.epoch c.args.bytes.now low (sym c.is_stale_epoch.ensures ∙ c.if-is_stale_epoch.false) (sym c.fits_outputs.ensures ∙ c.if-not-fits_outputs.false)
