use Rattle.std.proofs.Common.{◌∙◌}
use Rattle.hc_records.specs.Edits.{is_declared_variable}
use Rattle.hc_plan.proofs.Declared.{slaves-taken}
use Rattle.hc_plan.proofs.declaring.variables_taken.Goals as goal

pub returns : goal.returns
returns c = c.slaves_take.ensures ∙ slaves-taken (is_declared_variable c.args.groups.now) c.args.slaves.now
