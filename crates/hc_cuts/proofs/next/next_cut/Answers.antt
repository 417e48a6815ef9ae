use Rattle.std.proofs.Common.{◌∙◌}
use Rattle.hc_cuts.proofs.Searched.{searched-boundary}
use Rattle.hc_cuts.proofs.next.next_cut.Goals as goal

pub returns-clause-key : goal.returns-clause-key
returns-clause-key g c = c.last_fit.ensures.key ∙ searched-boundary c.args.from c.args.task.now.list c.last_fit.ensures.holds.list
