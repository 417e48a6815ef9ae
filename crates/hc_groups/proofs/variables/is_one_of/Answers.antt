use Rattle.std.proofs.Common.{◌∙◌}
use Rattle.hc_groups.proofs.Searched.{searched-any}
use Rattle.hc_groups.proofs.variables.is_one_of.Goals as goal

pub returns : goal.returns
returns c = c.is_ok.ensures.value ∙ searched-any c.args.variables.now c.args.variable c.binary_search.result c.binary_search.ensures.position c.requires
