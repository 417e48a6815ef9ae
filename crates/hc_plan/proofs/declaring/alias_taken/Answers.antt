use Rattle.std.proofs.Common.{◌==◌, ap, is_some, ◌∙◌}
use Rattle.hc_plan.proofs.Declared.{found-any}
use Rattle.hc_plan.proofs.declaring.alias_taken.Goals as goal

pub returns : goal.returns
returns c = c.is_some.ensures ∙ ap (λ found. is_some found) c.group.ensures.value ∙ found-any (λ declared. declared.group.alias == c.args.alias) c.args.groups.now
