use Rattle.std.proofs.Common.{◌∙◌, Some, ap, sym}
use Rattle.hc_c.specs.Opening.{opened_by}
use Rattle.hc_c.proofs.opening.zangjulf_open.Goals as goal

pub returns-in-Ok-open_project-clause-opened : goal.returns-in-Ok-open_project-clause-opened
returns-in-Ok-open_project-clause-opened c done =
    c.of.ensures ∙ ((λ t. Some (c.in-Ok-open_project.ensures.opened t)) ∙ ap (opened_by c.args.options.now.lookers) (sym c.in-Ok.ensures.project))
