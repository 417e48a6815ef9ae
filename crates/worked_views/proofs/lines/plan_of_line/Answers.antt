use Rattle.std.proofs.Common.{sym, subst}
use Rattle.hc_publish.specs.ChangesSince.{IsOpening}
use Rattle.hc_publish.proofs.lemmas.Openings.{is-opening}
use Rattle.worked_views.proofs.lines.plan_of_line.Goals as goal

pub returns-in-Ok : goal.returns-in-Ok
returns-in-Ok c = subst IsOpening (sym c.in-Ok.ensures.state) (is-opening _)
