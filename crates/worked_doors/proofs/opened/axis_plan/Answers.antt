use Rattle.std.proofs.Common.{sym, subst}
use Rattle.hc_publish.specs.ChangesSince.{IsOpening}
use Rattle.hc_publish.proofs.lemmas.Openings.{is-opening}
use Rattle.worked_doors.proofs.opened.axis_plan.Goals as goal

pub returns : goal.returns
returns c = subst IsOpening (sym c.in_ok-new.ensures.state) (is-opening _)
