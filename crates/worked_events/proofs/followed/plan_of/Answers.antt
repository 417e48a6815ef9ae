use Rattle.std.proofs.Common.{sym, subst}
use Rattle.hc_publish.specs.ChangesSince.{IsOpening}
use Rattle.hc_publish.proofs.lemmas.Openings.{is-opening}
use Rattle.worked_events.proofs.followed.plan_of.Goals as goal

pub returns-in-Ok-new : goal.returns-in-Ok-new
returns-in-Ok-new c = subst IsOpening (sym c.in-Ok-new.ensures.state) (is-opening _)
