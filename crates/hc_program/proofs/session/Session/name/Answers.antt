use Rattle.std.proofs.Common.{subst, sym}
use Rattle.hc_records.specs.Line.{IsCounted}
use Rattle.hc_records.proofs.lemmas.Slaves.{project-counted}
use Rattle.hc_program.proofs.session.Session.name.Goals as goal

pub name-requires-after_bounds : goal.name-requires-after_bounds
name-requires-after_bounds g c κs within = subst IsCounted (sym c.groups-groups.ensures.value) (project-counted c.plan.result.now.groups c.groups-groups.ensures.project)
