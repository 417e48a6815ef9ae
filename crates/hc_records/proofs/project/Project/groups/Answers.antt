use Rattle.std.proofs.Common.{subst}
use Rattle.hc_records.specs.Limits.{IsProjectInside}
use Rattle.hc_records.proofs.lemmas.Limits.{project-inside}
use Rattle.hc_records.proofs.project.Project.groups.Goals as goal

pub returns-clause-inside : goal.returns-clause-inside
returns-clause-inside c = subst IsProjectInside c.self.view_is (project-inside c.self.inside.groups c.self.invariant)
