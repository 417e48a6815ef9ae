-- The law is the lemma on a whole project.
use Rattle.hc_project.proofs.WholeProject.{project-read_back}
use Rattle.hc_project.proofs.laws.projects_read_back.Goals as goal

pub returns : goal.returns
returns c = project-read_back
