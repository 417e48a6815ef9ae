use Rattle.hc_program.proofs.Openings.{opened_is_project}
use Rattle.hc_program.proofs.opening.open_session.Goals as goal

pub returns-in-Err-clause-reason : goal.returns-in-Err-clause-reason
returns-in-Err-clause-reason g c = opened_is_project _ _ c.in_ok-master.ensures.opened
