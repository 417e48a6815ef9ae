use Rattle.std.specs.Prelude.{codes}
use Rattle.hc_program.specs.Refusals.{project_fault_words}
use Rattle.hc_program.proofs.Grown.{grown_ok}
use Rattle.hc_program.proofs.refusals.push_project_fault.Goals as goal

pub returns : goal.returns
returns c =
    grown_ok c.push_project_fault_words.result _ _ _ (codes "project fault ") (project_fault_words c.args.fault) c.in_ok-push_str.ensures.bytes c.push_project_fault_words.ensures
