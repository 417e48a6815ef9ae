use Rattle.std.specs.Prelude.{codes}
use Rattle.hc_program.specs.Refusals.{declare_fault_text, project_fault_words}
use Rattle.hc_program.proofs.Grown.{grown_ok}
use Rattle.hc_program.proofs.refusals.push_declare_fault.Goals as goal

pub returns : goal.returns
unfolding declare_fault_text
returns c =
    grown_ok c.push_project_fault_words.result _ _ _ (codes "declare fault ") (project_fault_words c.args.fault) c.in_ok-push_str.ensures.bytes c.push_project_fault_words.ensures
