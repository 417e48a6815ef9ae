use Rattle.toml.proofs.Views.{view-Table}
use Rattle.hc_project.proofs.AnswerGiven.{answer_given}
use Rattle.hc_project.proofs.located.locate.Goals as goal

pub returns : goal.returns
returns c =
    answer_given c.args.text.now _ _ c.find_lowest.result (view-Table c.in-Ok.table) c.in-Ok.ensures.ok.0 c.in-Ok.ensures.ok.1 c.find_lowest.ensures
