use Rattle.std.proofs.Common.{List, [], ◌∷◌, ◌++◌, sym, ap, ◌∙◌}
use Rattle.hc_records.specs.declared.keys.Key.{Key}
use Rattle.hc_records.specs.declared.keys.TheConstants.Key.{END}
use Rattle.hc_records.specs.Boundaries.{boundaries}
use Rattle.hc_records.specs.Line.{State, line}
use Rattle.hc_records.specs.TaskList.{task_list}
use Rattle.hc_cuts.specs.Areas.{areas_by_rank}
use Rattle.hc_cuts.proofs.lemmas.AnswerGiven.{task-listed}
use Rattle.hc_plan.proofs.plan.Plan.starts.Goals as goal

pub returns-clause-keys : goal.returns-clause-keys
returns-clause-keys c =
    let groups = c.self.inside.groups in
    ap (λ (keys : List Key). keys ++ END ∷ []) (c.starts.ensures.starts (areas_by_rank groups) c.self.invariant.3)
    ∙ ap boundaries (sym (task-listed c.args.task groups))
    ∙ ap (λ (state : State). boundaries (task_list c.args.task (line state))) c.self.view_is
