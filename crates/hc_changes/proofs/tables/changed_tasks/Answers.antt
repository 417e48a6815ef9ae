use Rattle.std.proofs.Common.{◌∙◌, List, subst}
use Rattle.std.proofs.lemmas.Result.{IfOk-weaker}
use Rattle.hc_records.specs.Line.{line_from}
use Rattle.hc_places.specs.Swap.{AreDifferences}
use Rattle.hc_places.specs.Table.{TaskTable, table_of}
use Rattle.hc_changes.specs.Tables.{AfterEdit}
use Rattle.hc_changes.proofs.tables.changed_tasks.Goals as goal

pub returns-clause-says : goal.returns-clause-says
returns-clause-says c =
    let old = c.args.old.now in
    let tables = c.as_slice.result.now in
    IfOk-weaker c.changed_tasks.result
    (λ changed. AreDifferences old.tasks tables changed.items)
    (λ changed. AfterEdit old c.args.before.now c.args.cuts.now (λ after. AreDifferences old.tasks (table_of (line_from 1 after)).tasks changed.items))
    (λ changed shows before after edited.
    subst (λ (all : List TaskTable). AreDifferences old.tasks all changed.items) (c.as_slice.ensures.value ∙ c.in_ok-tables.ensures.tables before after edited) shows)
    c.changed_tasks.ensures.says
