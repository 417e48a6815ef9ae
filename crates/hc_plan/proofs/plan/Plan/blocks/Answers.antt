use Rattle.std.proofs.Common.{◌∙◌, List, sym, ap}
use Rattle.std.specs.Prelude.{sum_by}
use Rattle.hc_records.specs.declared.records.Declared.{Declared}
use Rattle.hc_records.specs.Line.{line_from}
use Rattle.hc_groups.specs.Index.{own_blocks}
use Rattle.hc_plan.proofs.LineBlocks.{blocks-owned}
use Rattle.hc_plan.proofs.plan.Plan.blocks.Goals as goal

pub returns : goal.returns
returns c =
    let line = line_from 1 c.args.self.now.groups in
    c.blocks-2.ensures
    ∙ ap (λ (g : List Declared). sum_by own_blocks (line_from 1 g)) c.indexed.ensures
    ∙ sym (blocks-owned line line)
