use Rattle.std.proofs.Common.{◌∙◌, List, ap}
use Rattle.std.specs.Prelude.{sum_by}
use Rattle.hc_records.specs.declared.records.Declared.{Declared}
use Rattle.hc_records.specs.Line.{line_from}
use Rattle.hc_groups.specs.Index.{own_blocks}
use Rattle.hc_groups.proofs.Indexes.{blocks-total}
use Rattle.hc_groups.proofs.index.Indexed.blocks.Goals as goal

pub bounds-self-inside-self-inside : goal.bounds-self-inside-self-inside
bounds-self-inside-self-inside c = (blocks-total c.self.inside.groups.now _ c.self.invariant.0).0

pub returns : goal.returns
returns c = (blocks-total c.self.inside.groups.now _ c.self.invariant.0).1 ∙ ap (λ (g : List Declared). sum_by own_blocks (line_from 1 g)) c.self.view_is
