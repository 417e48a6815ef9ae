use Rattle.std.proofs.Common.{◌∙◌, ap, length}
use Rattle.hc_places.specs.Table.{RowsAscend}
use Rattle.hc_places.specs.Swap.{merged}
use Rattle.hc_places.proofs.Roomy.{replaced-length}
use Rattle.hc_places.proofs.Swapped.{merged-rows-ascend}
use Rattle.hc_places.proofs.table.Places.carry_out.Goals as goal

pub invariant_of-self : goal.invariant_of-self
invariant_of-self c =
    let rows = c.self.inside.variables.items in
    let changed = c.as_slice.result.now in
    let up : RowsAscend (merged changed rows) = merged-rows-ascend changed rows c.self.invariant.ascends in
    record {
      eight = ap length c.replace_tasks.ensures ∙ replaced-length c.as_slice-2.result.now c.self.inside.tasks ∙ c.self.invariant.eight;
      ascends = rw c.change_rows.ensures up;
    }
