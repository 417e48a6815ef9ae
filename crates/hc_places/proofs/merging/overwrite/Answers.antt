use Rattle.std.proofs.Common.{◌≡◌, ◌∙◌, ℕ, ◌+◌, ◌<◌, ◌≤◌, List, ap, arith, length, map, subst, sym}
use Rattle.std.proofs.lemmas.List.{drop_all, length-map}
use Rattle.std.specs.List.{AllWithin}
use Rattle.hc_places.specs.Swap.{ChangedRow}
use Rattle.hc_places.specs.inner.Overwritten.{rows_overwritten, row_with}
use Rattle.hc_places.specs.Table.{VariableRow, RowsAscend}
use Rattle.hc_places.proofs.Overwritten.{overwritten-ascends, overwritten-more}
use Rattle.hc_places.proofs.Reached.{lower-next, lower-still}
use Rattle.hc_places.proofs.merging.overwrite.Goals as goal

pub loop-change-preserved : goal.loop-change-preserved
loop-change-preserved c =
    let rows = c.loop-change.rows.items in
    let next = c.overwrite_row.new.rows.items in
    let changed = c.args.changed.now in
    let index = c.loop-change.change-index in
    let front = c.count_with-front.result in
    let change : ChangedRow = c.change-item.result in
    let inside : index < length changed = omega arith in
    let is : next ≡ map (row_with change) rows = c.overwrite_row.ensures in
    let same = c.as_slice-in-loop-change.ensures.value in
    let bound : front ≤ length rows = subst (λ (l : List VariableRow). front ≤ length l) same c.count_with-front.ensures.bound in
    let low : AllWithin (λ (row : VariableRow). row.0 ≤ change.0) rows 0 front = subst (λ (l : List VariableRow). AllWithin (λ (row : VariableRow). row.0 ≤ change.0) l 0 front) same
    (subst (λ (v : ℕ). AllWithin (λ (row : VariableRow). row.0 ≤ v) c.as_slice-in-loop-change.result.now 0 front) c.variable.ensures c.count_with-front.ensures.low) in
    let size = ap length is ∙ length-map rows (row_with change) in
    record {
      is = overwritten-more changed rows next index change inside c.change-item.is is ∙ c.loop-change.invariant.is;
      ascends = subst RowsAscend (sym is) (overwritten-ascends change rows c.loop-change.invariant.ascends);
      within = omega (arith, bound, size);
      lower = lower-still change rows next front changed (index + 1) is bound (lower-next rows front changed index change c.requires.changes inside c.change-item.is low);
    }

pub returns : goal.returns
returns c =
    ap (λ (left : List ChangedRow). rows_overwritten left c.loop-change.rows.items) (sym (drop_all c.loop-change.change-index c.args.changed.now c.loop-change-test.false)) ∙ c.loop-change.invariant.is

pub find_row-at-requires-clause-ascends : goal.find_row-at-requires-clause-ascends
find_row-at-requires-clause-ascends c = subst RowsAscend (sym c.as_slice.ensures.value) c.loop-change.invariant.ascends

pub count_with-front-requires-clause-ascends : goal.count_with-front-requires-clause-ascends
count_with-front-requires-clause-ascends c = subst RowsAscend (sym c.as_slice-in-loop-change.ensures.value) c.loop-change.invariant.ascends

pub overwrite_row-requires-clause-ascends : goal.overwrite_row-requires-clause-ascends
overwrite_row-requires-clause-ascends c = c.loop-change.invariant.ascends
