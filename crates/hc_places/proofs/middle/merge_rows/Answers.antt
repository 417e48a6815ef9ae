use Rattle.std.proofs.Common.{◌≡◌, ◌∙◌, ◌-◌, ◌≤◌, ◌++◌, ℕ, ap, arith, drop, length, length-drop, List, subst, sym, take}
use Rattle.std.specs.Prelude.{slice_range}
use Rattle.std.proofs.lemmas.List.{length-take-le}
use Rattle.hc_places.specs.Swap.{ChangedRow, ChangesAscend, merged}
use Rattle.hc_places.specs.Table.{VariableRow, RowsAscend}
use Rattle.hc_places.specs.inner.Walk.{merges, walked}
use Rattle.hc_places.proofs.Merged.{walked-merged}
use Rattle.hc_places.proofs.Parted.{part-ascends, part-few}
use Rattle.hc_places.proofs.Roomy.{merged-few}
use Rattle.hc_places.proofs.middle.merge_rows.Goals as goal

-- the rows that a change concerns, merged

part-merged : (changed : List ChangedRow) (rows shown : List VariableRow) (low high : ℕ) → low ≤ high → shown ≡ rows → ChangesAscend changed → RowsAscend rows
    → walked merges (take (high - low) (drop low shown)) changed ≡ merged changed (slice_range rows low high)
part-merged changed rows shown low high order is changes ascends =
    ap (λ (l : List VariableRow). walked merges (take (high - low) (drop low l)) changed) is
    ∙ walked-merged changed (slice_range rows low high) changes (part-ascends rows low high order ascends)

all-merged : (changed : List ChangedRow) (rows shown : List VariableRow) → shown ≡ rows → ChangesAscend changed → RowsAscend rows → walked merges shown changed ≡ merged changed rows
all-merged changed rows shown is changes ascends = ap (λ (l : List VariableRow). walked merges l changed) is ∙ walked-merged changed rows changes ascends

-- they are part of all
abbrev IsParted : List ChangedRow → ℕ → ℕ → List VariableRow → Type 0
IsParted changed low high rows = merged changed rows ≡ take low rows ++ (merged changed (slice_range rows low high) ++ drop high rows)

pub merge-new-requires-clause-room : goal.merge-new-requires-clause-room
merge-new-requires-clause-room c =
    let changed = c.args.changed.now in
    let rows = c.args.rows.now.items in
    let found = c.find_rows-low in
    let low = found.result.0 in
    let high = found.result.1 in
    let size = ap length (part-merged changed rows c.deref.result.now low high found.ensures.order c.deref.ensures.value c.requires.changes c.requires.ascends) in
    let few = part-few (merged changed rows) (take low rows) (merged changed (slice_range rows low high)) (drop high rows) (subst (IsParted changed low high) c.as_slice.ensures.value found.ensures.parts) in
    omega (arith, few, size, c.requires.room)

-- as many more as there are changes have room
pub replace_rows-requires-clause-room : goal.replace_rows-requires-clause-room
replace_rows-requires-clause-room c =
    let changed = c.args.changed.now in
    let rows = c.args.rows.now.items in
    let found = c.find_rows-low in
    let low = found.result.0 in
    let high = found.result.1 in
    let is = c.as_slice-then-changed-capacity.ensures.value
    ∙ c.merge-new.ensures.items
    ∙ part-merged changed rows c.deref.result.now low high found.ensures.order c.deref.ensures.value c.requires.changes c.requires.ascends in
    let size = ap length is in
    let few = merged-few changed (slice_range rows low high) in
    let bound = subst (λ (l : List VariableRow). high ≤ length l) c.as_slice.ensures.value found.ensures.bound in
    let whole = length-drop low rows in
    let part = length-take-le (high - low) (drop low rows) (omega (arith, bound, whole)) in
    omega (arith, size, few, part, c.if-changed-capacity.true, c.capacity.ensures, c.len.ensures)

pub merge-requires-clause-room : goal.merge-requires-clause-room
merge-requires-clause-room c =
    let size = ap length (all-merged c.args.changed.now c.args.rows.now.items c.as_slice-else-changed-capacity.result.now c.as_slice-else-changed-capacity.ensures.value c.requires.changes c.requires.ascends) in
    omega (arith, size, c.requires.room)

pub returns-then-changed-capacity : goal.returns-then-changed-capacity
returns-then-changed-capacity c =
    let changed = c.args.changed.now in
    let rows = c.args.rows.now.items in
    let found = c.find_rows-low in
    let low = found.result.0 in
    let high = found.result.1 in
    let is = part-merged changed rows c.deref.result.now low high found.ensures.order c.deref.ensures.value c.requires.changes c.requires.ascends in
    c.replace_rows.ensures ∙ ap (λ (l : List VariableRow). take low rows ++ (l ++ drop high rows)) (c.as_slice-then-changed-capacity.ensures.value ∙ c.merge-new.ensures.items ∙ is)
    ∙ sym (subst (IsParted changed low high) c.as_slice.ensures.value found.ensures.parts)

pub returns-else-changed-capacity : goal.returns-else-changed-capacity
returns-else-changed-capacity c =
    c.merge.ensures.items
    ∙ all-merged c.args.changed.now c.args.rows.now.items c.as_slice-else-changed-capacity.result.now c.as_slice-else-changed-capacity.ensures.value c.requires.changes c.requires.ascends
