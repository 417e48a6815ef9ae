use Rattle.std.proofs.Common.{◌≡◌, ◌∙◌, ◌-◌, ◌≤◌, ℕ, List, ap, arith, drop, length, subst, sym, take}
use Rattle.std.specs.Prelude.{IsTrue, slice_range}
use Rattle.std.specs.List.{AllWithin}
use Rattle.std.proofs.lemmas.List.{length-drop, take_all}
use Rattle.hc_places.specs.Swap.{ChangedRow, ChangesAscend, keeps_row, merged}
use Rattle.hc_places.specs.inner.Overwritten.{rows_overwritten}
use Rattle.hc_places.specs.Table.{VariableRow, RowsAscend}
use Rattle.hc_places.proofs.Parted.{all-overwritten-ascend, middle-left, part-ascends}
use Rattle.hc_places.proofs.middle.change_middle.Goals as goal

-- the changes seen keep their rows
abbrev Keep : List ChangedRow → ℕ → ℕ → List VariableRow → Type 0
Keep changed low high rows = AllWithin (λ (c : ChangedRow). IsTrue (keeps_row rows c)) changed low high

-- once those in front and those after are made, the middle ones are left
left : (changed : List ChangedRow) (rows shown once twice : List VariableRow) (first end : ℕ) → shown ≡ rows → once ≡ rows_overwritten (take first changed) rows
    → twice ≡ rows_overwritten (take (length changed - end) (drop end changed)) once → first ≤ end → ChangesAscend changed → RowsAscend rows → Keep changed 0 first shown → Keep changed end (length changed) shown
    → merged (slice_range changed first end) twice ≡ merged changed rows
left changed rows shown once twice first end is one two order changes ascends front after_it =
    let size = length-drop end changed in
    let rest = take_all (length changed - end) (drop end changed) (omega (arith, size)) in
    ap (merged (slice_range changed first end)) (two ∙ ap (λ (l : List ChangedRow). rows_overwritten l once) rest ∙ ap (rows_overwritten (drop end changed)) one)
    ∙ middle-left changed rows first end order changes ascends (subst (Keep changed 0 first) is front) (subst (Keep changed end (length changed)) is after_it)

pub overwrite-requires-2-clause-ascends : goal.overwrite-requires-2-clause-ascends
overwrite-requires-2-clause-ascends c =
    let changed = c.args.changed.now in
    subst RowsAscend (sym c.overwrite.ensures) (all-overwritten-ascend (take c.find_middle-first.result.0 changed) c.args.rows.now.items c.requires.ascends)

pub merge_rows-requires-clause-ascends : goal.merge_rows-requires-clause-ascends
merge_rows-requires-clause-ascends c =
    let changed = c.args.changed.now in
    let end = c.find_middle-first.result.1 in
    let once = subst RowsAscend (sym c.overwrite.ensures) (all-overwritten-ascend (take c.find_middle-first.result.0 changed) c.args.rows.now.items c.requires.ascends) in
    subst RowsAscend (sym c.overwrite-2.ensures) (all-overwritten-ascend (take (length changed - end) (drop end changed)) c.overwrite.new.rows.items once)

pub merge_rows-requires-clause-changes : goal.merge_rows-requires-clause-changes
merge_rows-requires-clause-changes c = part-ascends c.args.changed.now c.find_middle-first.result.0 c.find_middle-first.result.1 c.find_middle-first.ensures.order c.requires.changes

pub merge_rows-requires-clause-room : goal.merge_rows-requires-clause-room
merge_rows-requires-clause-room c =
    let found = c.find_middle-first in
    let is = left c.args.changed.now c.args.rows.now.items c.as_slice.result.now c.overwrite.new.rows.items c.overwrite-2.new.rows.items found.result.0 found.result.1 c.as_slice.ensures.value c.overwrite.ensures c.overwrite-2.ensures
    found.ensures.order c.requires.changes c.requires.ascends found.ensures.front found.ensures.after_it in
    let size = ap length is in
    omega (arith, size, c.requires.room)

pub returns : goal.returns
returns c =
    let found = c.find_middle-first in
    c.merge_rows.ensures
    ∙ left c.args.changed.now c.args.rows.now.items c.as_slice.result.now c.overwrite.new.rows.items c.overwrite-2.new.rows.items found.result.0 found.result.1 c.as_slice.ensures.value c.overwrite.ensures c.overwrite-2.ensures
    found.ensures.order c.requires.changes c.requires.ascends found.ensures.front found.ensures.after_it
