use Rattle.std.proofs.Common.{◌≡◌, ◌∷◌, ◌++◌, [], Some, ap, append-nil, sym, if◌then◌else◌, ◌∙◌}
use Rattle.std.proofs.lemmas.List.{drop_all}
use Rattle.hc_places.specs.Swap.{ChangedRow}
use Rattle.hc_places.specs.Table.{VariableRow}
use Rattle.hc_changes.specs.Rows.{is_new_row, moved_rows}
use Rattle.hc_changes.proofs.Adding.{unchanged-added}
use Rattle.hc_changes.proofs.rows.add_moved.Goals as goal
use Rattle.hc_changes.proofs.rows.add_moved.Goals.{then-is_new+in_ok-push, else-is_new}

pub loop-row-preserved : goal.loop-row-preserved
loop-row-preserved c =
    let l = c.loop-row in
    let old = c.args.old.now in
    let found = c.args.found.now in
    let row : VariableRow = c.row-item.result in
    let make : VariableRow → ChangedRow = λ r. (r.0, Some r.1) in
    let adds : c.if-is_new.rows.items ≡ l.rows.items ++ (if c.is_new.result then make row ∷ [] else []) =
    elim c.if-is_new.branch [
      | then-is_new+in_ok-push w ↦ rw (w.rows-is, w.if-is_new.true) (w.in_ok-push.ensures.items ∙ ap (λ (one : ChangedRow). l.rows.items ++ one ∷ []) w.of.ensures)
      | else-is_new w ↦ rw (w.rows-is, w.if-is_new.false) (sym (append-nil l.rows.items))
    ] in
    unchanged-added make (is_new_row old) found l.row-index row c.is_new.result l.rows.items c.if-is_new.rows.items (c.args.rows.now.items ++ moved_rows old found) c.loop-row-test.true c.row-item.is
    (sym c.is_new.ensures) adds l.invariant

pub returns : goal.returns
returns c = sym (append-nil c.loop-row.rows.items) ∙ rw (drop_all c.loop-row.row-index c.args.found.now c.loop-row-test.false) at c.loop-row.invariant
