use Rattle.std.proofs.Common.{◌≡◌, ◌<◌, ap, length, get_or, arith, ◌∙◌, append-nil, sym}
use Rattle.std.proofs.lemmas.List.{drop_all}
use Rattle.hc_records.specs.Area.{entries_at}
use Rattle.hc_changes.proofs.Adding.{names-added}
use Rattle.hc_changes.proofs.rows.add_area_variables.Goals as goal

pub loop-index-preserved : goal.loop-index-preserved
loop-index-preserved c =
    let area = c.args.area.now in
    let i = c.loop-index.index-index in
    let entries = c.offered_entries-entries.result.now in
    let within : i < length area.assigned = omega (arith, ap length c.as_slice-index-items.ensures) in
    let is : entries ≡ entries_at area.offered (get_or area.assigned i 0) = cc in
    names-added (entries_at area.offered) area.assigned i 0 entries c.loop-index.variables.items c.add_entry_variables.new.variables.items _ within is
    c.in_ok-add_entry_variables.ensures c.loop-index.invariant

pub returns : goal.returns
returns c = sym (append-nil c.loop-index.variables.items) ∙ rw (drop_all c.loop-index.index-index c.args.area.now.assigned (rw c.as_slice-index-items.ensures at c.loop-index-test.false)) at c.loop-index.invariant
