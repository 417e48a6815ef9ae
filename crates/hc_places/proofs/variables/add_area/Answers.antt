use Rattle.std.proofs.Common.{◌≡◌, ◌+◌, ◌<◌, ◌++◌, ◌∙◌, ap, sym, length, drop, get_or, arith, ℕ, append-nil, map}
use Rattle.std.specs.List.{flat_map}
use Rattle.std.proofs.lemmas.List.{drop_all}
use Rattle.hc_records.specs.Area.{entry_bits, entries_at, assigned_entries}
use Rattle.hc_places.specs.inner.Parts.{row_at}
use Rattle.hc_places.proofs.Widths.{entries-bits}
use Rattle.hc_places.proofs.Entries.{AddsEntries, added-bits, added-rows, bits-append, entries-drop}
use Rattle.hc_records.specs.Image.{variables_from}
use Rattle.hc_places.proofs.variables.add_area.Goals as goal

pub loop-index-preserved : goal.loop-index-preserved
loop-index-preserved c =
    let area = c.args.area.now in
    let i = c.loop-index.index-index in
    let entries = c.offered_entries-entries.result.now in
    let within : i < length area.assigned = omega (arith, ap length c.as_slice-index-items.ensures) in
    let is : entries ≡ entries_at area.offered (get_or area.assigned i 0) = cc in
    let rest = flat_map (entries_at area.offered) (drop (i + 1) area.assigned) in
    let adds : AddsEntries (row_at c.args.task c.datagram.result area.dir) c.loop-index.rows.items c.add_entries.new.rows.items c.loop-index.bit c.in_ok-bit.bit
    entries rest (flat_map (entries_at area.offered) (drop i area.assigned)) = record {
      whole_is = entries-drop area.offered area.assigned i within ∙ ap (λ own. own ++ rest) (sym is);
      adds = c.in_ok-bit.ensures.rows;
      after_it = c.in_ok-bit.ensures.after_it;
    } in
    record {
      rows = added-rows _ _ _ _ _ _ _ _ _ adds c.loop-index.invariant.rows;
      bits = added-bits _ _ _ _ _ _ _ _ _ adds c.loop-index.invariant.bits;
    }

pub add_entries-requires-clause-widths : goal.add_entries-requires-clause-widths
add_entries-requires-clause-widths c = grind (arith, get_or, entries-bits)

pub add_entries-requires-clause-inside : goal.add_entries-requires-clause-inside
add_entries-requires-clause-inside c =
    let area = c.args.area.now in
    let i = c.loop-index.index-index in
    let entries = c.offered_entries-entries.result.now in
    let within : i < length area.assigned = omega (arith, ap length c.as_slice-index-items.ensures) in
    let is : entries ≡ entries_at area.offered (get_or area.assigned i 0) = cc in
    let rest = flat_map (entries_at area.offered) (drop (i + 1) area.assigned) in
    let whole = entries-drop area.offered area.assigned i within ∙ ap (λ own. own ++ rest) (sym is) in
    omega (arith, ap entry_bits whole, bits-append entries rest, c.loop-index.invariant.bits, c.requires.inside)

pub returns : goal.returns
returns c =
    let area = c.args.area.now in
    let none = drop_all c.loop-index.index-index area.assigned (rw c.as_slice-index-items.ensures at c.loop-index-test.false) in
    let row = λ (datagram : ℕ). c.args.rows.now.items ++ map (row_at c.args.task datagram area.dir) (variables_from c.args.placed.bit (assigned_entries area)) in
    sym (append-nil c.loop-index.rows.items) ∙ rw none at c.loop-index.invariant.rows ∙ ap row c.datagram.ensures
