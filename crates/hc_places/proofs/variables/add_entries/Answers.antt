use Rattle.std.proofs.Common.{◌≡◌, ◌+◌, ◌++◌, ◌∷◌, ◌∙◌, [], ap, append-nil, arith, drop, sym}
use Rattle.std.specs.Prelude.{map}
use Rattle.std.proofs.lemmas.List.{drop_more, drop_all}
use Rattle.hc_records.specs.Area.{Entry}
use Rattle.hc_records.specs.Image.{variables_from}
use Rattle.hc_places.specs.inner.Parts.{row_at}
use Rattle.hc_places.proofs.Entries.{AddsEntries, added-bits, added-rows, bits-cons, bits-drop}
use Rattle.hc_places.proofs.variables.add_entries.Goals as goal
use Rattle.hc_places.proofs.variables.add_entries.Goals.{in-Some+in_ok-push, in_default}

pub overflow_add-bit : goal.overflow_add-bit
overflow_add-bit c =
    let l = c.loop-entry in
    let step = bits-drop c.args.entries.now l.entry-index c.entry-item.result c.loop-entry-test.true c.entry-item.is in
    omega (arith, step, l.invariant.bits, c.requires.inside, c.from-bit.ensures)

pub loop-entry-preserved : goal.loop-entry-preserved
loop-entry-preserved c =
    let l = c.loop-entry in
    let entries = c.args.entries.now in
    let entry : Entry = c.entry-item.result in
    let rest = drop (l.entry-index + 1) entries in
    let row = row_at c.args.carrier.now.task c.args.carrier.now.datagram c.args.carrier.now.dir in
    let added : c.match-variable.rows.items ≡ l.rows.items ++ map row (variables_from l.bit (entry ∷ [])) =
    elim c.match-variable.branch [
      | in-Some+in_ok-push w ↦ rw (w.rows-is, w.in-Some.is, ← w.number.ensures.value) w.in_ok-push.ensures.items
      | in_default w ↦ rw (w.rows-is, w.in_default.is) (sym (append-nil l.rows.items))
    ] in
    let adds : AddsEntries row l.rows.items c.match-variable.rows.items l.bit (l.bit + c.from-bit.result) (entry ∷ []) rest (drop l.entry-index entries) = record {
      whole_is = drop_more entries l.entry-index entry c.loop-entry-test.true ∙ ap (λ (e : Entry). e ∷ rest) (sym c.entry-item.is);
      adds = added;
      after_it = omega (arith, c.from-bit.ensures, bits-cons entry []);
    } in
    record {
      rows = added-rows _ _ _ _ _ _ _ _ _ adds l.invariant.rows;
      bits = added-bits _ _ _ _ _ _ _ _ _ adds l.invariant.bits;
    }

pub returns-clause-rows : goal.returns-clause-rows
returns-clause-rows c = sym (append-nil c.loop-entry.rows.items) ∙ rw (drop_all c.loop-entry.entry-index c.args.entries.now c.loop-entry-test.false) at c.loop-entry.invariant.rows

pub returns-clause-after_it : goal.returns-clause-after_it
returns-clause-after_it c = omega (arith, rw (drop_all c.loop-entry.entry-index c.args.entries.now c.loop-entry-test.false) at c.loop-entry.invariant.bits)
