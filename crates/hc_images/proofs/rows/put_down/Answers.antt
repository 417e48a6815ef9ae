use Rattle.std.proofs.Common.{◌<◌, ◌∙◌, ap, length, sym}
use Rattle.std.specs.Prelude.{option_and_then, slice_index_or}
use Rattle.std.specs.Int.{bit_at}
use Rattle.std.proofs.lemmas.Option.{slice_get-get_or}
use Rattle.hc_places.specs.Swap.{ChangedRow}
use Rattle.hc_images.specs.Pieces.{of_changed, output_of}
use Rattle.hc_images.proofs.Writing.{next-fits, next-written}
use Rattle.hc_images.proofs.rows.put_down.Goals as goal

pub put-requires-clause-within : goal.put-requires-clause-within
put-requires-clause-within c =
    let changed = c.args.changed.now in
    let n = c.loop-i.i in
    let low : n < length changed = c.loop-i-test.true in
    let there = slice_get-get_or changed n c.index-changed-i.result low in
    next-fits n (length changed) (of_changed changed) (λ i. bit_at (slice_index_or c.args.values.now i 0)) c.args.rows.now c.loop-i.rows c.output.result
    (ap (option_and_then (λ (row : ChangedRow). option_and_then output_of row.1)) there ∙ ap (λ (row : ChangedRow). option_and_then output_of row.1) (sym c.index-changed-i.is) ∙ sym (c.output.ensures ∙ ap (option_and_then output_of) c.place.ensures)) low c.requires.fit c.loop-i.invariant

pub loop-i-preserved : goal.loop-i-preserved
loop-i-preserved c =
    let changed = c.args.changed.now in
    let n = c.loop-i.i in
    let low : n < length changed = c.loop-i-test.true in
    let there = slice_get-get_or changed n c.index-changed-i.result low in
    next-written n (length changed) (of_changed changed) (λ i. bit_at (slice_index_or c.args.values.now i 0)) c.args.rows.now c.loop-i.rows c.put.new.rows c.output.result
    (ap (option_and_then (λ (row : ChangedRow). option_and_then output_of row.1)) there ∙ ap (λ (row : ChangedRow). option_and_then output_of row.1) (sym c.index-changed-i.is) ∙ sym (c.output.ensures ∙ ap (option_and_then output_of) c.place.ensures)) low c.requires.apart c.loop-i.invariant
    c.put.ensures
