use Rattle.std.proofs.Common.{◌≡◌, ◌<◌, ◌∙◌, ℕ, ap, arith, length, refl, subst, sym}
use Rattle.std.specs.Prelude.{option_and_then, slice_get, Some}
use Rattle.std.specs.Int.{bit_at}
use Rattle.std.proofs.lemmas.Option.{slice_get_read}
use Rattle.hc_places.specs.Table.{VariableRow}
use Rattle.hc_images.specs.Pieces.{WritesEach, of_rows, output_of}
use Rattle.hc_images.proofs.Carrying.{marked-carries}
use Rattle.hc_images.proofs.Outcomes.{blank-sizes}
use Rattle.hc_images.proofs.Placing.{outputs-apart, outputs-fit, rows-are}
use Rattle.hc_images.proofs.Writing.{next-fits, next-written}
use Rattle.hc_images.proofs.rows.mark.Goals as goal

pub put-requires-clause-within : goal.put-requires-clause-within
put-requires-clause-within c =
    let table = c.args.places.now in
    let rows = c.variables-place-items.ensures.rows in
    let n = c.loop-place.place-index in
    let low : n < length table.variables = omega (arith, ap length rows) in
    let row = c.loop-place-item.result in
    let there : slice_get table.variables n ≡ Some row =
    subst (λ l. slice_get l n ≡ Some row) rows (slice_get_read c.variables-place-items.result.now (length c.variables-place-items.result.now) n row refl c.loop-place-test.true c.loop-place-item.is) in
    next-fits n (length table.variables) (of_rows table.variables) (λ i. bit_at 18446744073709551615) c.args.rows.now c.loop-place.rows c.output.result
    (ap (option_and_then (λ (r : VariableRow). output_of r.1)) there ∙ sym c.output.ensures) low
    (outputs-fit table table.variables (of_rows table.variables) c.args.rows.now c.requires.laid (rows-are table c.variables-place-items.ensures.ascends) (blank-sizes table c.args.rows.now c.requires.blank))
    c.loop-place.invariant

pub loop-place-preserved : goal.loop-place-preserved
loop-place-preserved c =
    let table = c.args.places.now in
    let rows = c.variables-place-items.ensures.rows in
    let ascends = c.variables-place-items.ensures.ascends in
    let n = c.loop-place.place-index in
    let low : n < length table.variables = omega (arith, ap length rows) in
    let row = c.loop-place-item.result in
    let there : slice_get table.variables n ≡ Some row =
    subst (λ l. slice_get l n ≡ Some row) rows (slice_get_read c.variables-place-items.result.now (length c.variables-place-items.result.now) n row refl c.loop-place-test.true c.loop-place-item.is) in
    next-written n (length table.variables) (of_rows table.variables) (λ i. bit_at 18446744073709551615) c.args.rows.now c.loop-place.rows c.put.new.rows c.output.result
    (ap (option_and_then (λ (r : VariableRow). output_of r.1)) there ∙ sym c.output.ensures) low
    (outputs-apart table table.variables (of_rows table.variables) c.requires.laid ascends (rows-are table ascends)) c.loop-place.invariant c.put.ensures

pub returns-clause-carries : goal.returns-clause-carries
returns-clause-carries c =
    let table = c.args.places.now in
    let all : c.loop-place.place-index ≡ length table.variables = omega (arith, ap length c.variables-place-items.ensures.rows) in
    marked-carries table c.args.rows.now c.loop-place.rows c.requires.laid c.variables-place-items.ensures.ascends c.requires.blank
    (subst (λ (n : ℕ). WritesEach n (of_rows table.variables) (λ i. bit_at 18446744073709551615) c.args.rows.now c.loop-place.rows) all c.loop-place.invariant)
