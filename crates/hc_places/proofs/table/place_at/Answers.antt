use Rattle.std.proofs.Common.{sym, ◌∙◌, ap, refl, arith}
use Rattle.std.specs.Prelude.{Some, None, option_map}
use Rattle.std.proofs.lemmas.Option.{gets}
use Rattle.std.proofs.lemmas.Grind.{common_steps}
use Rattle.hc_places.specs.Table.{VariableRow}
use Rattle.hc_places.proofs.Order.{find-row}
use Rattle.hc_places.proofs.table.place_at.Goals as goal

pub returns-in_err-row : goal.returns-in_err-row
returns-in_err-row c =
    c.from_residual.ensures
    ∙ sym (ap (option_map (λ (row : VariableRow). row.1)) (find-row c.args.rows.now c.args.variable c.args.below None c.requires.ascends c.requires.below (grind (arith, common_steps, gets))))

pub returns-then-eq : goal.returns-then-eq
returns-then-eq c =
    let row = c.in_ok-row.field-0.now in
    let found = find-row c.args.rows.now c.args.variable c.args.below (Some row) c.requires.ascends c.requires.below (grind (arith, common_steps, gets)) in
    let same = sym c.eq.ensures ∙ c.if-eq.true in
    sym (ap (option_map (λ (row : VariableRow). row.1)) {y = Some row} (found ∙ rw same refl))

pub returns-else-eq : goal.returns-else-eq
returns-else-eq c =
    let row = c.in_ok-row.field-0.now in
    let found = find-row c.args.rows.now c.args.variable c.args.below (Some row) c.requires.ascends c.requires.below (grind (arith, common_steps, gets)) in
    let same = sym c.eq.ensures ∙ c.if-eq.false in
    sym (ap (option_map (λ (row : VariableRow). row.1)) {y = None} (found ∙ rw same refl))
