use Rattle.std.proofs.Common.{◌≡◌, ◌∙◌, ◌<◌, ap, arith, get_or, length, sym}
use Rattle.std.specs.Prelude.{◌≢◌}
use Rattle.std.proofs.lemmas.Bool.{eq-eqb, eqb-true}
use Rattle.hc_places.specs.Table.{VariableRow}
use Rattle.hc_places.proofs.Parted.{above-other, above-own}
use Rattle.hc_places.proofs.merging.count_with.Goals as goal
use Rattle.hc_places.proofs.merging.count_with.Goals.{else-below-rows-via-then-below-rows+else-eq, else-below-rows-via-else-below-rows}

pub returns-then-eq-clause-high : goal.returns-then-eq-clause-high
returns-then-eq-clause-high c =
    let row : VariableRow = c.index-rows-below.result in
    let inside : c.args.below < length c.args.rows.now = omega arith in
    let here : row.0 ≡ (get_or c.args.rows.now c.args.below row).0 = ap (λ (r : VariableRow). r.0) c.index-rows-below.is in
    above-own c.args.rows.now c.args.variable c.args.below row c.requires.ascends c.index-rows-below.is inside (here ∙ eqb-true _ c.args.variable (sym c.eq.ensures ∙ c.if-eq.true))

pub returns-else-below-rows-clause-high : goal.returns-else-below-rows-clause-high
returns-else-below-rows-clause-high c =
    elim c.else-below-rows.branch [
      | else-below-rows-via-then-below-rows+else-eq w ↦
          let row : VariableRow = w.index-rows-below.result in
          let inside : c.args.below < length c.args.rows.now = omega arith in
          let here : row.0 ≡ (get_or c.args.rows.now c.args.below row).0 = ap (λ (r : VariableRow). r.0) w.index-rows-below.is in
          let other : row.0 ≢ c.args.variable = λ same.
          let never = sym w.if-eq.false ∙ w.eq.ensures ∙ eq-eqb (get_or c.args.rows.now c.args.below row).0 c.args.variable (sym here ∙ same) in
          cc in
          above-other c.args.rows.now c.args.variable c.args.below row c.requires.ascends c.requires.below w.index-rows-below.is inside other
      | else-below-rows-via-else-below-rows w ↦ λ k d low high. absurd (omega (arith, low, high, w.if-below-rows.false))
    ]
