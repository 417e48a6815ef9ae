use Rattle.std.proofs.Common.{ap, arith, false, get_or}
use Rattle.std.proofs.lemmas.Bool.{eqb-true}
use Rattle.std.proofs.lemmas.List.Sorted.{IsNonDecreasingBy-take}
use Rattle.hc_places.specs.Table.{VariableRow}
use Rattle.hc_places.proofs.Reached.{ascends-rises, below-reached, reached-row}
use Rattle.hc_places.proofs.merging.count_near.Goals as goal
use Rattle.hc_places.proofs.merging.count_near.Goals.{then-loop-reach-test+else-number-2, else-loop-reach-test}

pub count_below-requires : goal.count_below-requires
count_below-requires c =
    IsNonDecreasingBy-take (λ (row : VariableRow). row.0) c.loop-reach.reach c.args.rows.now (ascends-rises c.args.rows.now c.requires)

pub returns-clause-below : goal.returns-clause-below
returns-clause-below c =
    let rows = c.args.rows.now in
    below-reached rows c.args.variable c.loop-reach.reach c.count_below.result c.count_below.ensures.bound c.count_below.ensures.below
    (elim c.loop-reach-test.branch [
      | then-loop-reach-test+else-number-2 w ↦
          reached-row rows c.args.variable c.loop-reach.reach w.index-rows-reach.result c.requires w.index-rows-reach.is (omega (arith, w.number-in-loop-reach.ensures, w.number-in-loop-reach-2.ensures, w.if-number-2.false, ap (λ (row : VariableRow). row.0) w.index-rows-reach.is))
      | else-loop-reach-test w ↦ λ k d low high. absurd (omega (arith, low, high, w.loop-reach-test.false))
    ])

pub returns-then-is_empty-clause-below : goal.returns-then-is_empty-clause-below
returns-then-is_empty-clause-below c = grind (arith, get_or, eqb-true, reached-row)
