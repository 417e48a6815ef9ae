use Rattle.std.proofs.Common.{◌-◌, arith, drop, length, subst}
use Rattle.std.specs.Prelude.{List}
use Rattle.std.proofs.lemmas.List.{length-drop, take_all}
use Rattle.hc_places.specs.inner.Overwritten.{AreBelow}
use Rattle.hc_places.specs.Table.{VariableRow}
use Rattle.hc_places.proofs.Reached.{below-after_it}
use Rattle.hc_places.proofs.merging.count_from.Goals as goal

pub returns-clause-below : goal.returns-clause-below
returns-clause-below c =
    let rows = c.args.rows.now in
    let front = c.args.front in
    let size = length-drop front rows in
    let rest = take_all (length rows - front) (drop front rows) (omega (arith, size)) in
    below-after_it rows c.args.variable front c.count_near.result c.requires.front c.requires.lower
    (subst (λ (l : List VariableRow). AreBelow l c.args.variable c.count_near.result) rest c.count_near.ensures.below)
