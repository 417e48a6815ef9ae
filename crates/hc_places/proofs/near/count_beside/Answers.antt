use Rattle.std.proofs.Common.{◌-◌, ◌∙◌, ⊎_elim, ap, arith, get_or}
use Rattle.std.proofs.Math.Nat.{eq-or-lt_of_le}
use Rattle.std.proofs.lemmas.List.{get_or_default}
use Rattle.hc_places.specs.Table.{VariableRow}
use Rattle.hc_places.proofs.near.count_beside.Goals as goal

-- the last of the rows in front has a lower number, and those before it have still lower ones
pub count_from-requires-clause-lower : goal.count_from-requires-clause-lower
count_from-requires-clause-lower c k d low high =
    let rows = c.args.rows.now in
    let last = c.args.near - 1 in
    let some = c.if-near-gt0.true in
    let bound = c.if-near-rows.true in
    let row = c.index-rows-near.result in
    let is = ap (λ (r : VariableRow). r.0) (c.index-rows-near.is ∙ get_or_default rows last row d (omega (arith, some, bound))) in
    let own = ap (λ (r : VariableRow). r.0) c.index-rows-near.is in
    let number = c.number.ensures.value in
    let lower = c.if-number.true in
    ⊎_elim
    (λ same. let here = ap (λ (i : _). (get_or rows i d).0) same in omega (arith, is, own, number, lower, here))
    (λ before. let up = c.requires k last d before (omega (arith, some, bound)) in omega (arith, is, own, number, lower, up))
    (eq-or-lt_of_le {n = k} {m = last} (omega (arith, high, some)))
