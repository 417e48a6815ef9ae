use Rattle.std.proofs.Common.{◌≡◌, ◌+◌, ◌-◌, ◌<◌, ◌≤◌, List, length, subst, sym, arith}
use Rattle.std.specs.Prelude.{Some, slice_get}
use Rattle.hc_places.specs.Swap.{ChangedRow, ChangesAscend}
use Rattle.hc_places.proofs.Spread.{first-to-last}
use Rattle.hc_places.proofs.swap.Swap.places.Goals as goal

-- the rows as a slice of them shows them
shown : (rows slice : List ChangedRow) (first last : ChangedRow) → ChangesAscend rows → slice ≡ rows
    → Some first ≡ slice_get slice 0 → Some last ≡ slice_get slice (length slice - 1) → (0 < length slice) × (first.0 + length slice ≤ last.0 + 1)
shown rows slice first last ascend is front back =
    first-to-last (λ (row : ChangedRow). row.0) slice first last (subst ChangesAscend (sym is) ascend) (sym front) (sym back)

pub overflow_sub-number : goal.overflow_sub-number
overflow_sub-number c =
    let met = c.in-Some-Some in
    let far = shown c.args.self.now.change.rows c.changes-rows.result.now met.first.now met.last.now c.changes-rows.ensures.ascends c.changes-rows.ensures.rows met.ensures.value met.ensures'.value in
    omega (arith, far.0, far.1, c.variable.ensures, c.variable-2.ensures, c.number.ensures.value, c.number-2.ensures.value)

pub prove-unreachable-requires : goal.prove-unreachable-requires
prove-unreachable-requires c =
    let met = c.in-Some-Some in
    let far = shown c.args.self.now.change.rows c.changes-rows.result.now met.first.now met.last.now c.changes-rows.ensures.ascends c.changes-rows.ensures.rows met.ensures.value met.ensures'.value in
    omega (arith, far.0, far.1, c.variable.ensures, c.variable-2.ensures, c.number.ensures.value, c.number-2.ensures.value, c.if-prove.true)
