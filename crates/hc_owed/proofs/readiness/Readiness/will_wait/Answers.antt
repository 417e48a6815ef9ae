use Rattle.std.proofs.Common.{◌≡◌, ◌+◌, ◌-◌, ◌*◌, ◌/◌, List, length, ap, subst, ◌∙◌, arith}
use Rattle.hc_owed.specs.declared.area.JudgedArea.{JudgedArea}
use Rattle.hc_owed.specs.EditWaits.{areas_cleared}
use Rattle.hc_owed.specs.Tally.{Tallies}
use Rattle.hc_owed.proofs.Foretelling.{can-tally, coming-right, leave-low, left-counts}
use Rattle.hc_owed.proofs.Tallies.{are-waiting}
use Rattle.hc_owed.proofs.readiness.Readiness.will_wait.Goals as goal

pub tally_left-requires-clause-inside : goal.tally_left-requires-clause-inside
tally_left-requires-clause-inside c =
    let seen = ap length (c.as_slice-areas.ensures.value ∙ c.self.view_is) in
    let low = leave-low c.args.self.now c.args.owed.now c.args.gone c.args.moved.now c.requires in
    omega (arith, seen, low, c.first_place-from.ensures, c.from.ensures)

pub tally_moved-requires : goal.tally_moved-requires
tally_moved-requires c =
    let seen = c.as_slice-areas.ensures.value ∙ c.self.view_is in
    let long = ap length c.as_slice-areas.ensures.value in
    let few = c.self.invariant.1 in
    let start = c.first_place-from.result / 2 in
    let first : start ≡ 8 * (c.args.gone.rank - 1) = omega (arith, c.first_place-from.ensures) in
    let count : start + 8 * c.from.result - start ≡ 8 * c.args.gone.slaves = omega (arith, c.from.ensures) in
    can-tally c.args.self.now c.args.owed.now c.args.gone c.args.moved.now c.requires c.as_slice-areas.result.now c.tally_left.new.tally seen (omega (arith, long, few))
    (left-counts c.args.self.now c.as_slice-areas.result.now c.args.gone start (start + 8 * c.from.result - start) c.tally_left.new.tally seen first count c.tally_left.ensures)

pub returns : goal.returns
returns c = λ is.
    let seen = c.as_slice-areas.ensures.value ∙ c.self.view_is in
    let long = ap length c.as_slice-areas.ensures.value in
    let few = c.self.invariant.1 in
    let start = c.first_place-from.result / 2 in
    let first : start ≡ 8 * (c.args.gone.rank - 1) = omega (arith, c.first_place-from.ensures) in
    let count : start + 8 * c.from.result - start ≡ 8 * c.args.gone.slaves = omega (arith, c.from.ensures) in
    let can = can-tally c.args.self.now c.args.owed.now c.args.gone c.args.moved.now is c.as_slice-areas.result.now c.tally_left.new.tally seen (omega (arith, long, few))
    (left-counts c.args.self.now c.as_slice-areas.result.now c.args.gone start (start + 8 * c.from.result - start) c.tally_left.new.tally seen first count c.tally_left.ensures) in
    are-waiting (areas_cleared is.known is.held is.unplugged is.old is.new) c.tally_moved.new.tally c.free.result c.others.result
    (subst (λ (l : List JudgedArea). Tallies l c.tally_moved.new.tally) (coming-right c.args.self.now c.args.owed.now c.args.gone c.args.moved.now is) (c.tally_moved.ensures can)) c.free.ensures c.others.ensures
