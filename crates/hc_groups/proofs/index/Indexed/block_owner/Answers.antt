use Rattle.std.proofs.Common.{◌≡◌, ℕ, ◌∙◌, Global, List, Some, None, Vec, ap, refl, sym, arith}
use Rattle.std.specs.Prelude.{map, option_map, slice_get}
use Rattle.std.proofs.lemmas.Grind.{common_steps}
use Rattle.std.proofs.lemmas.Option.{gets, slice_get-map}
use Rattle.hc_records.specs.Line.{Member}
use Rattle.hc_groups.specs.Index.{rank_in}
use Rattle.hc_groups.proofs.Indexes.{blocks-sums, blocks-after_it, front-sums, front-reaches, has-front, member-in, no-member, owner-of, seen}
use Rattle.hc_groups.proofs.index.Indexed.block_owner.Goals as goal

pub find_sum_place-requires : goal.find_sum_place-requires
find_sum_place-requires c = blocks-sums c.args.self.now _ (seen c.self.view_is c.self.invariant.0)

pub returns-in_err-group : goal.returns-in_err-group
returns-in_err-group c = c.from_residual.ensures ∙ sym (blocks-after_it c.args.self.now _ (seen c.self.view_is c.self.invariant.0) c.args.n c.in_err-group.ensures)

pub returns-in_err-own : goal.returns-in_err-own
returns-in_err-own c =
    let none : slice_get c.self.inside.fronts.now c.in_ok-group.group.index ≡ None = grind (arith, common_steps, gets) in
    absurd (has-front c.args.self.now _ (seen c.self.view_is c.self.invariant.0) c.args.n _ _ c.in_ok-group.ensures
    (slice_get-map (λ v. v.items) c.self.inside.fronts.now c.in_ok-group.group.index ∙ ap (option_map (λ v. v.items)) none))

-- the sums of a group's slaves
front-at : (fronts : List (Vec ℕ Global)) (group : ℕ) (sums : Vec ℕ Global) (own : List ℕ) → slice_get fronts group ≡ Some sums → own ≡ sums.items → slice_get (map (λ v. v.items) fronts) group ≡ Some own
front-at fronts group sums own at is = slice_get-map (λ v. v.items) fronts group ∙ ap (option_map (λ v. v.items)) at ∙ ap Some (sym is)

pub find_near_share-requires : goal.find_near_share-requires
find_near_share-requires c =
    front-sums c.args.self.now _ (seen c.self.view_is c.self.invariant.0) c.args.n _ _ c.as_slice.result.now c.in_ok-group.ensures
    (front-at c.self.inside.fronts.now c.in_ok-group.group.index c.in_ok-own.own.now c.as_slice.result.now (grind (arith, common_steps, gets)) c.as_slice.ensures.value)

pub returns-in_err-place : goal.returns-in_err-place
returns-in_err-place c =
    absurd (front-reaches c.args.self.now _ (seen c.self.view_is c.self.invariant.0) c.args.n _ _ c.as_slice.result.now c.in_ok-group.ensures
    (front-at c.self.inside.fronts.now c.in_ok-group.group.index c.in_ok-own.own.now c.as_slice.result.now (grind (arith, common_steps, gets)) c.as_slice.ensures.value) c.in_err-place.ensures)

pub overflow_cast-place : goal.overflow_cast-place
overflow_cast-place c =
    let it = owner-of c.args.self.now _ (seen c.self.view_is c.self.invariant.0) c.args.n _ _ _ _ c.as_slice.result.now c.in_ok-group.ensures
    (front-at c.self.inside.fronts.now c.in_ok-group.group.index c.in_ok-own.own.now c.as_slice.result.now (grind (arith, common_steps, gets)) c.as_slice.ensures.value) c.in_ok-place.ensures in
    omega (arith, it.low)

pub returns-in_err-slave : goal.returns-in_err-slave
returns-in_err-slave c =
    let it = owner-of c.args.self.now _ (seen c.self.view_is c.self.invariant.0) c.args.n _ _ _ _ c.as_slice.result.now c.in_ok-group.ensures
    (front-at c.self.inside.fronts.now c.in_ok-group.group.index c.in_ok-own.own.now c.as_slice.result.now (grind (arith, common_steps, gets)) c.as_slice.ensures.value) c.in_ok-place.ensures in
    absurd (no-member c.slave_in.result _ c.in_err-slave.was (c.slave_in.ensures ∙ member-in c.args.self.now c.in_ok-group.group.index c.in_ok-place.place.index _ it.is_placed.slave refl it.is_placed.found))

pub overflow_cast-result : goal.overflow_cast-result
overflow_cast-result c =
    let it = owner-of c.args.self.now _ (seen c.self.view_is c.self.invariant.0) c.args.n _ _ _ _ c.as_slice.result.now c.in_ok-group.ensures
    (front-at c.self.inside.fronts.now c.in_ok-group.group.index c.in_ok-own.own.now c.as_slice.result.now (grind (arith, common_steps, gets)) c.as_slice.ensures.value) c.in_ok-place.ensures in
    omega (arith, it.few)

pub returns : goal.returns
returns c =
    let it = owner-of c.args.self.now _ (seen c.self.view_is c.self.invariant.0) c.args.n _ _ _ _ c.as_slice.result.now c.in_ok-group.ensures
    (front-at c.self.inside.fronts.now c.in_ok-group.group.index c.in_ok-own.own.now c.as_slice.result.now (grind (arith, common_steps, gets)) c.as_slice.ensures.value) c.in_ok-place.ensures in
    let groups = c.args.self.now in
    let rank = rank_in groups c.in_ok-group.group.index c.in_ok-place.place.index in
    let made = c.in_ok-slave.ensures ∙ member-in groups c.in_ok-group.group.index c.in_ok-place.place.index rank it.is_placed.slave refl it.is_placed.found in
    let same : c.in_ok-slave.slave ≡ record { rank = rank; slave = it.is_placed.slave } = cc in
    ap (λ (m : Member). Some (m, c.in_ok-place.place.offset)) same ∙ sym it.owned
