use Rattle.std.proofs.Common.{◌<◌, ◌∷◌, ◌++◌, [], List, Option, length, take, sym, ap, ◌∙◌, arith}
use Rattle.std.proofs.lemmas.List.{length-map, take_all, take_more}
use Rattle.std.proofs.lemmas.Option.{get_or_from_slice_get}
use Rattle.hc_records.specs.Line.{State}
use Rattle.hc_registers.specs.Blocks.{RegisterBlock}
use Rattle.hc_registers.specs.RankPlaces.{places}
use Rattle.hc_registers.proofs.lemmas.RanksStanding.{length-places}
use Rattle.hc_plan.specs.RegisterBlocks.{block_in, blocks_by_rank}
use Rattle.hc_plan.proofs.register_blocks.RegisterBlocks.open.Goals as goal

pub loop-place-preserved : goal.loop-place-preserved
loop-place-preserved c =
    let n = c.loop-place.place in
    let state : State = record { groups = c.args.groups.now; epoch = 0 } in
    let all = blocks_by_rank c.args.groups.now in
    let size = length-map (places state) block_in in
    let many = length-places state in
    let low : n < length all = omega (arith, c.loop-place-test.true, c.declared-count.ensures, size, many) in
    let own = c.block_at_place.result in
    let is = get_or_from_slice_get all n own own c.block_at_place.ensures in
    c.in_ok-push.ensures.items ∙ ap (λ (front : List (Option RegisterBlock)). front ++ own ∷ []) c.loop-place.invariant
    ∙ ap (λ (one : Option RegisterBlock). take n all ++ one ∷ []) (sym is) ∙ sym (take_more all n own low)

pub block_at_place-requires-clause-inside : goal.block_at_place-requires-clause-inside
block_at_place-requires-clause-inside c =
    let state : State = record { groups = c.args.groups.now; epoch = 0 } in
    let size = length-map (places state) block_in in
    let many = length-places state in
    omega (arith, c.loop-place-test.true, c.declared-count.ensures, size, many)

pub returns : goal.returns
returns c =
    let state : State = record { groups = c.args.groups.now; epoch = 0 } in
    let size = length-map (places state) block_in in
    let many = length-places state in
    c.loop-place.invariant ∙ take_all c.loop-place.place (blocks_by_rank c.args.groups.now) (omega (arith, c.loop-place-test.false, c.declared-count.ensures, size, many))
