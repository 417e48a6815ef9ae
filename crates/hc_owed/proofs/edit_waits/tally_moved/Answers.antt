use Rattle.std.proofs.Common.{◌≡◌, ℕ, ◌+◌, ◌/◌, ◌<◌, List, ◌∷◌, drop, length, sym, ap, subst, ◌∙◌, arith}
use Rattle.std.specs.Prelude.{◌≢◌, All, AllPairs, Some, slice_get, slice_index_or}
use Rattle.hc_records.proofs.lemmas.Lists.{AllPairs-head}
use Rattle.hc_registers.specs.Ranked.{RankedBlock}
use Rattle.hc_registers.specs.RankDifferences.{block_place}
use Rattle.hc_owed.specs.declared.area.JudgedArea.{JudgedArea}
use Rattle.hc_owed.specs.declared.tally.Tally.{Tally}
use Rattle.hc_owed.specs.RegisterState.{RegisterState}
use Rattle.hc_plan.proofs.lemmas.Replaced.{item-cons}
use Rattle.hc_owed.proofs.TallyingMoved.{AreTallied, all-tallied, ascends, can-put-moved, more-tallied}
use Rattle.hc_owed.proofs.edit_waits.tally_moved.Goals as goal

-- the present block is the first of those that are left
here : (counted : List JudgedArea) (owed : RegisterState) (moved : List RankedBlock) (i done : ℕ) (m : RankedBlock) (last : JudgedArea) (tally : Tally) → drop i moved ≡ m ∷ drop (i + 1) moved
    → AreTallied counted owed moved (drop i moved) done last tally → AreTallied counted owed moved (m ∷ drop (i + 1) moved) done last tally
here counted owed moved i done m last tally cons = subst (λ (rest : List RankedBlock). AreTallied counted owed moved rest done last tally) cons

same-at : (areas counted : List JudgedArea) (moved : List RankedBlock) (i : ℕ) (m : RankedBlock) → i < length moved → m ≡ slice_index_or moved i m
    → All (λ block. slice_get counted (block_place block / 2) ≡ slice_get areas (block_place block / 2)) moved → slice_get counted (block_place m / 2) ≡ slice_get areas (block_place m / 2)
same-at areas counted moved i m low is all = subst (λ (b : RankedBlock). slice_get counted (block_place b / 2) ≡ slice_get areas (block_place b / 2)) (sym is) (all i m low)

was-last : (p place done : ℕ) (was last : JudgedArea) → p ≡ place → (p / 2 + 1 ≡ done → was ≡ last) → place / 2 + 1 ≡ done → was ≡ last
was-last p place done was last same is e = is (ap (λ (n : ℕ). n / 2 + 1) same ∙ e)

was-kept : (areas : List JudgedArea) (p place done : ℕ) (was : JudgedArea) → p ≡ place → (p / 2 + 1 ≢ done → slice_get areas (p / 2) ≡ Some was) → place / 2 + 1 ≢ done → slice_get areas (place / 2) ≡ Some was
was-kept areas p place done was same is apart = ap (λ (n : ℕ). slice_get areas (n / 2)) (sym same) ∙ is (λ e. apart (ap (λ (n : ℕ). n / 2 + 1) (sym same) ∙ e))

pub replace-requires : goal.replace-requires
replace-requires c =
    let can = c.requires in
    let areas = c.args.areas.now in
    let moved = c.args.moved.now in
    let i = c.loop-block.block-index in
    let m = c.block-item.result in
    let cons = item-cons moved i m c.loop-block-test.true c.block-item.is in
    can-put-moved areas can.counted c.args.owed.now moved (drop (i + 1) moved) m c.loop-block.done c.loop-block.last c.area_now-was.result c.loop-block.tally
    (here can.counted c.args.owed.now moved i c.loop-block.done m c.loop-block.last c.loop-block.tally cons (c.loop-block.invariant can))
    (same-at areas can.counted moved i m c.loop-block-test.true c.block-item.is can.same)
    (was-last c.place-n.result (block_place m) c.loop-block.done c.area_now-was.result c.loop-block.last c.place-n.ensures c.area_now-was.ensures.last)
    (was-kept areas c.place-n.result (block_place m) c.loop-block.done c.area_now-was.result c.place-n.ensures c.area_now-was.ensures.unmoved) can.few

pub loop-block-preserved : goal.loop-block-preserved
loop-block-preserved c = λ can.
    let areas = c.args.areas.now in
    let owed = c.args.owed.now in
    let moved = c.args.moved.now in
    let i = c.loop-block.block-index in
    let m = c.block-item.result in
    let rest = drop (i + 1) moved in
    let now = c.area_coming-last.result in
    let cons = item-cons moved i m c.loop-block-test.true c.block-item.is in
    subst (λ (n : ℕ). AreTallied can.counted owed moved rest n now c.replace.new.self) (ap (λ (n : ℕ). n / 2 + 1) (sym c.place-n.ensures))
    (more-tallied areas can.counted owed moved rest m c.loop-block.done c.loop-block.last c.area_now-was.result c.loop-block.tally
    (here can.counted owed moved i c.loop-block.done m c.loop-block.last c.loop-block.tally cons (c.loop-block.invariant can))
    (same-at areas can.counted moved i m c.loop-block-test.true c.block-item.is can.same)
    (was-last c.place-n.result (block_place m) c.loop-block.done c.area_now-was.result c.loop-block.last c.place-n.ensures c.area_now-was.ensures.last)
    (was-kept areas c.place-n.result (block_place m) c.loop-block.done c.area_now-was.result c.place-n.ensures c.area_now-was.ensures.unmoved)
    now c.replace.new.self c.area_coming-last.ensures c.replace.ensures
    (AllPairs-head (λ (a b : RankedBlock). block_place a < block_place b) m rest
    (subst (AllPairs (λ (a b : RankedBlock). block_place a < block_place b)) cons (ascends moved i can.ascend))))

pub returns : goal.returns
returns c = λ can.
    let end = c.loop-block-test.false in
    all-tallied can.counted c.args.owed.now c.args.moved.now c.loop-block.block-index c.loop-block.done c.loop-block.last c.loop-block.tally (omega (arith, end)) (c.loop-block.invariant can)
