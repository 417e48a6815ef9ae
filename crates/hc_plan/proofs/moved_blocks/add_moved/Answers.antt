use Rattle.std.proofs.Common.{◌≡◌, ◌+◌, ◌*◌, Bool, cond, List, [], ◌∷◌, ◌++◌, Option, ap, ◌∙◌, append_assoc, rules}
use Rattle.std.specs.Prelude.{OnOk, Result, filter}
use Rattle.std.proofs.lemmas.Result.{on_ok_weaker}
use Rattle.hc_registers.specs.Blocks.{RegisterBlock}
use Rattle.hc_registers.specs.Ranked.{RankedBlock}
use Rattle.hc_changes.specs.MaybeMovedAreas.{MaybeMoved}
use Rattle.hc_plan.specs.inner.Blocks.{two_blocks}
use Rattle.hc_plan.specs.inner.MovedBlocks.{block_with, blocks_moved, candidate_blocks, is_moved}
use Rattle.hc_plan.proofs.moved_blocks.add_moved.Goals as goal

first-passing : (passes : Bool) (a : RankedBlock) (rest : List RankedBlock) → cond passes (a ∷ []) [] ++ rest ≡ cond passes (a ∷ rest) rest
first-passing passes a rest = search rules

-- what is added by the two blocks of a candidate, one after the other
added : {V E : Type 0} (result : Result V E) (stored : List (Option RegisterBlock)) (fields candidate : MaybeMoved) (two : RegisterBlock × RegisterBlock) (a b : RankedBlock) (old mid new : List RankedBlock)
    → fields ≡ candidate → two ≡ two_blocks fields.index fields.area fields.place → a ≡ block_with candidate (2 * fields.index) two.0 → b ≡ block_with candidate (2 * fields.index + 1) two.1
    → mid ≡ old ++ filter (is_moved stored) (a ∷ []) → OnOk result (new ≡ mid ++ filter (is_moved stored) (b ∷ [])) → OnOk result (new ≡ old ++ blocks_moved stored candidate)
added result stored fields candidate two a b old mid new own blocks first second begun ends =
    let test = is_moved stored in
    let rest = filter test (b ∷ []) in
    let one : a ≡ block_with candidate (2 * candidate.index) (two_blocks candidate.index candidate.area candidate.place).0 =
    first ∙ ap (λ (t : RegisterBlock × RegisterBlock). block_with candidate (2 * fields.index) t.0) blocks
    ∙ ap (λ (c : MaybeMoved). block_with candidate (2 * c.index) (two_blocks c.index c.area c.place).0) own in
    let other : b ≡ block_with candidate (2 * candidate.index + 1) (two_blocks candidate.index candidate.area candidate.place).1 =
    second ∙ ap (λ (t : RegisterBlock × RegisterBlock). block_with candidate (2 * fields.index + 1) t.1) blocks
    ∙ ap (λ (c : MaybeMoved). block_with candidate (2 * c.index + 1) (two_blocks c.index c.area c.place).1) own in
    let both : a ∷ b ∷ [] ≡ candidate_blocks candidate =
    ap (λ (x : RankedBlock). x ∷ b ∷ []) one
    ∙ ap (λ (x : RankedBlock). block_with candidate (2 * candidate.index) (two_blocks candidate.index candidate.area candidate.place).0 ∷ x ∷ []) other in
    on_ok_weaker result
    (λ is. is ∙ ap (λ (had : List RankedBlock). had ++ rest) begun ∙ append_assoc old (filter test (a ∷ [])) rest
    ∙ ap (λ (more : List RankedBlock). old ++ more) (first-passing (test a) a rest ∙ ap (filter test) both))
    ends

pub returns : goal.returns
returns c =
    added c.add_block-2.result c.args.stored.now _ c.args.candidate.now c.two_blocks-manager.result c.ranked.result c.ranked-2.result c.args.blocks.now.items c.add_block.new.blocks.items c.add_block-2.new.blocks.items
    c.candidate.view_is c.two_blocks-manager.ensures c.ranked.ensures c.ranked-2.ensures c.in_ok-add_block.ensures c.add_block-2.ensures
