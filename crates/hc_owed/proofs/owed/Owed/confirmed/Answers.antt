use Rattle.std.proofs.Common.{◌≡◌, List, ℕ, Some, Option, false, refl, ap, ◌∙◌, rules}
use Rattle.std.specs.Prelude.{option_map}
use Rattle.hc_registers.specs.Blocks.{RegisterBlock}
use Rattle.hc_records.specs.Line.{State}
use Rattle.hc_plan.specs.RegisterBlocks.{blocks_by_rank, has_at}
use Rattle.hc_plan.proofs.lemmas.StoredBlocks.{has-block}
use Rattle.hc_owed.specs.RegisterState.{RegisterState}
use Rattle.hc_owed.specs.Steps.{learnt, place_judged}
use Rattle.hc_plan.proofs.lemmas.Replaced.{length-changed}
use Rattle.hc_owed.proofs.Writing.{confirmed-right}
use Rattle.hc_owed.proofs.owed.Owed.confirmed.Goals as goal

pub judge-requires : goal.judge-requires
judge-requires c = search (rules, length-changed)

pub returns : goal.returns
returns c = λ known state found plan is.
    let place = c.args.place in
    let bytes : Option RegisterBlock → Option (List ℕ) = λ block. option_map (λ (b : RegisterBlock). b.bytes) block in
    let block : c.block_at_place-block.result ≡ Some found.block = c.block_at_place-block.ensures ∙ ap (λ (s : State). has_at (blocks_by_rank s.groups) place) plan ∙ has-block state place found is.is_placed in
    c.judge.ensures ∙ ap (place_judged place false) c.learn.ensures
    ∙ ap (λ (b : Option RegisterBlock). place_judged place false (learnt place (bytes b) c.args.self.now)) block
    ∙ ap (λ (b : RegisterState). place_judged place false (learnt place (Some found.block.bytes) b)) is.right
    ∙ confirmed-right known state place found found.block.bytes is.project is.is_placed refl
