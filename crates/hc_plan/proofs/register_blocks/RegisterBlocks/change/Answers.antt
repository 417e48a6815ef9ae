use Rattle.std.proofs.Common.{ℕ, ◌*◌, ◌<◌, length, sym, ap, subst, ◌∙◌, arith}
use Rattle.std.specs.Prelude.{All, None}
use Rattle.hc_registers.specs.RankDifferences.{block_place, first_gone}
use Rattle.hc_plan.specs.inner.RegisterBlocks.{with_all_moved}
use Rattle.hc_plan.proofs.BlocksEdited.{blocks-edited, blocks-size, moved-inside}
use Rattle.hc_plan.proofs.lemmas.Replaced.{length-filled}
use Rattle.hc_plan.proofs.register_blocks.RegisterBlocks.change.Goals as goal

pub clear-requires-clause-inside : goal.clear-requires-clause-inside
clear-requires-clause-inside c =
    let size = blocks-size c.args.self.now c.args.gone c.args.moved.now c.requires.edited in
    omega (arith, size, c.requires.edited.differ.inside)

pub replace_all-requires-clause-inside : goal.replace_all-requires-clause-inside
replace_all-requires-clause-inside c =
    let size = ap length c.clear.ensures ∙ length-filled (first_gone c.args.gone) (16 * c.args.gone.slaves) None c.args.self.now in
    subst (λ (n : ℕ). All (λ m. block_place m < n) c.args.moved.now) (sym size) (moved-inside c.args.self.now c.args.gone c.args.moved.now c.requires.edited)

pub returns : goal.returns
returns c = λ is. c.replace_all.ensures ∙ ap (with_all_moved c.args.moved.now) c.clear.ensures ∙ blocks-edited c.args.self.now c.args.gone c.args.moved.now is
