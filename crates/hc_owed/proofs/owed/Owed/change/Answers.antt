use Rattle.std.proofs.Common.{ℕ, ◌*◌, ◌<◌, length, sym, ap, subst, ◌∙◌, arith}
use Rattle.std.specs.Prelude.{All, None}
use Rattle.hc_registers.specs.RankDifferences.{block_place, first_gone}
use Rattle.hc_owed.specs.RegisterState.{RegisterState}
use Rattle.hc_owed.specs.Steps.{cleared, compared_all}
use Rattle.hc_owed.proofs.Changing.{change-right, known-size, moved-inside}
use Rattle.hc_plan.proofs.lemmas.Replaced.{length-filled}
use Rattle.hc_owed.proofs.owed.Owed.change.Goals as goal

pub clear-requires-clause-inside : goal.clear-requires-clause-inside
clear-requires-clause-inside c =
    let size = known-size c.args.self.now c.args.gone c.args.moved.now c.requires.edited in
    omega (arith, size, c.requires.edited.differ.inside)

pub compare_all-requires-clause-inside : goal.compare_all-requires-clause-inside
compare_all-requires-clause-inside c =
    let size = ap (λ (b : RegisterState). length b.known) c.clear.ensures ∙ length-filled (first_gone c.args.gone) (16 * c.args.gone.slaves) None c.args.self.now.known in
    subst (λ (n : ℕ). All (λ m. block_place m < n) c.args.moved.now) (sym size) (moved-inside c.args.self.now c.args.gone c.args.moved.now c.requires.edited)

pub returns : goal.returns
returns c = λ is.
    c.compare_all.ensures ∙ ap (compared_all c.args.moved.now) c.clear.ensures
    ∙ ap (λ (b : RegisterState). compared_all c.args.moved.now (cleared c.args.gone b)) is.right ∙ change-right c.args.self.now c.args.gone c.args.moved.now is
