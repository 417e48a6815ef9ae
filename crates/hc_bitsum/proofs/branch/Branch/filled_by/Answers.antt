use Rattle.std.proofs.Common.{◌≡◌, get_or, ap, ◌∙◌}
use Rattle.std.proofs.lemmas.List.{get_or_default}
use Rattle.hc_bitsum.specs.declared.sum.Sum.{Sum}
use Rattle.hc_bitsum.specs.declared.sum.Sum.TheVariants.{Empty}
use Rattle.hc_bitsum.specs.Sums.{filled_by_run}
use Rattle.hc_bitsum.proofs.branch.Branch.filled_by.Goals as goal

pub after-requires-clause-there : goal.after-requires-clause-there
after-requires-clause-there c =
    let sums = c.args.self.now.sums.items in
    let own : c.index.result.now ≡ get_or sums c.args.node Empty = c.index.ensures ∙ get_or_default sums c.args.node c.index.result.now Empty c.requires.node in
    rw own (c.requires.there)

pub returns : goal.returns
returns c =
    let sums = c.args.self.now.sums.items in
    let own : c.index.result.now ≡ get_or sums c.args.node Empty = c.index.ensures ∙ get_or_default sums c.args.node c.index.result.now Empty c.requires.node in
    c.after.ensures ∙ ap (λ (sum : Sum). filled_by_run sum c.args.filled) own
