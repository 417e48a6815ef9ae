use Rattle.std.proofs.Common.{ap, ◌∙◌}
use Rattle.std.specs.Prelude.{None}
use Rattle.hc_owed.specs.Steps.{learnt}
use Rattle.hc_owed.proofs.Writing.{sent-right}
use Rattle.hc_owed.proofs.owed.Owed.sent.Goals as goal

pub returns : goal.returns
returns c = λ known state block is.
    c.learn.ensures ∙ ap (learnt c.args.place None) is.at.right ∙ sent-right known state c.args.place block is.at.project is.at.is_placed is.lacking
