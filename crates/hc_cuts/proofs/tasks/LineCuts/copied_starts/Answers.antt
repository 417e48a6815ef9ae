use Rattle.std.proofs.Common.{◌∙◌, List, ap}
use Rattle.std.specs.Prelude.{map}
use Rattle.hc_cuts.specs.Starts.{TaskCuts}
use Rattle.hc_cuts.proofs.Lines.{copied-starts}
use Rattle.hc_cuts.proofs.tasks.LineCuts.copied_starts.Goals as goal

pub returns-clause-starts : goal.returns-clause-starts
returns-clause-starts c = λ line is task low.
    copied-starts task line c.args.self.now c.of.result low is (c.of.ensures ∙ ap (λ (unchanged : List TaskCuts). map (λ k. k.starts) unchanged) (c.as_slice.ensures.value ∙ c.self.view_is))
