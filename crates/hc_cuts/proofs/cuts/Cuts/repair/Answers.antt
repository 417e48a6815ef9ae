use Rattle.std.proofs.Common.{arith, ◌≡◌, List, ap, ◌∙◌}
use Rattle.hc_records.specs.declared.keys.Key.{Key}
use Rattle.hc_records.specs.Boundaries.{boundaries}
use Rattle.hc_cuts.specs.Repair.{AreOfBefore, unsettled_between}
use Rattle.hc_cuts.specs.Starts.{TaskCuts}
use Rattle.hc_cuts.specs.declared.hulls.Hulls.{Hulls}
use Rattle.hc_cuts.proofs.lemmas.Repairs.{hulls-hold}
use Rattle.hc_cuts.proofs.cuts.Cuts.repair.Goals as goal

-- the boundaries as the caller has them, and as they are kept
own-before : (hulls : Hulls) (unchanged own : TaskCuts) (starts : List Key) → own ≡ unchanged → starts ≡ own.starts → AreOfBefore unchanged.starts hulls unchanged.tree.list
    → AreOfBefore starts hulls own.tree.list
own-before hulls unchanged own starts same are were = grind arith

pub repaired_starts-requires-clause-were : goal.repaired_starts-requires-clause-were
repaired_starts-requires-clause-were g c =
    own-before c.args.hulls.now c.args.self.now _ c.deref.result.now c.self.view_is c.deref.ensures.0 c.requires

pub returns-clause-count : goal.returns-clause-count
returns-clause-count g c old before =
    let unchanged = c.args.self.now in
    let starts = c.in_ok-starts.starts.items in
    let found = c.in_ok-starts.ensures in
    let old_are = c.deref.ensures.0 ∙ ap (λ (k : TaskCuts). k.starts) c.self.view_is in
    found.count
    ∙ ap (λ (keys : List Key). unsettled_between c.args.hulls.now keys starts) old_are
    ∙ (hulls-hold c.args.hulls.now old unchanged.tree.list before.differ).count unchanged.starts starts before.keys
    (found.starts ∙ ap (λ (k : TaskCuts). boundaries k.tree.list) c.self.view_is)
