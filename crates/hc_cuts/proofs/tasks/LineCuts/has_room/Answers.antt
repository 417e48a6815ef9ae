use Rattle.std.proofs.Common.{◌≡◌, ℕ, List, length, get_or, ap, subst, ◌∙◌}
use Rattle.std.specs.Prelude.{IsTrue}
use Rattle.hc_bitsum.specs.Tree.{HasRoom}
use Rattle.hc_cuts.specs.Starts.{TaskCuts}
use Rattle.hc_cuts.specs.TaskCuts.{both_task_cuts}
use Rattle.hc_cuts.proofs.tasks.LineCuts.has_room.Goals as goal

pub returns : goal.returns
returns c = λ line is.
    let first : c.index.result.now ≡ both_task_cuts 0 line = c.index.ensures ∙ ap (λ (unchanged : List TaskCuts). get_or unchanged 0 c.index.result.now) (c.self.view_is ∙ is) in
    let slaves : c.index.result.now.tree.slaves ≡ length line = ap (λ (unchanged : TaskCuts). unchanged.tree.slaves) first in
    subst (λ (n : ℕ). (IsTrue c.has_room.result → HasRoom n c.args.slaves) × (HasRoom n c.args.slaves → IsTrue c.has_room.result)) slaves c.has_room.ensures
