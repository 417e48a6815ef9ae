use Rattle.std.proofs.Common.{drop}
use Rattle.hc_owed.specs.EditWaits.{CanTallyMoved}
use Rattle.hc_owed.proofs.TallyingMoved.{AreTallied}
use Rattle.hc_owed.proofs.edit_waits.tally_moved.Given as goal

-- the areas of the blocks before the present one are counted
abbrev pub invariant-loop-block : goal.invariant-loop-block
invariant-loop-block l = (can : CanTallyMoved l.areas l.fn.tally l.owed l.moved) → AreTallied can.counted l.owed l.moved (drop l.block-index l.moved) l.done l.last l.tally
