-- The laws of swaps, for the proofs of the crates above.
use Rattle.hc_places.specs.Swap.{SwapsKeepTheOrder, SwapsMoveTheirVariables, SwapsReplaceTheirTasks}
use Rattle.hc_places.proofs.Leading.{task-replaced}
use Rattle.hc_places.proofs.Swapped.{merged-rows-ascend, place-merged}

pub swaps-move : SwapsMoveTheirVariables
swaps-move change table ascends variable = place-merged change.rows table.variables variable ascends

pub swaps-replace : SwapsReplaceTheirTasks
swaps-replace change table ascends task = task-replaced change.tasks table.tasks task ascends

pub swaps-ascend : SwapsKeepTheOrder
swaps-ascend change table ascends = merged-rows-ascend change.rows table.variables ascends
