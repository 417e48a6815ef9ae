use Rattle.std.proofs.Common.{arith, zero-add}
use Rattle.std.proofs.lemmas.Grind.{common_steps}
use Rattle.std.proofs.lemmas.List.FromFn.{map-range_with_len_more}
use Rattle.hc_events.specs.Images.{slot_of}
use Rattle.hc_core.proofs.keeping.Core.slots.Goals as goal

pub loop-number-preserved : goal.loop-number-preserved
loop-number-preserved c =
    grind (arith, common_steps, map-range_with_len_more (slot_of c.args.self.now.history c.args.task) 0 c.loop-number.number c.loop-number.number (zero-add c.loop-number.number))
