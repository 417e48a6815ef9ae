use Rattle.std.proofs.Common.{◌∙◌, List, ap, slice_get, sym}
use Rattle.hc_sendings.specs.Slots.{in_slots}
use Rattle.hc_sendings.specs.Waiting.{AwaitedWrite}
use Rattle.hc_sendings.proofs.InSlots.{slots-removed}
use Rattle.hc_sendings.proofs.further_writes.take_slot.Goals as goal

pub returns-in-Some-clause-unchanged : goal.returns-in-Some-clause-unchanged
returns-in-Some-clause-unchanged c =
    ap in_slots c.remove.ensures.items
    ∙ slots-removed c.args.writes.now.items c.in-Some.index (ap (λ (slots : List (List AwaitedWrite)). slice_get slots c.in-Some.index) (sym c.as_slice.ensures.value) ∙ c.in-Some.ensures)
