use Rattle.std.proofs.Common.{◌∙◌, ap, arith}
use Rattle.std.proofs.lemmas.List.{with_items_is}
use Rattle.hc_sendings.specs.Slots.{in_slots}
use Rattle.hc_sendings.proofs.InSlots.{slots-cleared}
use Rattle.hc_sendings.proofs.further_writes.FurtherWrites.clear.Goals as goal

pub returns : goal.returns
returns c =
    ap in_slots (with_items_is c.self.inside.writes c.clear_each.new.writes (omega (arith, c.clear_each.auto.writes, c.deref_mut.ensures.len)))
    ∙ ap in_slots c.clear_each.ensures ∙ slots-cleared c.deref_mut.result.now
