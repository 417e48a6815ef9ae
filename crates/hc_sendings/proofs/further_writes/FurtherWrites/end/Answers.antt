use Rattle.std.proofs.Common.{◌∙◌, ap, arith}
use Rattle.std.proofs.lemmas.List.{with_items_is}
use Rattle.hc_sendings.specs.Slots.{in_slots, writes_without}
use Rattle.hc_sendings.proofs.InSlots.{slots-ended}
use Rattle.hc_sendings.proofs.further_writes.FurtherWrites.end.Goals as goal

pub returns : goal.returns
returns c =
    ap in_slots (with_items_is c.self.inside.writes c.end_each.new.writes (omega (arith, c.end_each.auto.writes, c.deref_mut.ensures.len)))
    ∙ ap in_slots c.end_each.ensures ∙ slots-ended c.args.serial c.deref_mut.result.now ∙ ap (writes_without c.args.serial) (ap in_slots c.deref_mut.ensures.value ∙ c.self.view_is)
