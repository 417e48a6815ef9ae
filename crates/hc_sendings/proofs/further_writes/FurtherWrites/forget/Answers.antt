use Rattle.std.proofs.Common.{◌∙◌, ap, arith}
use Rattle.std.proofs.lemmas.List.{with_items_is}
use Rattle.hc_sendings.specs.Slots.{in_slots}
use Rattle.hc_sendings.specs.Waiting.{left_forgotten}
use Rattle.hc_sendings.proofs.InSlots.{slots-forgotten}
use Rattle.hc_sendings.proofs.further_writes.FurtherWrites.forget.Goals as goal

pub returns : goal.returns
returns c =
    ap in_slots (with_items_is c.self.inside.writes c.forget_each.new.writes (omega (arith, c.forget_each.auto.writes, c.deref_mut.ensures.len)))
    ∙ ap in_slots c.forget_each.ensures ∙ slots-forgotten c.args.station c.deref_mut.result.now ∙ ap (left_forgotten c.args.station) (ap in_slots c.deref_mut.ensures.value ∙ c.self.view_is)
