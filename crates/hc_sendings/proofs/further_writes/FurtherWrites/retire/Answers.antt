use Rattle.std.proofs.Common.{◌∙◌, ap, arith, map}
use Rattle.std.proofs.lemmas.List.{with_items_is}
use Rattle.hc_sendings.specs.Slots.{in_slots}
use Rattle.hc_sendings.specs.Waiting.{awaited_block, left_after}
use Rattle.hc_sendings.proofs.InSlots.{slots-retired}
use Rattle.hc_sendings.proofs.further_writes.FurtherWrites.retire.Goals as goal

pub returns : goal.returns
returns c =
    let again = map awaited_block c.args.again.now in
    ap in_slots (with_items_is c.self.inside.writes c.retire_each.new.writes (omega (arith, c.retire_each.auto.writes, c.deref_mut.ensures.len)))
    ∙ ap in_slots c.retire_each.ensures ∙ slots-retired again c.args.is_over c.deref_mut.result.now ∙ ap (left_after again c.args.is_over) (ap in_slots c.deref_mut.ensures.value ∙ c.self.view_is)
