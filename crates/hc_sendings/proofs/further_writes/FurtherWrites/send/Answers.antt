use Rattle.std.proofs.Common.{◌∙◌, [], ◌∷◌, ◌++◌, List, ap, arith, map}
use Rattle.std.proofs.lemmas.List.{with_items_is}
use Rattle.hc_sendings.specs.Slots.{in_slots}
use Rattle.hc_sendings.specs.Waiting.{AwaitedWrite, awaited_block, left_after}
use Rattle.hc_sendings.proofs.InSlots.{slots-last, slots-retired}
use Rattle.hc_sendings.proofs.further_writes.FurtherWrites.send.Goals as goal

pub returns-clause-sent : goal.returns-clause-sent
returns-clause-sent c =
    let again = map awaited_block c.args.placed.now in
    let over = c.args.is_over in
    let write : AwaitedWrite = record { serial = c.args.serial; blocks = again } in
    ap in_slots c.push_reserved.ensures.items
    ∙ ap (λ (slots : List (List AwaitedWrite)). in_slots (slots ++ c.put.new.self ∷ [])) (with_items_is c.take_slot.new.writes c.retire_each.new.writes (omega (arith, c.retire_each.auto.writes, c.deref_mut.ensures.len)))
    ∙ ap (λ (slot : List AwaitedWrite). in_slots (c.retire_each.new.writes ++ slot ∷ [])) c.put.ensures
    ∙ slots-last c.retire_each.new.writes write
    ∙ ap (λ (writes : List AwaitedWrite). writes ++ write ∷ [])
    (ap in_slots c.retire_each.ensures
    ∙ slots-retired again over c.deref_mut.result.now
    ∙ ap (left_after again over) (ap in_slots c.deref_mut.ensures.value ∙ c.in_ok-slot.ensures.unchanged ∙ c.self.view_is))
