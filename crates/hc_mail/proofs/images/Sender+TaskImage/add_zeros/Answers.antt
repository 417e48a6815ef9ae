use Rattle.std.proofs.Common.{rules, ap, sym, ◌∙◌, subst, length, ◌+◌, ◌≤◌, ◌<◌}
use Rattle.hc_mail.specs.Images.{Image, image_kind, with_zeros}
use Rattle.hc_mail.specs.Ends.{SenderEnd}
use Rattle.hc_mail.specs.Rule.{in_hand}
use Rattle.hc_mail.proofs.Moves.{has_slot}
use Rattle.hc_mail.proofs.Sending.{still_sends}
use Rattle.hc_mail.proofs.images.Sender+TaskImage.add_zeros.Goals as goal

pub slot_mut-requires : goal.slot_mut-requires
slot_mut-requires c = (search rules, (in_hand image_kind c.self.inside.seat.me.1, has_slot image_kind _ _ _ c.self.invariant.sends))

pub add_zeros-requires-clause-bytes : goal.add_zeros-requires-clause-bytes
add_zeros-requires-clause-bytes c =
    let was = c.content_mut-image.ensures.content ∙ (sym (ap (λ hand. (in_hand image_kind hand).content) c.slot_mut.ensures.value) ∙ ap (λ (end : SenderEnd Image). end.own) c.self.view_is) in
    subst (λ (image : Image). length image.bytes + c.args.size ≤ image.room.0) (sym was) c.requires.bytes

pub add_zeros-requires-clause-datagrams : goal.add_zeros-requires-clause-datagrams
add_zeros-requires-clause-datagrams c =
    let was = c.content_mut-image.ensures.content ∙ (sym (ap (λ hand. (in_hand image_kind hand).content) c.slot_mut.ensures.value) ∙ ap (λ (end : SenderEnd Image). end.own) c.self.view_is) in
    subst (λ (image : Image). length image.serials < image.room.1) (sym was) c.requires.datagrams

pub invariant_of-self : goal.invariant_of-self
invariant_of-self c =
    let was = ap (λ (image : Image). image.room) (c.content_mut-image.ensures.content ∙ sym (ap (λ hand. (in_hand image_kind hand).content) c.slot_mut.ensures.value)) in
    still_sends image_kind _ _ _ _ _ _ c.self.invariant (ap (λ (image : Image). image.room) c.add_zeros.ensures ∙ (was ∙ c.self.invariant.roomy))

pub returns-clause-own : goal.returns-clause-own
returns-clause-own c =
    let was = c.content_mut-image.ensures.content ∙ (sym (ap (λ hand. (in_hand image_kind hand).content) c.slot_mut.ensures.value) ∙ ap (λ (end : SenderEnd Image). end.own) c.self.view_is) in
    c.add_zeros.ensures ∙ ap (λ (content : Image). with_zeros c.args.size content) was

pub returns-clause-unchanged : goal.returns-clause-unchanged
returns-clause-unchanged c = ap (λ (end : SenderEnd Image). end.place) c.self.view_is
