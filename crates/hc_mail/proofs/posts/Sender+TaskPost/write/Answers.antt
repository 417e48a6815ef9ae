use Rattle.std.proofs.Common.{rules, ap, sym, ◌∙◌, subst, length, ◌≤◌}
use Rattle.hc_mail.specs.Posts.{MailedPost, post_kind, mailed_post}
use Rattle.hc_mail.specs.Ends.{SenderEnd}
use Rattle.hc_mail.specs.Rule.{in_hand}
use Rattle.hc_mail.proofs.Moves.{has_slot}
use Rattle.hc_mail.proofs.Sending.{still_sends}
use Rattle.hc_mail.proofs.posts.Sender+TaskPost.write.Goals as goal

pub slot_mut-requires : goal.slot_mut-requires
slot_mut-requires c = (search rules, (in_hand post_kind c.self.inside.seat.me.1, has_slot post_kind _ _ _ c.self.invariant.sends))

pub write-requires : goal.write-requires
write-requires c =
    let was = c.content_mut-post.ensures.content ∙ (sym (ap (λ hand. (in_hand post_kind hand).content) c.slot_mut.ensures.value) ∙ ap (λ (end : SenderEnd MailedPost). end.own) c.self.view_is) in
    subst (λ (post : MailedPost). length c.args.bytes.now ≤ post.room) (sym was) c.requires

pub invariant_of-self : goal.invariant_of-self
invariant_of-self c =
    let was = ap post_kind.room (c.content_mut-post.ensures.content ∙ sym (ap (λ hand. (in_hand post_kind hand).content) c.slot_mut.ensures.value)) in
    still_sends post_kind _ _ _ _ _ _ c.self.invariant (ap post_kind.room c.write.ensures ∙ (was ∙ c.self.invariant.roomy))

pub returns-clause-own : goal.returns-clause-own
returns-clause-own c =
    let was = c.content_mut-post.ensures.content ∙ (sym (ap (λ hand. (in_hand post_kind hand).content) c.slot_mut.ensures.value) ∙ ap (λ (end : SenderEnd MailedPost). end.own) c.self.view_is) in
    c.write.ensures ∙ ap (λ (content : MailedPost). mailed_post c.args.epoch c.args.bytes.now content.room) was

pub returns-clause-unchanged : goal.returns-clause-unchanged
returns-clause-unchanged c = ap (λ (end : SenderEnd MailedPost). end.place) c.self.view_is
