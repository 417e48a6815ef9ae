use Rattle.std.proofs.Common.{◌∙◌, ap, sym}
use Rattle.hc_mail.specs.Contents.{Room, newest}
use Rattle.hc_mail.specs.Ends.{seen}
use Rattle.hc_mail.specs.Posts.{MailedPost, post_kind, mailed_post}
use Rattle.hc_c.specs.SeatRoom.{post_room}
use Rattle.hc_c.proofs.Mailed.{last-of-one-more}
use Rattle.hc_c.proofs.seat.posting.post_bytes.Goals as goal

pub invariant_of-posts : goal.invariant_of-posts
invariant_of-posts c = let was = c.args.posts.now in let post = mailed_post c.args.epoch c.args.bytes.now in record {
  sends_posts = ap (λ (room : Room). room.0) c.send.ensures.room ∙ (ap (λ (it : MailedPost). it.room) c.write-2.ensures.own ∙ was.sends_posts);
  keeps_posts = ap (λ (it : MailedPost). it.room) c.write.ensures ∙ was.keeps_posts;
  newest = c.write.ensures
      ∙ (ap post (was.keeps_posts ∙ sym was.sends_posts) ∙ (sym c.write-2.ensures.own ∙ sym (ap (newest post_kind post_room) c.send.ensures.sent ∙ last-of-one-more (post_kind.blank post_room) (seen c.write-2.new.self.place) c.write-2.new.self.own)));
}
