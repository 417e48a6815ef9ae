use Rattle.std.proofs.Common.{ap, refl, subst, sym}
use Rattle.hc_mail.specs.declared.image.ImageHead.{ImageHead}
use Rattle.hc_mail.specs.declared.image.LineState.TheVariants.{Open}
use Rattle.hc_c.specs.SeatImages.{image_shown, looker_image}
use Rattle.hc_c.specs.Seats.{BeginWith}
use Rattle.hc_c.specs.declared.seat.ends.TaskEnd.{TaskEnd}
use Rattle.hc_c.proofs.seat.opening.make_ends.Goals as goal

pub returns : goal.returns
returns c =
    let args = c.args in let history = args.core.now.history in
    let begins = subst (λ (head : ImageHead). BeginWith (image_shown history args.task head) c.in_ok-sender.sender c.in_ok-sender.receiver) c.head_of-head.ensures c.in_ok-sender.ensures.begins in record {
      images = subst (λ (end : TaskEnd). BeginWith (looker_image history args.task args.first Open) c.in_ok-sender.sender end.images) (sym c.in_ok-own.ensures.ok) begins;
      posts = (c.in_ok-posts.posts, ap (λ (end : TaskEnd). end.posts) c.in_ok-own.ensures.ok, c.in_ok-posts.ensures);
      refused = refl;
    }
