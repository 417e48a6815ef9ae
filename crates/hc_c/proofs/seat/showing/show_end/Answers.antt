use Rattle.std.proofs.Common.{◌∙◌, ap, sym}
use Rattle.hc_c.specs.SeatImages.{head_shown}
use Rattle.hc_c.proofs.seat.showing.show_end.Goals as goal

pub returns : goal.returns
returns c = let args = c.args in let end = args.end.now in let history = args.core.now.history in
    let head = c.head_of-head.ensures ∙ ap (λ taken. head_shown history args.task args.first taken end.is_refused args.line) c.number.ensures in record {
      images = rw (sym head) c.send_image.ensures;
      posts = λ _. end.posts;
      refused = λ _. end.is_refused;
    }
