use Rattle.std.proofs.Common.{rules, ◌∙◌, List, [], ◌∷◌, ◌++◌, ap, sym, subst}
use Rattle.hc_mail.specs.Contents.{StartsWith}
use Rattle.hc_mail.specs.Ends.{ReceiverEnd, SenderEnd, seen}
use Rattle.hc_mail.specs.Images.{Image}
use Rattle.hc_c.specs.SeatImages.{image_shown}
use Rattle.hc_c.proofs.Mailed.{both-begin}
use Rattle.hc_c.proofs.seat.opening.open_images.Goals as goal

pub returns-clause-begins : goal.returns-clause-begins
returns-clause-begins c =
    let sends = λ (end : SenderEnd Image). seen end.place in let receives = λ (end : ReceiverEnd Image). seen end.place in
    let noted = c.check.ensures.unchanged.2 ∙ ap sends c.note.ensures.unchanged in
    let sent = noted ∙ (c.send_image.ensures.shown ∙ ap (λ (l : List Image). l ++ image_shown c.args.core.now.history c.args.task c.args.head ∷ []) c.in_ok-sender.ensures.sender.0) in
    let known = c.learn.ensures.reported ∙ (c.note.ensures.note.1 ∙ sym noted) in
    let a = subst (StartsWith (receives c.look.new.self)) known c.look.ensures.later.1 in
    let b = subst (StartsWith (sends c.check.new.self)) c.note-2.ensures.note.1 c.check.ensures.sent in record {
      one_mail = search rules;
      shown = sent;
      viewed = ap seen c.of.ensures.0 ∙ (ap receives c.note-2.ensures.unchanged ∙ (both-begin (receives c.look.new.self) (sends c.check.new.self) a b ∙ sent));
    }
