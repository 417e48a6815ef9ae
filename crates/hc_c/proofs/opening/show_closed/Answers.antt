use Rattle.hc_mail.specs.declared.image.LineState.TheVariants.{Closed}
use Rattle.hc_c.proofs.LastImages.{each-told}
use Rattle.hc_c.proofs.opening.show_closed.Goals as goal

pub returns : goal.returns
returns c = let line = c.args.own.now in each-told line.core.history line.sent_from Closed line.ends c.show_ends.new.ends c.show_ends.ensures
