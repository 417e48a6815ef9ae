use Rattle.std.proofs.Common.{Option, subst}
use Rattle.std.specs.Prelude.{IfSome}
use Rattle.hc_mail.specs.declared.image.LineState.TheVariants.{Closed}
use Rattle.hc_c.specs.SeatImages.{EachTold}
use Rattle.hc_c.specs.declared.embedded.Embedded.{Embedded}
use Rattle.hc_c.proofs.opening.zangjulf_close.Goals as goal

pub end_with-requires : goal.end_with-requires
end_with-requires c = subst (λ (held : Option Embedded). IfSome held (λ line. EachTold Closed line.ends)) c.take-own.ensures.taken c.tell_closed.ensures.last
