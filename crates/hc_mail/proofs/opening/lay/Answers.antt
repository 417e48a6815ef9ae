use Rattle.std.proofs.Common.{ap}
use Rattle.hc_mail.specs.declared.letter.Letter.{Letter}
use Rattle.hc_mail.proofs.Seats.{begins}
use Rattle.hc_mail.proofs.opening.lay.Goals as goal

pub new-requires : goal.new-requires
new-requires g c = rw c.in_ok-slots.ensures.items (begins g.T.Content.kind (c.args.bytes, c.args.datagrams) _ _ _ (ap (λ (letter : Letter g.row.T.Denot). g.T.Content.kind.room letter.content) c.in_ok-middle.ensures))
