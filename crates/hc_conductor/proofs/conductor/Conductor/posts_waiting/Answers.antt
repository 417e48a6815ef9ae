use Rattle.std.proofs.Common.{length, map, ap, arith}
use Rattle.std.proofs.lemmas.List.{length-map}
use Rattle.hc_conductor.specs.Conducting.{Conducting}
use Rattle.hc_conductor.specs.Seats.{sender}
use Rattle.hc_conductor.specs.Together.{AreJoined}
use Rattle.hc_conductor.proofs.Waiting.{as-many}
use Rattle.hc_conductor.proofs.conductor.Conductor.posts_waiting.Goals as goal

pub look-requires-clause-each : goal.look-requires-clause-each
look-requires-clause-each c =
    let many = as-many AreJoined (map sender c.args.seats.now) c.args.self.now.rings c.requires in
    omega (arith, many, length-map c.args.seats.now sender, ap (λ (x : Conducting). length x.rings) c.self.view_is, c.self.invariant.rings)
