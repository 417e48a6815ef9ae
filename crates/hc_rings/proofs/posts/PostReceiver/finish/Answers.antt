use Rattle.std.proofs.Common.{◌≡◌, true}
use Rattle.hc_rings.proofs.Whole.{ended_is}
use Rattle.hc_rings.proofs.posts.PostReceiver.finish.Goals as goal

pub returns-else-self-clause-again : goal.returns-else-self-clause-again
returns-else-self-clause-again c = λ posts all.
    let self = c.look_for_end.new.self in
    let ended : self.posts.ended ≡ true = ended_is _ posts _ self.posts.came (c.look_for_end.ensures.again posts all) in
    absurd (cc)
