use Rattle.hc_events.proofs.lemmas.SteadyPosts.{steady-accepted}
use Rattle.hc_events.proofs.laws.steady.steady_posts_are_accepted.Goals as goal

pub returns : goal.returns
returns c = steady-accepted
