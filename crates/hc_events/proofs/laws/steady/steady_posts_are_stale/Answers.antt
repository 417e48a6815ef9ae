use Rattle.hc_events.proofs.lemmas.SteadyPosts.{steady-stale}
use Rattle.hc_events.proofs.laws.steady.steady_posts_are_stale.Goals as goal

pub returns : goal.returns
returns c = steady-stale
