use Rattle.hc_events.proofs.lemmas.SteadyPosts.{accepted-alike}
use Rattle.hc_events.proofs.laws.steady.accepted_posts_are_steady.Goals as goal

pub returns : goal.returns
returns c = accepted-alike
