use Rattle.hc_events.proofs.lemmas.SteadyPosts.{posts-alike}
use Rattle.hc_events.proofs.laws.steady.posts_of_the_epoch_are_alike.Goals as goal

pub returns : goal.returns
returns c = posts-alike
