use Rattle.hc_rings.proofs.Items.{posts_of_prefix}
use Rattle.hc_rings.proofs.incoming.IncomingPosts.is_abandoned.Goals as goal

pub returns-else-self-clause-known : goal.returns-else-self-clause-known
returns-else-self-clause-known c = posts_of_prefix _ _ c.is_abandoned.ensures.2
