use Rattle.hc_changes.proofs.lemmas.UnchangedSpans.{unchanged-inside}
use Rattle.hc_changes.proofs.laws.unchanged_datagrams_stay.Goals as goal

pub returns : goal.returns
returns c old new datagram is is' unchanged = unchanged-inside old new datagram is is' unchanged
