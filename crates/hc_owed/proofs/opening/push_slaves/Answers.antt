use Rattle.std.proofs.Common.{rules}
use Rattle.std.proofs.lemmas.List.{append_assoc, length-append}
use Rattle.hc_plan.proofs.lemmas.Replaced.{item-cons}
use Rattle.hc_owed.proofs.Opened.{length-flags_of_slave}
use Rattle.hc_owed.proofs.opening.push_slaves.Goals as goal

pub push_slave-requires : goal.push_slave-requires
push_slave-requires c = search (rules, item-cons)

pub loop-slave-preserved : goal.loop-slave-preserved
loop-slave-preserved c = search (rules, item-cons, length-append, length-flags_of_slave, append_assoc)
