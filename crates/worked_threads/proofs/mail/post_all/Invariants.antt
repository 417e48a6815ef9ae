use Rattle.std.proofs.Common.{◌≡◌}
use Rattle.worked_threads.proofs.mail.post_all.Given as goal

abbrev pub invariant-loop-epoch : goal.invariant-loop-epoch
invariant-loop-epoch l = l.sender.own.room ≡ 4
