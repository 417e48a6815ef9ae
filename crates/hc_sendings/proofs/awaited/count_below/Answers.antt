use Rattle.std.proofs.Common.{rules, tests, nat_lt}
use Rattle.std.proofs.lemmas.List.Sorted.{IsPartitionPoint-from_clause}
use Rattle.hc_sendings.proofs.Found.{serials-parted}
use Rattle.hc_sendings.proofs.awaited.count_below.Goals as goal

pub returns : goal.returns
returns c =
    IsPartitionPoint-from_clause (λ frame. nat_lt frame.serial c.args.serial) c.args.frames.now c.partition_point.result c.partition_point.ensures.partitioned
    (serials-parted c.args.frames.now c.args.serial c.requires) (λ a r q k. search (rules, tests))
