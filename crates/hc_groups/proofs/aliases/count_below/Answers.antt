use Rattle.std.proofs.Common.{nat_lt, rules, tests}
use Rattle.std.proofs.lemmas.List.Sorted.{IsPartitionPoint-from_clause, IsPartitionedBy-ltb}
use Rattle.hc_groups.proofs.aliases.count_below.Goals as goal

pub returns-clause-parted : goal.returns-clause-parted
returns-clause-parted c =
    IsPartitionPoint-from_clause (λ own. nat_lt own.alias c.args.alias) c.args.aliases.now c.partition_point.result c.partition_point.ensures.partitioned
    (IsPartitionedBy-ltb (λ own. own.alias) c.args.aliases.now c.args.alias c.requires) (λ a r q k. search (rules, tests))
