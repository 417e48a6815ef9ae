use Rattle.std.proofs.Common.{nat_lt, rules, tests}
use Rattle.std.proofs.lemmas.List.Sorted.{IsPartitionPoint-from_clause, IsPartitionedBy-ltb}
use Rattle.hc_groups.proofs.variables.count_lower.Goals as goal

pub returns-clause-parted : goal.returns-clause-parted
returns-clause-parted c =
    IsPartitionPoint-from_clause (λ other. nat_lt other c.args.variable) c.args.variables.now c.partition_point.result c.partition_point.ensures.partitioned
    (IsPartitionedBy-ltb (λ other. other) c.args.variables.now c.args.variable c.requires) (λ a r q k. search (rules, tests))
