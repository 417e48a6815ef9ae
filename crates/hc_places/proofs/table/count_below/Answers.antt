use Rattle.std.proofs.Common.{rules, tests, nat_lt}
use Rattle.std.proofs.lemmas.List.Sorted.{IsPartitionPoint-from_clause, IsPartitionedBy-ltb}
use Rattle.hc_places.proofs.table.count_below.Goals as goal

pub returns-clause-below : goal.returns-clause-below
returns-clause-below c =
    IsPartitionPoint-from_clause (λ row. nat_lt row.0 c.args.variable) c.args.rows.now c.partition_point.result c.partition_point.ensures.partitioned
    (IsPartitionedBy-ltb (λ row. row.0) c.args.rows.now c.args.variable c.requires) (λ a r q k. search (rules, tests))
