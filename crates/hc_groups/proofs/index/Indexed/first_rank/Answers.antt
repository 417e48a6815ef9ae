use Rattle.std.proofs.Common.{arith}
use Rattle.hc_groups.proofs.Indexes.{first-ranked, seen}
use Rattle.hc_groups.proofs.index.Indexed.first_rank.Goals as goal

pub number_at-requires-clause-inside : goal.number_at-requires-clause-inside
number_at-requires-clause-inside c = (first-ranked c.args.self.now _ c.args.group (seen c.self.view_is c.self.invariant.0) c.requires).inside

pub number_at-requires-clause-low : goal.number_at-requires-clause-low
number_at-requires-clause-low c = (first-ranked c.args.self.now _ c.args.group (seen c.self.view_is c.self.invariant.0) c.requires).low

pub returns : goal.returns
returns c =
    let sum = (first-ranked c.args.self.now _ c.args.group (seen c.self.view_is c.self.invariant.0) c.requires).rank in
    omega (arith, sum, c.number_at.ensures.value)
