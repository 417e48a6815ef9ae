use Rattle.std.proofs.lemmas.List.Sorted.{IsNonDecreasingBy-from_sort}
use Rattle.hc_groups.proofs.variables.sorted_names.Goals as goal

pub returns-clause-order : goal.returns-clause-order
returns-clause-order c = IsNonDecreasingBy-from_sort (λ n. n) _ c.sort_unstable.ensures.sorted
