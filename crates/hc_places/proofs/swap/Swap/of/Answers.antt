use Rattle.std.proofs.Common.{subst, sym}
use Rattle.hc_places.specs.Swap.{ChangesAscend}
use Rattle.hc_places.proofs.Leading.{leads-said}
use Rattle.hc_places.proofs.swap.Swap.of.Goals as goal

pub invariant_of-result : goal.invariant_of-result
invariant_of-result c = record {
  tasks = subst ChangesAscend (sym c.of.ensures) c.requires.tasks;
  rows = c.in_ok-sort_changes.ensures.ascends;
}

pub returns-clause-leads : goal.returns-clause-leads
returns-clause-leads c =
    leads-said c.in_ok-copied.field-0 c.args.tasks.items c.of.result c.args.rows.items _ c.of.ensures c.in_ok-sort_changes.ensures.same c.requires.tasks c.in_ok-sort_changes.ensures.ascends
