use Rattle.std.proofs.Common.{◌≡◌, ◌==◌, ℕ, drop, take}
use Rattle.std.specs.List.{list_any}
use Rattle.std.specs.Ordering.{nat_cmp}
use Rattle.std.specs.BTreeSet.{contains}
use Rattle.hc_project.specs.Places.{first_from}
use Rattle.hc_project.specs.Repeated.{related_at}
use Rattle.hc_project.proofs.repeats.first_repeat.Given as goal

-- none of the numbers passed was before, and they are the ones seen
abbrev pub invariant-loop-index : goal.invariant-loop-index
invariant-loop-index l = record {
  passed : first_from (related_at (λ earlier later. later == earlier) l.list) 0 l.list
      ≡ first_from (related_at (λ earlier later. later == earlier) l.list) l.index (drop l.index l.list);
  known : (n : ℕ) → contains nat_cmp l.seen n ≡ list_any (λ x. n == x.1) (take l.index l.list);
}
