use Rattle.std.proofs.Common.{◌≡◌, ◌||◌, drop}
use Rattle.std.specs.List.{list_any}
use Rattle.std.specs.Ordering.{nat_cmp}
use Rattle.std.specs.BTreeSet.{contains}
use Rattle.hc_records.specs.Lists.{has_repeat}
use Rattle.hc_records.proofs.conditions.names.repeats.Given as goal

-- a number is twice where one that is left was seen, or is twice among those that are left
abbrev pub invariant-loop-number : goal.invariant-loop-number
invariant-loop-number l =
    (list_any (λ q. contains nat_cmp l.seen q) (drop l.number-index l.numbers) || has_repeat (drop l.number-index l.numbers))
    ≡ has_repeat l.numbers
