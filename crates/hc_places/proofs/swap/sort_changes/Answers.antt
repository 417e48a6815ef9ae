use Rattle.std.proofs.Common.{rules, List, length, subst, sym, ◌≤◌}
use Rattle.std.specs.Prelude.{None, ◌==◌}
use Rattle.std.proofs.lemmas.List.Sorted.{answers_always, IsNonDecreasingBy-from_sort}
use Rattle.std.proofs.lemmas.Result.{on_ok_weaker}
use Rattle.hc_places.specs.Swap.{ChangedRow}
use Rattle.hc_places.proofs.Rising.{rises-sorted, rising-ascends, stable-unchanged}
use Rattle.hc_places.proofs.lemmas.Sorted.{find-unchanged}
use Rattle.hc_places.proofs.swap.sort_changes.Goals as goal

pub returns-clause-ascends : goal.returns-clause-ascends
returns-clause-ascends c =
    let keys = answers_always _ _ _ (λ f a r next called. search rules) in
    let stable = c.sort_by_key.ensures.stable (λ (row : ChangedRow). row.0) keys in
    on_ok_weaker c.sort_by_key.result
    (λ sorted. rising-ascends _ (rises-sorted _ (IsNonDecreasingBy-from_sort (λ (row : ChangedRow). row.0) _ (sorted (λ (row : ChangedRow). row.0) keys)))
    (λ number. subst (λ (unchanged : List ChangedRow). length unchanged ≤ 1) (sym (stable-unchanged None _ _ stable number)) (c.requires number)))
    c.sort_by_key.ensures.sorted

pub returns-clause-same : goal.returns-clause-same
returns-clause-same c =
    let keys = answers_always _ _ _ (λ f a r next called. search rules) in
    let stable = c.sort_by_key.ensures.stable (λ (row : ChangedRow). row.0) keys in
    on_ok_weaker c.sort_by_key.result
    (λ sorted number. find-unchanged (λ (row : ChangedRow). row.0 == number) _ _ (stable-unchanged None _ _ stable number))
    c.sort_by_key.ensures.sorted
