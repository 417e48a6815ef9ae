use Rattle.std.proofs.Common.{rules}
use Rattle.std.proofs.lemmas.List.Sorted.{answers_always, IsNonDecreasingBy-from_sort}
use Rattle.std.proofs.lemmas.Result.{on_ok_weaker}
use Rattle.hc_places.specs.Table.{VariableRow}
use Rattle.hc_places.proofs.Rising.{sorted-by_number}
use Rattle.hc_places.proofs.table.sort_rows.Goals as goal

pub returns-clause-sorted : goal.returns-clause-sorted
returns-clause-sorted c =
    let keys = answers_always _ _ _ (λ f a r next called. search rules) in
    let stable = c.sort_by_key.ensures.stable (λ (row : VariableRow). row.0) keys in
    on_ok_weaker c.sort_by_key.result
    (λ sorted. sorted-by_number _ _ (IsNonDecreasingBy-from_sort (λ (row : VariableRow). row.0) _ (sorted (λ row. row.0) keys)) stable)
    c.sort_by_key.ensures.sorted

pub returns-clause-order : goal.returns-clause-order
returns-clause-order c =
    let keys = answers_always _ _ _ (λ f a r next called. search rules) in
    on_ok_weaker c.sort_by_key.result
    (λ sorted. IsNonDecreasingBy-from_sort (λ (row : VariableRow). row.0) _ (sorted (λ (row : VariableRow). row.0) keys))
    c.sort_by_key.ensures.sorted
