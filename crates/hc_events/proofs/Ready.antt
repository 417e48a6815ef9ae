-- A task is ready if nothing is owed and nothing outside the line names it, and both events then send it alike.
use Rattle.std.proofs.Common.{◌≡◌, ℕ, ◌==◌, ◌&&◌, nat_lt, Bool, true, false, not, List, [], ◌∷◌, ◌++◌, length, filter, map, refl, sym, ap, ◌∙◌}
use Rattle.std.specs.Prelude.{All}
use Rattle.std.specs.List.{list_any}
use Rattle.std.proofs.lemmas.List.Elements.{All-head, All-tail}
use Rattle.hc_records.specs.Lists.{lowest}
use Rattle.hc_events.specs.declared.answer.Answer.TheVariants as answer
use Rattle.hc_events.specs.declared.faults.CoreFault.{CoreFault}
use Rattle.hc_events.specs.declared.faults.CoreFault.TheVariants.{NoSuchTask, SerialsSpent, Unprogrammed}
use Rattle.hc_events.specs.Entries.{History}
use Rattle.hc_events.specs.Owed.{owed_blocks}
use Rattle.hc_events.specs.Ready.{concerns, is_ready, waited_for_outside}
use Rattle.hc_events.specs.ReadyLaws.{AreSentAlike}
use Rattle.hc_events.specs.Steps.{has_serials, is_no_task, proposal, ready_faults, sent_text, task_faults, unless, unless_fault, wait_fault, with_sent}

pub ready-where_none : (history : History) (task : ℕ) → owed_blocks history ≡ [] → waited_for_outside history task ≡ [] → is_ready history task ≡ true
ready-where_none history task none outside =
    ap (λ blocks. (length (filter (concerns history task) blocks) == 0) && (length (waited_for_outside history task) == 0)) none
    ∙ ap (λ registers. length registers == 0) outside

-- no task of the list waits

abbrev Serials : History → List ℕ → List (Bool × CoreFault)
Serials history tasks = (not (has_serials history (length (proposal history tasks))), SerialsSpent) ∷ []

none_in_the_way : (history : History) (tasks : List ℕ) (rest : List (Bool × CoreFault)) → owed_blocks history ≡ [] → All (λ (task : ℕ). waited_for_outside history task ≡ []) tasks
    → lowest (map (wait_fault history) tasks ++ rest) ≡ lowest rest
none_in_the_way history [] rest none outside = refl
none_in_the_way history (task ∷ tasks) rest none outside =
    let ready = ready-where_none history task none (All-head (λ (task : ℕ). waited_for_outside history task ≡ []) task tasks outside) in
    ap (λ b. lowest ((not b, (wait_fault history task).1) ∷ map (wait_fault history) tasks ++ rest)) ready
    ∙ none_in_the_way history tasks rest none (All-tail (λ (task : ℕ). waited_for_outside history task ≡ []) task tasks outside)

first_then : (b : Bool) (fault : CoreFault) (one other : List (Bool × CoreFault)) → lowest one ≡ lowest other → lowest ((b, fault) ∷ one) ≡ lowest ((b, fault) ∷ other)
first_then true fault one other same = refl
first_then false fault one other same = same

same_faults : (history : History) (tasks : List ℕ) → owed_blocks history ≡ [] → All (λ (task : ℕ). waited_for_outside history task ≡ []) tasks
    → lowest (ready_faults history tasks) ≡ lowest (task_faults history tasks)
same_faults history tasks none outside =
    first_then (list_any is_no_task tasks) NoSuchTask (map (wait_fault history) tasks ++ Serials history tasks)
    ((nat_lt 0 (length (owed_blocks history)), Unprogrammed (length (owed_blocks history))) ∷ Serials history tasks)
    (none_in_the_way history tasks (Serials history tasks) none outside
    ∙ sym (ap (λ blocks. lowest ((nat_lt 0 (length blocks), Unprogrammed (length (owed_blocks history))) ∷ Serials history tasks)) none))

pub sent-alike : (history : History) (tasks : List ℕ) → owed_blocks history ≡ [] → All (λ (task : ℕ). waited_for_outside history task ≡ []) tasks → AreSentAlike history tasks
sent-alike history tasks none outside = record {
  answers = ap (λ refused. unless refused (answer.Sent (map (sent_text history) (proposal history tasks)))) (same_faults history tasks none outside);
  entries = ap (λ refused. unless_fault refused history (with_sent history (proposal history tasks))) (same_faults history tasks none outside);
}
