-- Laws of lists of changes one after another, and of the data that they show. Each law is the contract of a function of `laws`.
use Rattle.std.specs.Prelude.{◌≡◌, ◌↔◌, ℕ, ◌<◌, ◌≤◌, List, ◌++◌, length, map, Option, None}
use Rattle.std.specs.List.{range_with_len}
use Rattle.hc_records.specs.declared.limits.TheConstants.{LAST_EPOCH, TASKS}
use Rattle.hc_records.specs.declared.records.Group.{Group}
use Rattle.hc_records.specs.Line.{State, line, opened}
use Rattle.hc_places.specs.Table.{Table, datagrams_in, table_of}
use Rattle.hc_events.specs.declared.answer.Answer.{Answer}
use Rattle.hc_events.specs.declared.answer.Answer.TheVariants as answer
use Rattle.hc_events.specs.declared.change.Change.{Change}
use Rattle.hc_events.specs.Entries.{History}
use Rattle.hc_events.specs.Points.{opened_with}
use Rattle.hc_events.specs.Changes.{AreLegal, AreLegalFrom, epoch_after, updates_of, slot_after, table_after, update_in}
use Rattle.hc_events.specs.Steps.{Reads, answer_to}
use Rattle.hc_events.specs.Accepted.{IsReachable}
use Rattle.hc_events.specs.UpdatesLaws.{state_after_changes}

-- two lists of changes in a row lead to the same as the second from the table and the data that the first one leads to
pub record LeadsOn (first second : List Change) : Type 0 where
  pub table : (table : Table) → table_after table (first ++ second) ≡ table_after (table_after table first) second
  pub epoch : (epoch : ℕ) → epoch_after epoch (first ++ second) ≡ epoch_after (epoch_after epoch first) second
  pub slots : (task d : ℕ) (slot : Option (List ℕ)) → slot_after task d slot (first ++ second) ≡ slot_after task d (slot_after task d slot first) second
  pub state : (state : State) → state_after_changes state (first ++ second) ≡ state_after_changes (state_after_changes state first) second

-- `LeadsOn` holds for any two lists of changes
abbrev pub ChangesLeadOn : Type 0
ChangesLeadOn = (first second : List Change) → LeadsOn first second

-- two lists in a row are legal exactly if the first is, and the second from the state after it
abbrev pub LegalJoins : Type 0
LegalJoins =
    (state : State) (first second : List Change)
    → AreLegalFrom state (first ++ second) ↔ (AreLegalFrom state first × AreLegalFrom (state_after_changes state first) second)

-- the epoch after a legal list is at most the last one
abbrev pub LegalEpochsFit : Type 0
LegalEpochsFit = (groups : List Group) (changes : List Change) → AreLegal groups changes → epoch_after 0 changes ≤ LAST_EPOCH

-- the answer that a list of changes shows for a task of a project: the epoch, and for each datagram that the table after it has
-- of the task the data after it, or none
abbrev pub answer_shown : List Group → List Change → ℕ → Answer
answer_shown groups changes task =
    answer.Image
    (epoch_after 0 changes)
    (map
    (λ d. slot_after task d None changes)
    (range_with_len 0 (length (datagrams_in (table_after (table_of (line (opened groups))) changes) task)))
    )

-- a legal list that gives a record's edits and answers shows what a Read of the record answers
abbrev pub ViewsAreReads : Type 0
ViewsAreReads =
    (history : History) (changes : List Change) (task : ℕ) → IsReachable history → AreLegal (opened_with history) changes
    → map update_in changes ≡ updates_of history → task < TASKS → answer_to history (Reads task) ≡ answer_shown (opened_with history) changes task
