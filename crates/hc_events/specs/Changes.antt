-- The changes that a reader of the input images gets, and the state that it derives from them without the record.
use Rattle.std.specs.Prelude.{◌≡◌, ℕ, ◌+◌, ◌<◌, IsOk, List, [], ◌∷◌, ◌++◌, length, map, Option, None}
use Rattle.hc_records.specs.declared.edit.Edit.{Edit}
use Rattle.hc_records.specs.declared.records.Group.{Group}
use Rattle.hc_records.specs.Line.{State, line, opened}
use Rattle.hc_records.specs.Edits.{edited, state_after}
use Rattle.hc_records.specs.Image.{datagram_count, datagram_length, task_places}
use Rattle.hc_places.specs.Swap.{swapped}
use Rattle.hc_places.specs.Table.{Table, table_of}
use Rattle.hc_events.specs.declared.change.Change.{Change}
use Rattle.hc_events.specs.declared.change.Change.TheVariants as change
use Rattle.hc_events.specs.Entries.{History, Opened, Edited, Came}
use Rattle.hc_events.specs.Images.{NewAnswer, new_answer_by, renewed}

-- an accepted edit, or a good answer of a datagram
pub data Update : Type 0 where
  Swapped : Edit → Update
  Answered : NewAnswer → Update

-- the updates of a record, the oldest first
abbrev pub updates_of : History → List Update
updates_of [] = []
updates_of (Opened groups ∷ history) = []
updates_of (Edited edit ∷ history) = updates_of history ++ Swapped edit ∷ []
updates_of (Came arrival ∷ history) = updates_of history ++ map Answered (new_answer_by history arrival)
updates_of (entry ∷ history) = updates_of history

-- the update of a change: a swap names its edit
abbrev pub update_in : Change → Update
update_in (change.Swapped swap) = Swapped swap.edit
update_in (change.Good good) = Answered good

-- a datagram of the state, and data of its length
pub record IsAnswerIn (state : State) (task d : ℕ) (bytes : List ℕ) : Type 0 where
  pub in_line : d < datagram_count (task_places task (line state))
  pub fits : length bytes ≡ datagram_length (task_places task (line state)) d

-- an edit that the state accepts, and the table of the state that it leads to
pub record IsSwapOf (state : State) (edit : Edit) (new : Table) : Type 0 where
  pub accepted : IsOk (edited state edit)
  pub leads : new ≡ table_of (line (state_after state edit))

-- along the list from a state on: each swap names an edit that is accepted and leads to the next state's places, and each good answer is of a datagram of the state so far and has its length
abbrev pub AreLegalFrom : State → List Change → Type 0
AreLegalFrom state [] = Unit {0}
AreLegalFrom state (change.Swapped swap ∷ changes) =
    IsSwapOf state swap.edit (swapped swap.change (table_of (line state)))
    × AreLegalFrom (state_after state swap.edit) changes
AreLegalFrom state (change.Good good ∷ changes) = IsAnswerIn state good.task good.datagram good.bytes × AreLegalFrom state changes

-- a list of changes is legal from the opening of a project on (`AreLegalFrom`)
abbrev pub AreLegal : List Group → List Change → Type 0
AreLegal groups changes = AreLegalFrom (opened groups) changes

-- the table that a list of changes leads to by itself, without any edit or arrival
abbrev pub table_after : Table → List Change → Table
table_after table [] = table
table_after table (change.Swapped swap ∷ changes) = table_after (swapped swap.change table) changes
table_after table (change.Good good ∷ changes) = table_after table changes

-- the epoch after the changes: each swap is the next one
abbrev pub epoch_after : ℕ → List Change → ℕ
epoch_after epoch [] = epoch
epoch_after epoch (change.Swapped swap ∷ changes) = epoch_after (epoch + 1) changes
epoch_after epoch (change.Good good ∷ changes) = epoch_after epoch changes

-- a datagram's data after the changes: those of its last good answer after the last swap; without either, those of before
abbrev pub slot_after : ℕ → ℕ → Option (List ℕ) → List Change → Option (List ℕ)
slot_after task d slot [] = slot
slot_after task d slot (change.Swapped swap ∷ changes) = slot_after task d None changes
slot_after task d slot (change.Good good ∷ changes) =
    slot_after task d (renewed task d slot good) changes

-- along the list each swap leads to the table of the next state
abbrev pub SwapsLeadFrom : State → List Change → Type 0
SwapsLeadFrom state [] = Unit {0}
SwapsLeadFrom state (change.Swapped swap ∷ changes) =
    (swapped swap.change (table_of (line state)) ≡ table_of (line (state_after state swap.edit)))
    × SwapsLeadFrom (state_after state swap.edit) changes
SwapsLeadFrom state (change.Good good ∷ changes) = SwapsLeadFrom state changes

-- a list of changes is one that a record of a project gives: it has the record's updates, and each swap leads to the next state's table
pub record AreChangesOf (groups : List Group) (history : History) (changes : List Change) : Type 0 where
  pub updates : map update_in changes ≡ updates_of history
  pub lead : SwapsLeadFrom (opened groups) changes
