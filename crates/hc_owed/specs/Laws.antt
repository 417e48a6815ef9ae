-- The register state that is right for known bytes: its look-ups, and the steps of writes and edits.
use Rattle.std.specs.Prelude.{◌≡◌, ℕ, ◌+◌, ◌≤◌, ◌==◌, ◌&&◌, Bool, false, true, if◌then◌else◌, is_some, List, [], ◌∷◌, drop, filter, slice_get, MatchOption, Option, Some, None, Ok}
use Rattle.hc_records.specs.declared.edit.Edit.{Edit}
use Rattle.hc_records.specs.Edits.{declares, edited, slave_at}
use Rattle.hc_records.specs.Line.{State, groups_of, line}
use Rattle.hc_records.specs.Project.{lowest_fault}
use Rattle.hc_registers.specs.Blocks.{LineBlock, line_blocks}
use Rattle.hc_registers.specs.declared.ranked.Gone.{Gone}
use Rattle.hc_registers.specs.Ranked.{RankedBlock}
use Rattle.hc_registers.specs.RankDifferences.{Differ}
use Rattle.hc_registers.specs.RankLaws.{standing}
use Rattle.hc_registers.specs.RankPlaces.{places}
use Rattle.hc_plan.specs.Reports.{found_name}
use Rattle.hc_owed.specs.declared.owed.OwedBlock.{OwedBlock}
use Rattle.hc_owed.specs.RegisterState.{RegisterState, Knowledge, register_state_of, lacks}

-- a register state is right for a project's state and for the known bytes of its slaves
pub record IsRightFor (known : Knowledge) (state : State) (register_state : RegisterState) : Type 0 where
  pub right : register_state ≡ register_state_of known state
  pub project : lowest_fault (groups_of state.groups) ≡ None

-- the blocks that the slaves of the line lack, in line and block order
abbrev pub lacking_blocks : Knowledge → State → List LineBlock
lacking_blocks known state = filter (lacks known) (line_blocks (line state))

-- a block that is at its place is the first one that is lacking
pub record IsFirstOwed (known : Knowledge) (state : State) (found : OwedBlock) : Type 0 where
  pub rest : List LineBlock
  pub is_placed : slice_get (places state) found.place ≡ Some (Some found.block)
  pub first : lacking_blocks known state ≡ found.block ∷ rest

-- the first owed block of a plan's line, or none if nothing is owed
abbrev pub GivesFirstOwed : State → RegisterState → Option OwedBlock → Type 0
GivesFirstOwed plan register_state found =
    (known : Knowledge) (state : State) → plan ≡ state → IsRightFor known state register_state → MatchOption found (lacking_blocks known state ≡ []) (IsFirstOwed known state)

-- the lacking blocks at a place or after it; from place 0 on these are all
abbrev pub owed_from : Knowledge → State → ℕ → List LineBlock
owed_from known state place = filter (lacks known) (standing (drop place (places state)))

-- a block that is at its place is the first one that is lacking from a place on, and the others are lacking after its place
pub record IsNextOwed (known : Knowledge) (state : State) (place : ℕ) (found : OwedBlock) : Type 0 where
  pub from : place ≤ found.place
  pub is_placed : slice_get (places state) found.place ≡ Some (Some found.block)
  pub next : owed_from known state place ≡ found.block ∷ owed_from known state (found.place + 1)

-- the first owed block of a plan's line from a place on, or none if nothing is owed there
abbrev pub GivesNextOwed : State → RegisterState → ℕ → Option OwedBlock → Type 0
GivesNextOwed plan register_state place found =
    (known : Knowledge) (state : State) → plan ≡ state → IsRightFor known state register_state → MatchOption found (owed_from known state place ≡ []) (IsNextOwed known state place)

-- a block that is at its place is the one with an index, from 0, of those that are lacking
pub record IsOwedAt (known : Knowledge) (state : State) (index : ℕ) (found : OwedBlock) : Type 0 where
  pub is_placed : slice_get (places state) found.place ≡ Some (Some found.block)
  pub is : slice_get (lacking_blocks known state) index ≡ Some found.block

-- the owed block with an index, or none if fewer are owed
abbrev pub GivesOwedAt : Knowledge → State → ℕ → Option OwedBlock → Type 0
GivesOwedAt known state index found = MatchOption found (slice_get (lacking_blocks known state) index ≡ None) (IsOwedAt known state index)

-- two names of blocks have the same station address and the same number
abbrev pub same_name : ℕ × ℕ → ℕ × ℕ → Bool
same_name a b = (a.0 == b.0) && (a.1 == b.1)

-- the knowledge with other bytes of one block
abbrev pub known_with : ℕ × ℕ → Option (List ℕ) → Knowledge → Knowledge
known_with name bytes known station number = if same_name name (station, number) then bytes else known station number

-- the knowledge without the blocks of the slave with a station address
abbrev pub known_without : ℕ → Knowledge → Knowledge
known_without station known other number = if other == station then None else known other number

-- a register state is right for a project's state, and a block of its line is at a place
pub record IsRightAt (register_state : RegisterState) (n : ℕ) (known : Knowledge) (state : State) (block : LineBlock) : Type 0 where
  pub right : register_state ≡ register_state_of known state
  pub project : lowest_fault (groups_of state.groups) ≡ None
  pub is_placed : slice_get (places state) n ≡ Some (Some block)

-- the block of a plan's line at a place, which has one
abbrev pub GivesBlockAt : State → RegisterState → ℕ → Option OwedBlock → Type 0
GivesBlockAt plan register_state place found =
    (known : Knowledge) (state : State) (block : LineBlock) → plan ≡ state → IsRightAt register_state place known state block → found ≡ Some (record { place = place; block = block })

-- the block of the line at a place is lacking
pub record IsLackingAt (register_state : RegisterState) (n : ℕ) (known : Knowledge) (state : State) (block : LineBlock) : Type 0 where
  pub at : IsRightAt register_state n known state block
  pub lacking : lacks known block ≡ true

-- the register state of a line with other known bytes of one block
abbrev pub with_known : Knowledge → State → LineBlock → Option (List ℕ) → RegisterState
with_known known state block bytes = register_state_of (known_with (found_name block) bytes known) state

-- the register state once a block's slave has the bytes that the line configures
abbrev pub as_written : Knowledge → State → LineBlock → RegisterState
as_written known state block = with_known known state block (Some block.block.bytes)

-- after the step the slave of the block at a place is known to have the bytes that a plan's line configures
abbrev pub ConfirmsBlock : State → ℕ → RegisterState → RegisterState → Type 0
ConfirmsBlock plan place old new =
    (known : Knowledge) (state : State) (found : LineBlock) → plan ≡ state → IsRightAt old place known state found → new ≡ as_written known state found

-- the knowledge after an edit: that of the slaves of the old line, and nothing of others
abbrev pub known_over : State → Knowledge → Knowledge
known_over old known station number = if is_some (slave_at old station) then known station number else None

-- a register state is right for a project's state, in which an edit that declares nothing was accepted; the lines differ by the
-- slaves that left and the moved blocks
pub record RegistersAreEdited (register_state : RegisterState) (gone : Gone) (moved : List RankedBlock) : Type 0 where
  pub known : Knowledge
  pub old : State
  pub edit : Edit
  pub new : State
  pub right : register_state ≡ register_state_of known old
  pub project : lowest_fault (groups_of old.groups) ≡ None
  pub accepted : edited old edit ≡ Ok new
  pub same : declares edit ≡ false
  pub differ : Differ (places old) (places new) gone moved
