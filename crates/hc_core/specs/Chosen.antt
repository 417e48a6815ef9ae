-- The owed blocks that a frame carries, and the knowledge of registers after the frame is sent and after it is answered.
-- Contracts inside the crate cite it.
use Rattle.std.specs.Prelude.{◌≡◌, ℕ, ◌+◌, ◌≤◌, not, filter, Bool, true, false, if◌then◌else◌, All, List, [], ◌∷◌, ◌++◌, map, option_map, slice_get, take, MatchOption, Option, None, Some}
use Rattle.std.specs.List.{list_any}
use Rattle.hc_records.specs.Line.{State, groups_of, line}
use Rattle.hc_records.specs.Project.{lowest_fault}
use Rattle.hc_registers.specs.Blocks.{LineBlock, RegisterBlock}
use Rattle.hc_registers.specs.RankPlaces.{places}
use Rattle.hc_plan.specs.Configuration.{block_at}
use Rattle.hc_plan.specs.Reports.{found_name}
use Rattle.hc_events.specs.declared.answer.Outcome.{Outcome}
use Rattle.hc_events.specs.declared.answer.Outcome.TheVariants.{Inputs, WrongCount, Stale, Done, Missed}
use Rattle.hc_events.specs.Answering.{Judged, is_current}
use Rattle.hc_events.specs.Heads.{is_block, write_head}
use Rattle.hc_events.specs.Steps.{outcome_for}
use Rattle.hc_events.specs.WriteFrames.{blocks_beside, blocks_bytes}
use Rattle.hc_owed.specs.RegisterState.{RegisterState, Knowledge, register_state_of, lacks}
use Rattle.hc_owed.specs.Laws.{known_with, owed_from}
use Rattle.hc_sendings.specs.declared.write_frames.PlacedBlock.{PlacedBlock}
use Rattle.hc_sendings.specs.declared.writes.AwaitedBlock.{AwaitedBlock}
use Rattle.hc_sendings.specs.Judging.{written_head}
use Rattle.hc_sendings.specs.Waiting.{Waiting, is_newest_awaited}
use Rattle.hc_sendings.specs.WriteFrames.{WriteFrame, block_of}

-- a register state is right for a project's state, which a plan has
pub record KeepsBlocks (register_state : RegisterState) (plan : State) : Type 0 where
  pub known : Knowledge
  pub state : State
  pub planned : plan ≡ state
  pub project : lowest_fault (groups_of state.groups) ≡ None
  pub right : register_state ≡ register_state_of known state

-- a block is the one of the line at its place
abbrev pub IsLineBlock : State → PlacedBlock → Type 0
IsLineBlock state placed = slice_get (places state) placed.place ≡ Some (Some placed.block)

-- the lacking blocks from a place on whose newest write is not awaited
abbrev pub further_from : Knowledge → State → Waiting → ℕ → List LineBlock
further_from known state waiting place =
    filter (λ block. not (is_newest_awaited block.station block.number waiting)) (owed_from known state place)

-- some of the lacking blocks, by the place from which on they are sought
abbrev pub Source : Type 0
Source = ℕ → List LineBlock

-- a block is the first one of these at a place or after it, and the others are after its place
pub record IsNext (source : Source) (state : State) (place : ℕ) (placed : PlacedBlock) : Type 0 where
  pub from : place ≤ placed.place
  pub at : IsLineBlock state placed
  pub next : source place ≡ placed.block ∷ source (placed.place + 1)

-- the next one from a place on, or none if there is none
abbrev pub GivesNext : Source → State → ℕ → Option PlacedBlock → Type 0
GivesNext source state place found = MatchOption found (source place ≡ []) (IsNext source state place)

-- the blocks of these from a place on joined a frame: as many as it had room for, and at most `most`
pub record IsChosenFrom (source : Source) (state : State) (place most : ℕ) (old new : WriteFrame) : Type 0 where
  pub blocks : map block_of new.blocks ≡ map block_of old.blocks ++ take most (blocks_beside old.bytes (source place))
  pub bytes : new.bytes ≡ old.bytes + blocks_bytes (take most (blocks_beside old.bytes (source place)))
  pub placed : All (IsLineBlock state) old.blocks → All (IsLineBlock state) new.blocks

-- blocks can be marked as sent: they are at their places, and they are lacking
pub record CanMark (register_state : RegisterState) (blocks : List PlacedBlock) : Type 0 where
  pub known : Knowledge
  pub state : State
  pub project : lowest_fault (groups_of state.groups) ≡ None
  pub right : register_state ≡ register_state_of known state
  pub placed : All (IsLineBlock state) blocks
  pub lacking : All (λ placed. lacks known placed.block ≡ true) blocks

-- the knowledge of registers once these blocks are sent: nothing of any of them
abbrev pub known_sent : List PlacedBlock → Knowledge → Knowledge
known_sent [] known = known
known_sent (placed ∷ blocks) known = known_sent blocks (known_with (found_name placed.block) None known)

-- a block that is awaited is the one of the line at its place
pub record IsAwaitedAt (state : State) (block : AwaitedBlock) : Type 0 where
  pub found : LineBlock
  pub at : slice_get (places state) block.place ≡ Some (Some found)
  pub head : written_head block ≡ write_head found

-- blocks can be confirmed: a register state is right for a project's state, which a plan has, and each block is the one of its
-- line at the block's place
pub record CanConfirm (register_state : RegisterState) (plan : State) (blocks : List AwaitedBlock) : Type 0 where
  pub known : Knowledge
  pub state : State
  pub planned : plan ≡ state
  pub project : lowest_fault (groups_of state.groups) ≡ None
  pub right : register_state ≡ register_state_of known state
  pub placed : All (IsAwaitedAt state) blocks

-- a block's write is done
abbrev pub write_is_done : Outcome → Bool
write_is_done (Inputs task d) = false
write_is_done (WrongCount expected got) = false
write_is_done Stale = false
write_is_done Done = true
write_is_done Missed = false

-- the bytes that a line configures for an awaited block
abbrev pub block_bytes_in : State → AwaitedBlock → Option (List ℕ)
block_bytes_in state block = option_map (λ (found : RegisterBlock). found.bytes) (block_at (line state) block.station block.number)

-- the knowledge of registers once a block is answered: if its write is done, the block's register has the bytes that the line
-- configures
abbrev pub known_if : State → AwaitedBlock → Outcome → Knowledge → Knowledge
known_if state block outcome known = if write_is_done outcome then known_with (block.station, block.number) (block_bytes_in state block) known else known

-- the knowledge of registers once blocks are answered, block by block, as far as there are outcomes
abbrev pub known_done : State → List AwaitedBlock → List Outcome → Knowledge → Knowledge
known_done state [] outcomes known = known
known_done state (block ∷ blocks) [] known = known
known_done state (block ∷ blocks) (outcome ∷ outcomes) known = known_done state blocks outcomes (known_if state block outcome known)

-- an arrival's datagrams are those of register blocks, at least one is not stale, and these are their outcomes
pub record AreWriteOutcomes (datagrams : List Judged) (outcomes : List Outcome) : Type 0 where
  pub updates : list_any is_current datagrams ≡ true
  pub blocks : list_any (λ datagram. is_block datagram.head.item) datagrams ≡ true
  pub exact : outcomes ≡ map outcome_for datagrams
