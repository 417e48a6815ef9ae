-- The bytes that registers may hold, and the state of the areas, after blocks are sent and after they are answered. Contracts
-- inside the crate cite it.
use Rattle.std.specs.Prelude.{◌≡◌, ℕ, Bool, true, if◌then◌else◌, All, List, [], ◌∷◌, Option, None, Some}
use Rattle.hc_records.specs.Line.{State, groups_of}
use Rattle.hc_records.specs.Project.{lowest_fault}
use Rattle.hc_plan.specs.Reports.{found_name}
use Rattle.hc_events.specs.declared.answer.Outcome.{Outcome}
use Rattle.hc_events.specs.Entries.{History}
use Rattle.hc_events.specs.Holding.{MayHold, is_unplugged, may_hold}
use Rattle.hc_events.specs.Owed.{known_bytes}
use Rattle.hc_events.specs.Points.{state_of}
use Rattle.hc_owed.specs.declared.area.JudgedArea.{JudgedArea}
use Rattle.hc_owed.specs.Readiness.{Holdings, readiness_of}
use Rattle.hc_owed.specs.ReadinessSteps.{held_with, only_contents, with_contents}
use Rattle.hc_owed.specs.RegisterState.{Knowledge, lacks}
use Rattle.hc_sendings.specs.declared.write_frames.PlacedBlock.{PlacedBlock}
use Rattle.hc_sendings.specs.declared.writes.AwaitedBlock.{AwaitedBlock}
use Rattle.hc_core.specs.Chosen.{IsAwaitedAt, IsLineBlock, block_bytes_in, known_done, known_if, known_sent, write_is_done}

-- the state of the areas, from a record
abbrev pub areas_of : History → List JudgedArea
areas_of history = readiness_of (known_bytes history) (may_hold history) (is_unplugged history) (state_of history)

-- the bytes that registers may hold once blocks are sent: the bytes of each block too
abbrev pub held_sent : List PlacedBlock → Holdings → Holdings
held_sent [] held = held
held_sent (placed ∷ blocks) held = held_sent blocks (held_with (found_name placed.block) (with_contents placed.block.block.bytes) held)

-- the contents of a register that holds these bytes alone; unchanged if there are none
abbrev pub held_only : Option (List ℕ) → MayHold → MayHold
held_only None held = held
held_only (Some bytes) held = only_contents bytes held

-- the bytes that registers may hold once a block is answered: if its write is done, its register holds only the bytes that the
-- line configures
abbrev pub held_if : State → AwaitedBlock → Outcome → Holdings → Holdings
held_if state block outcome held = if write_is_done outcome then held_with (block.station, block.number) (held_only (block_bytes_in state block)) held else held

-- the bytes that registers may hold once blocks are answered, block by block, as far as there are outcomes
abbrev pub held_done : State → List AwaitedBlock → List Outcome → Holdings → Holdings
held_done state [] outcomes held = held
held_done state (block ∷ blocks) [] held = held
held_done state (block ∷ blocks) (outcome ∷ outcomes) held = held_done state blocks outcomes (held_if state block outcome held)

-- blocks can be marked as sent: the state of the areas is right for a project's state, the blocks are at their places, and they
-- are lacking
pub record CanMarkAreas (areas : List JudgedArea) (blocks : List PlacedBlock) : Type 0 where
  pub known : Knowledge
  pub held : Holdings
  pub unplugged : ℕ → Bool
  pub state : State
  pub project : lowest_fault (groups_of state.groups) ≡ None
  pub right : areas ≡ readiness_of known held unplugged state
  pub placed : All (IsLineBlock state) blocks
  pub lacking : All (λ placed. lacks known placed.block ≡ true) blocks

-- blocks can be confirmed: the state of the areas is right for a project's state, and each block is the one of its line at the
-- block's place
pub record CanConfirmAreas (areas : List JudgedArea) (blocks : List AwaitedBlock) : Type 0 where
  pub known : Knowledge
  pub held : Holdings
  pub unplugged : ℕ → Bool
  pub state : State
  pub project : lowest_fault (groups_of state.groups) ≡ None
  pub right : areas ≡ readiness_of known held unplugged state
  pub placed : All (IsAwaitedAt state) blocks

-- the state of the areas once these blocks are sent
abbrev pub areas_sent : {areas : List JudgedArea} {blocks : List PlacedBlock} → CanMarkAreas areas blocks → List JudgedArea
areas_sent {areas} {blocks} can = readiness_of (known_sent blocks can.known) (held_sent blocks can.held) can.unplugged can.state

-- the state of the areas once one block is answered
abbrev pub areas_if : {areas : List JudgedArea} {block : AwaitedBlock} → CanConfirmAreas areas (block ∷ []) → Outcome → List JudgedArea
areas_if {areas} {block} can outcome = readiness_of (known_if can.state block outcome can.known) (held_if can.state block outcome can.held) can.unplugged can.state

-- the state of the areas once all blocks of a frame are answered
abbrev pub areas_done : {areas : List JudgedArea} {blocks : List AwaitedBlock} → CanConfirmAreas areas blocks → List Outcome → List JudgedArea
areas_done {areas} {blocks} can outcomes = readiness_of (known_done can.state blocks outcomes can.known) (held_done can.state blocks outcomes can.held) can.unplugged can.state
