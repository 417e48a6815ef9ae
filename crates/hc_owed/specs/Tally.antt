-- The counts of each task over areas, and an area that is counted in place of another.
use Rattle.std.specs.Prelude.{◌≡◌, ℕ, ◌+◌, ◌==◌, ◌&&◌, ◌<◌, ◌≤◌, Bool, List, slice_index}
use Rattle.hc_records.specs.declared.limits.TheConstants.{TASKS}
use Rattle.hc_owed.specs.declared.area.JudgedArea.{JudgedArea}
use Rattle.hc_owed.specs.declared.tally.Tally.{Tally}
use Rattle.hc_owed.specs.Areas.{blocks_waited, registers_waited}
use Rattle.hc_owed.specs.Waiting.{AreCounted}

-- the counts are those of these areas
abbrev pub Tallies : List JudgedArea → Tally → Type 0
Tallies areas tally = AreCounted blocks_waited areas tally.blocks × AreCounted registers_waited areas tally.registers

-- an area can be taken out of counts, and another area can be counted
pub record CanPut (tally : Tally) (was : JudgedArea) : Type 0 where
  pub blocks : (task : ℕ) → task < TASKS → blocks_waited task was ≤ slice_index tally.blocks task
  pub registers : (task : ℕ) → task < TASKS → registers_waited task was ≤ slice_index tally.registers task
  pub few_blocks : (task : ℕ) → task < TASKS → slice_index tally.blocks task < 4294967294
  pub few_registers : (task : ℕ) → task < TASKS → slice_index tally.registers task < 4294967294

-- an area was taken out of counts, and another one was counted
pub record Puts (old new : Tally) (was now : JudgedArea) : Type 0 where
  pub blocks : (task : ℕ) → task < TASKS → slice_index new.blocks task + blocks_waited task was ≡ slice_index old.blocks task + blocks_waited task now
  pub registers : (task : ℕ) → task < TASKS → slice_index new.registers task + registers_waited task was ≡ slice_index old.registers task + registers_waited task now

-- nothing is counted for a task
abbrev pub counts_none : Tally → ℕ → Bool
counts_none tally task = (slice_index tally.blocks task == 0) && (slice_index tally.registers task == 0)
