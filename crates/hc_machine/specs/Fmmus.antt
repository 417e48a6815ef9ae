-- The FMMUs that a slave's memory holds (ETG.1000.4, 6.6): each pairs logical bits with memory bits. A run is how the pairs are written down; `IsPair` in Laws says which they are.
use Rattle.std.specs.Prelude.{ℕ, ◌+◌, ◌-◌, ◌*◌, ◌/◌, ◌%◌, ◌^◌, ◌<◌, ◌≤◌, ◌==◌, Bool, false, ◌&&◌, nat_le, nat_lt, if◌then◌else◌, min, List, map, slice_index, slice_range}
use Rattle.std.specs.List.{range_with_len}
use Rattle.hc_registers.specs.declared.registers.TheConstants.{FMMU_BLOCKS, FMMU_BLOCK_BYTES}
use Rattle.hc_registers.specs.Fields.{long_at, word_at}
use Rattle.hc_machine.specs.declared.fmmu.Fmmu.{Fmmu}
use Rattle.hc_machine.specs.declared.limits.TheConstants.{ACTIVATE_BYTE, FMMUS, MEMORY_BITS}

-- the block of an FMMU, counted from 0
abbrev pub fmmu_block_at : List ℕ → ℕ → List ℕ
fmmu_block_at memory i = slice_range memory (FMMU_BLOCKS + FMMU_BLOCK_BYTES * i) (FMMU_BLOCKS + FMMU_BLOCK_BYTES * i + FMMU_BLOCK_BYTES)

-- bit 0 of the activation switches an FMMU on (`FmmuFields` in hc_registers lists the fields of a block)
abbrev pub is_active : List ℕ → Bool
is_active block = slice_index block ACTIVATE_BYTE % 2 == 1

-- bit 0 of the type: the master reads; bit 1: it writes
abbrev pub is_read : List ℕ → Bool
is_read block = slice_index block 11 % 2 == 1

-- bit 1 of the type is set: the master writes through this FMMU
abbrev pub is_write_fmmu : List ℕ → Bool
is_write_fmmu block = slice_index block 11 / 2 % 2 == 1

-- the first logical bit: the start bit of the first byte. Of a bit field the low three bits count, and addresses do not wrap
abbrev pub first_logical : List ℕ → ℕ
first_logical block = 8 * long_at block 0 + slice_index block 6 % 8

-- the logical bit after the stop bit of the last byte; 0 if the block has no bytes
abbrev pub end_logical : List ℕ → ℕ
end_logical block = if word_at block 4 == 0 then 0 else 8 * (long_at block 0 + word_at block 4 - 1) + slice_index block 7 % 8 + 1

-- the memory bit that is paired with the first logical bit, at most the end of memory
abbrev pub first_memory : List ℕ → ℕ
first_memory block = min (8 * word_at block 8 + slice_index block 10 % 8) MEMORY_BITS

-- an FMMU that pairs nothing
abbrev pub idle : Fmmu
idle = record { logical = 0; memory = 0; width = 0; reads = false; writes = false }

-- the FMMU of a block: one logical bit after the other with one memory bit after the other, up to the last logical bit or the end of memory. One that is not
-- active pairs nothing
unfoldable pub fmmu_of : List ℕ → Fmmu
fmmu_of block =
    if is_active block
    then record {
      logical = first_logical block;
      memory = first_memory block;
      width = min (end_logical block - first_logical block) (MEMORY_BITS - first_memory block);
      reads = is_read block;
      writes = is_write_fmmu block;
    }
    else idle

-- the sixteen FMMUs that a slave's memory holds, in the order of their numbers
unfoldable pub fmmus_of : List ℕ → List Fmmu
fmmus_of memory = map (λ i. fmmu_of (fmmu_block_at memory i)) (range_with_len 0 FMMUS)

-- one of the n numbers from `from` on
abbrev pub is_in_run : ℕ → ℕ → ℕ → Bool
is_in_run from n x = nat_le from x && nat_lt x (from + n)

-- the pairs lie in memory, and the logical bits among those that a block can name
pub record IsInMemory (fmmu : Fmmu) : Type 0 where
  pub in_memory : fmmu.memory + fmmu.width ≤ MEMORY_BITS
  pub in_range : fmmu.logical < 2 ^ 40
