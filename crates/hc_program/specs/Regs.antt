-- The command `regs`: the register blocks of a slave.
use Rattle.std.specs.Prelude.{ℕ, ◌-◌, ◌*◌, ◌/◌, nat_le, if◌then◌else◌, List, [], ◌++◌, Result, Ok, Err, codes}
use Rattle.std.specs.Option.{option_map_or}
use Rattle.std.specs.List.{flat_map, range_with_len}
use Rattle.std.specs.Fmt.{decimal}
use Rattle.hc_records.specs.declared.faults.EditFault.{EditFault}
use Rattle.hc_records.specs.declared.limits.TheConstants.{MOST_AREAS}
use Rattle.hc_records.specs.Line.{Member, State, line}
use Rattle.hc_registers.specs.Blocks.{RegisterBlock}
use Rattle.hc_registers.specs.declared.registers.TheConstants.{FMMU_BLOCKS, FMMU_BLOCK_BYTES, SYNC_MANAGER_BLOCKS, SYNC_MANAGER_BLOCK_BYTES}
use Rattle.hc_plan.specs.Configuration.{block_at, position_of}
use Rattle.hc_events.specs.Faults.{edit_refusal}
use Rattle.hc_text.specs.Printing.{hex_register, spaced_bytes}
use Rattle.hc_program.specs.Refusals.{refusal_text}

-- the sync manager or the FMMU whose block begins at a register
abbrev pub block_name : ℕ → List ℕ
block_name register =
    if nat_le SYNC_MANAGER_BLOCKS register
    then codes "sm " ++ decimal ((register - SYNC_MANAGER_BLOCKS) / SYNC_MANAGER_BLOCK_BYTES)
    else codes "fmmu " ++ decimal ((register - FMMU_BLOCKS) / FMMU_BLOCK_BYTES)

-- the line of a block
unfoldable pub block_text : RegisterBlock → List ℕ
block_text block =
    block_name block.register
    ++ codes " at "
    ++ hex_register block.register
    ++ codes ":"
    ++ spaced_bytes block.bytes
    ++ codes "\n"

-- the line of a slave's block with a number; nothing if there is no such block
abbrev pub numbered_block_text : List Member → ℕ → ℕ → List ℕ
numbered_block_text line station number = option_map_or block_text (block_at line station number) []

-- the lines of the blocks of the slave with the station address, in the order of their numbers, two for each area; nothing if the line has no such slave
unfoldable pub blocks_text : List Member → ℕ → List ℕ
blocks_text line station = flat_map (numbered_block_text line station) (range_with_len 0 (2 * MOST_AREAS))

-- the lines of the blocks of the slave with the station address, if it has a position in the line; else the refusal of the fault given instead
abbrev pub blocks_or_refusal : List Member → ℕ → Result ℕ EditFault → List ℕ
blocks_or_refusal line station (Ok position) = blocks_text line station
blocks_or_refusal line station (Err fault) = refusal_text (edit_refusal fault)

-- the lines of the blocks of the slave of the line with the station address, or the refusal if there is none
unfoldable pub regs_text : State → ℕ → List ℕ
regs_text state station = blocks_or_refusal (line state) station (position_of state station)
