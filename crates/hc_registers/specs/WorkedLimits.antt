-- Registers and the counter of a write as numbers: another value of a constant is refused here.
use Rattle.std.specs.Prelude.{◌≡◌, refl}
use Rattle.hc_registers.specs.declared.registers.TheConstants.{FMMU_BLOCKS, FMMU_BLOCK_BYTES, SYNC_MANAGER_BLOCKS, SYNC_MANAGER_BLOCK_BYTES}
use Rattle.hc_registers.specs.declared.counters.TheConstants.{WRITE_COUNT}

-- a slave's first FMMU block is at register 0x0600 (ETG.1000.4, 6.6)
fmmu-blocks : FMMU_BLOCKS ≡ 0x0600
fmmu-blocks = refl

-- an FMMU block has 16 bytes (ETG.1000.4, 6.6)
fmmu-block_bytes : FMMU_BLOCK_BYTES ≡ 16
fmmu-block_bytes = refl

-- a slave's first sync manager block is at register 0x0800 (ETG.1000.4, 6.7)
sync-manager_blocks : SYNC_MANAGER_BLOCKS ≡ 0x0800
sync-manager_blocks = refl

-- a sync manager block has 8 bytes (ETG.1000.4, 6.7)
sync-manager_block_bytes : SYNC_MANAGER_BLOCK_BYTES ≡ 8
sync-manager_block_bytes = refl

-- one slave accepts a register write, and adds 1 to its working counter (ETG.1000.4, 5.4)
write-count : WRITE_COUNT ≡ 1
write-count = refl
