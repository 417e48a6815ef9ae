-- The bytes of an owed block.
use Rattle.std.specs.Prelude.{◌≤◌, length}
use Rattle.hc_registers.specs.Blocks.{RegisterBlock}

-- a block has one byte at least, and 16 at most
pub record HasBlockBytes (block : RegisterBlock) : Type 0 where
  pub some : 1 ≤ length block.bytes
  pub most : length block.bytes ≤ 16
