-- A slave's memory: its bytes, their bits counted from the least significant bit of the first byte, and the memory after a write.
use Rattle.std.specs.Prelude.{ℕ, ◌+◌, ◌*◌, List, ◌++◌, length, take, drop, map, replicate, set, slice_index}
use Rattle.std.specs.List.{range_with_len}
use Rattle.std.specs.Int.{w16, to_le_bytes}
use Rattle.hc_frames.specs.declared.limits.TheConstants.{ALIAS_REGISTER}
use Rattle.hc_machine.specs.declared.limits.TheConstants.{MEMORY_BYTES}

-- the byte of the eight bits from `at` on
abbrev pub byte_with : (ℕ → ℕ) → ℕ → ℕ
byte_with bit at =
    bit at + 2 * bit (at + 1) + 4 * bit (at + 2) + 8 * bit (at + 3) + 16 * bit (at + 4) + 32 * bit (at + 5) + 64 * bit (at + 6) + 128 * bit (at + 7)

-- n bytes with these bits
unfoldable pub bytes_with : ℕ → (ℕ → ℕ) → List ℕ
bytes_with n bit = map (λ i. byte_with bit (8 * i)) (range_with_len 0 n)

-- the bytes with other ones from `at` on
abbrev pub with_part : ℕ → List ℕ → List ℕ → List ℕ
with_part at part bytes = take at bytes ++ (part ++ drop (at + length part) bytes)

-- the memory after a write: the two bytes of the configured station alias stay as they were (ETG.1000.4, station address registers: the master only reads them)
unfoldable pub with_alias_of : List ℕ → List ℕ → List ℕ
with_alias_of old new = set (set new ALIAS_REGISTER (slice_index old ALIAS_REGISTER)) (ALIAS_REGISTER + 1) (slice_index old (ALIAS_REGISTER + 1))

-- n zeros
unfoldable pub zeros : ℕ → List ℕ
zeros n = replicate n 0

-- the memory of a slave that no frame has met: zeros but for its alias
abbrev pub fresh_memory : ℕ → List ℕ
fresh_memory alias = with_part ALIAS_REGISTER (to_le_bytes w16 alias) (zeros MEMORY_BYTES)
