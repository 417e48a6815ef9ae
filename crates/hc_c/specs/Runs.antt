-- Runs of bits in bytes of the caller's. Bits are counted from the least significant bit of the first byte.
use Rattle.std.specs.Prelude.{ℕ, ◌+◌, ◌*◌, ◌^◌, nat_le, ◌&&◌, Bool, if◌then◌else◌}
use Rattle.hc_c.specs.declared.numbers.TheConstants.{DONE, MISUSED, TOO_WIDE}

-- 1 to 64 bits from bit `bit` on lie within a number of bytes
abbrev pub is_run : ℕ → ℕ → ℕ → Bool
is_run bytes bit bits = nat_le 1 bits && (nat_le bits 64 && nat_le (bit + bits) (8 * bytes))

-- a value needs more bits than `bits`
abbrev pub is_too_wide : ℕ → ℕ → Bool
is_too_wide value bits = nat_le (2 ^ bits) value

-- the answer to writing a value into bits of a slice: 254 if the bits do not lie within the slice, else 106 if the value is too
-- wide, else 0
abbrev pub put_number : ℕ → ℕ → ℕ → ℕ → ℕ
put_number bytes bit bits value =
    if is_run bytes bit bits then (if is_too_wide value bits then TOO_WIDE else DONE) else MISUSED
