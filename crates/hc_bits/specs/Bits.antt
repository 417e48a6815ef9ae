-- The bits of bytes, counted from the least significant bit of the first byte.
use Rattle.std.specs.Prelude.{◌≡◌, ℕ, ◌+◌, ◌*◌, ◌^◌, ◌/◌, ◌%◌, ◌<◌, ◌≤◌, List, [], ◌∷◌, ◌++◌, map, take, drop, length, slice_index}
use Rattle.std.specs.List.{range_with_len, flat_map}
use Rattle.std.specs.Int.{bit_at}

-- bit k of the bytes: bit k % 8 of byte k / 8
unfoldable pub bit_of : List ℕ → ℕ → ℕ
bit_of bytes k = bit_at (slice_index bytes (k / 8)) (k % 8)

-- each number of the list is a byte
abbrev pub AreBytes : List ℕ → Type 0
AreBytes bytes = (i : ℕ) → i < length bytes → slice_index bytes i < 2 ^ 8

-- the bits from `at` on become those of `run`, n of them, and every other bit stays
pub record ReplacesRun (old new : List ℕ) (at n : ℕ) (run : ℕ → ℕ) : Type 0 where
  pub inside : (k : ℕ) → k < n → bit_of new (at + k) ≡ run k
  pub before : (k : ℕ) → k < at → bit_of new k ≡ bit_of old k
  pub after : (k : ℕ) → at + n ≤ k → bit_of new k ≡ bit_of old k

-- the n lowest bits of a number, the least significant first
unfoldable pub low_bits : ℕ → ℕ → List ℕ
low_bits n value = map (bit_at value) (range_with_len 0 n)

-- the number that bits spell, the least significant first
unfoldable pub number_of : List ℕ → ℕ
number_of [] = 0
number_of (bit ∷ more) = bit + 2 * number_of more

-- the list of bits of a slice: the eight bits of each byte in turn
unfoldable pub bits_of : List ℕ → List ℕ
bits_of bytes = flat_map (low_bits 8) bytes

-- the n bits from `at` on
abbrev pub run_of : List ℕ → ℕ → ℕ → List ℕ
run_of bits at n = take n (drop at bits)

-- the bits with those from `at` on replaced
abbrev pub with_run : List ℕ → ℕ → List ℕ → List ℕ
with_run bits at run = take at bits ++ run ++ drop (at + length run) bits
