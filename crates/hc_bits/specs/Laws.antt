-- Laws of whole lists of bits, from the contracts by single bits.
use Rattle.std.specs.Prelude.{◌≡◌, ℕ, ◌+◌, ◌*◌, ◌^◌, ◌<◌, ◌≤◌, ◌↔◌, ◌⊎◌, List, ◌++◌, length, take, drop, replicate}
use Rattle.std.specs.Int.{bit_at}
use Rattle.hc_bits.specs.Bits.{bit_of, AreBytes, ReplacesRun, low_bits, number_of, bits_of, run_of, with_run}

-- a number below 2 ^ n with the n bits from `at` on is the number that this part of the list spells
abbrev pub ReadsList : Type 0
ReadsList = (bytes : List ℕ) (at n value : ℕ) → at + n ≤ 8 * length bytes → value < 2 ^ n
    → ((k : ℕ) → k < n → bit_at value k ≡ bit_of bytes (at + k)) ↔ (value ≡ number_of (run_of (bits_of bytes) at n))

-- to replace a run by the bits of a number is to replace that part of the list
abbrev pub PutsIntoList : Type 0
PutsIntoList = (old new : List ℕ) (at n value : ℕ) → length new ≡ length old → at + n ≤ 8 * length old
    → ReplacesRun old new at n (bit_at value) ↔ (bits_of new ≡ with_run (bits_of old) at (low_bits n value))

-- to replace a run by another slice's bits is to replace that part of the list by a part of the other
abbrev pub CopiesIntoList : Type 0
CopiesIntoList = (from old new : List ℕ) (at at2 n : ℕ) → length new ≡ length old → at + n ≤ 8 * length from → at2 + n ≤ 8 * length old
    → ReplacesRun old new at2 n (λ k. bit_of from (at + k)) ↔ (bits_of new ≡ with_run (bits_of old) at2 (run_of (bits_of from) at n))

-- a run replaced by the bits of a number, and then read as a number, is that number
abbrev pub PutsWhatIsRead : Type 0
PutsWhatIsRead = (old new : List ℕ) (at n value : ℕ) → value < 2 ^ n → ReplacesRun old new at n (bit_at value)
    → number_of (run_of (bits_of new) at n) ≡ value

-- slices with the same list of bits are the same bytes
abbrev pub BitsSayBytes : Type 0
BitsSayBytes = (xs ys : List ℕ) → AreBytes xs → AreBytes ys → bits_of xs ≡ bits_of ys → xs ≡ ys

-- slices of the same length whose bits are the same, place by place, are the same bytes
abbrev pub SameBitsAreSameBytes : Type 0
SameBitsAreSameBytes = (xs ys : List ℕ) → AreBytes xs → AreBytes ys → length xs ≡ length ys
    → ((k : ℕ) → k < 8 * length xs → bit_of xs k ≡ bit_of ys k) → xs ≡ ys

-- each bit of zeros is 0
abbrev pub ZerosHaveNoBits : Type 0
ZerosHaveNoBits = (n k : ℕ) → bit_of (replicate n 0) k ≡ 0

-- the bits of two slices joined are the first's, and after them those of the second
abbrev pub JoinedBitsFollow : Type 0
JoinedBitsFollow = (xs ys : List ℕ) (k : ℕ) → (k < 8 * length xs → bit_of (xs ++ ys) k ≡ bit_of xs k) × (bit_of (xs ++ ys) (8 * length xs + k) ≡ bit_of ys k)

-- the bits of a slice's first n bytes are its own, and those of the bytes after them are 8 * n bits further on in it
abbrev pub PartsKeepBits : Type 0
PartsKeepBits = (xs : List ℕ) (n k : ℕ) → (k < 8 * n → bit_of (take n xs) k ≡ bit_of xs k) × (bit_of (drop n xs) k ≡ bit_of xs (8 * n + k))

-- two runs that share no bit may be replaced in either order
abbrev pub DisjointRunsCommute : Type 0
DisjointRunsCommute = (old a b ab ba : List ℕ) (at n at2 n2 : ℕ) (run run2 : ℕ → ℕ) → (at + n ≤ at2) ⊎ (at2 + n2 ≤ at)
    → ReplacesRun old a at n run → ReplacesRun a ab at2 n2 run2 → ReplacesRun old b at2 n2 run2 → ReplacesRun b ba at n run
    → (k : ℕ) → bit_of ab k ≡ bit_of ba k
