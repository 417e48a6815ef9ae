-- A logical memory read and write, bit by bit (ETG.1000.4, LRW and FMMU; this project's profile, if FMMUs meet): the FMMUs are taken as they are before it.
use Rattle.std.specs.Prelude.{ℕ, ◌+◌, ◌-◌, ◌*◌, Bool, ◌&&◌, if◌then◌else◌, nat_lt, List, [], ◌∷◌, length, min, max}
use Rattle.std.specs.List.{list_any}
use Rattle.hc_bits.specs.Bits.{bit_of}
use Rattle.hc_machine.specs.declared.fmmu.Fmmu.{Fmmu}
use Rattle.hc_machine.specs.Fmmus.{fmmus_of, is_in_run}
use Rattle.hc_machine.specs.Memory.{bytes_with, with_alias_of}

-- the memory bit that an FMMU pairs with a logical bit of its own
abbrev pub memory_bit : Fmmu → ℕ → ℕ
memory_bit fmmu x = fmmu.memory + (x - fmmu.logical)

-- the logical bit that an FMMU pairs with a memory bit of its own
abbrev pub logical_bit : Fmmu → ℕ → ℕ
logical_bit fmmu m = fmmu.logical + (m - fmmu.memory)

-- a logical bit after a datagram: the memory bit that the first read FMMU pairs with it, else the bit as it was
unfoldable pub bit_read : List Fmmu → (ℕ → ℕ) → ℕ → ℕ → ℕ
bit_read [] memory x was = was
bit_read (f ∷ fs) memory x was =
    if f.reads && is_in_run f.logical f.width x then memory (memory_bit f x) else bit_read fs memory x was

-- a memory bit after a datagram of n bits from logical bit `from` on: the bit that came in at the logical bit of the datagram that the first write FMMU pairs
-- with it, else the bit as it was
unfoldable pub bit_written : List Fmmu → (ℕ → ℕ) → ℕ → ℕ → ℕ → ℕ → ℕ
bit_written [] came from n m was = was
bit_written (f ∷ fs) came from n m was =
    if f.writes && is_in_run f.memory f.width m && is_in_run from n (logical_bit f m)
    then came (logical_bit f m - from) else bit_written fs came from n m was

-- an FMMU pairs one of the n logical bits from `from` on
abbrev pub fmmu_meets : ℕ → ℕ → Fmmu → Bool
fmmu_meets from n f = nat_lt (max f.logical from) (min (f.logical + f.width) (from + n))

-- an FMMU that reads pairs one of the n logical bits from `from` on
abbrev pub reads_any : ℕ → ℕ → List Fmmu → Bool
reads_any from n fs = list_any (λ f. f.reads && fmmu_meets from n f) fs

-- an FMMU that writes pairs one of the n logical bits from `from` on
abbrev pub writes_any : ℕ → ℕ → List Fmmu → Bool
writes_any from n fs = list_any (λ f. f.writes && fmmu_meets from n f) fs

-- a logical bit is both read and written
abbrev pub mixes_any : List Fmmu → Bool
mixes_any fs = list_any (λ f. f.writes && reads_any f.logical f.width fs) fs

-- the data after a datagram at this logical bit
unfoldable pub logical_data : List ℕ → ℕ → List ℕ → List ℕ
logical_data memory from bytes =
    bytes_with (length bytes) (λ k. bit_read (fmmus_of memory) (bit_of memory) (from + k) (bit_of bytes k))

-- the memory after a datagram at this logical bit
unfoldable pub logical_memory : List ℕ → ℕ → List ℕ → List ℕ
logical_memory memory from bytes =
    with_alias_of memory (bytes_with (length memory) (λ m. bit_written (fmmus_of memory) (bit_of bytes) from (8 * length bytes) m (bit_of memory m)))

-- the number that n bytes of data add to the working counter: 1 if a bit is read, 2 if one is written, each once
unfoldable pub logical_count : List ℕ → ℕ → ℕ → ℕ
logical_count memory from n =
    (if reads_any from (8 * n) (fmmus_of memory) then 1 else 0) + (if writes_any from (8 * n) (fmmus_of memory) then 2 else 0)
