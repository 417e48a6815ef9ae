-- Laws of a slave machine: the pairs of an FMMU block, the bits that a logical datagram reads and writes, and what no frame changes.
use Rattle.std.specs.Prelude.{◌≡◌, All, ℕ, ◌+◌, ◌-◌, ◌*◌, ◌%◌, ◌<◌, ◌≤◌, ◌↔◌, ◌⊎◌, true, List, is_none, length, slice_index}
use Rattle.hc_bits.specs.Bits.{AreBytes, bit_of}
use Rattle.hc_frames.specs.declared.limits.TheConstants.{ALIAS_REGISTER}
use Rattle.hc_frames.specs.Arrived.{fault_in}
use Rattle.hc_frames.specs.FrameText.{WireDatagram, Datagram}
use Rattle.hc_frames.specs.Laws.{CanBeCarried}
use Rattle.hc_frames.specs.Returned.{IsReturned}
use Rattle.hc_registers.specs.Fields.{long_at, word_at}
use Rattle.hc_machine.specs.declared.fmmu.Fmmu.{Fmmu}
use Rattle.hc_machine.specs.declared.limits.TheConstants.{FMMUS, MEMORY_BITS, MEMORY_BYTES}
use Rattle.hc_machine.specs.Commands.{served}
use Rattle.hc_machine.specs.Fmmus.{fmmu_block_at, fmmu_of, is_active, is_read, is_write_fmmu}
use Rattle.hc_machine.specs.Frames.{all_served, frame_after, memory_after}
use Rattle.hc_machine.specs.Logical.{logical_count, logical_data, logical_memory, memory_bit}

-- logical bit x and memory bit m are a pair of an FMMU block: the block is active and has a byte; x is from the start bit of its first byte to the stop bit of its last byte; m is as far from the physical start bit as x is from the first logical bit; and m is in memory
pub record IsPair (block : List ℕ) (x m : ℕ) : Type 0 where
  pub active : is_active block ≡ true
  pub first : 8 * long_at block 0 + slice_index block 6 % 8 ≤ x
  pub some : 1 ≤ word_at block 4
  pub last : x ≤ 8 * (long_at block 0 + word_at block 4 - 1) + slice_index block 7 % 8
  pub paired : m + (8 * long_at block 0 + slice_index block 6 % 8) ≡ x + (8 * word_at block 8 + slice_index block 10 % 8)
  pub inside : m < MEMORY_BITS

-- x and m are a pair of an FMMU
abbrev pub Pairs : Fmmu → ℕ → ℕ → Type 0
Pairs fmmu x m = (fmmu.logical ≤ x) × (x < fmmu.logical + fmmu.width) × (m ≡ memory_bit fmmu x)

-- the FMMU of a block has the block's pairs
abbrev pub FmmusAreTheirPairs : Type 0
FmmusAreTheirPairs = (block : List ℕ) (x m : ℕ) → IsPair block x m ↔ Pairs (fmmu_of block) x m

-- FMMU i is a reading one, and pairs logical bit x with memory bit m
abbrev pub Reads : List ℕ → ℕ → ℕ → ℕ → Type 0
Reads memory i x m = (is_read (fmmu_block_at memory i) ≡ true) × IsPair (fmmu_block_at memory i) x m

-- FMMU i is a writing one, and pairs logical bit x with memory bit m
abbrev pub FmmuWrites : List ℕ → ℕ → ℕ → ℕ → Type 0
FmmuWrites memory i x m = (is_write_fmmu (fmmu_block_at memory i) ≡ true) × IsPair (fmmu_block_at memory i) x m

-- a bit of the data becomes the memory bit that the lowest FMMU that reads it pairs with it
abbrev pub ReadBitsComeFromMemory : Type 0
ReadBitsComeFromMemory =
    (memory bytes : List ℕ) (from k i m : ℕ) → k < 8 * length bytes → i < FMMUS → Reads memory i (from + k) m → ((j n : ℕ) → j < i → ¬ Reads memory j (from + k) n)
    → bit_of (logical_data memory from bytes) k ≡ bit_of memory m

-- a bit of the data that no FMMU reads stays
abbrev pub UnreadBitsStay : Type 0
UnreadBitsStay =
    (memory bytes : List ℕ) (from k : ℕ) → k < 8 * length bytes → ((j n : ℕ) → j < FMMUS → ¬ Reads memory j (from + k) n)
    → bit_of (logical_data memory from bytes) k ≡ bit_of bytes k

-- a memory bit, but for the alias's, becomes the data's bit that the lowest FMMU that writes it pairs with it
abbrev pub WrittenBitsComeFromData : Type 0
WrittenBitsComeFromData =
    (memory bytes : List ℕ) (from k i m : ℕ) → length memory ≡ MEMORY_BYTES → (m < 8 * ALIAS_REGISTER) ⊎ (8 * (ALIAS_REGISTER + 2) ≤ m) → k < 8 * length bytes → i < FMMUS → FmmuWrites memory i (from + k) m
    → ((j n : ℕ) → j < i → n < 8 * length bytes → ¬ FmmuWrites memory j (from + n) m)
    → bit_of (logical_memory memory from bytes) m ≡ bit_of bytes k

-- a memory bit that no write FMMU pairs with a bit of the data stays
abbrev pub UnwrittenBitsStay : Type 0
UnwrittenBitsStay =
    (memory bytes : List ℕ) (from m : ℕ) → length memory ≡ MEMORY_BYTES → m < MEMORY_BITS → ((j n : ℕ) → j < FMMUS → n < 8 * length bytes → ¬ FmmuWrites memory j (from + n) m)
    → bit_of (logical_memory memory from bytes) m ≡ bit_of memory m

-- a datagram that no active FMMU meets stays as it is, and so does memory
abbrev pub UnmappedDatagramsPass : Type 0
UnmappedDatagramsPass =
    (memory bytes : List ℕ) (from : ℕ) → length memory ≡ MEMORY_BYTES → AreBytes memory → AreBytes bytes → ((j n m : ℕ) → j < FMMUS → n < 8 * length bytes → ¬ IsPair (fmmu_block_at memory j) (from + n) m)
    → (logical_data memory from bytes ≡ bytes) × (logical_memory memory from bytes ≡ memory) × (logical_count memory from (length bytes) ≡ 0)

-- a read FMMU pairs one of the bits of n bytes of data from this logical bit on
abbrev pub IsRead : List ℕ → ℕ → ℕ → Type 0
IsRead memory from n = (i : ℕ) × (k : ℕ) × (m : ℕ) × (i < FMMUS) × (k < 8 * n) × Reads memory i (from + k) m

-- a write FMMU pairs one of the bits of n bytes of data from this logical bit on, also with a bit of the alias, which stays
abbrev pub IsPairedForWriting : List ℕ → ℕ → ℕ → Type 0
IsPairedForWriting memory from n = (i : ℕ) × (k : ℕ) × (m : ℕ) × (i < FMMUS) × (k < 8 * n) × FmmuWrites memory i (from + k) m

-- a working counter gives the pairs: 1 if a bit is read and 2 if one is written, however many there are
abbrev pub LogicalCountsSayPairs : Type 0
LogicalCountsSayPairs =
    (memory : List ℕ) (from n : ℕ) → (r : ℕ) × (w : ℕ) × (logical_count memory from n ≡ r + w)
    × (((r ≡ 1) × IsRead memory from n) ⊎ ((r ≡ 0) × (¬ IsRead memory from n)))
    × (((w ≡ 2) × IsPairedForWriting memory from n) ⊎ ((w ≡ 0) × (¬ IsPairedForWriting memory from n)))

-- a working counter rises by 0 to 3, and wraps
abbrev pub CountersRise : Type 0
CountersRise = (memory : List ℕ) (d : WireDatagram) → (n : ℕ) × (n ≤ 3) × ((served memory d).counter ≡ (d.counter + n) % 65536)

-- a frame that is read is read after a slave too
abbrev pub ServedFramesAreRead : Type 0
ServedFramesAreRead =
    (memory frame : List ℕ) → length memory ≡ MEMORY_BYTES → All (λ b. b < 256) frame → is_none (fault_in frame) ≡ true → is_none (fault_in (frame_after memory frame)) ≡ true

-- a slave passes on as many bytes as came: of a datagram's data, and of a frame
abbrev pub SizesStay : Type 0
SizesStay =
    (memory : List ℕ) → length memory ≡ MEMORY_BYTES
    → ((d : WireDatagram) → length (served memory d).bytes ≡ length d.bytes) × ((frame : List ℕ) → All (λ b. b < 256) frame → length (frame_after memory frame) ≡ length frame)

-- a returned text of a sending is a returned text of it after a slave too, with the datagrams as the slave serves them
abbrev pub ReturnedTextsComeBack : Type 0
ReturnedTextsComeBack =
    (memory : List ℕ) → length memory ≡ MEMORY_BYTES → (serial : ℕ) (ds : List Datagram) (parts : List WireDatagram) (bytes : List ℕ) → IsReturned serial ds parts bytes → CanBeCarried serial parts
    → IsReturned serial ds (all_served memory parts) (frame_after memory bytes) × CanBeCarried serial (all_served memory parts)

-- no frame changes the configured station alias, nor how many bytes memory has
abbrev pub AliasStays : Type 0
AliasStays =
    (memory frame : List ℕ) → length memory ≡ MEMORY_BYTES
    → (length (memory_after memory frame) ≡ MEMORY_BYTES) × (slice_index (memory_after memory frame) ALIAS_REGISTER ≡ slice_index memory ALIAS_REGISTER) × (slice_index (memory_after memory frame) (ALIAS_REGISTER + 1) ≡ slice_index memory (ALIAS_REGISTER + 1))
