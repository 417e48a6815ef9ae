-- A logical read and write (ETG.1000.4, LRW) through the machines of a line.
use Rattle.std.specs.Prelude.{◌≡◌, ℕ, ◌+◌, ◌*◌, ◌<◌, List, [], ◌∷◌, Some, length, slice_get}
use Rattle.hc_bits.specs.Bits.{AreBytes}
use Rattle.hc_records.specs.AddressLaws.{LineHasDatagram}
use Rattle.hc_records.specs.declared.records.Area.{Area}
use Rattle.hc_records.specs.declared.records.Dir.{Dir}
use Rattle.hc_records.specs.Image.{datagram_length, logical_address, task_places}
use Rattle.hc_records.specs.Line.{Member}
use Rattle.hc_registers.specs.declared.fmmu.Mapping.{Mapping}
use Rattle.hc_registers.specs.Blocks.{mapped_bytes}
use Rattle.hc_frames.specs.declared.commands.Command.TheVariants.{Lrw}
use Rattle.hc_frames.specs.FrameText.{WireDatagram}
use Rattle.hc_machine.specs.declared.limits.TheConstants.{FMMUS, MEMORY_BYTES}
use Rattle.hc_machine.specs.Fmmus.{fmmu_block_at}
use Rattle.hc_machine.specs.Laws.{IsPair}
use Rattle.hc_machine.specs.Logical.{logical_count, logical_data, logical_memory}
use Rattle.hc_exchange.specs.Pairs.{LinePairs, IsAreaPair, IsMapped}
use Rattle.hc_exchange.specs.Writing.{IsProgrammed}

-- the data of a datagram from a logical bit on, after machines: each passes on what it makes of them
abbrev pub data_through : List (List ℕ) → ℕ → List ℕ → List ℕ
data_through [] from bytes = bytes
data_through (memory ∷ machines) from bytes = data_through machines from (logical_data memory from bytes)

-- the machines after a datagram
abbrev pub memories_after : List (List ℕ) → ℕ → List ℕ → List (List ℕ)
memories_after [] from bytes = []
memories_after (memory ∷ machines) from bytes = logical_memory memory from bytes ∷ memories_after machines from (logical_data memory from bytes)

-- the number that machines add to the working counter of a datagram
abbrev pub count_through : List (List ℕ) → ℕ → ℕ → ℕ
count_through [] from n = 0
count_through (memory ∷ machines) from n = logical_count memory from n + count_through machines from n

-- an LRW datagram on the line
abbrev pub logical_part : ℕ → List ℕ → ℕ → WireDatagram
logical_part address bytes counter = record { command = Lrw; address = address; interrupt = 0; bytes = bytes; counter = counter }

-- logical bit x and memory bit m are a pair of an area of the slave with a station address (`LinePairs`), and the area has this direction
pub record LinePairsIn (line : List Member) (dir : Dir) (station x m : ℕ) : Type 0 where
  pub areas : LinePairs line station x m
  pub direction : areas.area.dir ≡ dir

-- a machine of the line that is programmed; each number in its memory is a byte
pub record IsProgrammedMachine (line : List Member) (member : Member) (memory : List ℕ) : Type 0 where
  pub programmed : IsProgrammed line member memory
  pub all_bytes : AreBytes memory

-- the machines are the line's, in its order, and each is programmed
pub record AreProgrammed (line : List Member) (machines : List (List ℕ)) : Type 0 where
  pub count : length machines ≡ length line
  pub each : (k : ℕ) (member : Member) (memory : List ℕ) → slice_get line k ≡ Some member → slice_get machines k ≡ Some memory → IsProgrammedMachine line member memory

-- logical bit x is a bit of one of the datagrams of a task of the line
pub record IsBitOfTask (line : List Member) (task x : ℕ) : Type 0 where
  pub datagram : ℕ
  pub bit : ℕ
  pub there : LineHasDatagram line task datagram
  pub below : bit < 8 * datagram_length (task_places task line) datagram
  pub at : x ≡ 8 * logical_address task datagram + bit

-- each bit of the data of a logical datagram is among the logical bits that are asked about
abbrev pub AreAsked : (ℕ → Type 0) → ℕ → List ℕ → Type 0
AreAsked Asked from bytes = (bit : ℕ) → bit < 8 * length bytes → Asked (from + bit)

-- a machine of the line carries the logical bits that are asked about: its FMMUs pair the ones that its slave is to carry, each by its area's own block, and no others (LRW names no slave, so the station address has no part in it)
pub record CarriesAsked (Asked : ℕ → Type 0) (line : List Member) (member : Member) (memory : List ℕ) : Type 0 where
  pub size : length memory ≡ MEMORY_BYTES
  pub own : (i x m : ℕ) (area : Area) (mapping : Mapping) → Asked x → IsMapped line member i area mapping → IsAreaPair area mapping x m
      → fmmu_block_at memory i ≡ mapped_bytes area mapping
  pub foreign : (i x m : ℕ) → i < FMMUS → Asked x → IsPair (fmmu_block_at memory i) x m
      → (area : Area) × (mapping : Mapping) × IsMapped line member i area mapping × (fmmu_block_at memory i ≡ mapped_bytes area mapping)
  pub all_bytes : AreBytes memory

-- the machines are the line's, in its order, and each carries the logical bits that are asked about
pub record AreCarrying (Asked : ℕ → Type 0) (line : List Member) (machines : List (List ℕ)) : Type 0 where
  pub count : length machines ≡ length line
  pub each : (k : ℕ) (member : Member) (memory : List ℕ) → slice_get line k ≡ Some member → slice_get machines k ≡ Some memory
      → CarriesAsked Asked line member memory

-- the machines of the line carry a task: each logical bit of its datagrams
abbrev pub AreCarryingTask : List Member → ℕ → List (List ℕ) → Type 0
AreCarryingTask line task machines = AreCarrying (IsBitOfTask line task) line machines
