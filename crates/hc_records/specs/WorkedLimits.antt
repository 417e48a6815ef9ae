-- The limits of a project as numbers: another value of a constant is refused here.
use Rattle.std.specs.Prelude.{◌≡◌, refl}
use Rattle.hc_records.specs.declared.limits.TheConstants.{LAST_EPOCH, LAST_SYNC_MANAGER, MEMORY_END, MEMORY_START, MOST_AREA_BITS, MOST_AREAS, MOST_DATAGRAM_BYTES, MOST_DATAGRAMS, MOST_ENTRIES, MOST_ENTRY_BITS, MOST_GROUPS, MOST_PDOS, MOST_SLAVES, TASKS}

-- a project declares at most 2,048 slaves (this project's profile)
most-slaves : MOST_SLAVES ≡ 2048
most-slaves = refl

-- a project has at most 512 groups, the mandatory one included (this project's profile)
most-groups : MOST_GROUPS ≡ 512
most-groups = refl

-- a slave has at most 8 process data areas (this project's profile)
most-areas : MOST_AREAS ≡ 8
most-areas = refl

-- an area offers at most 32 PDOs (this project's profile)
most-pdos : MOST_PDOS ≡ 32
most-pdos = refl

-- a PDO has at most 64 entries (this project's profile)
most-entries : MOST_ENTRIES ≡ 64
most-entries = refl

-- an entry has at most 64 bits (this project's profile)
most-entry_bits : MOST_ENTRY_BITS ≡ 64
most-entry_bits = refl

-- a datagram has at most 1,486 data bytes (ETG.1000.4, 5.3 and 5.4)
most-datagram_bytes : MOST_DATAGRAM_BYTES ≡ 1486
most-datagram_bytes = refl

-- an area has at most the bits of the longest datagram
most-area_bits : MOST_AREA_BITS ≡ 11888
most-area_bits = refl

-- there are 8 tasks (this project's profile)
tasks : TASKS ≡ 8
tasks = refl

-- a task has at most 16 datagrams (this project's profile)
most-datagrams : MOST_DATAGRAMS ≡ 16
most-datagrams = refl

-- sync managers are numbered from 0 to 15 (ETG.1000.4, 6.7)
last-sync_manager : LAST_SYNC_MANAGER ≡ 15
last-sync_manager = refl

-- process memory begins after all registers (this project's profile)
memory-start : MEMORY_START ≡ 0x1000
memory-start = refl

-- the memory for process data ends before this byte (this project's profile)
memory-end : MEMORY_END ≡ 0x3000
memory-end = refl

-- an epoch is counted in 32 bits (this project's profile)
last-epoch : LAST_EPOCH ≡ 4294967295
last-epoch = refl
