-- The four commands as functions on memory, data, address and counter (ETG.1000.4, 5.4: APRD, APWR, FPWR and LRW).
use Rattle.std.specs.Prelude.{ℕ, ◌+◌, ◌*◌, ◌/◌, ◌%◌, ◌==◌, Bool, ◌&&◌, nat_le, if◌then◌else◌, List, length, slice_range}
use Rattle.hc_frames.specs.declared.commands.Command.{Command}
use Rattle.hc_frames.specs.declared.commands.Command.TheVariants.{Aprd, Apwr, Fpwr, Lrw}
use Rattle.hc_frames.specs.declared.limits.TheConstants.{STATION_REGISTER}
use Rattle.hc_frames.specs.Arrived.{word_at}
use Rattle.hc_frames.specs.FrameText.{WireDatagram}
use Rattle.hc_machine.specs.declared.limits.TheConstants.{MEMORY_BYTES}
use Rattle.hc_machine.specs.Logical.{logical_count, logical_data, logical_memory}
use Rattle.hc_machine.specs.Memory.{with_alias_of, with_part}

-- the low word of an address is a position or a station, the high word the register
abbrev pub register_of : ℕ → ℕ
register_of address = address / 65536

-- n bytes from the register on lie in memory
abbrev pub lies_in_memory : ℕ → ℕ → Bool
lies_in_memory address n = nat_le (register_of address + n) MEMORY_BYTES

-- a position of 0 names this slave, and n bytes from the register on lie in memory
abbrev pub is_at_position : ℕ → ℕ → Bool
is_at_position address n = (address % 65536 == 0) && lies_in_memory address n

-- the number in its station register names this slave, and n bytes from the register on lie in memory
abbrev pub is_at_station : List ℕ → ℕ → ℕ → Bool
is_at_station memory address n = (word_at memory STATION_REGISTER == address % 65536) && lies_in_memory address n

-- each slave counts a position up by 1, which wraps; the register stays
abbrev pub next_position : ℕ → ℕ
next_position address = (address % 65536 + 1) % 65536 + 65536 * register_of address

-- a write of bytes from a register on
unfoldable pub register_written : List ℕ → ℕ → List ℕ → List ℕ
register_written memory register bytes = with_alias_of memory (with_part register bytes memory)

-- the memory after a datagram
abbrev pub memory_after_command : Command → List ℕ → ℕ → List ℕ → List ℕ
memory_after_command Aprd memory address bytes = memory
memory_after_command Apwr memory address bytes = if is_at_position address (length bytes) then register_written memory (register_of address) bytes else memory
memory_after_command Fpwr memory address bytes = if is_at_station memory address (length bytes) then register_written memory (register_of address) bytes else memory
memory_after_command Lrw memory address bytes = logical_memory memory (8 * address) bytes

-- the data of a datagram after a slave
abbrev pub data_after : Command → List ℕ → ℕ → List ℕ → List ℕ
data_after Aprd memory address bytes =
    if is_at_position address (length bytes) then slice_range memory (register_of address) (register_of address + length bytes) else bytes
data_after Apwr memory address bytes = bytes
data_after Fpwr memory address bytes = bytes
data_after Lrw memory address bytes = logical_data memory (8 * address) bytes

-- the address of a datagram after a slave
abbrev pub address_after : Command → ℕ → ℕ
address_after Aprd address = next_position address
address_after Apwr address = next_position address
address_after Fpwr address = address
address_after Lrw address = address

-- the number that is added to a datagram's working counter
abbrev pub counter_added : Command → List ℕ → ℕ → ℕ → ℕ
counter_added Aprd memory address n = if is_at_position address n then 1 else 0
counter_added Apwr memory address n = if is_at_position address n then 1 else 0
counter_added Fpwr memory address n = if is_at_station memory address n then 1 else 0
counter_added Lrw memory address n = logical_count memory (8 * address) n

-- a datagram as a slave passes it on: its working counter wraps
unfoldable pub served : List ℕ → WireDatagram → WireDatagram
served memory d = record {
  command = d.command;
  address = address_after d.command d.address;
  interrupt = d.interrupt;
  bytes = data_after d.command memory d.address d.bytes;
  counter = (d.counter + counter_added d.command memory d.address (length d.bytes)) % 65536;
}

-- the slave's memory after the datagram
unfoldable pub memory_after_datagram : List ℕ → WireDatagram → List ℕ
memory_after_datagram memory d = memory_after_command d.command memory d.address d.bytes
