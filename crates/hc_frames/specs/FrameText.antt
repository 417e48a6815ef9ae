-- The bytes of a frame on the line (ETG.1000.4, frame, EtherCAT header and datagram structure). The EtherType and the serial
-- are high byte first, all other numbers low byte first.
use Rattle.std.specs.Prelude.{ℕ, ◌+◌, ◌-◌, ◌*◌, ◌%◌, Bool, true, false, List, [], ◌∷◌, ◌++◌, length, map, replicate, if◌then◌else◌}
use Rattle.std.specs.Int.{w16, w32, to_le_bytes, bytes_high_first}
use Rattle.hc_registers.specs.declared.registers.TheConstants.{FMMU_BLOCKS, FMMU_BLOCK_BYTES}
use Rattle.hc_frames.specs.declared.commands.Command.{Command}
use Rattle.hc_frames.specs.declared.commands.Command.TheVariants.{Aprd, Apwr, Fpwr, Lrw}
use Rattle.hc_frames.specs.declared.limits.TheConstants.{ALIAS_REGISTER, LEAST_FRAME, STATION_REGISTER}
use Rattle.hc_frames.specs.Commands.{code_of}

-- a datagram on the line: the address is the logical one of LRW, else the position or station in its low word and the register in its high word
pub record WireDatagram : Type 0 where
  pub command : Command
  pub address : ℕ
  pub interrupt : ℕ
  pub bytes : List ℕ
  pub counter : ℕ

-- bits 0 to 10 the number of data bytes, bits 11 to 14 clear, bit 15 set if more datagrams follow
abbrev pub length_field : ℕ → Bool → ℕ
length_field size more = size + (if more then 32768 else 0)

-- the ten bytes before the data: command, index, address, length field, interrupt field
abbrev pub carried_head : ℕ → Command → ℕ → ℕ → Bool → ℕ → List ℕ
carried_head index command address size more interrupt =
    code_of command ∷ index ∷ to_le_bytes w32 address ++ to_le_bytes w16 (length_field size more) ++ to_le_bytes w16 interrupt

-- a datagram: the ten bytes, the data, the working counter; its index is the frame's serial modulo 256
abbrev pub carried_text : ℕ → Bool → WireDatagram → List ℕ
carried_text serial more d = carried_head (serial % 256) d.command d.address (length d.bytes) more d.interrupt ++ d.bytes ++ to_le_bytes w16 d.counter

-- datagrams one after another; each but the last is followed by more
abbrev pub carried_texts : ℕ → List WireDatagram → List ℕ
carried_texts serial [] = []
carried_texts serial (d ∷ []) = carried_text serial false d
carried_texts serial (d ∷ e ∷ ds) = carried_text serial true d ++ carried_texts serial (e ∷ ds)

-- whether a datagram before these is followed by more
abbrev pub has_more : List WireDatagram → Bool
has_more [] = false
has_more (d ∷ ds) = true

-- the sixteen bytes before the datagrams: destination, the source's first byte and the serial, the EtherType, the EtherCAT header (bits 0 to 10 the datagrams' bytes, bits 12 to 15 the type 1)
abbrev pub head_to : List ℕ → ℕ → ℕ → ℕ → List ℕ
head_to destination first serial size = destination ++ first ∷ bytes_high_first 5 serial ++ 0x88 ∷ 0xa4 ∷ to_le_bytes w16 (size + 4096)

-- a frame on the line, with the bytes after its datagrams
abbrev pub carried_frame : List ℕ → ℕ → ℕ → List WireDatagram → List ℕ → List ℕ
carried_frame destination first serial ds after_it =
    let text = carried_texts serial ds in head_to destination first serial (length text) ++ text ++ after_it

-- a datagram to be sent
pub record Datagram : Type 0 where
  pub command : Command
  pub address : ℕ
  pub bytes : List ℕ

-- a datagram as sent: its interrupt field and its working counter are 0
abbrev pub sent_on_wire : Datagram → WireDatagram
sent_on_wire d = record { command = d.command; address = d.address; interrupt = 0; bytes = d.bytes; counter = 0 }

-- the ten bytes before a datagram's data as it is sent, with the interrupt field 0
abbrev pub datagram_head : ℕ → Command → ℕ → ℕ → Bool → List ℕ
datagram_head index command address size more = carried_head index command address size more 0

-- a datagram as it is sent in the frame with a serial, followed by more or not
abbrev pub sent_datagram_text : ℕ → Bool → Datagram → List ℕ
sent_datagram_text serial more d = carried_text serial more (sent_on_wire d)

-- the datagrams of the frame with a serial as they are sent, one after another
abbrev pub sent_datagrams_text : ℕ → List Datagram → List ℕ
sent_datagrams_text serial ds = carried_texts serial (map sent_on_wire ds)

-- the head of a frame as sent: broadcast, from the source address 02 and the serial
abbrev pub frame_head : ℕ → ℕ → List ℕ
frame_head serial size = head_to (replicate 6 255) 2 serial size

-- zeros up to the least frame, after this many bytes of datagrams
abbrev pub padding : ℕ → List ℕ
padding size = replicate (LEAST_FRAME - (16 + size)) 0

-- a whole frame as sent, without its check sequence
abbrev pub frame_text : ℕ → List Datagram → List ℕ
frame_text serial ds = carried_frame (replicate 6 255) 2 serial (map sent_on_wire ds) (padding (length (sent_datagrams_text serial ds)))

-- process data at a logical address
abbrev pub lrw : ℕ → List ℕ → Datagram
lrw address bytes = record { command = Lrw; address = address; bytes = bytes }

-- process data of zeros, of this many bytes
abbrev pub blank_lrw : ℕ × ℕ → Datagram
blank_lrw d = lrw d.0 (replicate d.1 0)

-- a register of the slave at a station address
abbrev pub station_address : ℕ → ℕ → ℕ
station_address station register = station + 65536 * register

-- a register of the slave at a position, counted from 0: each slave adds 1 to the low word, and the one that meets 0 there is addressed
abbrev pub position_address : ℕ → ℕ → ℕ
position_address position register = (65536 - position) % 65536 + 65536 * register

-- a write of a register block
abbrev pub block_write : ℕ → ℕ → List ℕ → Datagram
block_write station register bytes = record { command = Fpwr; address = station_address station register; bytes = bytes }

-- a write of the configured station address
abbrev pub station_write : ℕ → ℕ → Datagram
station_write position station = record { command = Apwr; address = position_address position STATION_REGISTER; bytes = to_le_bytes w16 station }

-- a read of the configured station alias
abbrev pub alias_read : ℕ → Datagram
alias_read position = record { command = Aprd; address = position_address position ALIAS_REGISTER; bytes = 0 ∷ 0 ∷ [] }

-- a write of zeros to the first `count` FMMUs of the slave at a station address; a slave that took it and uses no other FMMU
-- takes no part in process data
abbrev pub fmmu_off : ℕ → ℕ → Datagram
fmmu_off station count = block_write station FMMU_BLOCKS (replicate (FMMU_BLOCK_BYTES * count) 0)
