-- A frame that arrived, from its bytes: its fault, or its serial and datagrams if it has none (ETG.1000.4, frame, EtherCAT
-- header and datagram structure; this project's profile).
use Rattle.std.specs.Prelude.{◌≡◌, ℕ, zero, suc, ◌+◌, ◌*◌, ◌/◌, ◌%◌, ◌==◌, nat_lt, nat_le, Bool, true, false, ◌&&◌, ◌||◌, not, List, [], ◌∷◌, length, take, drop, map, slice_index, slice_range, Option, Some, None, is_none, unwrap_or, Result, Ok, Err, if◌then◌else◌}
use Rattle.std.specs.List.{list_all, list_any}
use Rattle.hc_frames.specs.declared.commands.Command.TheVariants.{Lrw}
use Rattle.hc_frames.specs.declared.limits.TheConstants.{LEAST_READ, MAX_DATA, MAX_DATAGRAMS}
use Rattle.hc_frames.specs.declared.reading.faults.FrameFault.{FrameFault}
use Rattle.hc_frames.specs.declared.reading.faults.FrameFault.TheVariants.{Short, NotEtherCat, BadType, BadLength, Circulating, MoreFollows, UnknownCommand, IndexMismatch}
use Rattle.hc_frames.specs.Commands.{command_of}
use Rattle.hc_frames.specs.FrameText.{WireDatagram}

-- ---- numbers in bytes

-- the numbers in two bytes and in four, low byte first
abbrev pub word_at : List ℕ → ℕ → ℕ
word_at bytes at = slice_index bytes at + 256 * slice_index bytes (at + 1)

-- the number in the four bytes from byte `at` on, counted from 0, low byte first; a missing byte counts as 0
abbrev pub long_at : List ℕ → ℕ → ℕ
long_at bytes at = word_at bytes at + 65536 * word_at bytes (at + 2)

-- ---- fields of the frame

-- the forty bits after the source's first byte, high byte first
abbrev pub serial_in : List ℕ → ℕ
serial_in bytes =
    slice_index bytes 11 + 256 * (slice_index bytes 10 + 256 * (slice_index bytes 9 + 256 * (slice_index bytes 8 + 256 * slice_index bytes 7)))

-- bits 0 to 10 of the EtherCAT header: the number of bytes of the datagrams
abbrev pub datagram_bytes : List ℕ → ℕ
datagram_bytes bytes = word_at bytes 14 % 2048

-- the bytes of the datagrams, as the EtherCAT header counts them
abbrev pub region : List ℕ → List ℕ
region bytes = take (datagram_bytes bytes) (drop 16 bytes)

-- ---- fields of the datagram at the front of these bytes

-- bits 0 to 10 of the length field: the number of data bytes
abbrev pub data_size : List ℕ → ℕ
data_size bytes = word_at bytes 6 % 2048

-- 1 to 1,486 data bytes, bits 11 to 13 of the length field clear, and all bytes up to the end of the working counter present
abbrev pub is_whole : List ℕ → Bool
is_whole bytes =
    nat_le 1 (data_size bytes) && (nat_le (data_size bytes) MAX_DATA && ((word_at bytes 6 / 2048 % 8 == 0) && nat_le (12 + data_size bytes) (length bytes)))

-- bit 14 of the length field
abbrev pub circulates : List ℕ → Bool
circulates bytes = word_at bytes 6 / 16384 % 2 == 1

-- bit 15 of the length field
abbrev pub says_more : List ℕ → Bool
says_more bytes = nat_le 32768 (word_at bytes 6)

-- none of the four commands that this project uses
abbrev pub is_unknown : List ℕ → Bool
is_unknown bytes = is_none (command_of (slice_index bytes 0))

-- the second byte of the datagram at the front is not this index
abbrev pub has_other_index : ℕ → List ℕ → Bool
has_other_index index bytes = not (slice_index bytes 1 == index)

-- the content of a datagram; the command is meaningful only if it is known
abbrev pub datagram_carried : List ℕ → WireDatagram
datagram_carried bytes = record {
  command = unwrap_or (command_of (slice_index bytes 0)) Lrw;
  address = long_at bytes 2;
  interrupt = word_at bytes 8;
  bytes = slice_range bytes 10 (10 + data_size bytes);
  counter = word_at bytes (10 + data_size bytes);
}

-- ---- datagrams one after another

-- the bytes from each datagram on: one begins at the front, and the next one 12 bytes and its data further, as long as bytes are left
unfoldable pub starts_within : ℕ → List ℕ → List (List ℕ)
starts_within zero bytes = []
starts_within (suc n) [] = []
starts_within (suc n) (b ∷ bytes) = (b ∷ bytes) ∷ starts_within n (drop (12 + data_size (b ∷ bytes)) (b ∷ bytes))

-- datagrams in a row, each as all bytes from its first one to the end: the first at the front, each next one 12 bytes and the data bytes further, as long as bytes are left
abbrev pub datagram_tails : List ℕ → List (List ℕ)
datagram_tails bytes = starts_within (length bytes) bytes

-- each but the last says that more follow
abbrev pub more_between : List (List ℕ) → Bool
more_between [] = true
more_between (d ∷ []) = true
more_between (d ∷ e ∷ ds) = says_more d && more_between (e ∷ ds)

-- the last datagram says that more follow
abbrev pub more_at_end : List (List ℕ) → Bool
more_at_end [] = false
more_at_end (d ∷ []) = says_more d
more_at_end (d ∷ e ∷ ds) = more_at_end (e ∷ ds)

-- at least one datagram, all of them whole, and each but the last says that more follow
abbrev pub fill_region : List (List ℕ) → Bool
fill_region ds = nat_lt 0 (length ds) && (list_all is_whole ds && more_between ds)

-- ---- the eight conditions

-- the frame has fewer bytes than the shortest that can be read
abbrev pub is_short : List ℕ → Bool
is_short bytes = nat_lt (length bytes) LEAST_READ

-- the EtherType is not 88a4
abbrev pub is_not_ethercat : List ℕ → Bool
is_not_ethercat bytes = not ((slice_index bytes 12 == 0x88) && (slice_index bytes 13 == 0xa4))

-- bits 11 to 15 of the EtherCAT header are not bit 12 alone
abbrev pub has_bad_type : List ℕ → Bool
has_bad_type bytes = not (word_at bytes 14 / 2048 == 2)

-- the header's length is over 1,498, or more than the bytes after the header, or the datagrams do not fill it
abbrev pub has_bad_length : List ℕ → Bool
has_bad_length bytes =
    nat_lt MAX_DATAGRAMS (datagram_bytes bytes) || (nat_lt (length bytes) (16 + datagram_bytes bytes) || not (fill_region (datagram_tails (region bytes))))

-- one of the datagrams has the circulating bit
abbrev pub is_circulating : List ℕ → Bool
is_circulating bytes = list_any circulates (datagram_tails (region bytes))

-- the last datagram says that more follow
abbrev pub promises_more : List ℕ → Bool
promises_more bytes = more_at_end (datagram_tails (region bytes))

-- one of the datagrams has a command that is not known here
abbrev pub has_unknown_command : List ℕ → Bool
has_unknown_command bytes = list_any is_unknown (datagram_tails (region bytes))

-- the index of a datagram is not the serial modulo 256
abbrev pub mismatches : List ℕ → Bool
mismatches bytes = list_any (has_other_index (serial_in bytes % 256)) (datagram_tails (region bytes))

-- the first condition that holds
abbrev pub fault_in : List ℕ → Option FrameFault
fault_in bytes =
    if is_short bytes then Some Short
    else (if is_not_ethercat bytes then Some NotEtherCat
    else (if has_bad_type bytes then Some BadType
    else (if has_bad_length bytes then Some BadLength
    else (if is_circulating bytes then Some Circulating
    else (if promises_more bytes then Some MoreFollows
    else (if has_unknown_command bytes then Some UnknownCommand
    else (if mismatches bytes then Some IndexMismatch
    else None)))))))

-- ---- the content of a readable frame

-- the content of a readable frame: its serial and its datagrams in order
pub record Reading : Type 0 where
  pub serial : ℕ
  pub parts : List WireDatagram

-- bytes read as a frame: the fault, or the content
abbrev pub reading_of : List ℕ → Reading
reading_of bytes = record { serial = serial_in bytes; parts = map datagram_carried (datagram_tails (region bytes)) }

-- a datagram of a frame with the offset of its first byte in the frame
pub record ArrivedDatagram : Type 0 where
  pub start : ℕ
  pub carried : WireDatagram

-- datagrams one after another with their offsets, the first at this one
abbrev pub placed_from : ℕ → List WireDatagram → List ArrivedDatagram
placed_from start [] = []
placed_from start (d ∷ ds) = record { start = start; carried = d } ∷ placed_from (start + (12 + length d.bytes)) ds

-- the datagrams of these bytes with their offsets, the first at this one
abbrev pub datagrams_placed : ℕ → List ℕ → List ArrivedDatagram
datagrams_placed start bytes = placed_from start (map datagram_carried (datagram_tails bytes))

-- the result is the frame's fault, or its content
abbrev pub Answers : List ℕ → Result Reading FrameFault → Type 0
Answers bytes (Ok reading) = (fault_in bytes ≡ None) × (reading ≡ reading_of bytes)
Answers bytes (Err fault) = fault_in bytes ≡ Some fault

-- the number of a fault
abbrev pub fault_number : FrameFault → ℕ
fault_number Short = 1
fault_number NotEtherCat = 2
fault_number BadType = 3
fault_number BadLength = 4
fault_number Circulating = 5
fault_number MoreFollows = 6
fault_number UnknownCommand = 7
fault_number IndexMismatch = 8
