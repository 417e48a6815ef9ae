-- The ranges of a place and of a datagram of a table.
use Rattle.std.specs.Prelude.{◌+◌, ◌*◌, ◌<◌, ◌≤◌, All}
use Rattle.hc_records.specs.declared.limits.TheConstants.{MOST_AREA_BITS, MOST_DATAGRAMS, MOST_DATAGRAM_BYTES, MOST_ENTRY_BITS, TASKS}
use Rattle.hc_records.specs.declared.records.Area.{Area}
use Rattle.hc_records.specs.Image.{VariablePlace}
use Rattle.hc_records.specs.Laws.{IsDatagramLength}
use Rattle.hc_places.specs.declared.table.Datagram.{Datagram}
use Rattle.hc_records.specs.Limits.{IsEntryInside}

-- a variable has 1 to 64 bits, within the bits of one of the 16 datagrams of one of the eight tasks
pub record IsPlace (place : VariablePlace) : Type 0 where
  pub task : place.task < TASKS
  pub datagram : place.datagram < MOST_DATAGRAMS
  pub some : 1 ≤ place.bits
  pub most : place.bits ≤ MOST_ENTRY_BITS
  pub inside : place.bit + place.bits ≤ MOST_AREA_BITS

-- a datagram has 1 to 1,486 bytes, which end within the bytes of 16 datagrams in its task's image
pub record IsDatagram (datagram : Datagram) : Type 0 where
  pub sendable : IsDatagramLength datagram.length
  pub image : datagram.offset + datagram.length ≤ MOST_DATAGRAMS * MOST_DATAGRAM_BYTES

-- each entry that an area offers has 1 to 64 bits
abbrev pub OffersBits : Area → Type 0
OffersBits area = All (λ pdo. All IsEntryInside pdo.entries) area.offered
