-- A table may go to another thread, and threads may share it.
use denote.Param.Send.{IsSend, IsSync}
use Rattle.hc_places.proofs.table.Places.TheSendSync as places
use Rattle.hc_places.specs.contracts.table.Places.{the_row}

pub places_send : IsSend the_row
places_send = places.the_send

pub places_sync : IsSync the_row
places_sync = places.the_sync
