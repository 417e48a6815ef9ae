-- A copy may go to another thread, and threads may share it: what it keeps for the proofs alone owns nothing.
use denote.Param.Send.{IsSend, IsSync, sendable}
use Rattle.core.proofs.snapshot.Sent.{snapshot_send, snapshot_sync}
use Rattle.std.proofs.alloc.Global.TheSendSync as heap
use Rattle.hc_images.proofs.lemmas.Crossing.{inputs_send, inputs_sync}
use Rattle.hc_places.proofs.lemmas.Crossing.{places_send, places_sync}
use Rattle.hc_publish.specs.contracts.shown.Shown.{the_row}

pub shown_send : IsSend the_row
shown_send = search (sendable, snapshot_send, heap.the_field_send, places_send, inputs_send) depth 24

pub shown_sync : IsSync the_row
shown_sync = search (sendable, snapshot_sync, heap.the_field_sync, places_sync, inputs_sync) depth 24
