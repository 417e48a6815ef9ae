use denote.Param.Send.{sendable}
use Rattle.hc_publish.proofs.lemmas.Crossing.{seat_send}
use Rattle.worked_views.proofs.eight.watch.Goals as goal

pub map_vec-requires-send-J : goal.map_vec-requires-send-J
map_vec-requires-send-J g c κs within = search (sendable, seat_send) depth 12
