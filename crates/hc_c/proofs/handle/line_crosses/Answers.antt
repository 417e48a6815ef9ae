use denote.Param.Send.{sendable}
use Rattle.std.proofs.Crossing.{crosses}
use Rattle.hc_c.proofs.Crossing.{line_send}
use Rattle.hc_c.proofs.handle.line_crosses.Goals as goal

pub crosses-requires-send-T : goal.crosses-requires-send-T
crosses-requires-send-T c = search (sendable, crosses, line_send) depth 40
