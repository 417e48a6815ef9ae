use Rattle.std.proofs.Common.{ap, arith}
use Rattle.hc_core.specs.Update.{untaken}
use Rattle.hc_core.specs.Records.{history_read}
use Rattle.hc_core.proofs.Update.{count-untaken}
use Rattle.hc_core.proofs.keeping.Core.untaken.Goals as goal

pub returns : goal.returns
returns c =
    let inside = c.self.inside in
    omega (arith, c.len.ensures, inside.changes.ok.0, count-untaken (history_read inside.taken.value) (history_read inside.history) inside.changes.items c.self.invariant.shows, ap untaken c.self.view_is)
