use Rattle.std.proofs.Common.{◌==◌, ◌∙◌, ap, length, not}
use Rattle.hc_events.specs.UnderWay.{further_blocks}
use Rattle.hc_core.proofs.FirstBlocks.{stays-blocks}
use Rattle.hc_core.proofs.Further.{some-further}
use Rattle.hc_core.specs.Agreement.{core_parts}
use Rattle.hc_core.specs.Records.{history_read}
use Rattle.hc_core.specs.State.{CoreState}
use Rattle.hc_core.proofs.keeping.Core.has_further.Goals as goal

pub returns : goal.returns
returns c =
    let inside = c.self.inside in
    let history = history_read inside.history in
    let taken = history_read inside.taken.value in
    c.is_some.ensures
    ∙ some-further (core_parts inside) history taken c.next_further.result c.self.invariant (c.next_further.ensures (stays-blocks (core_parts inside) history taken c.self.invariant))
    ∙ ap (λ (state : CoreState). not (length (further_blocks state.history) == 0)) c.self.view_is
