use Rattle.std.proofs.Common.{◌∙◌, ap}
use Rattle.hc_events.specs.Ready.{waiting_after}
use Rattle.hc_core.specs.Records.{history_read}
use Rattle.hc_core.specs.Agreement.{core_parts, state_in}
use Rattle.hc_core.specs.State.{CoreState}
use Rattle.hc_core.proofs.Edits.{can-follow, still-here}
use Rattle.hc_core.proofs.Foretold.{will-wait}
use Rattle.hc_core.proofs.keeping.Core.will_wait.Goals as goal

pub foretell-requires : goal.foretell-requires
foretell-requires c =
    let can = still-here (state_in c.self.inside) c.args.self.now c.args.planned.now c.self.view_is c.requires in
    can-follow (core_parts c.self.inside) (history_read c.self.inside.history) (history_read c.self.inside.taken.value) c.args.planned.now can c.self.invariant

pub returns : goal.returns
returns c =
    let inside = c.self.inside in
    let history = history_read inside.history in
    let taken = history_read inside.taken.value in
    let planned = c.args.planned.now in
    let can = still-here (state_in inside) c.args.self.now planned c.self.view_is c.requires in
    let follows = can-follow (core_parts inside) history taken planned can c.self.invariant in
    will-wait (core_parts inside) history taken planned.edit c.foretell.result can.made can.prepared c.self.invariant (c.foretell.ensures follows)
    ∙ ap (λ (core : CoreState). waiting_after core.history planned.edit.report.swap.edit) c.self.view_is
