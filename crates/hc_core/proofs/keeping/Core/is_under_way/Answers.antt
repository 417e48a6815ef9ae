use Rattle.std.proofs.Common.{◌∙◌, ap}
use Rattle.hc_events.specs.UnderWay.{is_under_way}
use Rattle.hc_sendings.proofs.lemmas.UnderWay.{newest-under_way}
use Rattle.hc_core.specs.Records.{history_read}
use Rattle.hc_core.specs.State.{CoreState}
use Rattle.hc_core.proofs.keeping.Core.is_under_way.Goals as goal

pub returns : goal.returns
returns c =
    let inside = c.self.inside in
    let history = history_read inside.history in
    c.is_newest_awaited.ensures ∙ newest-under_way history inside.awaited c.args.station c.args.number c.self.invariant.waits.awaits
    ∙ ap (λ (state : CoreState). is_under_way state.history c.args.station c.args.number) c.self.view_is
