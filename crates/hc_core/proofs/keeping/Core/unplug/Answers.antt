use Rattle.std.proofs.Common.{◌≡◌, Some, slice_get, sym, subst}
use Rattle.hc_registers.specs.RankPlaces.{stations}
use Rattle.hc_events.specs.Accepted.{IsUnplugging}
use Rattle.hc_events.specs.Entries.{History}
use Rattle.hc_events.specs.Holding.{is_unplugged, may_hold}
use Rattle.hc_events.specs.Owed.{known_bytes}
use Rattle.hc_events.specs.Points.{state_of}
use Rattle.hc_core.proofs.Forgotten.{agree-unplugged}
use Rattle.hc_core.proofs.Stations.{areas-enough, kept-right}
use Rattle.hc_core.specs.Agreement.{Agree, core_parts}
use Rattle.hc_core.specs.Records.{history_read}
use Rattle.hc_core.specs.State.{CoreState}
use Rattle.hc_core.proofs.keeping.Core.unplug.Goals as goal

pub index_of-index-requires : goal.index_of-index-requires
index_of-index-requires c = c.requires.declared

pub unplug-requires : goal.unplug-requires
unplug-requires c =
    let history = history_read c.self.inside.history in
    let station = c.args.station in
    let at = subst (λ (core : CoreState). slice_get (stations (state_of core.history)) c.index_of-index.result ≡ Some station) (sym c.self.view_is) c.index_of-index.ensures in
    areas-enough c.self.inside.readiness history station c.index_of-index.result c.self.invariant.ready at

pub invariant_of-self : goal.invariant_of-self
invariant_of-self c =
    let inside = c.self.inside in
    let history = history_read inside.history in
    let station = c.args.station in
    let taken = history_read inside.taken.value in
    let is : IsUnplugging history station = subst (λ (state : CoreState). IsUnplugging state.history station) (sym c.self.view_is) c.requires in
    let at = subst (λ (core : CoreState). slice_get (stations (state_of core.history)) c.index_of-index.result ≡ Some station) (sym c.self.view_is) c.index_of-index.ensures in
    subst (λ (grows : History). Agree (record (core_parts inside) { readiness = c.unplug.new.self }) grows taken) (sym c.unplugged.ensures)
    (agree-unplugged (core_parts inside) history taken station c.unplug.new.self is
    (c.unplug.ensures (known_bytes history) (may_hold history) (is_unplugged history) (state_of history) station (kept-right (core_parts inside) history taken c.self.invariant) at is.outside)
    c.self.invariant)
