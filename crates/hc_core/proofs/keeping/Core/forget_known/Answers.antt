use Rattle.std.proofs.Common.{◌≡◌, ◌∷◌, Some, slice_get, sym, subst, true}
use Rattle.hc_registers.specs.RankPlaces.{stations}
use Rattle.hc_events.specs.Entries.{Forgot, History}
use Rattle.hc_events.specs.Holding.{is_unplugged, may_hold}
use Rattle.hc_events.specs.Owed.{is_in_line, known_bytes}
use Rattle.hc_events.specs.Points.{state_of}
use Rattle.hc_sendings.specs.Waiting.{Waiting}
use Rattle.hc_core.proofs.Forgotten.{agree-forgot, declared-too}
use Rattle.hc_core.proofs.Stations.{areas-enough, kept-right}
use Rattle.hc_core.specs.Agreement.{Agree, core_parts}
use Rattle.hc_core.specs.Records.{history_read}
use Rattle.hc_core.specs.State.{CoreState}
use Rattle.hc_core.proofs.keeping.Core.forget_known.Goals as goal

pub index_of-index-requires : goal.index_of-index-requires
index_of-index-requires c = declared-too c.args.self.now.history c.args.station c.requires

pub forget-requires-3 : goal.forget-requires-3
forget-requires-3 c =
    let history = history_read c.self.inside.history in
    let station = c.args.station in
    let at = subst (λ (core : CoreState). slice_get (stations (state_of core.history)) c.index_of-index.result ≡ Some station) (sym c.self.view_is) c.index_of-index.ensures in
    areas-enough c.self.inside.readiness history station c.index_of-index.result c.self.invariant.ready at

pub invariant_of-self : goal.invariant_of-self
invariant_of-self c =
    let inside = c.self.inside in
    let history = history_read inside.history in
    let station = c.args.station in
    let taken = history_read inside.taken.value in
    let found : is_in_line history station ≡ true = subst (λ (state : CoreState). is_in_line state.history station ≡ true) (sym c.self.view_is) c.requires in
    let at = subst (λ (core : CoreState). slice_get (stations (state_of core.history)) c.index_of-index.result ≡ Some station) (sym c.self.view_is) c.index_of-index.ensures in
    subst (λ (grows : History). Agree (record (core_parts inside) { awaited = c.forget.new.self; owed = c.forget-2.new.self; readiness = c.forget-3.new.self }) grows taken) (sym c.forgot.ensures)
    (subst (λ (left : Waiting). Agree (record (core_parts inside) { awaited = left; owed = c.forget-2.new.self; readiness = c.forget-3.new.self }) (Forgot station ∷ history) taken) (sym c.forget.ensures)
    (agree-forgot (core_parts inside) history taken station c.forget-2.new.self c.forget-3.new.self found
    (c.forget-2.ensures (known_bytes history) (state_of history) c.self.invariant.known)
    (c.forget-3.ensures (known_bytes history) (may_hold history) (is_unplugged history) (state_of history) station (kept-right (core_parts inside) history taken c.self.invariant) at)
    c.self.invariant))
