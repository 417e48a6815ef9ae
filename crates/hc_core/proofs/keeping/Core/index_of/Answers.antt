use Rattle.std.proofs.Common.{◌≡◌, ◌∙◌, ◌==◌, ℕ, List, Option, Some, true, ap, false, is_some, position, slice_get, subst, sym}
use Rattle.hc_records.specs.Edits.{is_declared_station}
use Rattle.hc_registers.specs.RankPlaces.{stations}
use Rattle.hc_owed.specs.RegisterState.{RegisterState}
use Rattle.hc_events.specs.Points.{state_of}
use Rattle.hc_core.specs.Records.{history_read}
use Rattle.hc_core.specs.State.{CoreState}
use Rattle.hc_core.proofs.Indices.{index-at, index-some}
use Rattle.hc_core.proofs.keeping.Core.index_of.Goals as goal

pub unreachable-requires : goal.unreachable-requires
unreachable-requires c =
    let history = history_read c.self.inside.history in
    let station = c.args.station in
    let own = ap (λ (registers : RegisterState). registers.stations) c.self.invariant.known in
    let declared : is_declared_station (state_of history) station ≡ true = subst (λ (core : CoreState). is_declared_station (state_of core.history) station ≡ true) (sym c.self.view_is) c.requires in
    let never : false ≡ true = ap (λ (found : Option ℕ). is_some found) (sym c.in_default.is ∙ c.index_of.ensures.index ∙ ap (λ (all : List ℕ). position (λ other. other == station) all) own) ∙ index-some (state_of history) station declared in
    cc

pub returns : goal.returns
returns c =
    let history = history_read c.self.inside.history in
    let station = c.args.station in
    let own = ap (λ (registers : RegisterState). registers.stations) c.self.invariant.known in
    subst (λ (core : CoreState). slice_get (stations (state_of core.history)) c.in-Some.index ≡ Some station) c.self.view_is
    (index-at (stations (state_of history)) station c.in-Some.index (ap (λ (all : List ℕ). position (λ other. other == station) all) (sym own) ∙ sym c.index_of.ensures.index ∙ c.in-Some.is))
