use Rattle.std.proofs.Common.{◌≡◌, ◌<◌, ◌==◌, ◌/◌, Bool, ℕ, cond, length, refl, sym, ap, ◌∙◌, arith}
use Rattle.std.specs.Prelude.{Option, false, option_map}
use Rattle.std.specs.Option.{option_map_or}
use Rattle.std.proofs.lemmas.Bool.{eq-eqb, ne_eqb}
use Rattle.std.proofs.lemmas.List.{length-map}
use Rattle.std.proofs.lemmas.Option.{slice_get_read}
use Rattle.hc_registers.specs.Blocks.{RegisterBlock}
use Rattle.hc_owed.specs.RegisterState.{RegisterState}
use Rattle.hc_owed.specs.Steps.{forgotten_at, place_is_of}
use Rattle.hc_owed.proofs.owed.Owed.forget_of.Goals as goal

pub returns-then-index-station : goal.returns-then-index-station
returns-then-index-station c =
    let items = c.self.inside.stations.items in
    let place = c.args.place in
    let now = c.args.self.now in
    let own = ap (λ (b : RegisterState). length b.known) c.self.view_is in
    let size = length-map c.self.inside.known.items (λ (known : Option RegisterBlock). option_map (λ (block : RegisterBlock). block.bytes) known) in
    let low : place / 16 < length items = omega (arith, c.requires, own, size, c.self.invariant.0) in
    let read = slice_get_read items (length items) (place / 16) c.index.result.now refl low c.index.ensures in
    let of : place_is_of c.args.station now.stations place ≡ (c.index.result.now == c.args.station) =
    ap (λ (b : RegisterState). place_is_of c.args.station b.stations place) (sym c.self.view_is) ∙ ap (λ (found : Option ℕ). option_map_or (λ (other : ℕ). other == c.args.station) found false) read in
    c.forget_at.ensures ∙ sym (ap (λ (b : Bool). cond b (forgotten_at place now) now) (of ∙ eq-eqb c.index.result.now c.args.station c.if-index-station.true))

pub returns-else-index-station : goal.returns-else-index-station
returns-else-index-station c =
    let items = c.self.inside.stations.items in
    let place = c.args.place in
    let now = c.args.self.now in
    let own = ap (λ (b : RegisterState). length b.known) c.self.view_is in
    let size = length-map c.self.inside.known.items (λ (known : Option RegisterBlock). option_map (λ (block : RegisterBlock). block.bytes) known) in
    let low : place / 16 < length items = omega (arith, c.requires, own, size, c.self.invariant.0) in
    let read = slice_get_read items (length items) (place / 16) c.index.result.now refl low c.index.ensures in
    let of : place_is_of c.args.station now.stations place ≡ (c.index.result.now == c.args.station) =
    ap (λ (b : RegisterState). place_is_of c.args.station b.stations place) (sym c.self.view_is) ∙ ap (λ (found : Option ℕ). option_map_or (λ (other : ℕ). other == c.args.station) found false) read in
    sym (ap (λ (b : Bool). cond b (forgotten_at place now) now) (of ∙ ne_eqb c.index.result.now c.args.station c.if-index-station.false))
