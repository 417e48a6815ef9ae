use Rattle.std.proofs.Common.{◌≡◌, ◌<◌, ◌/◌, ◌%◌, ℕ, None, Some, Option, length, refl, sym, ap, ◌∙◌, arith}
use Rattle.std.specs.Prelude.{option_map, slice_get}
use Rattle.std.proofs.lemmas.List.{length-map}
use Rattle.std.proofs.lemmas.Option.{same_Some, slice_get_read}
use Rattle.hc_registers.specs.Blocks.{LineBlock, RegisterBlock}
use Rattle.hc_plan.proofs.lemmas.PlaceNames.{name-at}
use Rattle.hc_records.specs.Line.{State}
use Rattle.hc_plan.specs.RegisterBlocks.{blocks_by_rank, has_at}
use Rattle.hc_plan.proofs.lemmas.StoredBlocks.{has-block}
use Rattle.hc_owed.specs.RegisterState.{RegisterState}
use Rattle.hc_owed.specs.declared.owed.OwedBlock.{OwedBlock}
use Rattle.hc_owed.proofs.owed.Owed.found_at.Goals as goal

pub returns-in_err-block : goal.returns-in_err-block
returns-in_err-block c = λ known state block same is.
    let no : None ≡ Some block.block = c.in_err-block.ensures ∙ ap (λ (s : State). has_at (blocks_by_rank s.groups) c.args.place) same ∙ has-block state c.args.place block is.is_placed in cc

pub returns : goal.returns
returns c = λ known state block plan is.
    let place = c.args.place in
    let same : Some c.in_ok-block.block ≡ Some block.block = c.in_ok-block.ensures ∙ ap (λ (s : State). has_at (blocks_by_rank s.groups) place) plan ∙ has-block state place block is.is_placed in
    let name = name-at state place block is.is_placed in
    let items = c.self.inside.stations.items in
    let known = ap (λ (b : RegisterState). length b.known) c.self.view_is in
    let size = length-map c.self.inside.known.items (λ (known : Option RegisterBlock). option_map (λ (block : RegisterBlock). block.bytes) known) in
    let low : place / 16 < length items = omega (arith, c.requires, known, size, c.self.invariant.0) in
    let read = slice_get_read items (length items) (place / 16) c.index-station.result.now refl low c.index-station.ensures in
    let stations = ap (λ (b : RegisterState). slice_get b.stations (place / 16)) (c.self.view_is ∙ is.right) in
    let station = same_Some c.index-station.result.now block.station (sym read ∙ stations ∙ name.station) in
    let whole : LineBlock → Option OwedBlock = λ found. Some (record { place = place; block = found }) in
    ap (λ (n : ℕ). whole (record { station = n; number = place % 16; block = c.in_ok-block.block })) station
    ∙ ap (λ (n : ℕ). whole (record { station = block.station; number = n; block = c.in_ok-block.block })) (sym name.number)
    ∙ ap (λ (b : RegisterBlock). whole (record { station = block.station; number = block.number; block = b })) (same_Some c.in_ok-block.block block.block same)

pub overflow_cast-result : goal.overflow_cast-result
overflow_cast-result c =
    let known = ap (λ (b : RegisterState). length b.known) c.self.view_is in
    let size = length-map c.self.inside.known.items (λ (known : Option RegisterBlock). option_map (λ (block : RegisterBlock). block.bytes) known) in
    omega (arith, c.requires, known, size, c.self.invariant.0, c.self.invariant.2)
