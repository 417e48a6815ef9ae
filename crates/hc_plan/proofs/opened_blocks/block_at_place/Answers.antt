use Rattle.std.proofs.Common.{Option, Some, ap, sym, ◌∙◌}
use Rattle.std.specs.Prelude.{option_map}
use Rattle.std.proofs.lemmas.Option.{slice_get-map}
use Rattle.std.proofs.lemmas.List.{length-map}
use Rattle.std.proofs.Common.{arith}
use Rattle.hc_records.specs.Line.{State}
use Rattle.hc_registers.specs.Blocks.{LineBlock}
use Rattle.hc_registers.specs.RankPlaces.{places}
use Rattle.hc_plan.specs.RegisterBlocks.{block_in}
use Rattle.hc_plan.proofs.lemmas.StoredBlocks.{ranked-place}
use Rattle.hc_plan.proofs.opened_blocks.block_at_place.Goals as goal

pub returns-in-Some : goal.returns-in-Some
returns-in-Some c =
    let state : State = record { groups = c.args.groups.now; epoch = 0 } in
    let size = length-map (places state) block_in in
    let at = ranked-place state c.args.place (omega (arith, c.requires.inside, size)) in
    slice_get-map block_in (places state) c.args.place ∙ ap (option_map block_in) at ∙ ap (λ (found : Option LineBlock). Some (block_in found)) (sym c.in-Some.ensures)
    ∙ ap (λ (found : LineBlock). Some (Some found.block)) (sym c.found.view_is)

pub returns-in-None : goal.returns-in-None
returns-in-None c =
    let state : State = record { groups = c.args.groups.now; epoch = 0 } in
    let size = length-map (places state) block_in in
    let at = ranked-place state c.args.place (omega (arith, c.requires.inside, size)) in
    slice_get-map block_in (places state) c.args.place ∙ ap (option_map block_in) at ∙ ap (λ (found : Option LineBlock). Some (block_in found)) (sym c.in-None.ensures)
