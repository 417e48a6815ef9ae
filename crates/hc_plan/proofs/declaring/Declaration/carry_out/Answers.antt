use Rattle.std.proofs.Common.{◌∙◌, ◌*◌, ◌++◌, ℕ, List, None, Option, ap, arith, length, replicate, subst, sym}
use Rattle.hc_records.specs.declared.records.Declared.{Declared}
use Rattle.hc_records.proofs.lemmas.Declaring.{declared-keep}
use Rattle.hc_groups.specs.Index.{IsIndexOf}
use Rattle.hc_groups.specs.Room.{IndexCanAdmit}
use Rattle.hc_cuts.specs.Areas.{areas_by_rank}
use Rattle.hc_cuts.specs.TaskCuts.{line_cuts}
use Rattle.hc_cuts.proofs.lemmas.Absent.{ranks-absent}
use Rattle.hc_registers.specs.Blocks.{RegisterBlock}
use Rattle.hc_plan.specs.RegisterBlocks.{blocks_by_rank}
use Rattle.hc_plan.proofs.BlocksEdited.{declared-blocks}
use Rattle.hc_plan.proofs.declaring.Declaration.carry_out.Goals as goal

pub admit-requires : goal.admit-requires
admit-requires c =
    let groups = c.args.groups.now in
    let ready = c.requires.ready in
    record { groups = groups; is = c.requires.index; project = declared-keep groups c.args.self.group ready.project ready.free; fits = ready.index }

pub returns-clause-index : goal.returns-clause-index
returns-clause-index c =
    let groups = c.args.groups.now in
    let ready = c.requires.ready in
    let can : IndexCanAdmit c.args.index.now c.args.self.group c.args.self.index =
    record { groups = groups; is = c.requires.index; project = declared-keep groups c.args.self.group ready.project ready.free; fits = ready.index } in
    subst (λ (g : List Declared). IsIndexOf g c.admit.new.self) (sym c.push_into.ensures) (c.admit.ensures can)

pub returns-clause-cuts : goal.returns-clause-cuts
returns-clause-cuts c =
    let groups = c.args.groups.now in
    let group = c.args.self.group in
    c.put_trees.ensures (areas_by_rank groups) (length group.slaves) c.requires.cuts c.requires.ready.slaves
    ∙ ap line_cuts (sym (ranks-absent groups group))
    ∙ ap (λ (g : List Declared). line_cuts (areas_by_rank g)) (sym c.push_into.ensures)

pub admit-requires-2-clause-room : goal.admit-requires-2-clause-room
admit-requires-2-clause-room c =
    let size = ap length c.requires.blocks in
    let room = c.requires.ready.blocks in
    omega (arith, size, room, c.len.ensures)

pub returns-clause-blocks : goal.returns-clause-blocks
returns-clause-blocks c =
    let groups = c.args.groups.now in
    let group = c.args.self.group in
    c.admit-2.ensures
    ∙ ap (λ (l : List (Option RegisterBlock)). l ++ replicate (16 * c.len.result) None) c.requires.blocks
    ∙ ap (λ (n : ℕ). blocks_by_rank groups ++ replicate (16 * n) None) c.len.ensures
    ∙ sym (declared-blocks groups group)
    ∙ ap blocks_by_rank (sym c.push_into.ensures)
