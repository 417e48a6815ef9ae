use Rattle.std.proofs.Common.{◌∙◌, ◌==◌, ℕ, Some, sym, ap, subst}
use Rattle.std.specs.Prelude.{option_map, slice_get}
use Rattle.hc_records.specs.declared.records.Slave.{Slave}
use Rattle.hc_records.specs.Line.{Member}
use Rattle.hc_registers.specs.Blocks.{LineBlock, RegisterBlock}
use Rattle.hc_plan.specs.inner.Blocks.{IsMappedSlave, slave_blocks_in}
use Rattle.hc_plan.proofs.LineBlocks.{found-mapped, found-ranked, same-member}
use Rattle.hc_plan.proofs.opened_blocks.made_block.Goals as goal

abbrev of_slave : ℕ → ℕ → RegisterBlock → LineBlock
of_slave station number block = record { station = station; number = number; block = block }

pub slave_block-requires : goal.slave_block-requires
slave_block-requires c = record {
  mapped = subst (IsMappedSlave c.args.layout.now) (same-member c.rank.result c.slave.result.now c.in_ok-slave.slave c.rank.ensures c.slave.ensures)
      (found-mapped c.args.groups.now c.args.layout.now (λ m. m.rank == c.args.rank) c.in_ok-slave.slave c.requires.layout (sym c.in_ok-slave.ensures));
}

pub returns-in_err-block : goal.returns-in_err-block
returns-in_err-block c =
    let member = c.in_ok-slave.slave in
    let same = same-member c.rank.result c.slave.result.now member c.rank.ensures c.slave.ensures in
    c.from_residual-in_err-block.ensures
    ∙ sym (found-ranked c.args.groups.now c.args.layout.now c.args.rank c.args.number member c.requires.layout (sym c.in_ok-slave.ensures)
    ∙ ap (option_map (of_slave member.slave.station c.args.number)) (ap (λ (m : Member). slice_get (slave_blocks_in c.args.layout.now m) c.args.number) same ∙ sym c.in_err-block.ensures))

pub returns : goal.returns
returns c =
    let member = c.in_ok-slave.slave in
    let same = same-member c.rank.result c.slave.result.now member c.rank.ensures c.slave.ensures in
    sym (found-ranked c.args.groups.now c.args.layout.now c.args.rank c.args.number member c.requires.layout (sym c.in_ok-slave.ensures)
    ∙ ap (option_map (of_slave member.slave.station c.args.number)) (ap (λ (m : Member). slice_get (slave_blocks_in c.args.layout.now m) c.args.number) same ∙ sym c.in_ok-block.ensures)
    ∙ ap (λ (slave : Slave). Some (of_slave slave.station c.args.number c.in_ok-block.block)) (sym c.slave-2.ensures))
