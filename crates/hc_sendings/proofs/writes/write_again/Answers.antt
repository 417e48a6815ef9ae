use Rattle.std.proofs.Common.{◌∙◌, ◌<◌, ap, arith, length, map, set}
use Rattle.std.proofs.lemmas.List.{get_or_default}
use Rattle.std.proofs.lemmas.List.Edits.{map_over_more}
use Rattle.hc_sendings.specs.declared.writes.AwaitedBlock.{AwaitedBlock}
use Rattle.hc_sendings.specs.Waiting.{awaited_block, written_again}
use Rattle.hc_sendings.proofs.writes.write_again.Goals as goal

pub loop-block-preserved : goal.loop-block-preserved
loop-block-preserved c =
    let blocks = c.loop-block.blocks in
    let index = c.loop-block.block-index in
    let same = c.loop-block.auto.blocks in
    let within : index < length blocks = omega (arith, same, c.loop-block-test.true) in
    ap (λ (block : AwaitedBlock). set blocks index block) c.written_again.ensures
    ∙ map_over_more (written_again (map awaited_block c.args.again.now)) c.args.blocks.now blocks index _ c.loop-block-test.true c.loop-block.invariant (get_or_default blocks index _ _ within)
