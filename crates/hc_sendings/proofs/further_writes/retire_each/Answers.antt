use Rattle.std.proofs.Common.{◌∙◌, ◌<◌, List, ap, arith, length, map, set}
use Rattle.std.proofs.lemmas.List.{get_or_default}
use Rattle.std.proofs.lemmas.List.Edits.{map_over_more}
use Rattle.hc_sendings.specs.Waiting.{awaited_block, left_after}
use Rattle.hc_sendings.specs.Waiting.{AwaitedWrite}
use Rattle.hc_sendings.proofs.further_writes.retire_each.Goals as goal

pub loop-write-preserved : goal.loop-write-preserved
loop-write-preserved c =
    let writes = c.loop-write.writes in
    let index = c.loop-write.write-index in
    let same = c.loop-write.auto.writes in
    let within : index < length writes = omega (arith, same, c.loop-write-test.true) in
    ap (λ (write : List AwaitedWrite). set writes index write) c.retire.ensures
    ∙ map_over_more (left_after (map awaited_block c.args.again.now) c.args.is_over) c.args.writes.now writes index _ c.loop-write-test.true c.loop-write.invariant (get_or_default writes index _ _ within)
