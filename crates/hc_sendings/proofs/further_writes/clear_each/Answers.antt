use Rattle.std.proofs.Common.{◌∙◌, List, ap, set}
use Rattle.std.proofs.lemmas.List.Edits.{map_over_more}
use Rattle.hc_sendings.specs.Slots.{none_of}
use Rattle.hc_sendings.specs.Waiting.{AwaitedWrite}
use Rattle.hc_sendings.proofs.further_writes.clear_each.Goals as goal

pub loop-write-preserved : goal.loop-write-preserved
loop-write-preserved c =
    let writes = c.loop-write.writes in
    let index = c.loop-write.write-index in
    ap (λ (write : List AwaitedWrite). set writes index write) c.clear.ensures
    ∙ map_over_more none_of c.args.writes.now writes index c.write-item.result c.loop-write-test.true c.loop-write.invariant c.write-item.is
