use Rattle.std.proofs.Common.{◌==◌, ◌∙◌, ◌≤◌, Bool, List, ap, arith, length, sym}
use Rattle.std.specs.Prelude.{find}
use Rattle.hc_sendings.specs.Waiting.{AwaitedWrite}
use Rattle.hc_sendings.proofs.InSlots.{blocks_in, found-here, found-later, slots-over}
use Rattle.hc_sendings.proofs.further_writes.find_in.Goals as goal

pub returns-in-Some-clause-blocks : goal.returns-in-Some-clause-blocks
returns-in-Some-clause-blocks c =
    let test : AwaitedWrite → Bool = λ (write : AwaitedWrite). write.serial == c.args.serial in
    found-here test c.args.writes.now c.loop-write.write-index c.write-item.result c.in-Some.blocks.now c.loop-write-test.true c.write-item.is c.in-Some.ensures.blocks
    ∙ ap blocks_in (sym c.loop-write.invariant)

pub loop-write-preserved : goal.loop-write-preserved
loop-write-preserved c =
    let test : AwaitedWrite → Bool = λ (write : AwaitedWrite). write.serial == c.args.serial in
    c.loop-write.invariant ∙ found-later test c.args.writes.now c.loop-write.write-index c.write-item.result c.loop-write-test.true c.write-item.is c.in_default.ensures.blocks

pub returns-clause-blocks : goal.returns-clause-blocks
returns-clause-blocks c =
    let test : AwaitedWrite → Bool = λ (write : AwaitedWrite). write.serial == c.args.serial in
    let over : length c.args.writes.now ≤ c.loop-write.write-index = omega (arith, c.loop-write-test.false) in
    ap (λ (writes : List AwaitedWrite). blocks_in (find test writes)) (sym (slots-over c.args.writes.now c.loop-write.write-index over)) ∙ ap blocks_in (sym c.loop-write.invariant)
