use Rattle.std.proofs.Common.{◌∙◌, ◌≤◌, ◌||◌, drop, ap, arith, length, sym, ◌+◌}
use Rattle.std.specs.List.{list_any}
use Rattle.hc_sendings.specs.Slots.{in_slots}
use Rattle.hc_sendings.specs.Waiting.{carries_newest}
use Rattle.hc_sendings.proofs.InSlots.{any-next, slots-over}
use Rattle.hc_sendings.proofs.further_writes.any_carries.Goals as goal

pub returns-then-carries : goal.returns-then-carries
returns-then-carries c =
    let test = carries_newest c.args.station c.args.number in
    let later = list_any test (in_slots (drop (c.loop-write.write-index + 1) c.args.writes.now)) in
    sym (c.loop-write.invariant ∙ any-next test c.args.writes.now c.loop-write.write-index c.write-item.result c.loop-write-test.true c.write-item.is
    ∙ ap (λ b. b || later) (sym c.carries.ensures ∙ c.if-carries.true))

pub loop-write-preserved : goal.loop-write-preserved
loop-write-preserved c =
    let test = carries_newest c.args.station c.args.number in
    let later = list_any test (in_slots (drop (c.loop-write.write-index + 1) c.args.writes.now)) in
    c.loop-write.invariant ∙ any-next test c.args.writes.now c.loop-write.write-index c.write-item.result c.loop-write-test.true c.write-item.is
    ∙ ap (λ b. b || later) (sym c.carries.ensures ∙ c.if-carries.false)

pub returns : goal.returns
returns c =
    let test = carries_newest c.args.station c.args.number in
    let over : length c.args.writes.now ≤ c.loop-write.write-index = omega (arith, c.loop-write-test.false) in
    sym (c.loop-write.invariant ∙ ap (list_any test) (slots-over c.args.writes.now c.loop-write.write-index over))
