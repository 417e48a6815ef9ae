use Rattle.std.proofs.Common.{◌≡◌, ◌+◌, ℕ, length, arith, sym, subst}
use Rattle.hc_cuts.specs.Hulls.{AreHulls}
use Rattle.hc_cuts.specs.declared.hulls.Hulls.{Hulls}
use Rattle.hc_cuts.specs.LineChange.{back}
use Rattle.hc_cuts.proofs.Rows.{lines-after_it, lines-front, new-at, old-at, ranks-next, row-unchanged, row-within}
use Rattle.hc_cuts.proofs.Taking.{ranks-begin, ranks-end, up_to_rank}
use Rattle.hc_cuts.proofs.WidthsApplied.{touched-hulls}
use Rattle.hc_cuts.proofs.lemmas.Applying.{back-lines}
use Rattle.hc_cuts.proofs.touched.touched_hulls.Goals as goal

pub loop-i-init : goal.loop-i-init
loop-i-init c = λ old new lines.
    let none : length lines.front ≡ length lines.front + 0 = omega arith in
    subst (λ (n : ℕ). AreHulls (up_to_rank c.args.task n old new) c.none-hulls.result) none
    (subst (λ (hulls : Hulls). AreHulls (up_to_rank c.args.task (length lines.front) old new) hulls) (sym c.none-hulls.ensures)
    (ranks-begin c.args.task (length lines.front) old new (lines-front c.args.change.now old new lines)))

pub touch_slave-requires-clause-old : goal.touch_slave-requires-clause-old
touch_slave-requires-clause-old c =
    let within = c.loop-i-test.true in
    let many = c.slaves-i-end.ensures.count in
    let r = c.requires in
    let low = row-within c.args.change.now r.old r.new r.lines in
    let rank = r.lines.rank in
    row-unchanged r.old (length r.lines.front + c.loop-i.i) c.areas_before.result.now r.lines.old_line
    (old-at c.args.change.now r.old r.new r.lines c.loop-i.i c.areas_before.result.now c.areas_before.ensures (omega (arith, within, many)))
    (omega (arith, within, low, rank, many))

pub touch_slave-requires-clause-new : goal.touch_slave-requires-clause-new
touch_slave-requires-clause-new c =
    let within = c.loop-i-test.true in
    let many = c.slaves-i-end.ensures.count in
    let r = c.requires in
    let same = r.lines.many in
    let rank = r.lines.rank in
    let low = row-within (back c.args.change.now) r.new r.old (back-lines c.args.change.now r.old r.new r.lines) in
    row-unchanged r.new (length r.lines.front + c.loop-i.i) c.areas_after.result.now r.lines.new_line
    (new-at c.args.change.now r.old r.new r.lines c.loop-i.i c.areas_after.result.now c.areas_after.ensures (omega (arith, within, many)))
    (omega (arith, within, low, rank, many, same))

pub loop-i-preserved : goal.loop-i-preserved
loop-i-preserved c = λ old new lines.
    let within = c.loop-i-test.true in
    let many = c.slaves-i-end.ensures.count in
    ranks-next c.args.task c.first.result c.loop-i.i c.args.change.now old new lines c.areas_before.result.now c.areas_after.result.now c.loop-i.hulls c.touch_slave.new.hulls
    c.first.ensures
    (old-at c.args.change.now old new lines c.loop-i.i c.areas_before.result.now c.areas_before.ensures (omega (arith, within, many)))
    (new-at c.args.change.now old new lines c.loop-i.i c.areas_after.result.now c.areas_after.ensures (omega (arith, within, many)))
    (c.loop-i.invariant old new lines) c.touch_slave.ensures

pub returns : goal.returns
returns c = λ old new lines.
    let history = c.loop-i-test.false in
    let many = c.slaves-i-end.ensures.count in
    touched-hulls c.args.task old new c.loop-i.hulls
    (ranks-end c.args.task (length lines.front + c.loop-i.i) old new c.loop-i.hulls
    (λ rank high. lines-after_it c.args.change.now old new lines rank (omega (arith, history, high, many)))
    (c.loop-i.invariant old new lines))
