use Rattle.std.proofs.Common.{◌≡◌, ◌+◌, ℕ, length, arith, ap, subst, ◌∙◌}
use Rattle.hc_bitsum.specs.Tree.{Tree}
use Rattle.hc_cuts.specs.Widths.{IsSetTo}
use Rattle.hc_cuts.specs.LineChange.{back}
use Rattle.hc_cuts.proofs.Rows.{lines-after_it, lines-front, new-at, old-at, row-unchanged, row-within, slaves-next}
use Rattle.hc_cuts.proofs.Setting.{slaves-begin, slaves-end, slaves-was, up_to}
use Rattle.hc_cuts.proofs.WidthsApplied.{tree-holds, tree-widths}
use Rattle.hc_cuts.proofs.lemmas.Applying.{back-lines}
use Rattle.hc_cuts.proofs.widths.set_widths.Goals as goal

pub loop-i-init : goal.loop-i-init
loop-i-init c = λ old new lines is.
    let none : length lines.front ≡ length lines.front + 0 = omega arith in
    subst (λ (n : ℕ). IsSetTo c.args.cuts.now c.args.cuts.now (up_to c.args.task n old new)) none
    (slaves-begin c.args.task (length lines.front) old new c.args.cuts.now (tree-holds c.args.task old c.args.cuts.now.tree lines.old_line is)
    (tree-widths c.args.task old c.args.cuts.now.tree is) (lines-front c.args.change.now old new lines))

pub set_slave-requires-clause-last : goal.set_slave-requires-clause-last
set_slave-requires-clause-last c =
    let within = c.loop-i-test.true in
    let many = c.slaves-i-end.ensures.count in
    let r = c.requires in
    let set = c.loop-i.invariant r.old r.new r.lines r.holds in
    let slaves = set.slaves ∙ ap (λ (t : Tree). t.slaves) r.holds in
    let low = row-within c.args.change.now r.old r.new r.lines in
    omega (arith, within, slaves, low, many, c.first.ensures)

pub set_slave-requires-clause-holds : goal.set_slave-requires-clause-holds
set_slave-requires-clause-holds c =
    let r = c.requires in
    (c.loop-i.invariant r.old r.new r.lines r.holds).holds

pub set_slave-requires-clause-old : goal.set_slave-requires-clause-old
set_slave-requires-clause-old c =
    let within = c.loop-i-test.true in
    let many = c.slaves-i-end.ensures.count in
    let r = c.requires in
    let low = row-within c.args.change.now r.old r.new r.lines in
    let rank = r.lines.rank in
    row-unchanged r.old (length r.lines.front + c.loop-i.i) c.areas_before.result.now r.lines.old_line
    (old-at c.args.change.now r.old r.new r.lines c.loop-i.i c.areas_before.result.now c.areas_before.ensures (omega (arith, within, many)))
    (omega (arith, within, low, rank, many))

pub set_slave-requires-clause-new : goal.set_slave-requires-clause-new
set_slave-requires-clause-new c =
    let within = c.loop-i-test.true in
    let many = c.slaves-i-end.ensures.count in
    let r = c.requires in
    let same = r.lines.many in
    let rank = r.lines.rank in
    let low = row-within (back c.args.change.now) r.new r.old (back-lines c.args.change.now r.old r.new r.lines) in
    row-unchanged r.new (length r.lines.front + c.loop-i.i) c.areas_after.result.now r.lines.new_line
    (new-at c.args.change.now r.old r.new r.lines c.loop-i.i c.areas_after.result.now c.areas_after.ensures (omega (arith, within, many)))
    (omega (arith, within, low, rank, many, same))

pub set_slave-requires-clause-was : goal.set_slave-requires-clause-was
set_slave-requires-clause-was c key here =
    let within = c.loop-i-test.true in
    let many = c.slaves-i-end.ensures.count in
    let r = c.requires in
    let rank = r.lines.rank in
    slaves-was c.args.task (length r.lines.front + c.loop-i.i) r.old r.new c.areas_before.result.now c.args.cuts.now c.loop-i.cuts
    (old-at c.args.change.now r.old r.new r.lines c.loop-i.i c.areas_before.result.now c.areas_before.ensures (omega (arith, within, many)))
    (c.loop-i.invariant r.old r.new r.lines r.holds) key (omega (arith, here, rank, c.first.ensures))

pub loop-i-preserved : goal.loop-i-preserved
loop-i-preserved c = λ old new lines is.
    let within = c.loop-i-test.true in
    let many = c.slaves-i-end.ensures.count in
    slaves-next c.args.task c.first.result c.loop-i.i c.args.change.now old new lines c.areas_after.result.now c.args.cuts.now c.loop-i.cuts c.set_slave.new.cuts
    c.first.ensures
    (new-at c.args.change.now old new lines c.loop-i.i c.areas_after.result.now c.areas_after.ensures (omega (arith, within, many)))
    (c.loop-i.invariant old new lines is) c.set_slave.ensures

pub returns : goal.returns
returns c = λ old new lines is.
    let history = c.loop-i-test.false in
    let many = c.slaves-i-end.ensures.count in
    slaves-end c.args.task (length lines.front + c.loop-i.i) old new c.args.cuts.now c.loop-i.cuts
    (λ rank high. lines-after_it c.args.change.now old new lines rank (omega (arith, history, high, many)))
    (c.loop-i.invariant old new lines is)
