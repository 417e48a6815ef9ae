use Rattle.std.proofs.Common.{ℕ, subst, sym, ⊎_elim, arith, rules}
use Rattle.std.proofs.Math.Nat.{eq-or-lt_of_le}
use Rattle.hc_changes.specs.declared.ranks.Ranks.{Ranks}
use Rattle.hc_changes.specs.inner.Found.{HoldChanged, HoldRecut, IsMaybeMovedTest}
use Rattle.hc_changes.proofs.lemmas.FoundWithin.{all-within, changed-wider, recut-wider, untouched-held}
use Rattle.hc_changes.proofs.finding.MaybeMovedTest.ranks.Goals as goal
use Rattle.hc_changes.proofs.finding.MaybeMovedTest.ranks.Goals.{else-is_touched, then-is_touched}

pub loop-task-preserved : goal.loop-task-preserved
loop-task-preserved c =
    let it = c.args.self.now in
    let last = c.loop-task.task in
    let low = c.loop-task.ranks.low in
    let high = c.loop-task.ranks.high in
    let test : IsMaybeMovedTest it c.self.inside.before.now c.self.inside.cuts.now = search rules in
    elim c.if-is_touched.branch [
      | then-is_touched w ↦
          let wide = w.with_recut-ranks.result in
          let wider = w.with_recut-ranks.ensures.own in
          record {
            changed = subst (λ (ranks : Ranks). HoldChanged it ranks.low ranks.high) (sym w.ranks-is) (changed-wider it low high wide.low wide.high wider c.loop-task.invariant.changed);
            recut = λ task below.
                subst (λ (ranks : Ranks). HoldRecut it task ranks.low ranks.high) (sym w.ranks-is)
                (⊎_elim
                (λ same. subst (λ (t : ℕ). HoldRecut it t wide.low wide.high) (sym same) w.with_recut-ranks.ensures.recut)
                (λ under. recut-wider it task low high wide.low wide.high wider (c.loop-task.invariant.recut task under))
                (eq-or-lt_of_le {n = task} {m = last} (omega arith)));
          }
      | else-is_touched w ↦
          record {
            changed = subst (λ (ranks : Ranks). HoldChanged it ranks.low ranks.high) (sym w.ranks-is) c.loop-task.invariant.changed;
            recut = λ task below.
                subst (λ (ranks : Ranks). HoldRecut it task ranks.low ranks.high) (sym w.ranks-is)
                (⊎_elim
                (λ same. subst (λ (t : ℕ). HoldRecut it t low high) (sym same)
                (untouched-held it c.self.inside.before.now c.self.inside.cuts.now test last low high c.is_touched.result w.if-is_touched.false c.is_touched.ensures))
                (λ under. c.loop-task.invariant.recut task under)
                (eq-or-lt_of_le {n = task} {m = last} (omega arith)));
          }
    ]

pub returns : goal.returns
returns c =
    all-within c.args.self.now c.loop-task.ranks.low c.loop-task.ranks.high c.requires c.loop-task.invariant.changed
    (λ task below. c.loop-task.invariant.recut task (omega (arith, below, c.loop-task-test.false)))
