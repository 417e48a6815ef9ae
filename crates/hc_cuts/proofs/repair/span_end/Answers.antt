use Rattle.std.proofs.Common.{arith}
use Rattle.std.proofs.Common.{◌≡◌, false, refl, sym, ◌∙◌}
use Rattle.hc_cuts.proofs.Repaired.{begins-apart, firsts, unchanged-next, unchanged-settled, met-unsettled, new-unsettled, settles}
use Rattle.hc_cuts.proofs.repair.span_end.Goals as goal
use Rattle.hc_cuts.proofs.repair.span_end.Goals.{in-Some+else-not-meets_either, in_default}

pub returns-then-not-meets_either-clause-next : goal.returns-then-not-meets_either-clause-next
returns-then-not-meets_either-clause-next g c = grind (arith, unchanged-next, firsts)

pub returns-then-not-meets_either-clause-searched : goal.returns-then-not-meets_either-clause-searched
returns-then-not-meets_either-clause-searched g c = grind (arith, unchanged-settled, firsts)

pub returns-clause-searched : goal.returns-clause-searched
returns-clause-searched g c =
    let were = c.requires.were in
    let answer : settles c.args.hulls.now c.args.old.now (c.args.from, c.next_cut.result) ≡ false =
    elim c.match-following.branch [
      | in-Some+else-not-meets_either w ↦
          met-unsettled c.args.hulls.now were.before c.args.task.now.list c.args.old.now c.args.from c.next_cut.result w.in-Some.next were.list
          c.requires.holds.list were.inside (firsts were.before c.args.old.now were.keys) (sym w.in-Some.ensures)
          (sym w.meets_either.ensures ∙ w.if-not-meets_either.false) c.next_cut.ensures.key
      | in_default w ↦
          new-unsettled c.args.hulls.now were.before c.args.old.now c.args.from c.next_cut.result (firsts were.before c.args.old.now were.keys)
          (begins-apart c.args.task.now.slaves c.args.from c.requires.begins) (sym w.in_default.ensures)
    ] in
    rw answer refl
