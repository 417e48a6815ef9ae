use Rattle.std.proofs.Common.{arith, rules}
use Rattle.hc_cuts.specs.Areas.{areas_by_rank}
use Rattle.hc_changes.proofs.Loading.{adds-none, adds-some, all-loaded}
use Rattle.hc_changes.proofs.lemmas.Tables.{old-table}
use Rattle.hc_changes.proofs.tables.new_table.Goals as goal
use Rattle.hc_changes.proofs.tables.new_table.Goals.{then-datagram_use-gt0, else-datagram_use-gt0}

pub loop-number-preserved : goal.loop-number-preserved
loop-number-preserved c =
    let old = c.args.old.now in
    let known = c.args.before.now in
    let trees = c.args.cuts.now in
    let number = c.loop-number.number in
    let datagram_use = c.in_ok-datagram_use.datagram_use in
    elim c.if-datagram_use-gt0.branch [
      | then-datagram_use-gt0 w ↦
          rw (w.table-is, w.add.ensures)
          (adds-some old known trees c.args.task number c.loop-number.table datagram_use c.loop-number.invariant c.in_ok-datagram_use.ensures.value c.in_ok-datagram_use.ensures.low
          (omega (arith, w.if-datagram_use-gt0.true)))
      | else-datagram_use-gt0 w ↦
          rw w.table-is
          (adds-none old known trees c.args.task number c.loop-number.table datagram_use c.loop-number.invariant c.in_ok-datagram_use.ensures.value (omega (arith, w.if-datagram_use-gt0.false)))
    ]

pub returns : goal.returns
returns c before after edited =
    all-loaded after c.args.task c.loop-number.number c.starts-number-end.result.now c.loop-number.table edited.line.project (c.starts-number-end.ensures.starts (areas_by_rank after) edited.line.of_groups)
    (omega (arith, c.loop-number-test.false)) (c.loop-number.invariant.are_placed before after edited)

-- no width differs in the task
pub returns-then-not-is_touched : goal.returns-then-not-is_touched
returns-then-not-is_touched c before after edited = search (rules, old-table)
