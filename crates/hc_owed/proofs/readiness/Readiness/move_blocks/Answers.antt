use Rattle.std.proofs.Common.{◌≡◌, ◌+◌, ◌*◌, ◌<◌, ◌||◌, Bool, List, ◌∷◌, length, drop, refl, ap, subst, sym, ◌∙◌, rules, arith}
use Rattle.std.specs.List.{list_any}
use Rattle.std.proofs.lemmas.List.{drop_all}
use Rattle.hc_registers.specs.Ranked.{RankedBlock}
use Rattle.hc_registers.specs.RankDifferences.{block_place}
use Rattle.hc_owed.specs.declared.area.JudgedArea.{JudgedArea}
use Rattle.hc_owed.specs.ChangedTasks.{moves_task}
use Rattle.hc_owed.specs.TaskSets.{has_task}
use Rattle.hc_plan.proofs.lemmas.Replaced.{length-changed}
use Rattle.hc_owed.proofs.MovedTasks.{after-move}
use Rattle.hc_plan.proofs.lemmas.Replaced.{item-cons}
use Rattle.hc_owed.proofs.lemmas.TaskSums.{more-any, none-any, whole-any}
use Rattle.hc_owed.proofs.readiness.Readiness.move_blocks.Goals as goal

pub loop-block-init : goal.loop-block-init
loop-block-init c = (refl, refl, λ task low. none-any task (list_any (moves_task c.args.self.now task) c.args.moved.now) low c.none-set.result c.none-set.ensures)

pub loop-block-preserved : goal.loop-block-preserved
loop-block-preserved c = (
  search (rules, item-cons, length-changed),
  search (rules, length-changed),
  λ task low.
      let areas = c.loop-block.self in
      let flags = c.args.owed.now.owed in
      let block = c.block-item.result in
      let rest = drop (c.loop-block.block-index + 1) c.args.moved.now in
      let size = c.loop-block.invariant.1 in
      let placed : block_place block < 2 * length c.args.self.now =
      subst (λ (m : RankedBlock). block_place m < 2 * length c.args.self.now) (sym c.block-item.is) (c.requires.areas c.loop-block.block-index block c.loop-block-test.true) in
      let split : drop c.loop-block.block-index c.args.moved.now ≡ block ∷ rest = search (rules, item-cons) in
      more-any task c.loop-block.set c.move_block.result c.with-set.result (moves_task areas task block) (list_any (moves_task c.move_block.new.self task) rest) low c.with-set.ensures (c.move_block.ensures.tasks task low)
      ∙ ap (λ (b : Bool). has_task task c.loop-block.set || b)
      (ap (λ (now : List JudgedArea). moves_task areas task block || list_any (moves_task now task) rest) c.move_block.ensures.moved
      ∙ after-move task flags block areas rest low (omega (arith, placed, size))
      ∙ sym (ap (list_any (moves_task areas task)) split))
      ∙ c.loop-block.invariant.2 task low,
)

pub returns-clause-tasks : goal.returns-clause-tasks
returns-clause-tasks c = λ task low.
    let areas = c.loop-block.self in
    whole-any task c.loop-block.set
    ∙ ap (λ (l : List RankedBlock). has_task task c.loop-block.set || list_any (moves_task areas task) l) (sym (drop_all c.loop-block.block-index c.args.moved.now c.loop-block-test.false))
    ∙ c.loop-block.invariant.2 task low
