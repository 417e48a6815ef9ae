use Rattle.std.proofs.Common.{◌≡◌, ℕ, ◌+◌, ◌-◌, ◌*◌, ◌/◌, ◌<◌, ◌||◌, Bool, List, length, sym, ap, ap₂, subst, ◌∙◌, arith}
use Rattle.std.specs.Prelude.{All}
use Rattle.std.specs.List.{list_any}
use Rattle.hc_registers.specs.RankDifferences.{block_place}
use Rattle.hc_registers.specs.RankPlaces.{stations}
use Rattle.hc_owed.specs.declared.area.JudgedArea.{JudgedArea}
use Rattle.hc_owed.specs.declared.area.Turn.TheVariants.{Left}
use Rattle.hc_owed.specs.Areas.{area_after}
use Rattle.hc_owed.specs.ChangedTasks.{moves_task}
use Rattle.hc_owed.specs.ReadinessSteps.{areas_left, areas_moved, changed_from}
use Rattle.hc_owed.proofs.AreaChanges.{length-changed-from}
use Rattle.hc_owed.proofs.ChangedTasks.{changed-blocks}
use Rattle.hc_owed.proofs.MovedTasks.{after-left}
use Rattle.hc_owed.proofs.ReadyChanging.{areas-size, change-right, gone-low, moved-low, owed-size}
use Rattle.hc_owed.proofs.lemmas.TaskSums.{either-has}
use Rattle.hc_owed.proofs.readiness.Readiness.change.Goals as goal

pub turn-requires-clause-inside : goal.turn-requires-clause-inside
turn-requires-clause-inside c =
    let size = areas-size c.args.self.now c.args.owed.now c.args.gone c.args.moved.now c.requires in
    let low = gone-low c.args.self.now c.args.owed.now c.args.gone c.args.moved.now c.requires in
    omega (arith, size, low, c.first_place-from.ensures, c.from.ensures)

pub move_blocks-requires-clause-areas : goal.move_blocks-requires-clause-areas
move_blocks-requires-clause-areas c =
    let size = areas-size c.args.self.now c.args.owed.now c.args.gone c.args.moved.now c.requires in
    let start = c.first_place-from.result / 2 in
    let left = ap length c.turn.ensures ∙ length-changed-from (area_after Left) start (start + 8 * c.from.result - start) c.args.self.now in
    let all : 16 * length (stations c.requires.old) ≡ 2 * length c.turn.new.self = omega (arith, size, left) in
    subst (λ (n : ℕ). All (λ m. block_place m < n) c.args.moved.now) all (moved-low c.args.self.now c.args.owed.now c.args.gone c.args.moved.now c.requires)

pub move_blocks-requires-clause-owed : goal.move_blocks-requires-clause-owed
move_blocks-requires-clause-owed c =
    let size = owed-size c.args.self.now c.args.owed.now c.args.gone c.args.moved.now c.requires in
    subst (λ (n : ℕ). All (λ m. block_place m < n) c.args.moved.now) (sym size) (moved-low c.args.self.now c.args.owed.now c.args.gone c.args.moved.now c.requires)

pub tasks_left-left-requires : goal.tasks_left-left-requires
tasks_left-left-requires c = c.requires.differ.rank

pub returns-clause-areas : goal.returns-clause-areas
returns-clause-areas c = λ is.
    let start = c.first_place-from.result / 2 in
    let first : start ≡ 8 * (c.args.gone.rank - 1) = omega (arith, c.first_place-from.ensures) in
    let count : start + 8 * c.from.result - start ≡ 8 * c.args.gone.slaves = omega (arith, c.from.ensures) in
    c.move_blocks.ensures.moved
    ∙ ap (areas_moved c.args.owed.now.owed c.args.moved.now)
    (c.turn.ensures ∙ ap (λ (k : ℕ). changed_from (area_after Left) start k c.args.self.now) count
    ∙ ap (λ (k : ℕ). changed_from (area_after Left) k (8 * c.args.gone.slaves) c.args.self.now) first
    ∙ ap (λ (l : List JudgedArea). areas_left c.args.gone l) is.right.right)
    ∙ change-right c.args.self.now c.args.owed.now c.args.gone c.args.moved.now is

pub returns-clause-tasks : goal.returns-clause-tasks
returns-clause-tasks c = λ is task low.
    let areas = c.args.self.now in
    let gone = c.args.gone in
    let moved = c.args.moved.now in
    let start = c.first_place-from.result / 2 in
    let first : start ≡ 8 * (gone.rank - 1) = omega (arith, c.first_place-from.ensures) in
    let count : start + 8 * c.from.result - start ≡ 8 * gone.slaves = omega (arith, c.from.ensures) in
    let left : c.turn.new.self ≡ areas_left gone areas =
    c.turn.ensures ∙ ap (λ (k : ℕ). changed_from (area_after Left) start k areas) count ∙ ap (λ (k : ℕ). changed_from (area_after Left) k (8 * gone.slaves) areas) first in
    either-has task c.tasks_left-left.result c.move_blocks.result c.with.result low c.with.ensures
    ∙ ap₂ (λ (a b : Bool). a || b) (c.tasks_left-left.ensures task low) (c.move_blocks.ensures.tasks task low ∙ ap (λ (l : List JudgedArea). list_any (moves_task l task) moved) left)
    ∙ after-left task gone areas moved low
    ∙ changed-blocks areas gone moved is task low
