use Rattle.std.proofs.Common.{◌≡◌, ℕ, ◌/◌, ◌||◌, Bool, false, List, Some, Option, sym, ap, ◌∙◌}
use Rattle.std.specs.Prelude.{slice_get, unwrap_or}
use Rattle.hc_records.specs.Lists.{changed_at}
use Rattle.hc_registers.specs.Ranked.{RankedBlock}
use Rattle.hc_registers.specs.RankDifferences.{block_place}
use Rattle.hc_owed.specs.declared.area.JudgedArea.{JudgedArea}
use Rattle.hc_owed.specs.ReadinessSteps.{area_moved, block_moved}
use Rattle.hc_owed.specs.TaskSets.{has_task}
use Rattle.hc_owed.proofs.AreaPlaces.{changed-by}
use Rattle.hc_owed.proofs.MovedTasks.{own-moves}
use Rattle.hc_owed.proofs.lemmas.TaskSums.{either-has}
use Rattle.hc_owed.proofs.readiness.Readiness.move_block.Goals as goal

-- the flag of the block, and its area
flag : (flags : List Bool) (n m : ℕ) (owes : Bool) → n ≡ m → slice_get flags n ≡ Some owes → unwrap_or (slice_get flags m) false ≡ owes
flag flags n m owes same at = ap (λ (o : Option Bool). unwrap_or o false) (ap (slice_get flags) (sym same) ∙ at)

placed : (areas : List JudgedArea) (owed : List Bool) (moved : RankedBlock) (n : ℕ) (area now : JudgedArea) → n ≡ block_place moved → slice_get areas (n / 2) ≡ Some area → now ≡ area_moved owed moved area
    → changed_at (n / 2) (λ _. now) areas ≡ changed_at (block_place moved / 2) (area_moved owed moved) areas
placed areas owed moved n area now place at is =
    ap (λ (a : JudgedArea). changed_at (n / 2) (λ _. a) areas) is ∙ changed-by (area_moved owed moved) areas (n / 2) area at ∙ ap (λ (k : ℕ). changed_at (k / 2) (area_moved owed moved) areas) place

pub returns-clause-moved : goal.returns-clause-moved
returns-clause-moved c =
    let moved = c.args.moved.now in
    let area = c.area-was.result in
    let owes = c.is_owed-owes.result in
    c.set_area.ensures
    ∙ placed c.args.self.now c.args.owed.now.owed moved c.place-place.result area c.moved_area-now.result c.place-place.ensures c.area-was.ensures
    (c.moved_area-now.ensures
    ∙ ap (λ (t : Bool). block_moved t moved area) (sym (flag c.args.owed.now.owed c.place-place.result (block_place moved) owes c.place-place.ensures c.is_owed-owes.ensures)))

pub returns-clause-tasks : goal.returns-clause-tasks
returns-clause-tasks c = λ task low.
    let moved = c.args.moved.now in
    let was = c.area-was.result in
    either-has task was.own c.moved_area-now.result.own c.with.result low c.with.ensures
    ∙ ap (λ (now : JudgedArea). has_task task was.own || has_task task now.own) c.moved_area-now.ensures
    ∙ own-moves task c.is_owed-owes.result moved c.args.self.now was low (ap (λ (k : ℕ). slice_get c.args.self.now (k / 2)) (sym c.place-place.ensures) ∙ c.area-was.ensures)
