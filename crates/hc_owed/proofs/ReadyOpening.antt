-- The state of the areas is right at the opening.
use Rattle.std.proofs.Common.{◌≡◌, ℕ, ◌+◌, ◌*◌, ◌/◌, ◌%◌, ◌<◌, false, length, refl, sym, ap, ap₂, ◌∙◌, arith}
use Rattle.std.specs.Prelude.{None, Some, Option, is_some}
use Rattle.hc_records.specs.declared.records.Slave.{Slave}
use Rattle.hc_records.specs.Line.{State, groups_of, line}
use Rattle.hc_records.specs.Project.{lowest_fault}
use Rattle.hc_registers.specs.Blocks.{LineBlock}
use Rattle.hc_registers.specs.RankPlaces.{places}
use Rattle.hc_plan.specs.Configuration.{block_of_rank}
use Rattle.hc_events.specs.Holding.{unknown_register}
use Rattle.hc_events.specs.Ready.{names_among}
use Rattle.hc_owed.specs.declared.area.JudgedArea.{JudgedArea}
use Rattle.hc_owed.specs.declared.area.OwedPair.TheVariants.{Both, Neither}
use Rattle.hc_owed.specs.declared.area.RegisterStatus.TheVariants.{Outside, Unknown}
use Rattle.hc_owed.specs.declared.task_set.TaskSet.{TaskSet}
use Rattle.hc_owed.specs.Readiness.{area_slave, held_set, judged_at, no_area, none_unplugged, own_set, slot, unknown_registers}
use Rattle.hc_owed.specs.RegisterState.{nothing_known, owed_in}
use Rattle.hc_owed.specs.TaskSets.{no_task}
use Rattle.hc_owed.proofs.AreaPlaces.{of-area, slot-at, slot-is}
use Rattle.hc_owed.proofs.JudgedAreas.{area_from, area_of, judged-none, judged-some}
use Rattle.hc_plan.proofs.lemmas.StoredBlocks.{ranked-place}
use Rattle.hc_owed.proofs.ReadyTurns.{both-blocks}
use Rattle.hc_owed.proofs.TaskLists.{same-where}

pub unknown-none : held_set unknown_register ≡ no_task
unknown-none = same-where (λ (t : ℕ). names_among t unknown_register) (λ (t : ℕ). false) (λ t low. refl)

owes : (found : Option LineBlock) → owed_in nothing_known found ≡ is_some found
owes None = refl
owes (Some block) = refl

-- the state of an area with or without blocks
abbrev opened : Option LineBlock → JudgedArea
opened None = no_area
opened (Some block) = area_from (own_set (Some block)) no_task Both Unknown

opened-some : (first second : Option LineBlock) → is_some first ≡ is_some second → area_of (owed_in nothing_known first) (owed_in nothing_known second) second unknown_register false ≡ opened second
opened-some None None same = ap (λ (s : TaskSet). area_from no_task s Neither Outside) unknown-none
opened-some (Some a) (Some b) same = ap (λ (s : TaskSet). area_from (own_set (Some b)) s Both Unknown) unknown-none
opened-some None (Some b) same = cc
opened-some (Some a) None same = cc

pub opened-is : (state : State) (n : ℕ) (found : Option LineBlock) → lowest_fault (groups_of state.groups) ≡ None → 2 * n + 1 < length (places state) → found ≡ block_of_rank (line state) (n / 8 + 1) (2 * (n % 8) + 1)
    → judged_at nothing_known unknown_registers none_unplugged state n ≡ opened found
opened-is state n found project low is = by found here (area_slave state n) refl
  where
    here : slot state (2 * n + 1) ≡ found
    here =
        let rank : (2 * n + 1) / 16 + 1 ≡ n / 8 + 1 = omega arith in
        let number : (2 * n + 1) % 16 ≡ 2 * (n % 8) + 1 = omega arith in
        slot-is state (2 * n + 1) (block_of_rank (line state) ((2 * n + 1) / 16 + 1) ((2 * n + 1) % 16)) (ranked-place state (2 * n + 1) low)
        ∙ ap₂ (block_of_rank (line state)) rank number ∙ sym is

    by : (found : Option LineBlock) → slot state (2 * n + 1) ≡ found → (slave : Option Slave) → area_slave state n ≡ slave → judged_at nothing_known unknown_registers none_unplugged state n ≡ opened found
    by None at None area = judged-none nothing_known unknown_registers none_unplugged state n area
    by (Some block) at None area =
        let half : (2 * n + 1) / 2 ≡ n = omega arith in
        let own = of-area state (2 * n + 1) block (slot-at state (2 * n + 1) block at) in
        let never : None ≡ Some own.slave = sym area ∙ ap (area_slave state) (sym half) ∙ own.area in cc
    by found at (Some slave) area =
        judged-some nothing_known unknown_registers none_unplugged state n slave area
        ∙ opened-some (slot state (2 * n)) (slot state (2 * n + 1)) (both-blocks state n slave project area) ∙ ap opened at
