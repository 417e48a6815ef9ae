-- The tasks of the areas whose blocks leave or move are found while one block after another is put in its area.
use Rattle.std.proofs.Common.{◌≡◌, ℕ, ◌+◌, ◌-◌, ◌*◌, ◌/◌, ◌<◌, ◌≤◌, ◌==◌, ◌&&◌, ◌||◌, Bool, true, false, cond, List, [], ◌∷◌, length, refl, sym, ap, ap₂, ◌⊎◌, inl, inr, ◌∙◌, arith}
use Rattle.std.specs.Prelude.{None, Some, Option, slice_get, slice_index_or}
use Rattle.std.specs.List.{list_any, range_with_len}
use Rattle.std.specs.Option.{option_map_or}
use Rattle.std.proofs.lemmas.Bool.{cases_lt, eqb-false, eqb-true, or_parts}
use Rattle.std.proofs.lemmas.Option.{slice_get-get_or, slice_get_past}
use Rattle.hc_records.specs.Lists.{changed_at}
use Rattle.hc_registers.specs.declared.ranked.Gone.{Gone}
use Rattle.hc_registers.specs.Ranked.{RankedBlock}
use Rattle.hc_registers.specs.RankDifferences.{block_place}
use Rattle.hc_events.specs.Ready.{is_fmmu, names_task}
use Rattle.hc_owed.specs.declared.area.JudgedArea.{JudgedArea}
use Rattle.hc_owed.specs.declared.area.Turn.TheVariants.{Left}
use Rattle.hc_owed.specs.Areas.{area_after, fmmu_moved, sync_manager_moved}
use Rattle.hc_owed.specs.ChangedTasks.{leaves_task, moves_task, own_at}
use Rattle.hc_owed.specs.Readiness.{no_area, own_set}
use Rattle.hc_owed.specs.ReadinessSteps.{area_moved, areas_left, block_moved}
use Rattle.hc_owed.specs.TaskSets.{has_task, no_task}
use Rattle.hc_owed.proofs.AreaChanges.{get-applied, get-inside, get-outside, get-unapplied, length-changed-from}
use Rattle.hc_owed.proofs.ChangedTasks.{none-pass, row-has}
use Rattle.hc_plan.proofs.lemmas.Replaced.{in-or-out}
use Rattle.hc_owed.proofs.TaskLists.{has-where}
use Rattle.hc_owed.proofs.lemmas.TaskSums.{none-set}

-- lists of areas that are in a task alike

any-alike : (t : ℕ) (a b : List JudgedArea) → ((n : ℕ) → has_task t (own_at a n) ≡ has_task t (own_at b n)) → (moved : List RankedBlock) → list_any (moves_task a t) moved ≡ list_any (moves_task b t) moved
any-alike t a b same [] = refl
any-alike t a b same (m ∷ rest) =
    ap₂ (λ (x y : Bool). x || y) (ap (λ (x : Bool). x || (is_fmmu (block_place m) && names_task t m.found.block.bytes)) (same (block_place m / 2))) (any-alike t a b same rest)

or-alike : (c x y : Bool) → (c ≡ false → x ≡ y) → (c || x) ≡ (c || y)
or-alike true x y same = refl
or-alike false x y same = same refl

own-of : (t : ℕ) (areas : List JudgedArea) (n : ℕ) (found : Option JudgedArea) → slice_get areas n ≡ found → has_task t (own_at areas n) ≡ has_task t (option_map_or (λ (area : JudgedArea). area.own) found no_task)
own-of t areas n found at = ap (λ (o : Option JudgedArea). has_task t (option_map_or (λ (area : JudgedArea). area.own) o no_task)) at

-- an area before and after one of its blocks moved

or-own : (b : Bool) → (b || b) ≡ (b || false)
or-own true = refl
or-own false = refl

both-own : (t : ℕ) (owes : Bool) (moved : RankedBlock) (was : JudgedArea) → t < 8
    → (has_task t was.own || has_task t (block_moved owes moved was).own) ≡ (has_task t was.own || (is_fmmu (block_place moved) && names_task t moved.found.block.bytes))
both-own t owes moved was low = by (is_fmmu (block_place moved))
  where
    by : (fmmu : Bool) → (has_task t was.own || has_task t (cond fmmu (fmmu_moved (own_set (Some moved.found)) owes was) (sync_manager_moved owes was)).own) ≡ (has_task t was.own || (fmmu && names_task t moved.found.block.bytes))
    by true = ap (λ (b : Bool). has_task t was.own || b) (has-where (λ task. names_task task moved.found.block.bytes) t low)
    by false = or-own (has_task t was.own)

pub own-moves : (t : ℕ) (owes : Bool) (moved : RankedBlock) (areas : List JudgedArea) (was : JudgedArea) → t < 8 → slice_get areas (block_place moved / 2) ≡ Some was
    → (has_task t was.own || has_task t (block_moved owes moved was).own) ≡ moves_task areas t moved
own-moves t owes moved areas was low at =
    both-own t owes moved was low ∙ ap (λ (b : Bool). b || (is_fmmu (block_place moved) && names_task t moved.found.block.bytes)) (sym (own-of t areas (block_place moved / 2) (Some was) at))

-- once a block moved, no other block is of a task that it was not of before, but those of the moved one

pub after-move : (t : ℕ) (flags : List Bool) (moved : RankedBlock) (areas : List JudgedArea) (rest : List RankedBlock) → t < 8 → block_place moved / 2 < length areas
    → (moves_task areas t moved || list_any (moves_task (changed_at (block_place moved / 2) (area_moved flags moved) areas) t) rest) ≡ (moves_task areas t moved || list_any (moves_task areas t) rest)
after-move t flags moved areas rest low inside =
    or-alike (moves_task areas t moved) (list_any (moves_task after t) rest) (list_any (moves_task areas t) rest) (λ none. any-alike t after areas (λ n. by none n (place == n) refl) rest)
  where
    place : ℕ
    place = block_place moved / 2

    after : List JudgedArea
    after = changed_at place (area_moved flags moved) areas

    was : JudgedArea
    was = slice_index_or areas place no_area

    at : slice_get areas place ≡ Some was
    at = slice_get-get_or areas place no_area inside

    by : moves_task areas t moved ≡ false → (n : ℕ) → (here : Bool) → (place == n) ≡ here → has_task t (own_at after n) ≡ has_task t (own_at areas n)
    by none n true same =
        let own = own-moves t _ moved areas was low at ∙ none in
        let neither = or_parts (has_task t was.own) (has_task t (area_moved flags moved was).own) own in
        ap (λ (k : ℕ). has_task t (own_at after k)) (sym (eqb-true place n same))
        ∙ own-of t after place (Some (area_moved flags moved was)) (get-applied place (area_moved flags moved) was areas at)
        ∙ neither.1 ∙ sym neither.0 ∙ sym (own-of t areas place (Some was) at)
        ∙ ap (λ (k : ℕ). has_task t (own_at areas k)) (eqb-true place n same)
    by none n false apart = own-of t after n (slice_get areas n) (get-unapplied place n (area_moved flags moved) areas (eqb-false place n apart))

-- once slaves left, no block is of a task that it was not of before, but those of the slaves that left

pub after-left : (t : ℕ) (gone : Gone) (areas : List JudgedArea) (moved : List RankedBlock) → t < 8
    → (leaves_task areas gone t || list_any (moves_task (areas_left gone areas) t) moved) ≡ (leaves_task areas gone t || list_any (moves_task areas t) moved)
after-left t gone areas moved low =
    or-alike (leaves_task areas gone t) (list_any (moves_task after t) moved) (list_any (moves_task areas t) moved) (λ none. any-alike t after areas (λ n. by none n (in-or-out from count n)) moved)
  where
    from : ℕ
    from = 8 * (gone.rank - 1)

    count : ℕ
    count = 8 * gone.slaves

    after : List JudgedArea
    after = areas_left gone areas

    none-there : (n : ℕ) → from ≤ n → n < from + count → (n < length areas) ⊎ (length areas ≤ n) → has_task t (own_at after n) ≡ false
    none-there n first last (inl inside) =
        own-of t after n (Some (area_after Left (slice_index_or areas n no_area))) (get-inside (area_after Left) from count areas n (slice_index_or areas n no_area) first last (slice_get-get_or areas n no_area inside)) ∙ none-set t low
    none-there n first last (inr over) =
        let size = length-changed-from (area_after Left) from count areas in
        own-of t after n None (slice_get_past after n (omega (arith, over, size))) ∙ none-set t low

    by : leaves_task areas gone t ≡ false → (n : ℕ) → (((from ≤ n) × (n < from + count)) ⊎ ((from ≤ n) × (n < from + count) → ⊥)) → has_task t (own_at after n) ≡ has_task t (own_at areas n)
    by none n (inl inside) =
        none-there n inside.0 inside.1 (cases_lt n (length areas)) ∙ sym (none-pass (λ i. has_task t (own_at areas i)) (range_with_len from count) n (row-has from count n inside.0 inside.1) none)
    by none n (inr out) = own-of t after n (slice_get areas n) (get-outside (area_after Left) from count areas n out)
