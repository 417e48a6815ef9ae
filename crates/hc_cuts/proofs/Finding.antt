-- Cursors of the tasks of a line, one of them moved.
use Rattle.std.specs.Prelude.{All, slice_index_or, slice_set}
use Rattle.std.proofs.Common.{◌≡◌, ◌≢◌, ℕ, ◌<◌, ◌==◌, Bool, true, false, List, [], ◌∷◌, ◌++◌, length, refl, sym, ap, subst, ◌∙◌, arith, replicate, get_or-set_other}
use Rattle.std.proofs.lemmas.Bool.Decides.{nat_tests}
use Rattle.std.proofs.lemmas.Grind.{get_or-set_at}
use Rattle.std.proofs.lemmas.List.{get_or_default, get_or-replicate}
use Rattle.hc_records.specs.declared.keys.Key.{Key}
use Rattle.hc_records.specs.TaskList.{Keyed}
use Rattle.hc_records.specs.declared.keys.TheConstants.Key.{END}
use Rattle.hc_records.specs.Boundaries.{boundaries}
use Rattle.hc_cuts.specs.declared.cursor.Cursor.{Cursor}
use Rattle.hc_cuts.specs.Cursors.{IsCursorOf}
use Rattle.hc_cuts.specs.Starts.{TaskCuts}
use Rattle.hc_cuts.specs.LineCursors.{AreInTasks}
use Rattle.hc_cuts.specs.TaskCuts.{IsCut}

-- one that is in any task is in each

pub all-are_placed : (tasks : List TaskCuts) (start : Cursor) → length tasks ≡ 8 → All IsCut tasks
    → ((starts : List Key) (list : List Keyed) → starts ++ END ∷ [] ≡ boundaries list → IsCursorOf starts list start) → AreInTasks tasks (replicate 8 start)
all-are_placed tasks start eight cut is_placed = λ task unchanged cursor low.
    let own = slice_index_or tasks task unchanged in
    subst (λ (c : Cursor). IsCursorOf own.starts own.tree.list c) (sym (get_or-replicate 8 task start cursor low)) (is_placed own.starts own.tree.list (cut task unchanged (omega arith)))

-- a task by its number

pub unchanged-same : (inside tasks : List TaskCuts) (number : ℕ) (own : TaskCuts) → inside ≡ tasks → own ≡ slice_index_or inside number own → slice_index_or tasks number own ≡ own
unchanged-same inside tasks number own is at = ap (λ (all : List TaskCuts). slice_index_or all number own) (sym is) ∙ sym at

-- one of them is put elsewhere in its task

moved-by : (tasks : List TaskCuts) (cursors : List Cursor) (number : ℕ) (own : TaskCuts) (new : Cursor) → number < length tasks → number < length cursors → AreInTasks tasks cursors
    → slice_index_or tasks number own ≡ own → IsCursorOf own.starts own.tree.list new
    → (same : Bool) (task : ℕ) (unchanged : TaskCuts) (cursor : Cursor) → (task == number) ≡ same → task < 8
    → IsCursorOf (slice_index_or tasks task unchanged).starts (slice_index_or tasks task unchanged).tree.list (slice_index_or (slice_set cursors number new) task cursor)
moved-by tasks cursors number own new there within before at is_placed true task unchanged cursor test low =
    let same : task ≡ number = grind (arith, nat_tests) in
    let here : own ≡ slice_index_or tasks task unchanged =
    sym at ∙ get_or_default tasks number own unchanged there ∙ ap (λ (n : ℕ). slice_index_or tasks n unchanged) (sym same) in
    subst (λ (c : Cursor). IsCursorOf (slice_index_or tasks task unchanged).starts (slice_index_or tasks task unchanged).tree.list c)
    (sym (get_or-set_at cursors number task new cursor same within))
    (subst (λ (k : TaskCuts). IsCursorOf k.starts k.tree.list new) here is_placed)
moved-by tasks cursors number own new there within before at is_placed false task unchanged cursor test low =
    let other : task ≢ number = grind (arith, nat_tests) in
    subst (λ (c : Cursor). IsCursorOf (slice_index_or tasks task unchanged).starts (slice_index_or tasks task unchanged).tree.list c)
    (sym (get_or-set_other cursors number task new cursor other)) (before task unchanged cursor low)

pub one-moved : (inside tasks : List TaskCuts) (cursors : List Cursor) (number : ℕ) (own : TaskCuts) (new : Cursor) → inside ≡ tasks → number < length inside → number < length cursors
    → AreInTasks tasks cursors → own ≡ slice_index_or inside number own → IsCursorOf own.starts own.tree.list new → AreInTasks tasks (slice_set cursors number new)
one-moved inside tasks cursors number own new is there within before at is_placed = λ task unchanged cursor low.
    moved-by tasks cursors number own new (subst (λ (all : List TaskCuts). number < length all) is there) within before (unchanged-same inside tasks number own is at) is_placed
    (task == number) task unchanged cursor refl low
