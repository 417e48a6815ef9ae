-- The eight tasks of a line, and those of a line without slaves.
use Rattle.std.specs.Prelude.{All, None, map, replicate, slice_index_or}
use Rattle.std.proofs.Common.{◌≡◌, ℕ, zero, suc, ◌+◌, ◌<◌, ◌≤◌, List, [], ◌∷◌, ◌++◌, length, refl, sym, ap, subst, ◌∙◌, arith}
use Rattle.std.proofs.lemmas.List.{get_or-map}
use Rattle.std.proofs.lemmas.List.Elements.{All-cons, All-nil}
use Rattle.hc_records.specs.declared.records.Dir.{Dir}
use Rattle.hc_records.specs.declared.records.Dir.TheVariants.{Out, In}
use Rattle.hc_records.specs.declared.records.Area.{Area}
use Rattle.hc_records.specs.declared.keys.Key.{Key}
use Rattle.hc_records.specs.SpanLaws.{IsTaskList}
use Rattle.hc_records.proofs.lemmas.Lists.{AllPairs-nil}
use Rattle.hc_cuts.specs.Starts.{TaskCuts, empty_task_cuts}
use Rattle.hc_cuts.specs.Areas.{list_by, rank_list}
use Rattle.hc_cuts.specs.TaskCuts.{IsCut, IsProjectLine, over_limit_from, both_task_cuts, task_cuts_from, line_cuts, starts_by}
use Rattle.hc_cuts.specs.Widths.{AreBounded}

length-unchanged : (count task : ℕ) (slaves : List (List Area)) → length (task_cuts_from count task slaves) ≡ count
length-unchanged zero task slaves = refl
length-unchanged (suc count) task slaves = ap suc (length-unchanged count (task + 1) slaves)

-- the boundaries of each are its areas'
unchanged-cut : (count task : ℕ) (slaves : List (List Area)) → All IsCut (task_cuts_from count task slaves)
unchanged-cut zero task slaves = All-nil IsCut
unchanged-cut (suc count) task slaves = All-cons IsCut (both_task_cuts task slaves) (task_cuts_from count (task + 1) slaves) refl (unchanged-cut count (task + 1) slaves)

-- a task by its number
unchanged-at : (count task at : ℕ) (slaves : List (List Area)) (other : TaskCuts) → at < count → slice_index_or (task_cuts_from count task slaves) at other ≡ both_task_cuts (task + at) slaves
unchanged-at zero task at slaves other h = absurd (omega arith)
unchanged-at (suc count) task zero slaves other h = let here : task ≡ task + 0 = omega arith in ap (λ (n : ℕ). both_task_cuts n slaves) here
unchanged-at (suc count) task (suc at) slaves other h =
    grind (arith, unchanged-at count (task + 1) at slaves other (omega arith))

task-starts : (task : ℕ) (line : List (List Area)) (unchanged : List TaskCuts) (other : TaskCuts) → task < 8 → unchanged ≡ line_cuts line
    → (slice_index_or unchanged task other).starts ≡ starts_by task line
task-starts task line unchanged other low is = grind (arith, unchanged-at)

pub copied-starts : (task : ℕ) (line : List (List Area)) (unchanged : List TaskCuts) (starts : List (List Key)) → task < 8 → unchanged ≡ line_cuts line → starts ≡ map (λ k. k.starts) unchanged
    → slice_index_or starts task [] ≡ starts_by task line
copied-starts task line unchanged starts low is copied =
    grind (arith, get_or-map, length-unchanged, task-starts)

-- a line none of whose slaves is present

pub absent-list : (task : ℕ) (dir : Dir) (rank count : ℕ) → rank_list task dir rank (replicate count []) ≡ []
absent-list task dir rank zero = refl
absent-list task dir rank (suc count) = absent-list task dir (rank + 1) count

absent-none : (task count : ℕ) → list_by task (replicate count []) ≡ []
absent-none task count = rw (absent-list task Out 1 count, absent-list task In 1 count) refl

pub length-absent : (count : ℕ) → length {A = List Area} (replicate count []) ≡ count
length-absent zero = refl
length-absent (suc count) = ap suc (length-absent count)

empty-list : IsTaskList []
empty-list = grind (arith, AllPairs-nil)

absent-unchanged : (count : ℕ) → All AreBounded (replicate count [])
absent-unchanged zero = All-nil AreBounded
absent-unchanged (suc count) =
    All-cons AreBounded [] (replicate count []) (record { few = omega arith; narrow = λ k d within. absurd (omega arith) }) (absent-unchanged count)

pub absent-line : (count : ℕ) → count ≤ 2048 → IsProjectLine (replicate count [])
absent-line count few = grind (arith, length-absent, absent-unchanged, absent-none, empty-list)

pub absent-fits : (tasks task count : ℕ) → over_limit_from tasks task (replicate count []) ≡ None
absent-fits zero task count = refl
absent-fits (suc tasks) task count = rw (absent-none task count) (absent-fits tasks (task + 1) count)

unchanged-absent : (task count : ℕ) → both_task_cuts task (replicate count []) ≡ empty_task_cuts count
unchanged-absent task count = rw (absent-none task count, length-absent count) refl

line-absent : (tasks task count : ℕ) → replicate tasks (empty_task_cuts count) ≡ task_cuts_from tasks task (replicate count [])
line-absent zero task count = refl
line-absent (suc tasks) task count =
    rw (unchanged-absent task count) (ap (λ (rest : List TaskCuts). empty_task_cuts count ∷ rest) (line-absent tasks (task + 1) count))

-- one more at the end
pub replicate-more : {X : Type 0} (count : ℕ) (x : X) → replicate count x ++ x ∷ [] ≡ replicate (count + 1) x
replicate-more zero x = refl
replicate-more (suc count) x = let more : suc count + 1 ≡ suc (count + 1) = omega arith in rw more (ap (λ (xs : List _). x ∷ xs) (replicate-more count x))

pub eight-absent : (tasks : List TaskCuts) (counter count : ℕ) → tasks ≡ replicate counter (empty_task_cuts count) → counter ≡ 8 → tasks ≡ line_cuts (replicate count [])
eight-absent tasks counter count is last = is ∙ ap (λ (n : ℕ). replicate n (empty_task_cuts count)) last ∙ line-absent 8 0 count

pub line-is : (tasks : List TaskCuts) (line : List (List Area)) → tasks ≡ line_cuts line → (length tasks ≡ 8) × All IsCut tasks
line-is tasks line is = (ap length is ∙ length-unchanged 8 0 line, subst (λ (all : List TaskCuts). All IsCut all) (sym is) (unchanged-cut 8 0 line))
