-- Tasks in a row that are turned, or put back.
use Rattle.std.specs.Prelude.{All, None, OnErr, OnOk, Option, Result, Some, drop, replicate, slice_index_or, slice_set, take}
use Rattle.std.proofs.Common.{◌≡◌, ℕ, suc, ◌+◌, Bool, true, false, if◌then◌else◌, List, [], ◌∷◌, ◌++◌, length, refl, sym, ap, subst, arith, length-append}
use Rattle.std.proofs.Math.Seq.{take-append_seam}
use Rattle.hc_records.specs.declared.keys.Key.{Key}
use Rattle.hc_records.specs.declared.records.Area.{Area}
use Rattle.hc_cuts.specs.Starts.{TaskCuts}
use Rattle.hc_cuts.specs.TaskCuts.{IsCut, IsProjectLine, over_limit_from, is_over_limit, both_task_cuts, task_cuts_from, line_cuts, tree_by}
use Rattle.hc_cuts.specs.ApplyWidths.{AreLines, RestoresWidths, AppliesTaskWidths, AppliesWidths}
use Rattle.hc_cuts.specs.Widths.{IsSetTo}
use Rattle.hc_cuts.specs.Areas.{width_at}
use Rattle.hc_cuts.specs.LineChange.{LineChange}
use Rattle.hc_cuts.proofs.Lines.{absent-fits, absent-line, length-absent, line-is}
use Rattle.hc_cuts.proofs.WidthsApplied.{set-tree}
use Rattle.hc_cuts.proofs.lemmas.Applying.{whole-apply_widths}

as-long : (change : LineChange) (old new : List (List Area)) → AreLines change old new → length new ≡ length old
as-long change old new lines = grind (arith, length-append)

-- a task whose widths are set to those of the new line
pub set-applied : (task : ℕ) (change : LineChange) (old new : List (List Area)) (unchanged mid : TaskCuts) → AreLines change old new → unchanged.tree ≡ tree_by task old
    → ((was is : List (List Area)) → AreLines change was is → unchanged.tree ≡ tree_by task was → IsSetTo unchanged mid (width_at task is)) → mid.tree ≡ tree_by task new
set-applied task change old new unchanged mid lines is_placed set =
    set-tree task old new unchanged mid lines.new_line (as-long change old new lines) is_placed (set old new lines is_placed)

-- tasks in a row are the first of them and the rest

pub split-tasks : (these rest all : List TaskCuts) (other : TaskCuts) → these ++ rest ≡ all → length these ≡ 1 → all ≡ slice_index_or these 0 other ∷ rest
split-tasks [] rest all other is one = absurd (omega arith)
split-tasks (unchanged ∷ []) rest all other is one = sym is
split-tasks (unchanged ∷ next ∷ these) rest all other is one = absurd (omega arith)

pub set-first : (these rest : List TaskCuts) (unchanged : TaskCuts) → length these ≡ 1 → slice_set these 0 unchanged ++ rest ≡ unchanged ∷ rest
set-first [] rest unchanged one = absurd (omega arith)
set-first (first ∷ []) rest unchanged one = refl
set-first (first ∷ next ∷ these) rest unchanged one = absurd (omega arith)

fits-first : (over_limit : Bool) (task : ℕ) (rest : Option ℕ) → (if over_limit then Some task else rest) ≡ None → (over_limit ≡ false) × (rest ≡ None)
fits-first over_limit task rest is = grind arith

head-of : (a b : TaskCuts) (these those : List TaskCuts) → a ∷ these ≡ b ∷ those → a ≡ b
head-of a b these those is = ap (λ (xs : List TaskCuts). slice_index_or xs 0 a) is

tail-of : (a b : TaskCuts) (these those : List TaskCuts) → a ∷ these ≡ b ∷ those → these ≡ those
tail-of a b these those is = ap (λ (xs : List TaskCuts). drop 1 xs) is

-- so a turn of them is one of the first and one of the rest
first-apply_widths : (count task : ℕ) (unchanged : TaskCuts) (rest : List TaskCuts) (change : LineChange) (old new : List (List Area))
    → AppliesWidths (suc count) task (unchanged ∷ rest) change old new → AppliesTaskWidths task unchanged change old new
first-apply_widths count task unchanged rest change old new apply_widths = grind (arith, head-of, fits-first)

rest-apply_widths : (count task : ℕ) (unchanged : TaskCuts) (rest : List TaskCuts) (change : LineChange) (old new : List (List Area))
    → AppliesWidths (suc count) task (unchanged ∷ rest) change old new → AppliesWidths count (task + 1) rest change old new
rest-apply_widths count task unchanged rest change old new apply_widths = grind (arith, tail-of, fits-first)

pub first-over_limit : (count task : ℕ) (new : List (List Area)) → is_over_limit task new ≡ true → over_limit_from (suc count) task new ≡ Some task
first-over_limit count task new is = rw is refl

pub rest-over_limit : (count task : ℕ) (new : List (List Area)) (found : Option ℕ) → is_over_limit task new ≡ false → over_limit_from count (task + 1) new ≡ found → over_limit_from (suc count) task new ≡ found
rest-over_limit count task new found fits is = rw fits is

pub parts : (task : ℕ) (change : LineChange) (old new : List (List Area)) (all these rest : List TaskCuts) (other : TaskCuts) → all ≡ these ++ rest → length these ≡ 1
    → AppliesWidths (length all) task all change old new
    → (AppliesTaskWidths task (slice_index_or these 0 other) change old new) × AppliesWidths (length rest) (task + 1) rest change old new × (length all ≡ suc (length rest))
parts task change old new all these rest other is one apply_widths =
    let whole = split-tasks these rest all other (sym is) one in
    let own = subst (λ (list : List TaskCuts). AppliesWidths (length list) task list change old new) whole apply_widths in (
      first-apply_widths (length rest) task (slice_index_or these 0 other) rest change old new own,
      rest-apply_widths (length rest) task (slice_index_or these 0 other) rest change old new own,
      ap (λ (list : List TaskCuts). length list) whole,
    )

-- and so are those that are put

pub restore_widths-parts : (task : ℕ) (change : LineChange) (starts : List (List Key)) (old new : List (List Area)) (all these rest : List TaskCuts) (other : TaskCuts) → all ≡ these ++ rest
    → length these ≡ 1 → RestoresWidths (length all) task all change starts old new
    → (slice_index_or these 0 other ≡ both_task_cuts task old) × RestoresWidths (length rest) (task + 1) rest change starts old new × (length all ≡ suc (length rest))
restore_widths-parts task change starts old new all these rest other is one restore_widths =
    let whole = split-tasks these rest all other (sym is) one in
    let own = subst (λ (list : List TaskCuts). RestoresWidths (length list) task list change starts old new) whole restore_widths in
    let unchanged = slice_index_or these 0 other in (
      head-of unchanged (both_task_cuts task old) rest (task_cuts_from (length rest) (task + 1) old) own.of_old,
      record {
        lines = own.lines;
        of_old = tail-of unchanged (both_task_cuts task old) rest (task_cuts_from (length rest) (task + 1) old) own.of_old;
        known = own.known;
      },
      ap (λ (list : List TaskCuts). length list) whole,
    )

pub set-at : (these : List TaskCuts) (unchanged other : TaskCuts) → length these ≡ 1 → slice_index_or (slice_set these 0 unchanged) 0 other ≡ unchanged
set-at [] unchanged other one = absurd (omega arith)
set-at (first ∷ these) unchanged other one = refl

pub set-again : (these rest : List TaskCuts) (unchanged last : TaskCuts) → length these ≡ 1 → slice_set (slice_set these 0 unchanged) 0 last ++ rest ≡ last ∷ rest
set-again [] rest unchanged last one = absurd (omega arith)
set-again (first ∷ []) rest unchanged last one = refl
set-again (first ∷ next ∷ these) rest unchanged last one = absurd (omega arith)

-- the eight tasks of a line, lent as a slice

pub eight-apply_widths : (unchanged lent : List TaskCuts) (change : LineChange) (old new : List (List Area)) → lent ≡ unchanged → length lent ≡ 8
    → AppliesWidths 8 0 unchanged change old new → AppliesWidths (length lent) 0 lent change old new
eight-apply_widths unchanged lent change old new is eight apply_widths =
    subst (λ (n : ℕ). AppliesWidths n 0 lent change old new) (sym eight) (subst (λ (ks : List TaskCuts). AppliesWidths 8 0 ks change old new) (sym is) apply_widths)

pub eight-restore_widths : (unchanged lent : List TaskCuts) (change : LineChange) (starts : List (List Key)) (old new : List (List Area)) → lent ≡ unchanged → length lent ≡ 8
    → RestoresWidths 8 0 unchanged change starts old new → RestoresWidths (length lent) 0 lent change starts old new
eight-restore_widths unchanged lent change starts old new is eight restore_widths =
    subst (λ (n : ℕ). RestoresWidths n 0 lent change starts old new) (sym eight) (subst (λ (ks : List TaskCuts). RestoresWidths 8 0 ks change starts old new) (sym is) restore_widths)

are-tasks : (result : Result ℕ ℕ) (lent last : List TaskCuts) (new : List (List Area)) → OnOk result (last ≡ task_cuts_from (length lent) 0 new) → OnErr result (last ≡ lent)
    → (length lent ≡ 8) × All IsCut lent → (length last ≡ 8) × All IsCut last
are-tasks result lent last new applied same are = grind (arith, line-is)

-- and what they are when it comes back

back-again : (len : ℕ) (unchanged last : List TaskCuts) → len ≡ length unchanged → length unchanged ≡ 8 → (length last ≡ 8) × All IsCut last
    → (take len (last ++ drop (length last) unchanged) ≡ last) × (length last ≡ 8) × All IsCut last
back-again len unchanged last long eight are = grind (arith, take-append_seam)

pub given-back : (len : ℕ) (unchanged lent last : List TaskCuts) (result : Result ℕ ℕ) (new : List (List Area)) → len ≡ length unchanged → lent ≡ unchanged → (length unchanged ≡ 8) × All IsCut unchanged
    → OnOk result (last ≡ task_cuts_from (length lent) 0 new) → OnErr result (last ≡ lent)
    → (take len (last ++ drop (length last) unchanged) ≡ last) × (length last ≡ 8) × All IsCut last
given-back len unchanged lent last result new long is are applied same =
    back-again len unchanged last long are.0 (are-tasks result lent last new applied same (subst (λ (ks : List TaskCuts). (length ks ≡ 8) × All IsCut ks) (sym is) are))

pub restore_widths-back : (len : ℕ) (unchanged last : List TaskCuts) (new : List (List Area)) → len ≡ length unchanged → length unchanged ≡ 8 → last ≡ line_cuts new
    → (take len (last ++ drop (length last) unchanged) ≡ last) × (length last ≡ 8) × All IsCut last
restore_widths-back len unchanged last new long eight is = back-again len unchanged last long eight (line-is last new is)

-- those of a line without slaves are turned into those of any line
pub absent-apply_widths : (change : LineChange) (unchanged : List TaskCuts) (line : List (List Area)) → change ≡ record { first = 1; areas_before = replicate (length line) []; areas_after = line }
    → unchanged ≡ line_cuts (replicate (length line) []) → IsProjectLine line → AppliesWidths 8 0 unchanged change (replicate (length line) []) line
absent-apply_widths change unchanged line opens are_placed is =
    let few = is.few in
    let absent = replicate (length line) [] in
    subst (λ (c : LineChange). AppliesWidths 8 0 unchanged c absent line) (sym opens)
    (whole-apply_widths unchanged absent line (absent-line (length line) (omega (arith, few))) is (sym (length-absent (length line))) are_placed (absent-fits 8 0 (length line)))
