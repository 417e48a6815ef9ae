-- Two lines that differ in the areas of slaves in a row.
use Rattle.std.specs.Prelude.{slice_index_or, ◌==◌, ◌&&◌}
use Rattle.std.proofs.Common.{append_assoc, ◌≡◌, ℕ, ◌+◌, ◌<◌, ◌≤◌, List, [], ◌++◌, length, subst, arith, length-append}
use Rattle.std.proofs.Math.ListN.{get_or-append}
use Rattle.std.proofs.lemmas.List.{get_or-append-add, get_or-append_right}
use Rattle.hc_records.specs.declared.records.Area.{Area}
use Rattle.hc_cuts.specs.declared.hulls.Hulls.{Hulls}
use Rattle.hc_cuts.specs.Hulls.{AreHulls, TakeIn}
use Rattle.hc_cuts.specs.Starts.{TaskCuts}
use Rattle.hc_cuts.specs.Areas.{areas_of_rank}
use Rattle.hc_cuts.specs.TaskCuts.{IsProjectLine}
use Rattle.hc_cuts.specs.ApplyWidths.{AreLines}
use Rattle.hc_cuts.specs.Widths.{AreBounded, IsSetTo, width_differs, widths_with_slave}
use Rattle.hc_cuts.specs.LineChange.{LineChange, back}
use Rattle.hc_cuts.proofs.Setting.{slaves-go, up_to}
use Rattle.hc_cuts.proofs.Taking.{areas-of, ranks-go, up_to_rank}
use Rattle.hc_cuts.proofs.lemmas.Applying.{back-lines}

-- the areas of the slaves before the row, in it, and after it

after_it-same : (front xs ys after_it : List (List Area)) (rank : ℕ) → length ys ≡ length xs → length front + length xs < rank
    → areas_of_rank (front ++ (xs ++ after_it)) rank ≡ areas_of_rank (front ++ (ys ++ after_it)) rank
after_it-same front xs ys after_it rank many high = grind (arith, get_or-append_right, append_assoc, length-append)

row-at : (front xs after_it : List (List Area)) (at : ℕ) → at < length xs → areas_of_rank xs (at + 1) ≡ areas_of_rank (front ++ (xs ++ after_it)) (length front + at + 1)
row-at front xs after_it at low = grind (arith, get_or-append, get_or-append-add)

-- so in two lines

pub lines-front : (change : LineChange) (old new : List (List Area)) (lines : AreLines change old new) (rank : ℕ) → rank ≤ length lines.front
    → areas_of_rank old rank ≡ areas_of_rank new rank
lines-front change old new lines rank low = grind (arith, get_or-append)

pub lines-after_it : (change : LineChange) (old new : List (List Area)) (lines : AreLines change old new) (rank : ℕ) → length lines.front + length change.areas_before < rank
    → areas_of_rank old rank ≡ areas_of_rank new rank
lines-after_it change old new lines rank high = grind (arith, after_it-same, lines.was, lines.is, lines.many)

pub old-at : (change : LineChange) (old new : List (List Area)) (lines : AreLines change old new) (i : ℕ) (areas : List Area) → areas ≡ slice_index_or change.areas_before i []
    → i < length change.areas_before → areas ≡ areas_of_rank old (length lines.front + i + 1)
old-at change old new lines i areas is within = grind (arith, areas-of, row-at)

pub new-at : (change : LineChange) (old new : List (List Area)) (lines : AreLines change old new) (i : ℕ) (areas : List Area) → areas ≡ slice_index_or change.areas_after i []
    → i < length change.areas_before → areas ≡ areas_of_rank new (length lines.front + i + 1)
new-at change old new lines i areas is within =
    let many = lines.many in
    old-at (back change) new old (back-lines change old new lines) i areas is (omega arith)

-- the row is within the line
pub row-within : (change : LineChange) (old new : List (List Area)) (lines : AreLines change old new) → change.first + length change.areas_before ≤ length old + 1
row-within change old new lines = grind (arith, length-append)

-- one slave more is set

pub slaves-next : (task first i : ℕ) (change : LineChange) (old new : List (List Area)) (lines : AreLines change old new) (areas : List Area) (unchanged mid last : TaskCuts)
    → first ≡ change.first → areas ≡ areas_of_rank new (length lines.front + i + 1) → IsSetTo unchanged mid (up_to task (length lines.front + i) old new)
    → IsSetTo mid last (widths_with_slave task (first + i) areas mid) → IsSetTo unchanged last (up_to task (length lines.front + (i + 1)) old new)
slaves-next task first i change old new lines areas unchanged mid last same own so_far set =
    let rank = lines.rank in
    let here : first + i ≡ length lines.front + i + 1 = omega (arith, rank, same) in
    let next : length lines.front + i + 1 ≡ length lines.front + (i + 1) = omega arith in
    subst (λ (n : ℕ). IsSetTo unchanged last (up_to task n old new)) next
    (slaves-go task (length lines.front + i) old new areas unchanged mid last own so_far
    (subst (λ (n : ℕ). IsSetTo mid last (widths_with_slave task n areas mid)) here set))

pub ranks-next : (task first i : ℕ) (change : LineChange) (old new : List (List Area)) (lines : AreLines change old new) (was is : List Area) (mid last : Hulls)
    → first ≡ change.first → was ≡ areas_of_rank old (length lines.front + i + 1) → is ≡ areas_of_rank new (length lines.front + i + 1) → AreHulls (up_to_rank task (length lines.front + i) old new) mid
    → TakeIn mid last (λ key. (first + i == key.rank) && width_differs task was is key) → AreHulls (up_to_rank task (length lines.front + (i + 1)) old new) last
ranks-next task first i change old new lines was is mid last same one other so_far taken =
    let rank = lines.rank in
    let here : first + i ≡ length lines.front + i + 1 = omega (arith, rank, same) in
    let next : length lines.front + i + 1 ≡ length lines.front + (i + 1) = omega arith in
    subst (λ (n : ℕ). AreHulls (up_to_rank task n old new) last) next
    (ranks-go task (length lines.front + i) old new was is mid last one other so_far
    (subst (λ (n : ℕ). TakeIn mid last (λ key. (n == key.rank) && width_differs task was is key)) here taken))

-- a slave of the line has few areas, all of them narrow
pub row-unchanged : (slaves : List (List Area)) (rank : ℕ) (areas : List Area) → IsProjectLine slaves → areas ≡ areas_of_rank slaves (rank + 1) → rank < length slaves → AreBounded areas
row-unchanged slaves rank areas line own within = grind arith
