-- The spans of a task that a repair has counted so far, and those that are left.
use Rattle.std.specs.Prelude.{drop}
use Rattle.std.proofs.Common.{◌≡◌, ℕ, ◌+◌, true, false, List, [], ◌∷◌, sym, ap, ◌∙◌, arith, if◌then◌else◌}
use Rattle.hc_records.specs.declared.keys.Key.{Key}
use Rattle.hc_records.specs.declared.keys.TheConstants.Key.{START, END}
use Rattle.hc_records.specs.Keys.{same_key}
use Rattle.hc_records.specs.Boundaries.{later_keys}
use Rattle.hc_records.specs.SpanLaws.{areas_from}
use Rattle.hc_records.proofs.lemmas.KeyOrder.{same_key-same}
use Rattle.hc_records.proofs.lemmas.SpanCuts.{all-from}
use Rattle.hc_bitsum.specs.Tree.{HoldsTaskList, Tree}
use Rattle.hc_cuts.specs.declared.hulls.Hulls.{Hulls}
use Rattle.hc_cuts.specs.Repair.{unsettled_between}
use Rattle.hc_cuts.specs.Spans.{unsettled_by}
use Rattle.hc_cuts.specs.Starts.{next_boundary}
use Rattle.hc_cuts.proofs.Chain.{follows}
use Rattle.hc_cuts.proofs.Repaired.{settles}

-- the spans from a key on that aren't settled
abbrev left_from : Hulls → List Key → Key → List Key → ℕ
left_from hulls old from later = unsettled_by (drop 1 old) hulls.outputs hulls.inputs from later

left-more : (hulls : Hulls) (old : List Key) (from next : Key) (later : List Key)
    → left_from hulls old from (next ∷ later) ≡ (if settles hulls old (from, next) then 0 else 1) + left_from hulls old next later
left-more hulls old from next later = grind (arith, settles)

left-last : (hulls : Hulls) (old : List Key) (from : Key) → left_from hulls old from [] ≡ (if settles hulls old (from, END) then 0 else 1)
left-last hulls old from = grind arith

-- those counted so far, and those from a key on, are all
abbrev pub Counts : Hulls → List Key → Tree → Key → ℕ → Type 0
Counts hulls old tree from count = count + left_from hulls old from (later_keys (areas_from from tree.list)) ≡ left_from hulls old START (later_keys tree.list)

pub counts-begin : (hulls : Hulls) (old : List Key) (tree : Tree) → HoldsTaskList tree → Counts hulls old tree START 0
counts-begin hulls old tree holds = grind (arith, all-from)

pub counts-go : (hulls : Hulls) (old : List Key) (tree : Tree) (from next : Key) (count one : ℕ) → HoldsTaskList tree → next ≡ next_boundary from tree.list
    → same_key next END ≡ false → one ≡ (if settles hulls old (from, next) then 0 else 1) → Counts hulls old tree from count → Counts hulls old tree next (count + one)
counts-go hulls old tree from next count one holds searched other is so_far =
    let more = ap (left_from hulls old from) ((follows tree from next holds searched).more other) ∙ left-more hulls old from next (later_keys (areas_from next tree.list)) in
    omega arith

pub counts-end : (hulls : Hulls) (old starts : List Key) (tree : Tree) (from next : Key) (count one : ℕ) → HoldsTaskList tree → next ≡ next_boundary from tree.list
    → same_key next END ≡ true → starts ≡ START ∷ later_keys tree.list → one ≡ (if settles hulls old (from, next) then 0 else 1) → Counts hulls old tree from count
    → count + one ≡ unsettled_between hulls old starts
counts-end hulls old starts tree from next count one holds searched last are is so_far =
    let none = ap (left_from hulls old from) ((follows tree from next holds searched).last last) ∙ left-last hulls old from in
    let own : one ≡ (if settles hulls old (from, END) then 0 else 1) = is ∙ ap (λ (key : Key). if settles hulls old (from, key) then 0 else 1) (same_key-same next END last) in
    let all : left_from hulls old START (later_keys tree.list) ≡ unsettled_between hulls old starts = ap (λ (keys : List Key). left_from hulls old START (drop 1 keys)) (sym are) in
    omega arith
