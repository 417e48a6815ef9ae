-- A task with the widths of another line applied.
use Rattle.std.specs.Prelude.{All, filter, nat_lt, not, ◌==◌}
use Rattle.std.proofs.Common.{◌≡◌, ℕ, suc, ◌+◌, ◌≤◌, Bool, true, false, List, [], ◌∷◌, ◌++◌, length, refl, sym, ap, subst, ◌∙◌, arith, if◌then◌else◌}
use Rattle.std.proofs.lemmas.Bool.{cond-false, cond-true, eqb-true, not-false}
use Rattle.std.proofs.lemmas.Bool.Decides.{nat_tests}
use Rattle.std.proofs.lemmas.List.{append_cancel_right}
use Rattle.std.proofs.lemmas.List.Elements.{All-append, All-cons, All-head, All-nil, All-tail}
use Rattle.hc_records.specs.declared.limits.TheConstants.{MOST_DATAGRAMS}
use Rattle.hc_records.specs.declared.records.Dir.{Dir}
use Rattle.hc_records.specs.declared.records.Dir.TheVariants.{Out, In}
use Rattle.hc_records.specs.declared.records.Area.{Area}
use Rattle.hc_records.specs.declared.keys.Key.{Key}
use Rattle.hc_records.specs.declared.keys.TheConstants.Key.{START, END}
use Rattle.hc_records.specs.TaskList.{Keyed}
use Rattle.hc_records.specs.Boundaries.{boundaries, is_touched, later_keys, touched, unsettled_spans, width_in}
use Rattle.hc_records.specs.Image.{datagram_count}
use Rattle.hc_records.specs.Packing.{empty_front, packed}
use Rattle.hc_bitsum.specs.Tree.{HasPlace, HoldsTaskList, Tree}
use Rattle.hc_bitsum.proofs.lemmas.Widths.{answer_given-by_widths}
use Rattle.hc_cuts.specs.Firsts.{IsOverLimit}
use Rattle.hc_cuts.specs.declared.hulls.Hulls.{Hulls}
use Rattle.hc_cuts.specs.Hulls.{AreHulls, are_none}
use Rattle.hc_cuts.specs.Starts.{TaskCuts}
use Rattle.hc_cuts.specs.Repair.{AreOfBefore, DifferInside}
use Rattle.hc_cuts.proofs.lemmas.Repairs.{hulls-hold}
use Rattle.hc_cuts.proofs.lemmas.HullKeys.{hulls-same, none-are, none-passes, untouched-none}
use Rattle.hc_cuts.specs.Areas.{area_list, list_by, rank_list, width_at}
use Rattle.hc_cuts.specs.TaskCuts.{IsProjectLine, is_over_limit, both_task_cuts, starts_by, tree_by}
use Rattle.hc_cuts.specs.Recut.{is_touched_by, recut_by, touched_by}
use Rattle.hc_cuts.specs.Widths.{AreBounded, IsSetTo, differs_at}
use Rattle.hc_cuts.proofs.lemmas.AnswerGiven.{width-by}

-- a tree has a place for each area of a line

area-by : (own : Bool) (slaves : ℕ) (area : Keyed) (areas : List Keyed) → HasPlace slaves area.0 → All (λ a. HasPlace slaves a.0) areas
    → All (λ a. HasPlace slaves a.0) (if own then area ∷ areas else areas)
area-by own slaves area areas place all = grind (arith, All-cons)

area-places : (slaves task : ℕ) (dir : Dir) (rank index : ℕ) (areas : List Area) → 1 ≤ rank → rank ≤ slaves → index + length areas ≤ 8
    → All (λ a. HasPlace slaves a.0) (area_list task dir rank index areas)
area-places slaves task dir rank index [] some low few = All-nil (λ a. HasPlace slaves a.0)
area-places slaves task dir rank index (area ∷ areas) some low few =
    grind (arith, area-by, area-places slaves task dir rank (index + 1) areas some low (omega arith))

rank-places : (slaves task : ℕ) (dir : Dir) (rank : ℕ) (lists : List (List Area)) → 1 ≤ rank → rank + length lists ≤ slaves + 1 → All AreBounded lists
    → All (λ a. HasPlace slaves a.0) (rank_list task dir rank lists)
rank-places slaves task dir rank [] some low unchanged = All-nil (λ a. HasPlace slaves a.0)
rank-places slaves task dir rank (areas ∷ lists) some low unchanged =
    let few = (All-head AreBounded areas lists unchanged).few in
    All-append (λ a. HasPlace slaves a.0) (area_list task dir rank 0 areas) (rank_list task dir (rank + 1) lists)
    (area-places slaves task dir rank 0 areas some (omega arith) (omega arith))
    (rank-places slaves task dir (rank + 1) lists (omega arith) (omega arith) (All-tail AreBounded areas lists unchanged))

holds-by : (task : ℕ) (slaves : List (List Area)) → IsProjectLine slaves → HoldsTaskList (tree_by task slaves)
holds-by task slaves line = record {
  list = line.lists task;
  places =
      All-append (λ a. HasPlace (length slaves) a.0) (rank_list task Out 1 slaves) (rank_list task In 1 slaves)
      (rank-places (length slaves) task Out 1 slaves (omega arith) (omega arith) line.bounded)
      (rank-places (length slaves) task In 1 slaves (omega arith) (omega arith) line.bounded);
}

pub tree-holds : (task : ℕ) (slaves : List (List Area)) (tree : Tree) → IsProjectLine slaves → tree ≡ tree_by task slaves → HoldsTaskList tree
tree-holds task slaves tree line is = subst (λ (t : Tree). HoldsTaskList t) (sym is) (holds-by task slaves line)

pub tree-widths : (task : ℕ) (slaves : List (List Area)) (tree : Tree) → tree ≡ tree_by task slaves → (key : Key) → width_in tree.list key ≡ width_at task slaves key
tree-widths task slaves tree is key = ap (λ (t : Tree). width_in t.list key) is ∙ width-by slaves task key

-- a tree is given by its widths, and kept boundaries by those of its list

tree-is : (tree : Tree) (slaves : ℕ) (list : List Keyed) → tree.slaves ≡ slaves → tree.list ≡ list → tree ≡ record { slaves = slaves; list = list }
tree-is tree slaves list first second = rw (← first, ← second) refl

pub unchanged-is : (unchanged : TaskCuts) (tree : Tree) (starts : List Key) → unchanged.tree ≡ tree → unchanged.starts ≡ starts → unchanged ≡ record { tree = tree; starts = starts }
unchanged-is unchanged tree starts first second = rw (← first, ← second) refl

pub set-tree : (task : ℕ) (old new : List (List Area)) (before last : TaskCuts) → IsProjectLine new → length new ≡ length old → before.tree ≡ tree_by task old
    → IsSetTo before last (width_at task new) → last.tree ≡ tree_by task new
set-tree task old new before last line same was set =
    tree-is last.tree (length new) (list_by task new) (set.slaves ∙ ap (λ (t : Tree). t.slaves) was ∙ sym same)
    (answer_given-by_widths last.tree.list (list_by task new) set.holds.list (line.lists task) (λ key. set.each key ∙ sym (width-by new task key)))

pub cut-unchanged : (task : ℕ) (slaves : List (List Area)) (before last : TaskCuts) → before.tree ≡ tree_by task slaves → last.tree ≡ before.tree
    → last.starts ++ END ∷ [] ≡ boundaries before.tree.list → last ≡ both_task_cuts task slaves
cut-unchanged task slaves before last was same starts =
    unchanged-is last (tree_by task slaves) (starts_by task slaves) (same ∙ was)
    (append_cancel_right last.starts (starts_by task slaves) (END ∷ []) (starts ∙ ap (λ (t : Tree). boundaries t.list) was))

-- a task whose list needs too many datagrams, or doesn't

pub fits-by : (task : ℕ) (slaves : List (List Area)) (tree : Tree) → tree ≡ tree_by task slaves → datagram_count (packed empty_front tree.list) ≤ MOST_DATAGRAMS
    → is_over_limit task slaves ≡ false
fits-by task slaves tree is few = grind (arith, nat_tests)

pub crowds-by : (task : ℕ) (slaves : List (List Area)) (tree : Tree) → tree ≡ tree_by task slaves → IsOverLimit tree.list → is_over_limit task slaves ≡ true
crowds-by task slaves tree is many = grind (arith, nat_tests)

-- the hulls of the keys whose widths differ are the touched ones'

pub touched-hulls : (task : ℕ) (old new : List (List Area)) (hulls : Hulls) → AreHulls (differs_at task old new) hulls
    → AreHulls (is_touched (list_by task old) (list_by task new)) hulls
touched-hulls task old new hulls are = grind (arith, hulls-same, width-by)

-- where there is none, both lines have the same task

untouched-key : (task : ℕ) (old new : List (List Area)) (hulls : Hulls) → AreHulls (is_touched (list_by task old) (list_by task new)) hulls → are_none hulls ≡ true
    → (key : Key) → is_touched (list_by task old) (list_by task new) key ≡ false
untouched-key task old new hulls are none key = grind (arith, none-passes, none-are)

pub lists-same : (task : ℕ) (old new : List (List Area)) (hulls : Hulls) → IsProjectLine old → IsProjectLine new → AreHulls (is_touched (list_by task old) (list_by task new)) hulls → are_none hulls ≡ true
    → list_by task old ≡ list_by task new
lists-same task old new hulls first second are none =
    answer_given-by_widths (list_by task old) (list_by task new) (first.lists task) (second.lists task)
    (λ key.
    eqb-true (width_in (list_by task old) key) (width_in (list_by task new) key)
    (not-false (width_in (list_by task old) key == width_in (list_by task new) key) (untouched-key task old new hulls are none key)))

pub unturned : (task : ℕ) (old new : List (List Area)) (last : TaskCuts) → last.tree ≡ tree_by task new → last.starts ≡ starts_by task old → list_by task old ≡ list_by task new
    → last ≡ both_task_cuts task new
unturned task old new last is starts same =
    unchanged-is last (tree_by task new) (starts_by task new) is (starts ∙ ap (λ (list : List Keyed). START ∷ later_keys list) same)

pub unturned-fits : (task : ℕ) (old new : List (List Area)) → list_by task old ≡ list_by task new → is_over_limit task old ≡ false → is_over_limit task new ≡ false
unturned-fits task old new same fits =
    sym (ap (λ (list : List Keyed). nat_lt MOST_DATAGRAMS (datagram_count (packed empty_front list))) same) ∙ fits

filter-none : (test : Key → Bool) (keys : List Key) → ((key : Key) → test key ≡ false) → filter test keys ≡ []
filter-none test [] none = refl
filter-none test (key ∷ keys) none = rw (none key) (filter-none test keys none)

none-touched : (task : ℕ) (old new : List (List Area)) (hulls : Hulls) → AreHulls (is_touched (list_by task old) (list_by task new)) hulls → are_none hulls ≡ true
    → is_touched_by task old new ≡ false
none-touched task old new hulls are none = grind (arith, filter-none, untouched-key)

pub recut-none : (task : ℕ) (old new : List (List Area)) (hulls : Hulls) → AreHulls (is_touched (list_by task old) (list_by task new)) hulls → are_none hulls ≡ true → 0 ≡ recut_by task old new
recut-none task old new hulls are none =
    sym (cond-false (is_touched_by task old new) (unsettled_spans (list_by task old) (list_by task new)) 0 (none-touched task old new hulls are none))

-- where there is one, the task is touched

some-above : (n : ℕ) → nat_lt 0 (suc n) ≡ true
some-above n = grind (arith, nat_tests)

some-by : (task : ℕ) (old new : List (List Area)) (hulls : Hulls) → AreHulls (is_touched (list_by task old) (list_by task new)) hulls → are_none hulls ≡ false → (keys : List Key)
    → touched (list_by task old) (list_by task new) ≡ keys → is_touched_by task old new ≡ true
some-by task old new hulls are some [] is =
    let none = untouched-none (list_by task old) (list_by task new) hulls are is in
    let never : true ≡ false = sym none ∙ some in
    cc
some-by task old new hulls are some (key ∷ keys) is = ap (λ (list : List Key). nat_lt 0 (length list)) is ∙ some-above (length keys)

pub some-touched : (task : ℕ) (old new : List (List Area)) (hulls : Hulls) → AreHulls (is_touched (list_by task old) (list_by task new)) hulls → are_none hulls ≡ false → is_touched_by task old new ≡ true
some-touched task old new hulls are some = some-by task old new hulls are some (touched (list_by task old) (list_by task new)) refl

-- so its hulls say whether it is
pub says-touched : (task : ℕ) (old new : List (List Area)) (hulls : Hulls) (none : Bool) → AreHulls (is_touched (list_by task old) (list_by task new)) hulls → none ≡ are_none hulls
    → not none ≡ is_touched_by task old new
says-touched task old new hulls none are is = grind (arith, none-touched, some-touched)

pub one-touched : (task : ℕ) (old new : List (List Area)) → is_touched_by task old new ≡ true → touched_by task old new ≡ 1
one-touched task old new is = cond-true (is_touched_by task old new) 1 0 is

-- and the spans that are counted are those that are recut
pub recut-some : (task recut : ℕ) (old new : List (List Area)) (hulls : Hulls) (before mid : TaskCuts) → AreHulls (is_touched (list_by task old) (list_by task new)) hulls → are_none hulls ≡ false
    → before ≡ both_task_cuts task old → mid.starts ≡ before.starts → mid.tree ≡ tree_by task new
    → ((list : List Keyed) → mid.starts ++ END ∷ [] ≡ boundaries list → AreHulls (is_touched list mid.tree.list) hulls → recut ≡ unsettled_spans list mid.tree.list)
    → recut ≡ recut_by task old new
recut-some task recut old new hulls before mid are some was starts is counted =
    grind (arith, cond-true, some-touched)

-- the boundaries of before are those of the one line's task, which differs inside these hulls alone
pub are-of_before : (task : ℕ) (old new : List (List Area)) (hulls : Hulls) (before mid : TaskCuts) → IsProjectLine old → AreHulls (is_touched (list_by task old) (list_by task new)) hulls
    → before ≡ both_task_cuts task old → mid.starts ≡ before.starts → mid.tree ≡ tree_by task new → AreOfBefore mid.starts hulls mid.tree.list
are-of_before task old new hulls before mid line are was starts is = record {
  before = list_by task old;
  list = line.lists task;
  keys = ap (λ (keys : List Key). keys ++ END ∷ []) (starts ∙ ap (λ (unchanged : TaskCuts). unchanged.starts) was);
  inside =
      subst (λ (keyed : List Keyed). DifferInside hulls (list_by task old) keyed) (sym (ap (λ (tree : Tree). tree.list) is))
      (hulls-hold hulls (list_by task old) (list_by task new) are).differ;
}
