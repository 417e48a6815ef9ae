-- A tree with the same areas and more slaves.
use Rattle.std.specs.Prelude.{All, IsTrue, filter, nat_le}
use Rattle.std.proofs.Common.{◌≡◌, ℕ, suc, ◌+◌, ◌*◌, ◌%◌, ◌^◌, ◌<◌, ◌≤◌, ◌==◌, Bool, true, false, List, [], ◌∷◌, ◌++◌, length, get_or, take, drop, refl, sym, ap, subst, ◌∙◌, arith, if◌then◌else◌, append-nil}
use Rattle.std.proofs.Math.Pow.{pow_mono}
use Rattle.std.proofs.Math.Seq.{drop-cons}
use Rattle.std.proofs.lemmas.Bool.Decides.{nat_tests}
use Rattle.std.proofs.lemmas.List.{take-append-drop, take_more}
use Rattle.std.proofs.lemmas.List.Elements.{All-weaker}
use Rattle.hc_records.specs.declared.records.Dir.{Dir}
use Rattle.hc_records.specs.declared.keys.Key.{Key}
use Rattle.hc_records.specs.declared.keys.TheConstants.Key.{START, END}
use Rattle.hc_records.specs.Keys.{is_before, is_within}
use Rattle.hc_records.specs.Laws.{Ascends}
use Rattle.hc_records.specs.SpanLaws.{IsTaskList}
use Rattle.hc_records.specs.TaskList.{Keyed}
use Rattle.hc_records.proofs.lemmas.KeyOrder.{within-apart, within-from_before}
use Rattle.hc_records.proofs.lemmas.Lists.{AllPairs-across}
use Rattle.hc_records.proofs.lemmas.Spans.{filter-drops, filter-stays}
use Rattle.hc_bitsum.specs.Filling.{areas_between}
use Rattle.hc_bitsum.specs.Places.{IsOfSlave, KeepsSlaves}
use Rattle.hc_bitsum.specs.Slots.{Slots}
use Rattle.hc_bitsum.specs.Tree.{HasPlace, HasRoom, HoldsTaskList, Tree, with_width}
use Rattle.hc_bitsum.proofs.Nodes.{eight}

place-more : (slaves others : ℕ) (key : Key) → slaves ≤ others → HasPlace slaves key → HasPlace others key
place-more slaves others key more has = let last = has.last in record { first = has.first; last = omega arith; area = has.area }

-- a part's rows are as many as a power of two, and no fewer than its slaves
rows-room : (dir : Dir) (slaves levels : ℕ) (part : Slots) → part.height ≡ levels + 3 → KeepsSlaves dir slaves part → (length part.areas ≡ 8 * 2 ^ levels) × (slaves ≤ 2 ^ levels)
rows-room dir slaves levels part high stays =
    let height : part.height ≡ suc (suc (suc levels)) = omega arith in
    let many : length part.areas ≡ 8 * 2 ^ levels = stays.shape.many ∙ ap (λ n. 2 ^ n) height ∙ eight levels in
    let room = stays.room in
    (many, omega arith)

-- so its slaves are few
pub rows-few : (dir : Dir) (slaves levels : ℕ) (part : Slots) → part.height ≡ levels + 3 → levels ≤ 11 → KeepsSlaves dir slaves part → slaves ≤ 2048
rows-few dir slaves levels part high low stays =
    let rows = rows-room dir slaves levels part high stays in
    let most : 2 ^ levels ≤ 2 ^ 11 = pow_mono low in
    omega (arith, rows.1)

-- a part that has room for more slaves
pub stays-more : (dir : Dir) (slaves others levels : ℕ) (part : Slots) → slaves ≤ others → HasRoom slaves others → part.height ≡ levels + 3
    → KeepsSlaves dir slaves part → KeepsSlaves dir others part
stays-more dir slaves others levels part more room high stays =
    let rows = rows-room dir slaves levels part high stays in
    let many = rows.0 in
    let fits = room levels rows.1 in
    record {
      keys = stays.keys;
      room = omega arith;
      shape = stays.shape;
      places = All-weaker (IsOfSlave slaves) (IsOfSlave others) (λ area placed wide. place-more slaves others area.0 more (placed wide)) part.areas stays.places;
    }

-- the least power of two says whether there is room
pub room-answer_given : (own seen others asked found : ℕ) → own ≡ seen → asked ≡ others → own ≤ 2 ^ found → found ≤ 11 → ((levels : ℕ) → own ≤ 2 ^ levels → found ≤ levels)
    → (IsTrue (nat_le asked (1 * 2 ^ found % 4294967296)) → HasRoom seen others) × (HasRoom seen others → IsTrue (nat_le asked (1 * 2 ^ found % 4294967296)))
room-answer_given own seen others asked found same here room low least =
    let most : 2 ^ found ≤ 2 ^ 11 = pow_mono low in (
      λ fits levels within.
          let high : 2 ^ found ≤ 2 ^ levels = pow_mono (least levels (omega arith)) in
          grind (arith, nat_tests),
      λ has. let fits = has found (omega arith) in grind (arith, nat_tests),
    )

-- a tree has the same list as one with more slaves
pub holds-more : (slaves others : ℕ) (list : List Keyed) → slaves ≤ others → HoldsTaskList (record { slaves = slaves; list = list })
    → HoldsTaskList (record { slaves = others; list = list })
holds-more slaves others list more holds = record {
  list = holds.list;
  places = All-weaker (λ area. HasPlace slaves area.0) (λ area. HasPlace others area.0) (λ area placed. place-more slaves others area.0 more placed) list holds.places;
}

-- all areas of a task's list lie between START and END
pub between-all : (list : List Keyed) → IsTaskList list → areas_between START END list ≡ list
between-all list is =
    ap (filter (λ area. is_before area.0 END))
    (filter-stays (λ area. is_within START area.0) list
    (All-weaker (λ area. IsTrue (is_before START area.0)) (λ area. is_within START area.0 ≡ true) (λ area above. within-from_before START area.0 above) list is.between.above))
    ∙ filter-stays (λ area. is_before area.0 END) list is.between.below

-- an area set after all others

own-last : (none : Bool) (bits : ℕ) (own : List Keyed) → (bits == 0) ≡ none → 0 < bits → (if none then [] else own) ≡ own
own-last true bits own test some = absurd (grind (arith, nat_tests))
own-last false bits own test some = refl

set-after_it : (key : Key) (bits : ℕ) (front : List Keyed) → 0 < bits → All (λ other. IsTrue (is_before other.0 key)) front → with_width key bits front ≡ front ++ (key, bits) ∷ []
set-after_it key bits front some before =
    let below : filter (λ other. is_before other.0 key) front ≡ front = filter-stays (λ other. is_before other.0 key) front before in
    let above : filter (λ other. is_before key other.0) front ≡ [] =
    filter-drops (λ other. is_before key other.0) front
    (All-weaker (λ other. IsTrue (is_before other.0 key)) (λ other. is_before key other.0 ≡ false)
    (λ other lower. within-apart other.0 key (within-from_before other.0 key lower)) front before) in
    let own : List Keyed = (key, bits) ∷ [] in
    rw (below, above, own-last (bits == 0) bits own refl some) (append-nil (front ++ own))

set-next : (list : List Keyed) (i : ℕ) (d : Keyed) → IsTaskList list → i < length list → with_width (get_or list i d).0 (get_or list i d).1 (take i list) ≡ take (i + 1) list
set-next list i d is within =
    let area = get_or list i d in
    let parts : take i list ++ area ∷ drop (suc i) list ≡ list =
    ap (λ (rest : List Keyed). take i list ++ rest) (sym (drop-cons list i d within)) ∙ take-append-drop i list in
    let ascends : Ascends (take i list ++ area ∷ drop (suc i) list) = subst (λ (areas : List Keyed). Ascends areas) (sym parts) is.ascends in
    set-after_it area.0 area.1 (take i list) (is.packable i d within).some
    (AllPairs-across (λ a b. IsTrue (is_before a.0 b.0)) (take i list) area (drop (suc i) list) ascends)
    ∙ sym (take_more list i d within)

pub tree-next : (slaves i : ℕ) (list : List Keyed) (d : Keyed) (tree next : Tree) → IsTaskList list → i < length list
    → tree ≡ record { slaves = slaves; list = take i list }
    → next ≡ record tree { list = with_width (get_or list i d).0 (get_or list i d).1 tree.list }
    → next ≡ record { slaves = slaves; list = take (i + 1) list }
tree-next slaves i list d tree next is within so_far set =
    set
    ∙ ap (λ (t : Tree). let own : Tree = record t { list = with_width (get_or list i d).0 (get_or list i d).1 t.list } in own) so_far
    ∙ ap (λ (areas : List Keyed). let own : Tree = record { slaves = slaves; list = areas } in own) (set-next list i d is within)
