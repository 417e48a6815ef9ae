-- The boundaries of a task, each searched from the one before it.
use Rattle.std.specs.Prelude.{All}
use Rattle.std.proofs.Common.{◌≡◌, ℕ, ◌≤◌, Bool, true, false, List, [], ◌∷◌, ◌++◌, length, refl, sym, ap, subst, ◌∙◌, arith, if◌then◌else◌, append_assoc, length-append}
use Rattle.std.proofs.lemmas.Bool.{cond-false, cond-true}
use Rattle.std.proofs.lemmas.List.Elements.{All-cons, All-filter, All-head, All-weaker}
use Rattle.hc_records.specs.declared.limits.TheConstants.{MOST_AREA_BITS, MOST_DATAGRAMS}
use Rattle.hc_records.specs.declared.records.Dir.{Dir}
use Rattle.hc_records.specs.declared.keys.Key.{Key}
use Rattle.hc_records.specs.declared.keys.TheConstants.Key.{START, END}
use Rattle.hc_records.specs.Keys.{same_key, is_before, is_within}
use Rattle.hc_records.specs.TaskList.{Keyed}
use Rattle.hc_records.specs.Packing.{Front, empty_front, fits, front_with, packed}
use Rattle.hc_records.specs.Image.{datagram_count}
use Rattle.hc_records.specs.Boundaries.{later_keys}
use Rattle.hc_records.specs.Laws.{IsPackable, cuts_from}
use Rattle.hc_records.specs.SpanLaws.{areas_from, next_cut}
use Rattle.hc_records.proofs.lemmas.Cuts.{count-later_keys, later_keys-cuts}
use Rattle.hc_records.proofs.lemmas.KeyOrder.{before-apart, before-other, other-sym, same_key-refl, within-from_before, within-refl, within-trans}
use Rattle.hc_records.proofs.lemmas.Lengths.{opening-beginning, opening-fits}
use Rattle.hc_records.proofs.lemmas.Packed.{place}
use Rattle.hc_records.proofs.lemmas.SpanCuts.{areas-from, all-from}
use Rattle.hc_records.proofs.lemmas.Spans.{IsListFrom, cut-all, filter-stays, list-after_it, list-tail}
use Rattle.hc_bitsum.specs.Tree.{HasPlace, HoldsTaskList, Tree}
use Rattle.hc_cuts.specs.Firsts.{IsOverLimit}
use Rattle.hc_cuts.specs.Starts.{next_boundary}
use Rattle.hc_cuts.proofs.Searched.{boundary-cut}
use Rattle.hc_cuts.proofs.lemmas.Datagrams.{front_of}

-- cuts don't depend on the number of the datagram that is being filled

number-by : (fitting : Bool) (n m bit : ℕ) (last : Dir) (area : Keyed) (areas : List Keyed)
    → ((k l to : ℕ) (dir : Dir) → cuts_from (front_of k to dir) areas ≡ cuts_from (front_of l to dir) areas)
    → (if fitting then cuts_from (front_with (place fitting (front_of n bit last) area)) areas else area.0 ∷ cuts_from (front_with (place fitting (front_of n bit last) area)) areas)
    ≡ (if fitting then cuts_from (front_with (place fitting (front_of m bit last) area)) areas else area.0 ∷ cuts_from (front_with (place fitting (front_of m bit last) area)) areas)
number-by fitting n m bit last area areas same = grind arith

cuts-number : (n m bit : ℕ) (last : Dir) (list : List Keyed) → cuts_from (front_of n bit last) list ≡ cuts_from (front_of m bit last) list
cuts-number n m bit last [] = refl
cuts-number n m bit last (area ∷ areas) =
    number-by (fits (front_of n bit last) area) n m bit last area areas (λ k l to dir. cuts-number k l to dir areas)

-- from an area that begins a datagram on, the cuts are those of a list of their own

own-cuts : (front : Front) (area : Keyed) (areas : List Keyed) → area.1 ≤ MOST_AREA_BITS
    → cuts_from (front_with (place false front area)) areas ≡ cuts_from empty_front (area ∷ areas)
own-cuts front area areas narrow = grind (arith, cuts-number, opening-beginning, opening-fits)

-- the cuts from a next one on: none at END, else that one and those of the areas from there on
abbrev goes_on : Key → List Keyed → List Key
goes_on next list = if same_key next END then [] else next ∷ cuts_from empty_front (areas_from next list)

-- an area before a key is none of those from there on
skipped : (area : Keyed) (areas : List Keyed) (next : Key) → is_before area.0 next ≡ true → goes_on next areas ≡ goes_on next (area ∷ areas)
skipped area areas next before = grind (arith, cond-false, before-apart)

-- where an area doesn't fit, it is the next cut
cut-here : (first : Key) (front : Front) (area : Keyed) (areas : List Keyed) → IsListFrom first (area ∷ areas)
    → area.0 ∷ cuts_from (front_with (place false front area)) areas ≡ goes_on area.0 (area ∷ areas)
cut-here first front area areas is =
    let narrow = (All-head IsPackable area areas is.packable).narrow in
    let below = All-head (λ a. is_before a.0 END ≡ true) area areas is.below in
    let whole : areas_from area.0 (area ∷ areas) ≡ area ∷ areas =
    filter-stays (λ a. is_within area.0 a.0) (area ∷ areas)
    (All-cons (λ a. is_within area.0 a.0 ≡ true) area areas (within-refl area.0)
    (All-weaker (λ a. is_before area.0 a.0 ≡ true) (λ a. is_within area.0 a.0 ≡ true) (λ a high. within-from_before area.0 a.0 high) areas (list-after_it first area areas is))) in
    ap (λ (keys : List Key). area.0 ∷ keys) (own-cuts front area areas narrow ∙ ap (cuts_from empty_front) (sym whole))
    ∙ sym (cond-false (same_key area.0 END) [] (area.0 ∷ cuts_from empty_front (areas_from area.0 (area ∷ areas))) (other-sym END area.0 (before-other area.0 END below)))

step-by : (fitting : Bool) (first : Key) (front : Front) (area : Keyed) (areas : List Keyed) → IsListFrom first (area ∷ areas)
    → ((next : Front) → cuts_from next areas ≡ goes_on (next_cut next areas) areas)
    → (if fitting then cuts_from (front_with (place fitting front area)) areas else area.0 ∷ cuts_from (front_with (place fitting front area)) areas)
    ≡ goes_on (if fitting then next_cut (front_with (place fitting front area)) areas else area.0) (area ∷ areas)
step-by true first front area areas is rest =
    let next = front_with (place true front area) in
    let before : is_before area.0 (next_cut next areas) ≡ true =
    cut-all (λ key. is_before area.0 key ≡ true) next areas (list-after_it first area areas is) (All-head (λ a. is_before a.0 END ≡ true) area areas is.below) in
    rest next ∙ skipped area areas (next_cut next areas) before
step-by false first front area areas is rest = cut-here first front area areas is

cuts-go_on : (first : Key) (front : Front) (list : List Keyed) → IsListFrom first list → cuts_from front list ≡ goes_on (next_cut front list) list
cuts-go_on first front [] is = sym (cond-true (same_key END END) [] (END ∷ []) (same_key-refl END))
cuts-go_on first front (area ∷ areas) is =
    step-by (fits front area) first front area areas is (λ next. cuts-go_on first next areas (list-tail first area areas is))

-- the areas from a key on are the same of the list and of its areas from a lower key on

twice-by : (low high : Bool) (x : Keyed) (xs ys : List Keyed) (key : Key) → is_within key x.0 ≡ high → (low ≡ false → high ≡ false) → areas_from key xs ≡ ys
    → areas_from key (if low then x ∷ xs else xs) ≡ (if high then x ∷ ys else ys)
twice-by low high x xs ys key test less rest = grind arith

not-from : (low high : Bool) → (high ≡ true → low ≡ true) → low ≡ false → high ≡ false
not-from low high more less = grind arith

pub areas-twice : (low high : Key) (list : List Keyed) → is_within low high ≡ true → areas_from high (areas_from low list) ≡ areas_from high list
areas-twice low high [] below = refl
areas-twice low high (area ∷ areas) below =
    twice-by (is_within low area.0) (is_within high area.0) area (areas_from low areas) (areas_from high areas) high refl
    (not-from (is_within low area.0) (is_within high area.0) (λ within. within-trans low high area.0 below within))
    (areas-twice low high areas below)

-- a test of a key against END
pub end-is : (test : Bool) (key : Key) (is : Bool) → test ≡ same_key key END → test ≡ is → same_key key END ≡ is
end-is test key is ensured tested = sym ensured ∙ tested

-- what a search from a key says of the boundaries after it
pub record Follows (tree : Tree) (from next : Key) : Type 0 where
  pub last : same_key next END ≡ true → later_keys (areas_from from tree.list) ≡ []
  pub more : same_key next END ≡ false → later_keys (areas_from from tree.list) ≡ next ∷ later_keys (areas_from next tree.list)
  pub place : same_key next END ≡ false → HasPlace tree.slaves next

-- what holds of each area from a key on holds of the next cut, unless that is END
cut-holds : (P : Key → Type 0) (list : List Keyed) → All (λ area. P area.0) list → same_key (next_cut empty_front list) END ≡ false → P (next_cut empty_front list)
cut-holds P list all =
    cut-all (λ key. same_key key END ≡ false → P key) empty_front list
    (All-weaker (λ area. P area.0) (λ area. same_key area.0 END ≡ false → P area.0) (λ area holds other. holds) list all)
    (λ other. let same = same_key-refl END in cc)

follows-cut : (tree : Tree) (from : Key) → HoldsTaskList tree → Follows tree from (next_cut empty_front (areas_from from tree.list))
follows-cut tree from holds =
    let list = tree.list in
    let rest = areas_from from list in
    let is = areas-from from list holds.list in
    let next = next_cut empty_front rest in
    let cuts : later_keys rest ≡ goes_on next rest = later_keys-cuts rest is.packable ∙ cuts-go_on from empty_front rest is in
    record {
      last = λ last. cuts ∙ cond-true (same_key next END) [] (next ∷ cuts_from empty_front (areas_from next rest)) last;
      more = λ other.
          let front_with : is_within from next ≡ true = cut-holds (λ key. is_within from key ≡ true) rest is.from other in
          cuts ∙ cond-false (same_key next END) [] (next ∷ cuts_from empty_front (areas_from next rest)) other
          ∙ ap (λ (keys : List Key). next ∷ keys)
          (ap (cuts_from empty_front) (areas-twice from next list front_with) ∙ sym (later_keys-cuts (areas_from next list) (areas-from next list holds.list).packable));
      place = cut-holds (λ key. HasPlace tree.slaves key) rest (All-filter (λ area. is_within from area.0) (λ area. HasPlace tree.slaves area.0) list holds.places);
    }

pub follows : (tree : Tree) (from next : Key) → HoldsTaskList tree → next ≡ next_boundary from tree.list → Follows tree from next
follows tree from next holds searched =
    subst (λ (key : Key). Follows tree from key) (sym (searched ∙ boundary-cut from tree.list holds.list)) (follows-cut tree from holds)

-- the boundaries up to a key, and those after it, are all boundaries
pub record IsPlaced (tree : Tree) (starts : List Key) (from : Key) : Type 0 where
  pub keys : starts ++ later_keys (areas_from from tree.list) ≡ START ∷ later_keys (areas_from START tree.list)

is_placed-all : (tree : Tree) (starts : List Key) (from : Key) → HoldsTaskList tree → IsPlaced tree starts from → starts ++ later_keys (areas_from from tree.list) ≡ START ∷ later_keys tree.list
is_placed-all tree starts from holds is_placed = is_placed.keys ∙ ap (λ (list : List Keyed). START ∷ later_keys list) (all-from tree.list holds.list)

pub begun : (tree : Tree) → IsPlaced tree (START ∷ []) START
begun tree = record { keys = refl }

-- a search that finds a key goes on from it
pub goes : (tree : Tree) (starts : List Key) (from next : Key) → HoldsTaskList tree → next ≡ next_boundary from tree.list → same_key next END ≡ false
    → IsPlaced tree starts from → IsPlaced tree (starts ++ next ∷ []) next
goes tree starts from next holds searched other is_placed = record {
  keys =
      append_assoc starts (next ∷ []) (later_keys (areas_from next tree.list))
      ∙ ap (λ (keys : List Key). starts ++ keys) (sym ((follows tree from next holds searched).more other))
      ∙ is_placed.keys;
}

pub goes-place : (tree : Tree) (from next : Key) → HoldsTaskList tree → next ≡ next_boundary from tree.list → same_key next END ≡ false → HasPlace tree.slaves next
goes-place tree from next holds searched other = (follows tree from next holds searched).place other

-- a search that finds none comes to the last boundary
pub ends : (tree : Tree) (starts : List Key) (from next : Key) → HoldsTaskList tree → next ≡ next_boundary from tree.list → same_key next END ≡ true
    → IsPlaced tree starts from → starts ≡ START ∷ later_keys tree.list
ends tree starts from next holds searched last is_placed =
    sym (append-end starts) ∙ ap (λ (keys : List Key). starts ++ keys) (sym ((follows tree from next holds searched).last last)) ∙ is_placed-all tree starts from holds is_placed
  where
    append-end : (keys : List Key) → keys ++ [] ≡ keys
    append-end [] = refl
    append-end (key ∷ keys) = ap (λ (rest : List Key). key ∷ rest) (append-end keys)

-- as many datagrams as keys

pub count-keys : (list : List Keyed) → All IsPackable list → datagram_count (packed empty_front list) ≤ length (START ∷ later_keys list)
count-keys [] all = omega arith
count-keys (area ∷ areas) all = let count = count-later_keys area areas all in omega arith

pub ends-few : (tree : Tree) (starts : List Key) → HoldsTaskList tree → starts ≡ START ∷ later_keys tree.list → length starts ≤ MOST_DATAGRAMS
    → datagram_count (packed empty_front tree.list) ≤ MOST_DATAGRAMS
ends-few tree starts holds is few = grind (arith, count-keys)

over_limit-by : (list : List Keyed) → All IsPackable list → 16 ≤ length (later_keys list) → IsOverLimit list
over_limit-by [] all many = absurd (omega arith)
over_limit-by (area ∷ areas) all many = let count = count-later_keys area areas all in omega arith

-- where 16 keys are and a search finds another, the task is over its limit
pub crowds : (tree : Tree) (starts : List Key) (from next : Key) → HoldsTaskList tree → next ≡ next_boundary from tree.list → same_key next END ≡ false
    → IsPlaced tree starts from → 16 ≤ length starts → IsOverLimit tree.list
crowds tree starts from next holds searched other is_placed many =
    let front_with = (follows tree from next holds searched).more other in
    let all : length (starts ++ later_keys (areas_from from tree.list)) ≡ length (START ∷ later_keys tree.list) = ap length (is_placed-all tree starts from holds is_placed) in
    let parts = length-append starts (later_keys (areas_from from tree.list)) in
    let some : length (later_keys (areas_from from tree.list)) ≡ length (next ∷ later_keys (areas_from next tree.list)) = ap length front_with in
    over_limit-by tree.list holds.list.packable (omega arith)
