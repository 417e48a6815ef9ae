-- The keys of a datagram's areas, and the ranks of the line's slaves.
use Rattle.std.proofs.Common.{◌≡◌, ℕ, ◌+◌, ◌<◌, ◌≤◌, ◌*◌, Bool, true, List, length, sym, arith}
use Rattle.std.specs.Prelude.{if◌then◌else◌, All, AllPairs, Contains, IsTrue, map, ◌==◌}
use Rattle.std.specs.List.{enumerate_from}
use Rattle.std.proofs.lemmas.List.{length-map}
use Rattle.std.proofs.lemmas.List.Elements.{All-contains_itself, All-filter, All-map, All-weaker}
use Rattle.std.proofs.lemmas.List.Kept.{AllPairs-filter}
use Rattle.std.proofs.lemmas.List.Sums.{sum_by-le}
use Rattle.hc_records.specs.Keys.{is_before}
use Rattle.hc_records.specs.Line.{Member}
use Rattle.hc_records.specs.TaskList.{Keyed, belongs, keyed, task_list}
use Rattle.hc_records.specs.Packing.{Placed, empty_front, packed}
use Rattle.hc_records.specs.Image.{expected_counter, inside, task_places}
use Rattle.hc_records.specs.Laws.{Ascends}
use Rattle.hc_records.proofs.lemmas.Lists.{All-unmap, AllPairs-map, AllPairs-unmap}
use Rattle.hc_records.proofs.lemmas.Lines.{RanksBelow}
use Rattle.hc_records.proofs.lemmas.Packed.{area_of, packed-areas}
use Rattle.hc_records.proofs.lemmas.Tasks.{listed, task-list-all}
use Rattle.hc_registers.proofs.lemmas.Counting.{ascending-counted}
use Rattle.hc_places.specs.DatagramUses.{counted_inside, keys_inside}

-- the keys of areas ascend
abbrev AreInOrder : List Placed → Type 0
AreInOrder areas = AllPairs (λ a b. IsTrue (is_before a.key b.key)) areas

-- so do those of the places of a list whose keys ascend
places-in-order : (list : List Keyed) → Ascends list → AreInOrder (packed empty_front list)
places-in-order list ascends =
    let same = packed-areas empty_front list in
    AllPairs-unmap (λ a b. IsTrue (is_before a.0 b.0)) area_of (packed empty_front list) (rw same ascends)

keys-ascend : (d : ℕ) (areas : List Placed) → AreInOrder areas → AllPairs (λ a b. IsTrue (is_before a b)) (keys_inside d areas)
keys-ascend d areas order =
    AllPairs-map (λ a b. IsTrue (is_before a b)) (λ (area : Placed). area.key) (inside d areas)
    (AllPairs-filter (λ a b. IsTrue (is_before a.key b.key)) (λ area. area.datagram == d) areas order)

abbrev ranks_of : List Member → List ℕ
ranks_of line = map (λ member. member.rank) line

-- each key of a task's list has the rank of a slave of the line
ranks-listed : (task : ℕ) (line : List Member) → All (λ area. Contains (ranks_of line) area.0.rank) (task_list task line)
ranks-listed task line =
    let own = All-unmap (Contains (ranks_of line)) (λ (member : Member). member.rank) line (All-contains_itself (ranks_of line)) in
    task-list-all (λ area. Contains (ranks_of line) area.0.rank) task line
    (λ dir. All-weaker (λ member. Contains (ranks_of line) member.rank)
    (λ member. All (λ e. belongs task dir e.1 ≡ true → Contains (ranks_of line) (keyed (listed dir member.rank e)).0.rank) (enumerate_from 0 member.slave.areas))
    (λ member has k d within belonging. has) line own)

ranks-inside : (task d : ℕ) (line : List Member) → All (λ key. Contains (ranks_of line) key.rank) (keys_inside d (task_places task line))
ranks-inside task d line =
    let areas = task_places task line in
    let same = packed-areas empty_front (task_list task line) in
    let placed : All (λ area. Contains (ranks_of line) area.key.rank) areas = All-unmap (λ area. Contains (ranks_of line) area.0.rank) area_of areas (rw same (ranks-listed task line)) in
    All-map (λ key. Contains (ranks_of line) key.rank) (λ (area : Placed). area.key) (inside d areas)
    (All-filter (λ area. area.datagram == d) (λ area. Contains (ranks_of line) area.key.rank) areas placed)

-- what the areas of a datagram add is the working counter that the slaves of the line make
pub counted-expected : (task d : ℕ) (line : List Member) → Ascends (task_list task line) → AllPairs RanksBelow line
    → counted_inside d (task_places task line) ≡ expected_counter task d line
counted-expected task d line ascends ranks =
    sym (ascending-counted (keys_inside d (task_places task line)) (ranks_of line)
    (keys-ascend d (task_places task line) (places-in-order (task_list task line) ascends))
    (AllPairs-map (λ a b. a < b) (λ (member : Member). member.rank) line ranks)
    (ranks-inside task d line))

share-low : (writes reads : Bool) → (if writes then 2 else 0) + (if reads then 1 else 0) ≤ 3
share-low writes reads = grind arith

-- each slave adds 3 at most
pub expected-low : (task d : ℕ) (line : List Member) → expected_counter task d line ≤ length line * 3
expected-low task d line = grind (arith, share-low, sum_by-le, length-map)
