-- The register blocks of a line are its areas': for each area its sync manager's and its FMMU's. In a project's line an FMMU's block names no task but the one that its area is in.
use Rattle.std.proofs.Common.{◌≡◌, ℕ, zero, suc, ◌+◌, ◌*◌, ◌/◌, ◌%◌, ◌<◌, ◌≤◌, ◌==◌, ◌&&◌, nat_lt, ◌∙◌, inl, inr, Bool, true, false, cond, List, [], ◌∷◌, length, refl, sym, ap, ap₂, subst, arith, Option, Some, None}
use Rattle.std.specs.Prelude.{◌⊎◌, ◌≢◌, All, AllPairs, Contains, find, option_and_then, slice_get, slice_index_or}
use Rattle.std.specs.Option.{option_map_or}
use Rattle.std.specs.List.{enumerate_from, flat_map}
use Rattle.std.proofs.lemmas.Bool.{and_parts, cases_order, eqb-true}
use Rattle.std.proofs.lemmas.Bool.Decides.{nat_tests}
use Rattle.std.proofs.lemmas.List.Elements.{All-nil, All-cons, All-contains, All-contains_itself, Contains-append_left, Contains-append_right, Contains-get_or, at_from_Contains}
use Rattle.std.proofs.lemmas.Nat.{from_le_bytes-to_le_bytes_4}
use Rattle.std.proofs.lemmas.Option.{get_or_from_slice_get, slice_get_within}
use Rattle.hc_records.specs.declared.keys.Key.{Key}
use Rattle.hc_records.specs.declared.limits.TheConstants.{MOST_AREA_BITS, MOST_DATAGRAMS, TASKS}
use Rattle.hc_records.specs.declared.records.Area.{Area}
use Rattle.hc_records.specs.Area.{width}
use Rattle.hc_records.specs.Edits.{area_at, over_limit_task, slave_at}
use Rattle.hc_records.specs.Image.{datagram_count, task_places}
use Rattle.hc_records.specs.Keys.{same_dir, same_key}
use Rattle.hc_records.specs.Laws.{IsPackable}
use Rattle.hc_records.specs.Limits.{IsSlaveInside}
use Rattle.hc_records.specs.Line.{Member, State, groups_of, is_at, line}
use Rattle.hc_records.specs.Packing.{Placed, empty_front, packed}
use Rattle.hc_records.specs.Project.{lowest_fault}
use Rattle.hc_records.specs.TaskList.{Keyed, task_list}
use Rattle.hc_records.proofs.lemmas.Addresses.{uncrowded-few}
use Rattle.hc_records.proofs.lemmas.Choices.{by_bool, contains-first, contains-later}
use Rattle.hc_records.proofs.lemmas.Finds.{found-all, found-none, mapped-some}
use Rattle.hc_records.proofs.lemmas.Greatest.{greatest-all}
use Rattle.hc_records.proofs.lemmas.Inside.{packed-inside}
use Rattle.hc_records.proofs.lemmas.KeyOrder.{same_key-same}
use Rattle.hc_records.proofs.lemmas.Lines.{line-ascends}
use Rattle.hc_records.proofs.lemmas.Lists.{All-flat_map, All-unmap}
use Rattle.hc_records.proofs.lemmas.Packable.{project-packable}
use Rattle.hc_records.proofs.lemmas.Packed.{area_of, packed-areas}
use Rattle.hc_records.proofs.lemmas.Slaves.{line-inside, line-stations}
use Rattle.hc_records.proofs.lemmas.Tasks.{task-list-all}
use Rattle.hc_registers.specs.declared.fmmu.Mapping.{Mapping}
use Rattle.hc_registers.specs.Blocks.{LineBlock, RegisterBlock, area_blocks, fmmu_block, fmmu_bytes, line_blocks, mapped_bytes, mapping_at, mapping_of, member_blocks, numbered, sync_manager_block}
use Rattle.hc_registers.specs.Fields.{long_at}
use Rattle.hc_events.specs.AnswerLaws.{HasOwnNames}
use Rattle.hc_events.specs.Names.{HasFewDatagrams}
use Rattle.hc_events.specs.Ready.{area_index, is_fmmu, is_in_task, names_task, serves_task}

-- an element of a numbered list has its index

numbered_at : {X : Type 0} (whole : List X) (n : ℕ) (xs : List X) → ((i : ℕ) → slice_get xs i ≡ slice_get whole (n + i)) → All (λ (e : ℕ × X). slice_get whole e.0 ≡ Some e.1) (enumerate_from n xs)
numbered_at {X} whole n [] same = All-nil (λ (e : ℕ × X). slice_get whole e.0 ≡ Some e.1)
numbered_at {X} whole n (x ∷ xs) same =
    let none : n + 0 ≡ n = omega arith in
    All-cons (λ (e : ℕ × X). slice_get whole e.0 ≡ Some e.1) (n, x) (enumerate_from (n + 1) xs)
    (sym (same 0 ∙ ap (slice_get whole) none))
    (numbered_at whole (n + 1) xs (λ i. let next : n + suc i ≡ n + 1 + i = omega arith in same (suc i) ∙ ap (slice_get whole) next))

from_first : {X : Type 0} (xs : List X) (i : ℕ) → slice_get xs i ≡ slice_get xs (0 + i)
from_first xs i = let same : i ≡ 0 + i = omega arith in ap (slice_get xs) same

pub numbered-own : {X : Type 0} (xs : List X) → All (λ (e : ℕ × X). slice_get xs e.0 ≡ Some e.1) (enumerate_from 0 xs)
numbered-own xs = numbered_at xs 0 xs (from_first xs)

-- a block of a line, by the area whose block it is

abbrev pub mapping : List Member → ℕ → ℕ → Area → Option Mapping
mapping line rank index area = mapping_of line area.task (record { dir = area.dir; rank = rank; area = index })

pub record IsBlockOf (line : List Member) (block : LineBlock) : Type 0 where
  pub member : Member
  pub inside : Contains line member
  pub index : ℕ
  pub area : Area
  pub found : slice_get member.slave.areas index ≡ Some area
  pub station : block.station ≡ member.slave.station
  pub at : area_index block.number ≡ index
  pub sync : is_fmmu block.number ≡ false → (block.number ≡ 2 * index) × (block.block ≡ sync_manager_block area)
  pub fmmu : is_fmmu block.number ≡ true → (block.number ≡ 2 * index + 1) × (block.block ≡ fmmu_block index area (mapping line member.rank index area))

even_never : (first k : ℕ) → first ≡ 2 * k → is_fmmu first ≡ true → ⊥
even_never first k even odd = let one : first % 2 ≡ 1 = eqb-true (first % 2) 1 odd in omega arith

odd_always : (number k : ℕ) → number ≡ 2 * k + 1 → is_fmmu number ≡ false → ⊥
odd_always number k odd is = let one : number % 2 ≡ 1 = omega arith in let never : false ≡ true = sym is ∙ ap (λ n. n == 1) one in cc

of_sync : (line : List Member) (member : Member) (first k : ℕ) (area : Area) → Contains line member → first ≡ 2 * k → slice_get member.slave.areas k ≡ Some area
    → IsBlockOf line (record { station = member.slave.station; number = first; block = sync_manager_block area })
of_sync line member first k area inside even found = record {
  member = member;
  inside = inside;
  index = k;
  area = area;
  found = found;
  station = refl;
  at = omega arith;
  sync = λ is. (even, refl);
  fmmu = λ odd. absurd (even_never first k even odd);
}

of_fmmu : (line : List Member) (member : Member) (number k : ℕ) (area : Area) → Contains line member → number ≡ 2 * k + 1 → slice_get member.slave.areas k ≡ Some area
    → IsBlockOf line (record { station = member.slave.station; number = number; block = fmmu_block k area (mapping line member.rank k area) })
of_fmmu line member number k area inside odd found = record {
  member = member;
  inside = inside;
  index = k;
  area = area;
  found = found;
  station = refl;
  at = omega arith;
  sync = λ is. absurd (odd_always number k odd is);
  fmmu = λ is. (odd, refl);
}

blocks_from : (line : List Member) (member : Member) (first k : ℕ) (areas : List Area) → Contains line member → first ≡ 2 * k → ((i : ℕ) → slice_get areas i ≡ slice_get member.slave.areas (k + i))
    → All (IsBlockOf line) (numbered member.slave.station first (flat_map (area_blocks line member.rank) (enumerate_from k areas)))
blocks_from line member first k [] inside even same = All-nil (IsBlockOf line)
blocks_from line member first k (area ∷ areas) inside even same =
    let none : k + 0 ≡ k = omega arith in
    let found : slice_get member.slave.areas k ≡ Some area = sym (same 0 ∙ ap (slice_get member.slave.areas) none) in
    let later = flat_map (area_blocks line member.rank) (enumerate_from (k + 1) areas) in
    let fmmu = fmmu_block k area (mapping line member.rank k area) in
    All-cons (IsBlockOf line) (record { station = member.slave.station; number = first; block = sync_manager_block area }) (numbered member.slave.station (first + 1) (fmmu ∷ later))
    (of_sync line member first k area inside even found)
    (All-cons (IsBlockOf line) (record { station = member.slave.station; number = first + 1; block = fmmu }) (numbered member.slave.station (first + 1 + 1) later)
    (of_fmmu line member (first + 1) k area inside (omega arith) found)
    (blocks_from line member (first + 1 + 1) (k + 1) areas inside (omega arith)
    (λ i. let next : k + suc i ≡ k + 1 + i = omega arith in same (suc i) ∙ ap (slice_get member.slave.areas) next)))

pub line-blocks : (line : List Member) → All (IsBlockOf line) (line_blocks line)
line-blocks line =
    All-flat_map (IsBlockOf line) (member_blocks line) line
    (λ k d low. let member = slice_index_or line k d in blocks_from line member 0 0 member.slave.areas (Contains-get_or line k d low) refl (from_first member.slave.areas))

pub block-of : (line : List Member) (block : LineBlock) → Contains (line_blocks line) block → IsBlockOf line block
block-of line block has = All-contains (IsBlockOf line) (line_blocks line) block (line-blocks line) has

-- and each area has its FMMU's block in the line

joined_at : {X Y : Type 0} (f : X → List Y) (xs : List X) (k : ℕ) (x : X) (y : Y) → k < length xs → slice_index_or xs k x ≡ x → Contains (f x) y → Contains (flat_map f xs) y
joined_at f [] k x y low is has = absurd (omega arith)
joined_at f (z ∷ xs) zero x y low is has = Contains-append_left (f z) (flat_map f xs) y (subst (λ w. Contains (f w) y) (sym is) has)
joined_at f (z ∷ xs) (suc k) x y low is has = Contains-append_right (f z) (flat_map f xs) y (joined_at f xs k x y (omega arith) is has)

pub contains-piece : {X Y : Type 0} (f : X → List Y) (xs : List X) (x : X) (y : Y) → Contains xs x → Contains (f x) y → Contains (flat_map f xs) y
contains-piece f xs x y (k, low, is) has = joined_at f xs k x y low is has

abbrev fmmu_at : List Member → Member → ℕ → ℕ → Area → LineBlock
fmmu_at line member number index area = record { station = member.slave.station; number = number; block = fmmu_block index area (mapping line member.rank index area) }

fmmu_from : (line : List Member) (member : Member) (first k i : ℕ) (areas : List Area) (area : Area) → slice_get areas i ≡ Some area
    → Contains (numbered member.slave.station first (flat_map (area_blocks line member.rank) (enumerate_from k areas))) (fmmu_at line member (first + 2 * i + 1) (k + i) area)
fmmu_from line member first k i [] area is = cc
fmmu_from line member first k zero (own ∷ areas) area is =
    let same : own ≡ area = cc in
    let none : k ≡ k + 0 = omega arith in
    let number : first + 1 ≡ first + 2 * 0 + 1 = omega arith in
    let later = flat_map (area_blocks line member.rank) (enumerate_from (k + 1) areas) in
    let there = contains-later (record { station = member.slave.station; number = first; block = sync_manager_block own }) (fmmu_at line member (first + 1) k own)
    (numbered member.slave.station (first + 1) (fmmu_block k own (mapping line member.rank k own) ∷ later))
    (contains-first (fmmu_at line member (first + 1) k own) (numbered member.slave.station (first + 1 + 1) later)) in
    let blocks = numbered member.slave.station first (flat_map (area_blocks line member.rank) (enumerate_from k (own ∷ areas))) in
    subst (λ (n : ℕ). Contains blocks (fmmu_at line member n (k + 0) area)) number
    (subst (λ (n : ℕ). Contains blocks (fmmu_at line member (first + 1) n area)) none (subst (λ (a : Area). Contains blocks (fmmu_at line member (first + 1) k a)) same there))
fmmu_from line member first k (suc i) (own ∷ areas) area is =
    let later = flat_map (area_blocks line member.rank) (enumerate_from (k + 1) areas) in
    let index : k + 1 + i ≡ k + suc i = omega arith in
    let number : first + 1 + 1 + 2 * i + 1 ≡ first + 2 * suc i + 1 = omega arith in
    let there = fmmu_from line member (first + 1 + 1) (k + 1) i areas area is in
    let fmmu = fmmu_block k own (mapping line member.rank k own) in
    let blocks = numbered member.slave.station first (flat_map (area_blocks line member.rank) (enumerate_from k (own ∷ areas))) in
    let found : LineBlock = fmmu_at line member (first + 1 + 1 + 2 * i + 1) (k + 1 + i) area in
    let inside : Contains blocks found =
    contains-later (record { station = member.slave.station; number = first; block = sync_manager_block own }) found (numbered member.slave.station (first + 1) (fmmu ∷ later))
    (contains-later (record { station = member.slave.station; number = first + 1; block = fmmu }) found (numbered member.slave.station (first + 1 + 1) later) there) in
    subst (λ (n : ℕ). Contains blocks (fmmu_at line member n (k + suc i) area)) number (subst (λ (n : ℕ). Contains blocks (fmmu_at line member (first + 1 + 1 + 2 * i + 1) n area)) index inside)

pub fmmu-there : (line : List Member) (member : Member) (index : ℕ) (area : Area) → Contains line member → slice_get member.slave.areas index ≡ Some area
    → Contains (line_blocks line) (record { station = member.slave.station; number = 2 * index + 1; block = fmmu_block index area (mapping line member.rank index area) })
fmmu-there line member index area inside found =
    let number : 0 + 2 * index + 1 ≡ 2 * index + 1 = omega arith in
    let own : 0 + index ≡ index = omega arith in
    contains-piece (member_blocks line) line member (fmmu_at line member (2 * index + 1) index area) inside
    (subst (λ (n : ℕ). Contains (member_blocks line member) (fmmu_at line member n index area)) number
    (subst (λ (n : ℕ). Contains (member_blocks line member) (fmmu_at line member (0 + 2 * index + 1) n area)) own (fmmu_from line member 0 0 index member.slave.areas area found)))

-- a station address, and a rank, names one slave of a project's line

pub two-of : {X : Type 0} (R : X → X → Type 0) (xs : List X) (x y : X) → AllPairs R xs → Contains xs x → Contains xs y → (x ≡ y) ⊎ (R x y ⊎ R y x)
two-of R xs x y pairs has has' =
    let a = at_from_Contains xs x has in
    let b = at_from_Contains xs y has' in
    elim (cases_order a.0 b.0) [
      | inl same ↦ inl (sym (a.2 x) ∙ ap (λ n. slice_index_or xs n x) same ∙ b.2 x)
      | inr (inl lower) ↦ inr (inl (subst (λ u. R u y) (a.2 x) (subst (λ v. R (slice_index_or xs a.0 x) v) (b.2 x) (pairs a.0 b.0 x lower b.1))))
      | inr (inr higher) ↦ inr (inr (subst (λ u. R u x) (b.2 x) (subst (λ v. R (slice_index_or xs b.0 x) v) (a.2 x) (pairs b.0 a.0 x higher a.1))))
    ]

pub one-station : (state : State) (a b : Member) → lowest_fault (groups_of state.groups) ≡ None → Contains (line state) a → Contains (line state) b → a.slave.station ≡ b.slave.station → a ≡ b
one-station state a b project has has' same =
    elim (two-of (λ (x y : Member). x.slave.station ≢ y.slave.station) (line state) a b (line-stations state.groups project) has has') [
      | inl one ↦ one
      | inr (inl differ) ↦ absurd (differ same)
      | inr (inr differ) ↦ absurd (differ (sym same))
    ]

one_rank : (state : State) (a b : Member) → Contains (line state) a → Contains (line state) b → a.rank ≡ b.rank → a ≡ b
one_rank state a b has has' same =
    elim (two-of (λ (x y : Member). x.rank < y.rank) (line state) a b (line-ascends 1 state.groups) has has') [
      | inl one ↦ one
      | inr (inl lower) ↦ absurd (omega arith)
      | inr (inr higher) ↦ absurd (omega arith)
    ]

passes_by : {X : Type 0} (passes : Bool) (test : X → Bool) (first found : X) (rest : Option X) → test first ≡ passes → (rest ≡ Some found → test found ≡ true) → cond passes (Some first) rest ≡ Some found → test found ≡ true
passes_by true test first found rest is later has = let same : first ≡ found = cc in ap test (sym same) ∙ is
passes_by false test first found rest is later has = later has

pub found-passes : {X : Type 0} (test : X → Bool) (xs : List X) (found : X) → find test xs ≡ Some found → test found ≡ true
found-passes test [] found has = cc
found-passes test (x ∷ xs) found has = passes_by (test x) test x found (find test xs) refl (found-passes test xs found) has

same_number : (n : ℕ) → (n == n) ≡ true
same_number n = grind (arith, nat_tests)

found_as : (state : State) (member : Member) (found : Option Member) → lowest_fault (groups_of state.groups) ≡ None → Contains (line state) member → slave_at state member.slave.station ≡ found → found ≡ Some member
found_as state member None project inside is =
    let never : is_at member.slave.station member ≡ false = All-contains (λ (m : Member). is_at member.slave.station m ≡ false) (line state) member (found-none (is_at member.slave.station) (line state) is) inside in
    let always : is_at member.slave.station member ≡ true = same_number member.slave.station in
    let no : true ≡ false = sym always ∙ never in cc
found_as state member (Some other) project inside is =
    let there : Contains (line state) other = found-all (Contains (line state)) (is_at member.slave.station) (line state) other (All-contains_itself (line state)) is in
    let same : other.slave.station ≡ member.slave.station = eqb-true other.slave.station member.slave.station (found-passes (is_at member.slave.station) (line state) other is) in
    ap (λ (m : Member). Some m) (one-station state other member project there inside same)

pub slave-found : (state : State) (member : Member) → lowest_fault (groups_of state.groups) ≡ None → Contains (line state) member → slave_at state member.slave.station ≡ Some member
slave-found state member project inside = found_as state member (slave_at state member.slave.station) project inside refl

-- the area of a block, as it is looked up
pub area-found : (state : State) (block : LineBlock) (of : IsBlockOf (line state) block) → lowest_fault (groups_of state.groups) ≡ None → area_at state block.station (area_index block.number) ≡ Some of.area
area-found state block of project =
    ap₂ (area_at state) of.station of.at
    ∙ ap (option_and_then (λ (m : Member). slice_get m.slave.areas of.index)) (slave-found state of.member project of.inside)
    ∙ of.found

-- each key of a task's list names an area with bits

record HasBits (line : List Member) (task : ℕ) (keyed : Keyed) : Type 0 where
  member : Member
  index : ℕ
  area : Area
  inside : Contains line member
  found : slice_get member.slave.areas index ≡ Some area
  bits : nat_lt 0 (width area) ≡ true
  rank : keyed.0.rank ≡ member.rank
  number : keyed.0.area ≡ index

keys_have_bits : (line : List Member) (task : ℕ) → All (HasBits line task) (task_list task line)
keys_have_bits line task =
    task-list-all (HasBits line task) task line
    (λ dir j d low i e within belonging.
    let member = slice_index_or line j d in
    let element = slice_index_or (enumerate_from 0 member.slave.areas) i e in
    let first = and_parts ((element.1.task == task) && same_dir element.1.dir dir) (nat_lt 0 (width element.1)) belonging in
    record {
      member = member;
      index = element.0;
      area = element.1;
      inside = Contains-get_or line j d low;
      found = numbered-own member.slave.areas i e within;
      bits = first.1;
      rank = refl;
      number = refl;
    })

-- the places of a task's areas: each has a key with bits, and lies within one of 16 datagrams

record IsSoundPlace (line : List Member) (task : ℕ) (placed : Placed) : Type 0 where
  bits : HasBits line task (area_of placed)
  inside : placed.bit + placed.bits ≤ MOST_AREA_BITS
  early : placed.datagram < MOST_DATAGRAMS

sound_places : (state : State) (task : ℕ) → lowest_fault (groups_of state.groups) ≡ None → over_limit_task (line state) ≡ None → task < TASKS → All (IsSoundPlace (line state) task) (task_places task (line state))
sound_places state task project uncrowded low k d within =
    let members = line state in
    let list = task_list task members in
    let places = packed empty_front list in
    let packable : All IsPackable list = project-packable state task project in
    let count = uncrowded-few members task uncrowded low in
    let after_it : (slice_index_or places k d).datagram + 1 ≤ datagram_count places = greatest-all (λ (placed : Placed). placed.datagram + 1) 0 places k d within in
    record {
      bits = All-unmap (HasBits members task) area_of places (subst (All (HasBits members task)) (sym (packed-areas empty_front list)) (keys_have_bits members task)) k d within;
      inside = packed-inside empty_front list packable k d within;
      early = omega (arith, after_it, count);
    }

-- the task of a mapped address

task_of_address : (own task datagram bit bits : ℕ) → datagram < 16 → bit + bits ≤ 11888 → own < 8 → (16777216 * (own + 1) + 2048 * datagram + bit / 8) / 16777216 ≡ task + 1 → own ≡ task
task_of_address own task datagram bit bits early inside low is = omega arith

small_address : (own datagram bit bits : ℕ) → datagram < 16 → bit + bits ≤ 11888 → own < 8 → 16777216 * (own + 1) + 2048 * datagram + bit / 8 < 4294967296
small_address own datagram bit bits early inside low = omega arith

named_task : (area : Area) (placed : Placed) (task : ℕ) → placed.bit + placed.bits ≤ MOST_AREA_BITS → placed.datagram < MOST_DATAGRAMS → area.task < TASKS
    → names_task task (mapped_bytes area (mapping_at area.task placed)) ≡ true → area.task ≡ task
named_task area placed task inside early low names =
    let bytes = mapped_bytes area (mapping_at area.task placed) in
    let address : ℕ = 16777216 * (area.task + 1) + 2048 * placed.datagram + placed.bit / 8 in
    let long : long_at bytes 0 ≡ address = from_le_bytes-to_le_bytes_4 address (small_address area.task placed.datagram placed.bit placed.bits early inside low) in
    let is : long_at bytes 0 / 16777216 ≡ task + 1 = eqb-true (long_at bytes 0 / 16777216) (task + 1) names in
    task_of_address area.task task placed.datagram placed.bit placed.bits early inside low (sym (ap (λ n. n / 16777216) long) ∙ is)

-- so an FMMU's block that names a task is one of an area that is in the task

in_task : (task : ℕ) (area : Area) → area.task ≡ task → nat_lt 0 (width area) ≡ true → is_in_task task area ≡ true
in_task task area same bits = ap (λ n. (n == task) && nat_lt 0 (width area)) same ∙ ap (λ b. b && nat_lt 0 (width area)) (same_number task) ∙ bits

one_width : (state : State) (member : Member) (index : ℕ) (area : Area) (task : ℕ) (keyed : Keyed) → Contains (line state) member → slice_get member.slave.areas index ≡ Some area → HasBits (line state) task keyed
    → keyed.0 ≡ record { dir = area.dir; rank = member.rank; area = index } → nat_lt 0 (width area) ≡ true
one_width state member index area task keyed inside found bits key =
    let rank : bits.member.rank ≡ member.rank = sym bits.rank ∙ ap (λ (k : Key). k.rank) key in
    let number : bits.index ≡ index = sym bits.number ∙ ap (λ (k : Key). k.area) key in
    let same : bits.member ≡ member = one_rank state bits.member member bits.inside inside rank in
    let both : Some bits.area ≡ Some area = sym bits.found ∙ ap₂ (λ (m : Member) (n : ℕ). slice_get m.slave.areas n) same number ∙ found in
    let one : bits.area ≡ area = cc in
    ap (λ (a : Area). nat_lt 0 (width a)) (sym one) ∙ bits.bits

named_by : (state : State) (member : Member) (index : ℕ) (area : Area) (task : ℕ) (mapped : Option Mapping) → lowest_fault (groups_of state.groups) ≡ None → over_limit_task (line state) ≡ None → area.task < TASKS
    → Contains (line state) member → slice_get member.slave.areas index ≡ Some area → mapping (line state) member.rank index area ≡ mapped → names_task task (fmmu_bytes area mapped) ≡ true → is_in_task task area ≡ true
named_by state member index area task None project uncrowded low inside found is names = cc
named_by state member index area task (Some at) project uncrowded low inside found is names =
    let key : Key = record { dir = area.dir; rank = member.rank; area = index } in
    let places = task_places area.task (line state) in
    let one = mapped-some (mapping_at area.task) (find (λ (p : Placed). same_key p.key key) places) at is in
    let same : one.0.key ≡ key = same_key-same one.0.key key (found-passes (λ (p : Placed). same_key p.key key) places one.0 one.1) in
    let sound = found-all (IsSoundPlace (line state) area.task) (λ (p : Placed). same_key p.key key) places one.0 (sound_places state area.task project uncrowded low) one.1 in
    in_task task area
    (named_task area one.0 task sound.inside sound.early low (ap (λ (m : Mapping). names_task task (mapped_bytes area m)) one.2 ∙ names))
    (one_width state member index area area.task (area_of one.0) inside found sound.bits same)

low_task : (state : State) (member : Member) (index : ℕ) (area : Area) → lowest_fault (groups_of state.groups) ≡ None → Contains (line state) member → slice_get member.slave.areas index ≡ Some area → area.task < TASKS
low_task state member index area project inside found =
    let own : IsSlaveInside member.slave = All-contains (λ (m : Member). IsSlaveInside m.slave) (line state) member (line-inside state.groups project) inside in
    (subst (λ (a : Area). a.task < TASKS) (get_or_from_slice_get member.slave.areas index area area found) (own.areas index area (slice_get_within member.slave.areas index area found)).task)

pub named-served : (state : State) (block : LineBlock) (task : ℕ) → lowest_fault (groups_of state.groups) ≡ None → over_limit_task (line state) ≡ None → Contains (line_blocks (line state)) block
    → is_fmmu block.number ≡ true → names_task task block.block.bytes ≡ true → serves_task state task block ≡ true
named-served state block task project uncrowded has odd names =
    let of = block-of (line state) block has in
    let fmmu = of.fmmu odd in
    let area = of.area in
    let bytes : block.block.bytes ≡ fmmu_bytes area (mapping (line state) of.member.rank of.index area) = ap (λ (b : RegisterBlock). b.bytes) fmmu.1 in
    ap (λ found. option_map_or (is_in_task task) found false) (area-found state block of project)
    ∙ named_by state of.member of.index area task (mapping (line state) of.member.rank of.index area) project uncrowded (low_task state of.member of.index area project of.inside of.found) of.inside of.found refl
    (sym (ap (names_task task) bytes) ∙ names)

-- two blocks of a project's line that have one name are one

one_block : (a b : LineBlock) → a.station ≡ b.station → a.number ≡ b.number → a.block ≡ b.block → a ≡ b
one_block a b station number block =
    ap (λ (s : ℕ). record { station = s; number = a.number; block = a.block }) station
    ∙ ap (λ (n : ℕ). record { station = b.station; number = n; block = a.block }) number
    ∙ ap (λ (own : RegisterBlock). record { station = b.station; number = b.number; block = own }) block

same_block_of : (line : List Member) (a b : LineBlock) (of : IsBlockOf line a) (other : IsBlockOf line b) → of.member ≡ other.member → a.number ≡ b.number → a.block ≡ b.block
same_block_of line a b of other same number =
    let index : of.index ≡ other.index = sym of.at ∙ ap area_index number ∙ other.at in
    let both : Some of.area ≡ Some other.area = sym of.found ∙ ap₂ (λ (m : Member) (n : ℕ). slice_get m.slave.areas n) same index ∙ other.found in
    let area : of.area ≡ other.area = cc in
    by_bool (is_fmmu a.number)
    (λ t. (of.fmmu t).1
    ∙ ap (λ (m : Member). fmmu_block of.index of.area (mapping line m.rank of.index of.area)) same
    ∙ ap₂ (λ (n : ℕ) (one : Area). fmmu_block n one (mapping line other.member.rank n one)) index area
    ∙ sym (other.fmmu (sym (ap is_fmmu number) ∙ t)).1)
    (λ t. (of.sync t).1 ∙ ap sync_manager_block area ∙ sym (other.sync (sym (ap is_fmmu number) ∙ t)).1)

pub own-names : (state : State) → lowest_fault (groups_of state.groups) ≡ None → HasOwnNames (line state)
own-names state project = λ a b in_a in_b same.
    let both = and_parts (a.station == b.station) (a.number == b.number) same in
    let station : a.station ≡ b.station = eqb-true a.station b.station both.0 in
    let number : a.number ≡ b.number = eqb-true a.number b.number both.1 in
    let of = block-of (line state) a in_a in
    let other = block-of (line state) b in_b in
    let member = one-station state of.member other.member project of.inside other.inside (sym of.station ∙ station ∙ other.station) in
    one_block a b station number (same_block_of (line state) a b of other member number)

-- a task of a project's line that has a datagram is one of the eight, and has 16 datagrams at most

keys_are_low : (state : State) (task : ℕ) → lowest_fault (groups_of state.groups) ≡ None → All (λ (keyed : Keyed). task < TASKS) (task_list task (line state))
keys_are_low state task project =
    task-list-all (λ (keyed : Keyed). task < TASKS) task (line state)
    (λ dir j d low i e within belonging.
    let member = slice_index_or (line state) j d in
    let element = slice_index_or (enumerate_from 0 member.slave.areas) i e in
    let first = and_parts ((element.1.task == task) && same_dir element.1.dir dir) (nat_lt 0 (width element.1)) belonging in
    let tests = and_parts (element.1.task == task) (same_dir element.1.dir dir) first.0 in
    subst (λ (n : ℕ). n < TASKS) (eqb-true element.1.task task tests.0) (low_task state member element.0 element.1 project (Contains-get_or (line state) j d low) (numbered-own member.slave.areas i e within)))

low_if : (task d : ℕ) (list : List Keyed) → All (λ (keyed : Keyed). task < TASKS) list → d < datagram_count (packed empty_front list) → task < TASKS
low_if task d [] all is_placed = absurd (omega arith)
low_if task d (keyed ∷ list) all is_placed = all 0 keyed (omega arith)

pub few-datagrams : (state : State) → lowest_fault (groups_of state.groups) ≡ None → over_limit_task (line state) ≡ None → HasFewDatagrams (line state)
few-datagrams state project uncrowded = λ named is_placed.
    let low = low_if named.0 named.1 (task_list named.0 (line state)) (keys_are_low state named.0 project) is_placed in
    let few = uncrowded-few (line state) named.0 uncrowded low in
    omega (arith, few, is_placed)
