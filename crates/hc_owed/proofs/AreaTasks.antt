-- The block of an area's FMMU names the area's task, if the area has a bit, and no other.
use Rattle.std.proofs.Common.{◌≡◌, ℕ, zero, suc, ◌+◌, ◌-◌, ◌*◌, ◌/◌, ◌%◌, ◌<◌, ◌≤◌, ◌==◌, ◌&&◌, Bool, true, false, cond, Contains, List, [], ◌∷◌, map, refl, sym, ap, ap₂, subst, inl, inr, ◌∙◌, arith}
use Rattle.std.specs.Prelude.{◌≢◌, All, AllPairs, None, Some, Option, filter, find, is_some, nat_lt, option_and_then, option_map, replicate, slice_get, slice_index_or}
use Rattle.std.specs.List.{enumerate_from, flat_map}
use Rattle.std.specs.Option.{option_map_or}
use Rattle.std.proofs.lemmas.Bool.{cases_lt, and_from, eqb-false, eqb-true, eq-eqb, ne_eqb, lt-ltb}
use Rattle.std.proofs.lemmas.Bool.Decides.{nat_tests}
use Rattle.std.proofs.lemmas.List.Elements.{All-contains, Contains-append_left, Contains-append_right, Contains-get_or}
use Rattle.std.proofs.lemmas.Nat.{from_le_bytes-to_le_bytes_4}
use Rattle.std.proofs.lemmas.Option.{same_Some}
use Rattle.hc_records.specs.declared.keys.Key.{Key}
use Rattle.hc_records.specs.declared.limits.TheConstants.{MOST_AREA_BITS, MOST_DATAGRAMS, TASKS}
use Rattle.hc_records.specs.declared.records.Area.{Area}
use Rattle.hc_records.specs.declared.records.Dir.{Dir}
use Rattle.hc_records.specs.declared.records.Dir.TheVariants.{Out, In}
use Rattle.hc_records.specs.declared.records.Slave.{Slave}
use Rattle.hc_records.specs.Area.{width}
use Rattle.hc_records.specs.Edits.{over_limit_task, slave_at}
use Rattle.hc_records.specs.Image.{datagram_count, task_places}
use Rattle.hc_records.specs.Keys.{same_dir, same_key}
use Rattle.hc_records.specs.Laws.{IsPackable}
use Rattle.hc_records.specs.Limits.{IsAreaInside, IsSlaveInside}
use Rattle.hc_records.specs.Line.{Member, State, groups_of, is_at, line}
use Rattle.hc_records.specs.Packing.{Placed, empty_front, packed}
use Rattle.hc_records.specs.Project.{lowest_fault}
use Rattle.hc_records.specs.TaskList.{Keyed, Listed, belongs, keyed, slave_areas, task_areas, task_list}
use Rattle.hc_records.proofs.lemmas.Addresses.{uncrowded-few}
use Rattle.hc_records.proofs.lemmas.Finds.{found-all, found-none, mapped-some}
use Rattle.hc_records.proofs.lemmas.Greatest.{greatest-all}
use Rattle.hc_records.proofs.lemmas.Inside.{packed-inside}
use Rattle.hc_records.proofs.lemmas.KeyOrder.{same_dir-refl, same_key-refl, same_key-same}
use Rattle.hc_records.proofs.lemmas.Lines.{line-ascends}
use Rattle.hc_records.proofs.lemmas.Lists.{All-unmap}
use Rattle.hc_records.proofs.lemmas.Packable.{project-packable}
use Rattle.hc_records.proofs.lemmas.Packed.{area_of, packed-areas}
use Rattle.hc_records.proofs.lemmas.Slaves.{line-inside, line-stations}
use Rattle.hc_records.proofs.lemmas.Tasks.{listed, task-list-all}
use Rattle.hc_registers.specs.declared.fmmu.Mapping.{Mapping}
use Rattle.hc_registers.specs.Blocks.{LineBlock, RegisterBlock, area_blocks, fmmu_block, fmmu_bytes, mapped_bytes, mapping_at, mapping_of, member_blocks, slave_blocks}
use Rattle.hc_registers.proofs.lemmas.RanksStanding.{standing-of}
use Rattle.hc_changes.proofs.lemmas.Lists.{found-among}
use Rattle.hc_plan.proofs.lemmas.AreaKeys.{one-rank}
use Rattle.hc_plan.proofs.lemmas.Configured.{at-contained, contained-own}
use Rattle.hc_plan.proofs.lemmas.Elements.{contains-joined, contains-mapped, contains-numbered, contains-order, contains-unchanged, contains-unmapped, numbered-at}
use Rattle.hc_plan.proofs.lemmas.PlaceNames.{is_placed-on, name-at}
use Rattle.hc_events.specs.Ready.{is_in_task, names_task, serves_task}
use Rattle.hc_owed.specs.Readiness.{area_slave, slot}
use Rattle.hc_owed.proofs.AreaPlaces.{of-area, slot-at}

-- bytes of a block

same-next : (a b : ℕ) → (a + 1 == b + 1) ≡ (a == b)
same-next a b = by (a == b) refl
  where
    by : (same : Bool) → (a == b) ≡ same → (a + 1 == b + 1) ≡ same
    by true is = eq-eqb (a + 1) (b + 1) (ap (λ (n : ℕ). n + 1) (eqb-true a b is))
    by false is = ne_eqb (a + 1) (b + 1) (λ same. eqb-false a b is (omega (arith, same)))

names-mapped : (t : ℕ) (area : Area) (mapping : Mapping) (d : ℕ) → area.task < 8 → d < 16 → mapping.address ≡ 16777216 * (area.task + 1) + 2048 * d → mapping.bit ≤ 11888
    → names_task t (mapped_bytes area mapping) ≡ (area.task == t)
names-mapped t area mapping d low early is inside =
    let start = from_le_bytes-to_le_bytes_4 (mapping.address + mapping.bit / 8) (omega (arith, low, early, is, inside)) in
    let span : (mapping.address + mapping.bit / 8) / 16777216 ≡ area.task + 1 = omega (arith, early, is, inside) in
    ap (λ (n : ℕ). n / 16777216 == t + 1) start ∙ ap (λ (n : ℕ). n == t + 1) span ∙ same-next area.task t

names-unmapped : (t : ℕ) → names_task t (replicate 16 0) ≡ false
names-unmapped t = refl

-- the areas of a task's list

abbrev key_of : Member → ℕ → Area → Key
key_of member index area = record { dir = area.dir; rank = member.rank; area = index }

own-task : (task bits : ℕ) → 0 < bits → ((task == task) ≡ true) × (nat_lt 0 bits ≡ true)
own-task task bits some = (grind (arith, nat_tests), grind (arith, nat_tests))

belongs-own : (area : Area) → 0 < width area → belongs area.task area.dir area ≡ true
belongs-own area some =
    let own = own-task area.task (width area) some in
    and_from ((area.task == area.task) && same_dir area.dir area.dir) (nat_lt 0 (width area)) (and_from (area.task == area.task) (same_dir area.dir area.dir) own.0 (same_dir-refl area.dir)) own.1

one-way : (task : ℕ) (line : List Member) (dir : Dir) (l : Listed) → Contains (flat_map (slave_areas task dir) line) l → Contains (task_areas task line) l
one-way task line Out l has = Contains-append_left (flat_map (slave_areas task Out) line) (flat_map (slave_areas task In) line) l has
one-way task line In l has = Contains-append_right (flat_map (slave_areas task Out) line) (flat_map (slave_areas task In) line) l has

in-list : (line : List Member) (member : Member) (index : ℕ) (area : Area) → Contains line member → slice_get member.slave.areas index ≡ Some area → 0 < width area
    → Contains (task_list area.task line) (key_of member index area, width area)
in-list line member index area has own some =
    let numbered = enumerate_from 0 member.slave.areas in
    let number : 0 + index ≡ index = omega arith in
    let element : Contains numbered (index, area) = subst (λ (n : ℕ). Contains numbered (n, area)) number (contains-numbered 0 index member.slave.areas area own) in
    let test = λ (e : ℕ × Area). belongs area.task area.dir e.1 in
    let unchanged = contains-unchanged test numbered (index, area) element (belongs-own area some) in
    let one : Contains (slave_areas area.task area.dir member) (listed area.dir member.rank (index, area)) = contains-mapped (listed area.dir member.rank) (filter test numbered) (index, area) unchanged in
    let all = contains-joined (slave_areas area.task area.dir) line member (listed area.dir member.rank (index, area)) has one in
    contains-mapped keyed (task_areas area.task line) (listed area.dir member.rank (index, area)) (one-way area.task line area.dir (listed area.dir member.rank (index, area)) all)

none-found : {X Y : Type 0} (f : X → Y) (found : Option X) → option_map f found ≡ None → found ≡ None
none-found f None none = refl
none-found f (Some x) none = cc

-- an area that has a bit is mapped
is-found : (line : List Member) (member : Member) (index : ℕ) (area : Area) → Contains line member → slice_get member.slave.areas index ≡ Some area → 0 < width area
    → mapping_of line area.task (key_of member index area) ≡ None → ⊥
is-found line member index area has own some none =
    let key = key_of member index area in
    let places = task_places area.task line in
    let test = λ (p : Placed). same_key p.key key in
    let listed_so : Contains (map area_of places) (key, width area) =
    subst (λ (list : List Keyed). Contains list (key, width area)) (sym (packed-areas empty_front (task_list area.task line))) (in-list line member index area has own some) in
    let placed = contains-unmapped area_of places (key, width area) listed_so in
    let missed : same_key placed.0.key key ≡ false =
    All-contains (λ (p : Placed). test p ≡ false) places placed.0 (found-none test places (none-found (mapping_at area.task) (find test places) none)) placed.1 in
    let same : placed.0.key ≡ key = ap (λ (k : Keyed). k.0) placed.2 in
    let equal : same_key placed.0.key key ≡ true = ap (λ (k : Key). same_key k key) same ∙ same_key-refl key in
    cc

passes-by : {X : Type 0} (passes : Bool) (test : X → Bool) (first found : X) (rest : Option X) → test first ≡ passes → (rest ≡ Some found → test found ≡ true)
    → cond passes (Some first) rest ≡ Some found → test found ≡ true
passes-by true test first found rest is later has = let same : first ≡ found = cc in ap test (sym same) ∙ is
passes-by false test first found rest is later has = later has

found-passes : {X : Type 0} (test : X → Bool) (xs : List X) (found : X) → find test xs ≡ Some found → test found ≡ true
found-passes test [] found has = cc
found-passes test (x ∷ xs) found has = passes-by (test x) test x found (find test xs) refl (found-passes test xs found) has

named-width : (member other : Member) (index number : ℕ) (area found : Area) → other ≡ member → number ≡ index → slice_get other.slave.areas number ≡ Some found
    → slice_get member.slave.areas index ≡ Some area → width found ≡ width area
named-width member other index number area found same same_number has own =
    let equal : Some found ≡ Some area = sym has ∙ ap₂ (λ (m : Member) (n : ℕ). slice_get m.slave.areas n) same same_number ∙ own in
    let one : found ≡ area = cc in
    ap width one

list-widths : (line : List Member) (member : Member) (index : ℕ) (area : Area) (task : ℕ) → AllPairs (λ (a b : Member). a.rank < b.rank) line → Contains line member → slice_get member.slave.areas index ≡ Some area
    → All (λ (k : Keyed). k.0 ≡ key_of member index area → k.1 ≡ width area) (task_list task line)
list-widths line member index area task ranks has own =
    task-list-all (λ (k : Keyed). k.0 ≡ key_of member index area → k.1 ≡ width area) task line
    (λ dir j d low i e within belongs same.
    let other = slice_index_or line j d in
    let numbered = numbered-at 0 other.slave.areas i e within in
    let one : other ≡ member = one-rank line other member ranks (Contains-get_or line j d low) has (ap (λ (key : Key). key.rank) same) in
    let number = slice_index_or (enumerate_from 0 other.slave.areas) i e in
    let none : number.0 - 0 ≡ number.0 = omega arith in
    named-width member other index number.0 area number.1 one (ap (λ (key : Key). key.area) same)
    (ap (slice_get other.slave.areas) (sym none) ∙ numbered.1) own)

place-widths : (line : List Member) (member : Member) (index : ℕ) (area : Area) (task : ℕ) → AllPairs (λ (a b : Member). a.rank < b.rank) line → Contains line member → slice_get member.slave.areas index ≡ Some area
    → All (λ (p : Placed). p.key ≡ key_of member index area → p.bits ≡ width area) (task_places task line)
place-widths line member index area task ranks has own =
    let list = task_list task line in
    let named = λ (k : Keyed). (k.0 ≡ key_of member index area → k.1 ≡ width area) in
    All-unmap named area_of (packed empty_front list) (subst (All named) (sym (packed-areas empty_front list)) (list-widths line member index area task ranks has own))

-- a place that has bits, within one of a task's 16 datagrams
record IsGoodPlace (placed : Placed) : Type 0 where
  some : 0 < placed.bits
  inside : placed.bit + placed.bits ≤ MOST_AREA_BITS
  early : placed.datagram < MOST_DATAGRAMS

good-places : (state : State) (task : ℕ) → lowest_fault (groups_of state.groups) ≡ None → over_limit_task (line state) ≡ None → task < TASKS → All IsGoodPlace (task_places task (line state))
good-places state task project uncrowded low k d within =
    let members = line state in
    let list = task_list task members in
    let places = packed empty_front list in
    let packable : All IsPackable list = project-packable state task project in
    let count = uncrowded-few members task uncrowded low in
    let after_it : (slice_index_or places k d).datagram + 1 ≤ datagram_count places = greatest-all (λ (placed : Placed). placed.datagram + 1) 0 places k d within in
    let own : IsPackable (area_of (slice_index_or places k d)) =
    All-unmap IsPackable area_of places (subst (All IsPackable) (sym (packed-areas empty_front list)) packable) k d within in
    record {
      some = own.some;
      inside = packed-inside empty_front list packable k d within;
      early = omega (arith, after_it, count);
    }

area-in : (P : Area → Type 0) (areas : List Area) (index : ℕ) (area : Area) → All P areas → slice_get areas index ≡ Some area → P area
area-in P areas index area all found = All-contains P areas area all (at-contained areas index area found)

-- the block of the FMMU of an area of a slave of the line
module _ (state : State) (t : ℕ) (project : lowest_fault (groups_of state.groups) ≡ None) (uncrowded : over_limit_task (line state) ≡ None) where
  whole : (same more : Bool) → more ≡ true → same ≡ (same && more)
  whole true true is = refl
  whole false true is = refl
  whole same false is = cc

  no-bits : (bits : ℕ) → bits ≤ 0 → nat_lt 0 bits ≡ false
  no-bits bits none = grind (arith, nat_tests)

  empty : (same more : Bool) → more ≡ false → false ≡ (same && more)
  empty true false is = refl
  empty false false is = refl
  empty same true is = cc

  names-area : (member : Member) (index : ℕ) (area : Area) → Contains (line state) member → slice_get member.slave.areas index ≡ Some area → (o : Option Mapping) → mapping_of (line state) area.task (key_of member index area) ≡ o
      → names_task t (fmmu_bytes area o) ≡ is_in_task t area
  names-area member index area has own None none =
      names-unmapped t ∙ elim (cases_lt 0 (width area)) [
        | inl some ↦ absurd (is-found (line state) member index area has own some none)
        | inr all ↦ empty (area.task == t) (nat_lt 0 (width area)) (no-bits (width area) all)
      ]
  names-area member index area has own (Some mapping) mapped =
      let key = key_of member index area in
      let places = task_places area.task (line state) in
      let slave = All-contains (λ (m : Member). IsSlaveInside m.slave) (line state) member (line-inside state.groups project) has in
      let low : area.task < TASKS = (area-in IsAreaInside member.slave.areas index area slave.areas own).task in
      let found = mapped-some (mapping_at area.task) (find (λ (p : Placed). same_key p.key key) places) mapping mapped in
      let same : found.0.key ≡ key = same_key-same found.0.key key (found-passes (λ (p : Placed). same_key p.key key) places found.0 found.1) in
      let bits = found-all (λ (p : Placed). p.key ≡ key → p.bits ≡ width area) (λ (p : Placed). same_key p.key key) places found.0
      (place-widths (line state) member index area area.task (line-ascends 1 state.groups) has own) found.1 same in
      let good = found-all IsGoodPlace (λ (p : Placed). same_key p.key key) places found.0 (good-places state area.task project uncrowded low) found.1 in
      let some : 0 < found.0.bits = good.some in
      let inside : found.0.bit + found.0.bits ≤ 11888 = good.inside in
      let early : found.0.datagram < 16 = good.early in
      let address : mapping.address ≡ 16777216 * (area.task + 1) + 2048 * found.0.datagram = sym (ap (λ (m : Mapping). m.address) found.2) in
      let bit : mapping.bit ≡ found.0.bit = sym (ap (λ (m : Mapping). m.bit) found.2) in
      names-mapped t area mapping found.0.datagram low early address (omega (arith, bit, inside))
      ∙ whole (area.task == t) (nat_lt 0 (width area)) (lt-ltb 0 (width area) (omega (arith, some, bits)))

  -- the block at an odd number
  get-fmmu : (rank first k : ℕ) (areas : List Area) (block : RegisterBlock) → slice_get (flat_map (area_blocks (line state) rank) (enumerate_from first areas)) (2 * k + 1) ≡ Some block
      → (area : Area) × (slice_get areas k ≡ Some area) × (block ≡ fmmu_block (first + k) area (mapping_of (line state) area.task (record { dir = area.dir; rank = rank; area = first + k })))
  get-fmmu rank first k [] block at = cc
  get-fmmu rank first zero (area ∷ areas) block at =
      let same = same_Some (fmmu_block first area (mapping_of (line state) area.task (record { dir = area.dir; rank = rank; area = first }))) block at in
      let none : first ≡ first + 0 = omega arith in
      (area, refl, sym same ∙ ap (λ (n : ℕ). fmmu_block n area (mapping_of (line state) area.task (record { dir = area.dir; rank = rank; area = n }))) none)
  get-fmmu rank first (suc k) (area ∷ areas) block at =
      let shift : 2 * suc k + 1 ≡ suc (suc (2 * k + 1)) = omega arith in
      let rest = get-fmmu rank (first + 1) k areas block (sym (ap (slice_get (flat_map (area_blocks (line state) rank) (enumerate_from first (area ∷ areas)))) shift) ∙ at) in
      let next : first + 1 + k ≡ first + suc k = omega arith in
      (rest.0, rest.1, rest.2 ∙ ap (λ (n : ℕ). fmmu_block n rest.0 (mapping_of (line state) rest.0.task (record { dir = rest.0.dir; rank = rank; area = n }))) next)

  -- a station address names one slave of the line
  one-member : (a : Member) (station : ℕ) → Contains (line state) a → a.slave.station ≡ station → is_some (slave_at state station) ≡ true → slave_at state station ≡ Some a
  one-member a station has named inside = by (slave_at state station) refl inside
    where
      by : (found : Option Member) → slave_at state station ≡ found → is_some (slave_at state station) ≡ true → slave_at state station ≡ Some a
      by None is some = let never : false ≡ true = sym (ap (λ (o : Option Member). is_some o) is) ∙ some in cc
      by (Some b) is some =
          let found = found-among (is_at station) (line state) b is in
          let same = eqb-true b.slave.station station found.passes in
          elim (contains-order (λ (x y : Member). x.slave.station ≢ y.slave.station) (line state) b a (line-stations state.groups project) found.among has) [
            | inl one ↦ is ∙ ap (λ (m : Member). Some m) one
            | inr (inl differ) ↦ absurd (differ (same ∙ sym named))
            | inr (inr differ) ↦ absurd (differ (named ∙ sym same))
          ]

  pub serves-is : (i p : ℕ) (fmmu block : LineBlock) → slot state (2 * i + 1) ≡ Some fmmu → slot state p ≡ Some block → p / 2 ≡ i → serves_task state t block ≡ names_task t fmmu.block.bytes
  serves-is i p fmmu block at at' half =
      let placed = slot-at state (2 * i + 1) fmmu at in
      let placed' = slot-at state p block at' in
      let here = standing-of state (2 * i + 1) fmmu placed in
      let member = here.member in
      let name = name-at state (2 * i + 1) fmmu placed in
      let number' = (name-at state p block placed').number in
      let own = contained-own member.slave.station (slave_blocks (line state) member) fmmu (at-contained (member_blocks (line state) member) here.number fmmu here.is_placed) in
      let odd = name.number in
      let index : fmmu.number ≡ 2 * (i % 8) + 1 = omega (arith, odd) in
      let one = get-fmmu member.rank 0 (i % 8) member.slave.areas fmmu.block (ap (slice_get (slave_blocks (line state) member)) (sym index) ∙ own.1) in
      let area = one.0 in
      let none : 0 + i % 8 ≡ i % 8 = omega arith in
      let first = of-area state (2 * i + 1) fmmu placed in
      let second = of-area state p block placed' in
      let halves : (2 * i + 1) / 2 ≡ p / 2 = omega (arith, half) in
      let slaves : Some first.slave ≡ Some second.slave = sym first.area ∙ ap (area_slave state) halves ∙ second.area in
      let station : member.slave.station ≡ block.station = sym own.0 ∙ sym first.station ∙ ap (λ (s : Slave). s.station) (same_Some first.slave second.slave slaves) ∙ second.station in
      let at-number : block.number / 2 ≡ i % 8 = omega (arith, number', half) in
      ap (λ (o : Option Area). option_map_or (is_in_task t) o false)
      (ap (option_and_then (λ (m : Member). slice_get m.slave.areas (block.number / 2))) (one-member member block.station here.on station (is_placed-on state p block placed'))
      ∙ ap (slice_get member.slave.areas) at-number ∙ one.1)
      ∙ sym (names-area member (i % 8) area here.on one.1 (mapping_of (line state) area.task (key_of member (i % 8) area)) refl)
      ∙ ap (λ (n : ℕ). names_task t (fmmu_bytes area (mapping_of (line state) area.task (record { dir = area.dir; rank = member.rank; area = n })))) (sym none)
      ∙ sym (ap (λ (b : RegisterBlock). names_task t b.bytes) one.2)
