-- An area that has a bit is in its task's list, and so it is mapped.
use Rattle.std.proofs.Common.{◌≡◌, ℕ, ◌+◌, ◌<◌, ◌⊎◌, ◌∙◌, inl, inr, true, false, List, refl, sym, ap, subst, arith}
use Rattle.std.specs.Prelude.{Contains, None, Option, Some, filter, find, map, option_map, slice_get, nat_lt, ◌==◌, ◌&&◌}
use Rattle.std.specs.List.{enumerate_from, flat_map}
use Rattle.std.proofs.lemmas.Bool.{cases_lt, and_from}
use Rattle.std.proofs.lemmas.Bool.Decides.{nat_tests}
use Rattle.std.proofs.lemmas.List.Elements.{All-contains, Contains-append_left, Contains-append_right}
use Rattle.hc_records.specs.declared.keys.Key.{Key}
use Rattle.hc_records.specs.declared.records.Area.{Area}
use Rattle.hc_records.specs.declared.records.Dir.{Dir}
use Rattle.hc_records.specs.declared.records.Dir.TheVariants.{Out, In}
use Rattle.hc_records.specs.Area.{width}
use Rattle.hc_records.specs.Image.{task_places}
use Rattle.hc_records.specs.Keys.{same_dir, same_key}
use Rattle.hc_records.specs.Line.{Member, line}
use Rattle.hc_records.specs.Packing.{Placed, empty_front}
use Rattle.hc_records.specs.TaskList.{Keyed, Listed, belongs, keyed, slave_areas, task_areas, task_list}
use Rattle.hc_records.proofs.lemmas.Finds.{found-none}
use Rattle.hc_records.proofs.lemmas.KeyOrder.{same_dir-refl, same_key-refl}
use Rattle.hc_records.proofs.lemmas.Packed.{area_of, packed-areas}
use Rattle.hc_records.proofs.lemmas.Tasks.{listed}
use Rattle.hc_registers.specs.declared.fmmu.Mapping.{Mapping}
use Rattle.hc_registers.specs.Blocks.{mapping_at, mapping_of}
use Rattle.hc_exchange.specs.PairLaws.{AreasWithBitsAreMapped, IsMappedInPlace}
use Rattle.hc_exchange.specs.Pairs.{member_area_key}
use Rattle.hc_plan.proofs.lemmas.Elements.{contains-joined, contains-unchanged, contains-mapped, contains-numbered, contains-unmapped}
use Rattle.hc_exchange.proofs.lemmas.Members.{KeepsLine, stays-line}
use Rattle.hc_exchange.proofs.lemmas.Places.{mapped-place}

own-task : (task bits : ℕ) → 0 < bits → ((task == task) ≡ true) × (nat_lt 0 bits ≡ true)
own-task task bits some = (grind (arith, nat_tests), grind (arith, nat_tests))

belongs-own : (area : Area) → 0 < width area → belongs area.task area.dir area ≡ true
belongs-own area some =
    let own = own-task area.task (width area) some in
    and_from ((area.task == area.task) && same_dir area.dir area.dir) (nat_lt 0 (width area)) (and_from (area.task == area.task) (same_dir area.dir area.dir) own.0 (same_dir-refl area.dir)) own.1

one-way : (task : ℕ) (line : List Member) (dir : Dir) (l : Listed) → Contains (flat_map (slave_areas task dir) line) l → Contains (task_areas task line) l
one-way task line Out l has = Contains-append_left (flat_map (slave_areas task Out) line) (flat_map (slave_areas task In) line) l has
one-way task line In l has = Contains-append_right (flat_map (slave_areas task Out) line) (flat_map (slave_areas task In) line) l has

in-list : (line : List Member) (member : Member) (index : ℕ) (area : Area) → Contains line member → slice_get member.slave.areas index ≡ Some area → 0 < width area
    → Contains (task_list area.task line) (member_area_key member index area, width area)
in-list line member index area has own some =
    let numbered = enumerate_from 0 member.slave.areas in
    let number : 0 + index ≡ index = omega arith in
    let element : Contains numbered (index, area) = subst (λ (n : ℕ). Contains numbered (n, area)) number (contains-numbered 0 index member.slave.areas area own) in
    let test = λ (e : ℕ × Area). belongs area.task area.dir e.1 in
    let unchanged = contains-unchanged test numbered (index, area) element (belongs-own area some) in
    let one : Contains (slave_areas area.task area.dir member) (listed area.dir member.rank (index, area)) = contains-mapped (listed area.dir member.rank) (filter test numbered) (index, area) unchanged in
    let all = contains-joined (slave_areas area.task area.dir) line member (listed area.dir member.rank (index, area)) has one in
    contains-mapped keyed (task_areas area.task line) (listed area.dir member.rank (index, area)) (one-way area.task line area.dir (listed area.dir member.rank (index, area)) all)

none-found : {X Y : Type 0} (f : X → Y) (found : Option X) → option_map f found ≡ None → found ≡ None
none-found f None none = refl
none-found f (Some x) none = cc

-- where an area has a bit, something is found under its key
is-found : (line : List Member) (member : Member) (index : ℕ) (area : Area) → Contains line member → slice_get member.slave.areas index ≡ Some area → 0 < width area
    → mapping_of line area.task (member_area_key member index area) ≡ None → ⊥
is-found line member index area has own some none =
    let key = member_area_key member index area in
    let places = task_places area.task line in
    let test = λ (p : Placed). same_key p.key key in
    let listed_so : Contains (map area_of places) (key, width area) =
    subst (λ (list : List Keyed). Contains list (key, width area)) (sym (packed-areas empty_front (task_list area.task line))) (in-list line member index area has own some) in
    let placed = contains-unmapped area_of places (key, width area) listed_so in
    let missed : same_key placed.0.key key ≡ false =
    All-contains (λ (p : Placed). test p ≡ false) places placed.0 (found-none test places (none-found (mapping_at area.task) (find test places) none)) placed.1 in
    let same : placed.0.key ≡ key = ap (λ (k : Keyed). k.0) placed.2 in
    let equal : same_key placed.0.key key ≡ true = ap (λ (k : Key). same_key k key) same ∙ same_key-refl key in
    cc

pub areas-mapped : AreasWithBitsAreMapped
areas-mapped state member index area can has own = by (mapping_of members area.task (member_area_key member index area)) refl
  where
    members : List Member
    members = line state

    stays : KeepsLine members
    stays = stays-line state can

    by : (o : Option Mapping) → mapping_of members area.task (member_area_key member index area) ≡ o
        → ((0 < width area) × IsMappedInPlace members member index area) ⊎ ((width area ≡ 0) × (mapping_of members area.task (member_area_key member index area) ≡ None))
    by None none = elim (cases_lt 0 (width area)) [
      | inl some ↦ absurd (is-found members member index area has own some none)
      | inr all ↦ inr (omega arith, none)
    ]
    by (Some mapping) mapped =
        let place = mapped-place members member index area mapping stays has own mapped in
        let some : 0 < place.placed.bits = place.good.some in
        inl (
          omega (arith, some, place.bits),
          record { placed = place.placed; in_task = place.in_task; key = place.key; bits = place.bits; mapped = mapped ∙ ap Some (sym place.is) },
        )
