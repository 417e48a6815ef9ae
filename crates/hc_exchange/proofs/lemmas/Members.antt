-- What a configurable line keeps: its slaves' areas in memory of their own, one rank and one station address each, and each area in its place.
use Rattle.std.proofs.Common.{◌≡◌, ℕ, ◌+◌, ◌*◌, ◌/◌, ◌<◌, ◌≤◌, inl, inr, List, sym, subst, arith}
use Rattle.std.specs.Prelude.{All, AllPairs, Contains, slice_get, slice_index_or, Some, ◌≢◌}
use Rattle.std.proofs.lemmas.Bool.{cases_order}
use Rattle.std.proofs.lemmas.List.Elements.{All-contains}
use Rattle.std.proofs.lemmas.Option.{get_or_from_slice_get, slice_get_within}
use Rattle.hc_records.specs.declared.limits.TheConstants.{MOST_AREA_BITS, MOST_DATAGRAMS, TASKS}
use Rattle.hc_records.specs.declared.records.Area.{Area}
use Rattle.hc_records.specs.Area.{width}
use Rattle.hc_records.specs.Image.{datagram_count, task_places}
use Rattle.hc_records.specs.Limits.{IsAreaInside, IsSlaveInside, KeepApart, Reaches}
use Rattle.hc_records.specs.Line.{Member, State, groups_of, line}
use Rattle.hc_records.specs.Packing.{Placed, empty_front, packed}
use Rattle.hc_records.specs.Project.{reach}
use Rattle.hc_records.specs.ProjectLaws.{HoldsItsWidth}
use Rattle.hc_records.specs.TaskList.{task_list}
use Rattle.hc_records.proofs.lemmas.Addresses.{uncrowded-few}
use Rattle.hc_records.proofs.lemmas.Greatest.{greatest-all}
use Rattle.hc_records.proofs.lemmas.Inside.{packed-inside}
use Rattle.hc_records.proofs.lemmas.Lines.{each-group, line-ascends, line-slaves}
use Rattle.hc_records.proofs.lemmas.Lists.{All-unmap}
use Rattle.hc_records.proofs.lemmas.Packable.{project-packable}
use Rattle.hc_records.proofs.lemmas.Packed.{area_of, packed-areas}
use Rattle.hc_records.proofs.lemmas.Reaches.{reaches-hold}
use Rattle.hc_records.proofs.lemmas.Slaves.{line-inside, line-stations}
use Rattle.hc_records.specs.Laws.{IsPackable}
use Rattle.hc_exchange.specs.PairLaws.{IsConfigurable}
use Rattle.hc_plan.proofs.lemmas.Elements.{contains-order}

-- a place that has bits, within one of a task's 16 datagrams
pub record IsGoodPlace (placed : Placed) : Type 0 where
  pub some : 0 < placed.bits
  pub inside : placed.bit + placed.bits ≤ MOST_AREA_BITS
  pub early : placed.datagram < MOST_DATAGRAMS

pub record KeepsLine (line : List Member) : Type 0 where
  pub slaves : All (λ member. IsSlaveInside member.slave) line
  pub widths : All (λ member. All HoldsItsWidth member.slave.areas) line
  pub ranks : AllPairs (λ a b. a.rank < b.rank) line
  pub stations : AllPairs (λ a b. a.slave.station ≢ b.slave.station) line
  pub places : (task : ℕ) → task < TASKS → All IsGoodPlace (task_places task line)

good-places : (state : State) (task : ℕ) → IsConfigurable state → task < TASKS → All IsGoodPlace (task_places task (line state))
good-places state task can low k d within =
    let members = line state in
    let list = task_list task members in
    let places = packed empty_front list in
    let packable : All IsPackable list = project-packable state task can.project in
    let count = uncrowded-few members task can.uncrowded low in
    let after_it : (slice_index_or places k d).datagram + 1 ≤ datagram_count places = greatest-all (λ (placed : Placed). placed.datagram + 1) 0 places k d within in
    let own : IsPackable (area_of (slice_index_or places k d)) =
    All-unmap IsPackable area_of places (subst (All IsPackable) (sym (packed-areas empty_front list)) packable) k d within in
    record {
      some = own.some;
      inside = packed-inside empty_front list packable k d within;
      early = omega (arith, after_it, count);
    }

pub stays-line : (state : State) → IsConfigurable state → KeepsLine (line state)
stays-line state can = record {
  slaves = line-inside state.groups can.project;
  widths = line-slaves (λ slave. All HoldsItsWidth slave.areas) 1 state.groups (each-group (λ slave. All HoldsItsWidth slave.areas) state.groups (reaches-hold (groups_of state.groups) can.project));
  ranks = line-ascends 1 state.groups;
  stations = line-stations state.groups can.project;
  places = λ task low. good-places state task can low;
}

-- a station address names one slave of the line

pub one-station : (line : List Member) (a b : Member) → KeepsLine line → Contains line a → Contains line b → a.slave.station ≡ b.slave.station → a ≡ b
one-station line a b stays has has' same =
    elim (contains-order (λ (x y : Member). x.slave.station ≢ y.slave.station) line a b stays.stations has has') [
      | inl one ↦ one
      | inr (inl differ) ↦ absurd (differ same)
      | inr (inr differ) ↦ absurd (differ (sym same))
    ]

-- the areas of a slave of the line

pub slave-of : (line : List Member) (member : Member) → KeepsLine line → Contains line member → IsSlaveInside member.slave
slave-of line member stays has = All-contains (λ (m : Member). IsSlaveInside m.slave) line member stays.slaves has

area-at : (P : Area → Type 0) (areas : List Area) (index : ℕ) (area : Area) → All P areas → slice_get areas index ≡ Some area → P area
area-at P areas index area all found = subst P (get_or_from_slice_get areas index area area found) (all index area (slice_get_within areas index area found))

pub area-inside : (line : List Member) (member : Member) (index : ℕ) (area : Area) → KeepsLine line → Contains line member → slice_get member.slave.areas index ≡ Some area → IsAreaInside area
area-inside line member index area stays has found = area-at IsAreaInside member.slave.areas index area (slave-of line member stays has).areas found

pub area-width : (line : List Member) (member : Member) (index : ℕ) (area : Area) → KeepsLine line → Contains line member → slice_get member.slave.areas index ≡ Some area → width area ≤ 8 * reach area
area-width line member index area stays has found =
    area-at HoldsItsWidth member.slave.areas index area (All-contains (λ (m : Member). All HoldsItsWidth m.slave.areas) line member stays.widths has) found

-- a memory bit of an area lies in a byte that the area may take
byte-of : (phys bits bytes m k : ℕ) → bits ≤ 8 * bytes → k < bits → m ≡ 8 * phys + k → (phys ≤ m / 8) × (m / 8 < phys + bytes)
byte-of phys bits bytes m k holds below is = (omega arith, omega arith)

bit-reached : (area : Area) (m k : ℕ) → width area ≤ 8 * reach area → k < width area → m ≡ 8 * area.phys + k → Reaches area (m / 8)
bit-reached area m k holds below is =
    let bounds = byte-of area.phys (width area) (reach area) m k holds below is in
    record { from = bounds.0; below = bounds.1 }

-- so a memory bit names one area of a slave of the line
pub one-index : (line : List Member) (member : Member) (i j : ℕ) (a b : Area) (m k l : ℕ) → KeepsLine line → Contains line member
    → slice_get member.slave.areas i ≡ Some a → slice_get member.slave.areas j ≡ Some b → k < width a → m ≡ 8 * a.phys + k → l < width b → m ≡ 8 * b.phys + l → i ≡ j
one-index line member i j a b m k l stays has found found' below is below' is' =
    let areas = member.slave.areas in
    let first = bit-reached a m k (area-width line member i a stays has found) below is in
    let second = bit-reached b m l (area-width line member j b stays has found') below' is' in
    let apart = (slave-of line member stays has).apart in
    let at_i = get_or_from_slice_get areas i a a found in
    let at_j = get_or_from_slice_get areas j b a found' in
    elim (cases_order i j) [
      | inl same ↦ same
      | inr (inl lower) ↦ absurd (
          subst (λ (y : Area). KeepApart a y) at_j (subst (λ (x : Area). KeepApart x (slice_index_or areas j a)) at_i (apart i j a lower (slice_get_within areas j b found'))) (m / 8) first second)
      | inr (inr higher) ↦ absurd (
          subst (λ (y : Area). KeepApart b y) at_i (subst (λ (x : Area). KeepApart x (slice_index_or areas i a)) at_j (apart j i a higher (slice_get_within areas i a found))) (m / 8) second first)
    ]

-- an area ends within its slave's memory
pub area-in-memory : (area : Area) → IsAreaInside area → width area ≤ 8 * reach area → 8 * area.phys + width area ≤ 98304
area-in-memory area inside holds = let end : area.phys + reach area ≤ 12288 = inside.end in omega arith
