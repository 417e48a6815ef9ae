-- A project keeps every limit: what each record of specs/Limits asks follows where none of the faults' conditions holds.
use Rattle.std.proofs.Common.{◌≡◌, ℕ, ◌+◌, ◌≤◌, Bool, true, false, List, [], ◌∷◌, length, refl, sym, arith}
use Rattle.std.specs.Prelude.{All, None, map, nat_lt, not, slice_index_or, ◌&&◌, ◌||◌, ◌==◌, ◌-◌, ◌≢◌}
use Rattle.std.specs.List.{list_any}
use Rattle.std.proofs.lemmas.Bool.{and_from, both_ways, eqb-false, eqb-true, lt-ltb, ltb-false, ltb-true, not-false, or_parts}
use Rattle.std.proofs.lemmas.List.Elements.{All-weaker}
use Rattle.hc_records.specs.declared.limits.TheConstants.{LAST_SYNC_MANAGER, MEMORY_END, MEMORY_START, MOST_AREA_BITS, MOST_AREAS, MOST_ENTRIES, MOST_ENTRY_BITS, MOST_GROUPS, MOST_PDOS, MOST_SLAVES, TASKS}
use Rattle.hc_records.specs.declared.records.Pdo.{Pdo}
use Rattle.hc_records.specs.declared.records.Area.{Area}
use Rattle.hc_records.specs.declared.records.Slave.{Slave}
use Rattle.hc_records.specs.declared.records.Group.{Group}
use Rattle.hc_records.specs.declared.faults.ProjectFault.TheVariants.{OutOfRange}
use Rattle.hc_records.specs.Area.{Entry, has_unknown, width}
use Rattle.hc_records.specs.Limits.{BeginsMandatory, ComesAndGoes, IsAreaInside, IsEntryInside, IsPdoInside, IsProjectInside, IsSlaveInside, KeepApart}
use Rattle.hc_records.specs.Lists.{has_repeat, some_pair}
use Rattle.hc_records.specs.Project.{area_outside, entry_outside, has_overlap, has_unknown_pdo, is_bare, is_misplaced, is_outside, is_wide, lowest_fault, overlap, pdo_outside, project_faults, reach, repeats_sync_manager, same_index, same_sync_manager, slave_outside, slaves_of, slave_names, some_slave}
use Rattle.hc_records.proofs.lemmas.Lists.{All-flat_map, All-from_none, AllPairs-from_none, AllPairs-from_once, AllPairs-unmap, AllPairs-weaker, none-holds}

-- one record

differs : (a b : ℕ) → (b == a) ≡ false → a ≢ b
differs a b apart same = eqb-false b a apart (sym same)

above-zero : (n : ℕ) → (n == 0) ≡ false → 1 ≤ n
above-zero n some = let nonzero = eqb-false n 0 some in omega arith

entry-inside : (entry : Entry) → entry_outside entry ≡ false → IsEntryInside entry
entry-inside entry none =
    let parts = or_parts (nat_lt entry.1 1) (nat_lt MOST_ENTRY_BITS entry.1) none in
    record { some = ltb-false entry.1 1 parts.0; most = ltb-false MOST_ENTRY_BITS entry.1 parts.1 }

pdo-inside : (pdo : Pdo) → pdo_outside pdo ≡ false → IsPdoInside pdo
pdo-inside pdo none =
    let parts = or_parts (nat_lt MOST_ENTRIES (length pdo.entries)) (list_any entry_outside pdo.entries) none in
    record {
      few = ltb-false MOST_ENTRIES (length pdo.entries) parts.0;
      entries = All-weaker (λ entry. entry_outside entry ≡ false) IsEntryInside entry-inside pdo.entries (All-from_none entry_outside pdo.entries parts.1);
    }

area-inside : (area : Area) → area_outside area ≡ false → has_unknown_pdo area ≡ false → is_wide area ≡ false → IsAreaInside area
area-inside area none assigned narrow =
    let a = nat_lt LAST_SYNC_MANAGER area.sm in
    let b = is_outside MEMORY_START (MEMORY_END - 1) area.phys in
    let c = not (nat_lt area.task TASKS) in
    let d = nat_lt MOST_PDOS (length area.assigned) in
    let e = nat_lt MOST_PDOS (length area.offered) in
    let f = list_any pdo_outside area.offered in
    let g = nat_lt MEMORY_END (area.phys + reach area) in
    let six = or_parts (a || b || c || d || e || f) g none in
    let five = or_parts (a || b || c || d || e) f six.0 in
    let four = or_parts (a || b || c || d) e five.0 in
    let three = or_parts (a || b || c) d four.0 in
    let two = or_parts (a || b) c three.0 in
    let one = or_parts a b two.0 in
    let memory = or_parts (nat_lt area.phys MEMORY_START) (nat_lt (MEMORY_END - 1) area.phys) one.1 in
    let last = ltb-false (MEMORY_END - 1) area.phys memory.1 in
    let names = or_parts (has_unknown area.assigned area || has_repeat area.assigned) (some_pair same_index area.offered) assigned in
    let known = or_parts (has_unknown area.assigned area) (has_repeat area.assigned) names.0 in
    record {
      manager = ltb-false LAST_SYNC_MANAGER area.sm one.0;
      start = ltb-false area.phys MEMORY_START memory.0;
      begins = omega (arith, last);
      end = ltb-false MEMORY_END (area.phys + reach area) six.1;
      task = ltb-true area.task TASKS (not-false (nat_lt area.task TASKS) two.1);
      few_offered = ltb-false MOST_PDOS (length area.offered) four.1;
      few_assigned = ltb-false MOST_PDOS (length area.assigned) three.1;
      pdos = All-weaker (λ pdo. pdo_outside pdo ≡ false) IsPdoInside pdo-inside area.offered (All-from_none pdo_outside area.offered five.1);
      indexes =
          AllPairs-weaker (λ a b. same_index a b ≡ false) (λ a b. a.index ≢ b.index) (λ (a : Pdo) (b : Pdo). differs a.index b.index) area.offered
          (AllPairs-from_none same_index area.offered names.1);
      known = known.0;
      once = AllPairs-from_once area.assigned known.1;
      narrow = ltb-false MOST_AREA_BITS (width area) narrow;
    }

-- two areas that don't overlap

keep-apart : (a b : Area) → overlap a b ≡ false → KeepApart a b
keep-apart a b none byte first second =
    let low = first.from in
    let high = first.below in
    let other_low = second.from in
    let other_high = second.below in
    let some : nat_lt 0 (reach a) ≡ true = lt-ltb 0 (reach a) (omega arith) in
    let other : nat_lt 0 (reach b) ≡ true = lt-ltb 0 (reach b) (omega arith) in
    let before : nat_lt a.phys (b.phys + reach b) ≡ true = lt-ltb a.phys (b.phys + reach b) (omega arith) in
    let after_it : nat_lt b.phys (a.phys + reach a) ≡ true = lt-ltb b.phys (a.phys + reach a) (omega arith) in
    let two = and_from (nat_lt 0 (reach a)) (nat_lt 0 (reach b)) some other in
    let three = and_from (nat_lt 0 (reach a) && nat_lt 0 (reach b)) (nat_lt a.phys (b.phys + reach b)) two before in
    both_ways (overlap a b) none
    (and_from (nat_lt 0 (reach a) && nat_lt 0 (reach b) && nat_lt a.phys (b.phys + reach b)) (nat_lt b.phys (a.phys + reach a)) three after_it)

-- no condition of a fault holds of a slave
record IsSound (slave : Slave) : Type 0 where
  ranges : slave_outside slave ≡ false
  managers : repeats_sync_manager slave ≡ false
  apart : has_overlap slave ≡ false
  assigned : list_any has_unknown_pdo slave.areas ≡ false
  narrow : list_any is_wide slave.areas ≡ false

slave-inside : (slave : Slave) → IsSound slave → IsSlaveInside slave
slave-inside slave sound =
    let station = slave.station == 0 in
    let many = nat_lt MOST_AREAS (length slave.areas) in
    let last = or_parts (station || many) (list_any area_outside slave.areas) sound.ranges in
    let first = or_parts station many last.0 in
    record {
      station = above-zero slave.station first.0;
      few = ltb-false MOST_AREAS (length slave.areas) first.1;
      areas = λ i d below. area-inside (slice_index_or slave.areas i d)
          (All-from_none area_outside slave.areas last.1 i d below)
          (All-from_none has_unknown_pdo slave.areas sound.assigned i d below)
          (All-from_none is_wide slave.areas sound.narrow i d below);
      managers =
          AllPairs-weaker (λ a b. same_sync_manager a b ≡ false) (λ a b. a.sm ≢ b.sm) (λ (a : Area) (b : Area). differs a.sm b.sm) slave.areas
          (AllPairs-from_none same_sync_manager slave.areas sound.managers);
      apart = AllPairs-weaker (λ a b. overlap a b ≡ false) KeepApart keep-apart slave.areas (AllPairs-from_none overlap slave.areas sound.apart);
    }

-- the groups

comes-and-goes : (group : Group) → is_bare group ≡ false → ComesAndGoes group
comes-and-goes group none =
    let parts = or_parts (group.alias == 0) (length group.slaves == 0) none in
    record { alias = above-zero group.alias parts.0; slaves = above-zero (length group.slaves) parts.1 }

begins-mandatory : (groups : List Group) → is_misplaced groups ≡ false → BeginsMandatory groups
begins-mandatory [] none = both_ways true none refl
begins-mandatory (group ∷ groups) none =
    let parts = or_parts (not (group.alias == 0)) (list_any is_bare groups) none in (
      eqb-true group.alias 0 (not-false (group.alias == 0) parts.0),
      All-weaker (λ other. is_bare other ≡ false) ComesAndGoes comes-and-goes groups (All-from_none is_bare groups parts.1),
    )

-- no slave of the groups meets a test
pub all-slaves : (test : Slave → Bool) (groups : List Group) → some_slave test groups ≡ false → All (λ slave. test slave ≡ false) (slaves_of groups)
all-slaves test groups none =
    All-flat_map (λ slave. test slave ≡ false) (λ (group : Group). group.slaves) groups
    (All-weaker (λ group. list_any test group.slaves ≡ false) (λ group. All (λ slave. test slave ≡ false) group.slaves) (λ group. All-from_none test group.slaves) groups
    (All-from_none (λ group. list_any test group.slaves) groups none))

pub project-inside : (groups : List Group) → lowest_fault groups ≡ None → IsProjectInside groups
project-inside groups none =
    let judged = none-holds (project_faults groups) none in
    let misplaced = is_misplaced groups in
    let many = nat_lt MOST_GROUPS (length groups) in
    let over_limit = nat_lt MOST_SLAVES (length (slaves_of groups)) in
    let three = or_parts (misplaced || many || over_limit) (some_slave slave_outside groups) (judged 0 (false, OutOfRange) (omega arith)) in
    let two = or_parts (misplaced || many) over_limit three.0 in
    let one = or_parts misplaced many two.0 in
    let ranges = all-slaves slave_outside groups three.1 in
    let managers = all-slaves repeats_sync_manager groups (judged 3 (false, OutOfRange) (omega arith)) in
    let apart = all-slaves has_overlap groups (judged 4 (false, OutOfRange) (omega arith)) in
    let assigned = all-slaves (λ slave. list_any has_unknown_pdo slave.areas) groups (judged 6 (false, OutOfRange) (omega arith)) in
    let narrow = all-slaves (λ slave. list_any is_wide slave.areas) groups (judged 7 (false, OutOfRange) (omega arith)) in
    record {
      mandatory = begins-mandatory groups one.0;
      few_groups = ltb-false MOST_GROUPS (length groups) one.1;
      few_slaves = ltb-false MOST_SLAVES (length (slaves_of groups)) two.1;
      slaves = λ i d below. slave-inside (slice_index_or (slaves_of groups) i d) (record {
        ranges = ranges i d below;
        managers = managers i d below;
        apart = apart i d below;
        assigned = assigned i d below;
        narrow = narrow i d below;
      });
      aliases = AllPairs-unmap (λ x y. x ≢ y) (λ (group : Group). group.alias) groups (AllPairs-from_once (map (λ (group : Group). group.alias) groups) (judged 1 (false, OutOfRange) (omega arith)));
      stations =
          AllPairs-unmap (λ x y. x ≢ y) (λ (slave : Slave). slave.station) (slaves_of groups)
          (AllPairs-from_once (map (λ (slave : Slave). slave.station) (slaves_of groups)) (judged 2 (false, OutOfRange) (omega arith)));
      variables = AllPairs-from_once (slave_names (slaves_of groups)) (judged 5 (false, OutOfRange) (omega arith));
    }
