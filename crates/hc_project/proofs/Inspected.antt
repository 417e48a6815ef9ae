-- Where nothing is wrong with what is read, it lies in the ranges of a project.
use Rattle.std.proofs.Common.{◌≡◌, ℕ, suc, ◌+◌, ◌-◌, ◌<◌, ◌≤◌, ◌==◌, ◌++◌, pos, negsuc, ℤ, ap, not, nat_lt, Bool, true, false, List, length, Option, Some, None, refl, arith, option_and_then}
use Rattle.std.specs.Prelude.{codes}
use Rattle.std.specs.List.{list_any}
use Rattle.std.proofs.lemmas.Bool.{le-ltb}
use Rattle.std.proofs.lemmas.Bool.Decides.{nat_tests}
use Rattle.std.proofs.lemmas.List.{length-append}
use Rattle.toml.specs.Data.{Data, Items, no_items, item, as_array, as_integer, at, get}
use Rattle.hc_records.specs.declared.limits.TheConstants.{MEMORY_END, MOST_AREAS, MOST_ENTRIES, MOST_GROUPS, MOST_PDOS, MOST_SLAVES}
use Rattle.hc_records.specs.declared.records.Group.{Group}
use Rattle.hc_records.specs.Project.{area_outside, entry_outside, has_outside, is_bare, is_outside, pdo_outside, reach, slave_outside, slaves_of, some_slave}
use Rattle.hc_records.proofs.lemmas.Finds.{none-by}
use Rattle.hc_project.specs.declared.places.Key.TheVariants as key
use Rattle.hc_project.specs.declared.places.Place.{Place}
use Rattle.hc_project.specs.declared.reading.Reading.{Reading}
use Rattle.hc_project.specs.Arrays.{array_of, each, optional_array, over}
use Rattle.hc_project.specs.Levels.{area, assigned_index, declared_groups, entry, group, groups, pdo, slave}
use Rattle.hc_project.specs.Places.{document, in_area, in_group, in_pdo, in_slave, with_key}
use Rattle.hc_project.specs.Reading.{missing_if, no_syntax_faults, outside_if}
use Rattle.hc_project.specs.Values.{byte, needed_number, number, word}
use Rattle.hc_project.proofs.Joined.{both_none}
use Rattle.hc_project.proofs.Numbers.{inside-held}

no_place : (place : Place) → missing_if true place ≡ no_syntax_faults → ⊥
no_place place none = let absent = ap (λ faults. faults.missing) none in cc

within : (is_outside : Bool) (place : Place) → outside_if is_outside place ≡ no_syntax_faults → is_outside ≡ false
within is_outside place none = (none-by is_outside _ _ (ap (λ faults. faults.outside) none)).0

below_most : (most index : ℕ) (place : Place) → over most index place ≡ no_syntax_faults → index < most
below_most most index place none = let below : not (nat_lt index most) ≡ false = within _ place none in grind (arith, nat_tests)

untrue : true ≡ false → ⊥
untrue e = cc

-- a number
needed_inside : (most low high : ℕ) (place : Place) (z : Option ℤ) → high ≤ most → (needed_number most low high place z).syntax_faults ≡ no_syntax_faults
    → is_outside low high (needed_number most low high place z).value ≡ false
needed_inside most low high place None small none = absurd (no_place place none)
needed_inside most low high place (Some (pos n)) small none =
    let inside : is_outside low high n ≡ false = within _ place none in rw (inside-held most low high n small inside) inside
needed_inside most low high place (Some (negsuc n)) small none = absurd (untrue (within true place none))

number_inside : (most low high : ℕ) (place : Place) (found : Option Data) → high ≤ most → (number most low high place found).syntax_faults ≡ no_syntax_faults
    → is_outside low high (number most low high place found).value ≡ false
number_inside most low high place found small none = needed_inside most low high place (option_and_then as_integer found) small none

-- an item of an array: it is one of those that the array may have, and it doesn't meet a test
abbrev Sound : {X : Type 0} → (X → Bool) → (ℕ → Place → ℕ → Data → Reading X) → Type 0
Sound test one =
    (most : ℕ) (place : Place) (index : ℕ) (d : Data) → (one most place index d).syntax_faults ≡ no_syntax_faults
    → (index < most) × (test (one most place index d).value ≡ false)

-- so of all items, and they are not too many
each_sound : {X : Type 0} (test : X → Bool) (one : ℕ → Place → ℕ → Data → Reading X) (most : ℕ) (place : Place) (index : ℕ) (ds : Items)
    → Sound test one → index ≤ most → (each (one most place) index ds).syntax_faults ≡ no_syntax_faults
    → (list_any test (each (one most place) index ds).value ≡ false) × (index + length (each (one most place) index ds).value ≤ most)
each_sound test one most place index no_items sound low none = (refl, omega (arith, low))
each_sound test one most place index (item d ds) sound low none =
    let parts = both_none _ _ none in
    let first = sound most place index d parts.0 in
    let rest = each_sound test one most place (index + 1) ds sound (omega (arith, first.0)) parts.1 in
    (rw (first.1, rest.0) refl, omega (arith, rest.1))

array_sound : {X : Type 0} (test : X → Bool) (one : ℕ → Place → ℕ → Data → Reading X) (most : ℕ) (place at_key : Place) (items : Option Items)
    → Sound test one → (array_of (each (one most place) 0) at_key items).syntax_faults ≡ no_syntax_faults
    → (list_any test (array_of (each (one most place) 0) at_key items).value ≡ false) × (length (array_of (each (one most place) 0) at_key items).value ≤ most)
array_sound test one most place at_key None sound none = absurd (no_place at_key none)
array_sound test one most place at_key (Some ds) sound none =
    let all = each_sound test one most place 0 ds sound (omega arith) none in
    let from_0 = all.1 in
    (all.0, omega (arith, from_0))

optional_sound : {X : Type 0} (test : X → Bool) (one : ℕ → Place → ℕ → Data → Reading X) (most : ℕ) (place at_key : Place) (found : Option Data)
    → Sound test one → (optional_array (each (one most place) 0) at_key found).syntax_faults ≡ no_syntax_faults
    → (list_any test (optional_array (each (one most place) 0) at_key found).value ≡ false) × (length (optional_array (each (one most place) 0) at_key found).value ≤ most)
optional_sound test one most place at_key None sound none = (refl, omega arith)
optional_sound test one most place at_key (Some d) sound none = array_sound test one most place at_key (as_array d) sound none

index_sound : Sound (λ n. false) assigned_index
index_sound most place index d none = (below_most most index _ (both_none _ _ none).0, refl)

entry_sound : Sound entry_outside entry
entry_sound most place index d none =
    let first = both_none _ _ none in
    let second = both_none _ _ first.1 in
    let third = both_none _ _ second.1 in
    (below_most most index _ first.0, number_inside 255 1 64 _ (at 1 d) (omega arith) third.0)

pdo_sound : Sound pdo_outside pdo
pdo_sound most place index d none =
    let here = in_pdo place index in
    let first = both_none _ _ none in
    let second = both_none _ _ first.1 in
    let third = both_none _ _ second.1 in
    let entries = array_sound entry_outside entry MOST_ENTRIES here (with_key here key.Entries) (option_and_then as_array (get (codes "entries") d)) entry_sound third.0 in
    (below_most most index _ first.0, rw (le-ltb MOST_ENTRIES _ entries.1, entries.0) refl)

task_inside : (n : ℕ) → is_outside 0 7 n ≡ false → not (nat_lt n 8) ≡ false
task_inside n inside = grind (arith, nat_tests)

manager_inside : (n : ℕ) → is_outside 0 15 n ≡ false → nat_lt 15 n ≡ false
manager_inside n inside = grind (arith, nat_tests)

area_sound : Sound area_outside area
area_sound most place index d none =
    let here = in_area place index in
    let first = both_none _ _ none in
    let second = both_none _ _ first.1 in
    let third = both_none _ _ second.1 in
    let fourth = both_none _ _ third.1 in
    let fifth = both_none _ _ fourth.1 in
    let sixth = both_none _ _ fifth.1 in
    let seventh = both_none _ _ sixth.1 in
    let eighth = both_none _ _ seventh.1 in
    let sm = manager_inside (byte 0 15 (with_key here key.Sm) (get (codes "sm") d)).value (number_inside 255 0 15 (with_key here key.Sm) (get (codes "sm") d) (omega arith) second.0) in
    let phys = number_inside 65535 4096 12287 (with_key here key.Phys) (get (codes "phys") d) (omega arith) fourth.0 in
    let memory : nat_lt MEMORY_END ((area most place index d).value.phys + reach (area most place index d).value) ≡ false = within _ (with_key here key.Phys) fifth.0 in
    let task = task_inside (byte 0 7 (with_key here key.Task) (get (codes "task") d)).value (number_inside 255 0 7 (with_key here key.Task) (get (codes "task") d) (omega arith) sixth.0) in
    let assigned = array_sound (λ n. false) assigned_index MOST_PDOS here (with_key here key.Assigned) (option_and_then as_array (get (codes "assigned") d)) index_sound seventh.0 in
    let offered = optional_sound pdo_outside pdo MOST_PDOS here (with_key here key.Pdos) (get (codes "pdo") d) pdo_sound eighth.0 in (
      below_most most index _ first.0,
      rw (sm, phys, task, le-ltb MOST_PDOS _ assigned.1, le-ltb MOST_PDOS _ offered.1, offered.0, memory) refl,
    )

some_number : (n : ℕ) → is_outside 1 65535 n ≡ false → (n == 0) ≡ false
some_number n inside = grind (arith, nat_tests)

slave_sound : Sound slave_outside slave
slave_sound most place index d none =
    let first = both_none _ _ none in
    let second = both_none _ _ first.1 in
    let third = both_none _ _ second.1 in
    let unread = with_key (in_slave place index 0) key.Station in
    let here = in_slave place index (word 1 65535 unread (get (codes "station") d)).value in
    let station = some_number (word 1 65535 unread (get (codes "station") d)).value (number_inside 65535 1 65535 unread (get (codes "station") d) (omega arith) second.0) in
    let areas = optional_sound area_outside area MOST_AREAS here (with_key here key.Areas) (get (codes "area") d) area_sound third.0 in
    (below_most most index _ first.0, rw (station, le-ltb MOST_AREAS _ areas.1, areas.0) refl)

record GroupSound (room index : ℕ) (read : Reading Group) : Type 0 where
  below : index < MOST_GROUPS - 1
  bare : is_bare read.value ≡ false
  slaves : list_any slave_outside read.value.slaves ≡ false
  few : length read.value.slaves ≤ room

group_sound : (room index : ℕ) (d : Data) → (group room index d).syntax_faults ≡ no_syntax_faults → GroupSound room index (group room index d)
group_sound room index d none =
    let first = both_none _ _ none in
    let second = both_none _ _ first.1 in
    let third = both_none _ _ second.1 in
    let fourth = both_none _ _ third.1 in
    let unread = with_key (in_group document (index + 1) 0) key.Alias in
    let here = in_group document (index + 1) (word 1 65535 unread (get (codes "alias") d)).value in
    let alias = some_number (word 1 65535 unread (get (codes "alias") d)).value (number_inside 65535 1 65535 unread (get (codes "alias") d) (omega arith) second.0) in
    let slaves = array_sound slave_outside slave room here (with_key here key.Slaves) (option_and_then as_array (get (codes "slave") d)) slave_sound third.0 in
    let some : (length (group room index d).value.slaves == 0) ≡ false = within _ (with_key here key.Slaves) fourth.0 in
    record {
      below = below_most (MOST_GROUPS - 1) index _ first.0;
      bare = rw (alias, some) refl;
      slaves = slaves.0;
      few = slaves.1;
    }

record GroupsSound (room index : ℕ) (read : Reading (List Group)) : Type 0 where
  bare : list_any is_bare read.value ≡ false
  slaves : some_slave slave_outside read.value ≡ false
  few_slaves : length (slaves_of read.value) ≤ room
  few : index + length read.value ≤ MOST_GROUPS - 1

together : (room own all rest : ℕ) → own ≤ room → rest ≤ room - own → all ≡ own + rest → all ≤ room
together room own all rest few fewer whole = omega (arith, few, fewer, whole)

groups_sound : (room index : ℕ) (ds : Items) → index ≤ MOST_GROUPS - 1 → (groups room index ds).syntax_faults ≡ no_syntax_faults → GroupsSound room index (groups room index ds)
groups_sound room index no_items low none = record { bare = refl; slaves = refl; few_slaves = omega arith; few = omega (arith, low) }
groups_sound room index (item d ds) low none =
    let parts = both_none _ _ none in
    let first = group_sound room index d parts.0 in
    let own = (group room index d).value.slaves in
    let rest = groups_sound (room - length own) (index + 1) ds (omega (arith, first.below)) parts.1 in
    record {
      bare = rw (first.bare, rest.bare) refl;
      slaves = rw (first.slaves, rest.slaves) refl;
      few_slaves = together room _ _ _ first.few rest.few_slaves (length-append own (slaves_of (groups (room - length own) (index + 1) ds).value));
      few = omega (arith, rest.few);
    }

others_sound_of : (room : ℕ) (items : Option Items) → (array_of (groups room 0) (with_key document key.Groups) items).syntax_faults ≡ no_syntax_faults
    → GroupsSound room 0 (array_of (groups room 0) (with_key document key.Groups) items)
others_sound_of room None none = absurd (no_place _ none)
others_sound_of room (Some ds) none = groups_sound room 0 ds (omega arith) none

others_sound : (room : ℕ) (found : Option Data) → (optional_array (groups room 0) (with_key document key.Groups) found).syntax_faults ≡ no_syntax_faults
    → GroupsSound room 0 (optional_array (groups room 0) (with_key document key.Groups) found)
others_sound room None none = record { bare = refl; slaves = refl; few_slaves = omega arith; few = omega arith }
others_sound room (Some d) none = others_sound_of room (as_array d) none

pub groups_inside : (d : Data) → (declared_groups d).syntax_faults ≡ no_syntax_faults → has_outside (declared_groups d).value ≡ false
groups_inside d none =
    let parts = both_none _ _ none in
    let mandatory = optional_sound slave_outside slave MOST_SLAVES document (with_key document key.Slaves) (get (codes "slave") d) slave_sound parts.0 in
    let own = (optional_array (each (slave MOST_SLAVES document) 0) (with_key document key.Slaves) (get (codes "slave") d)).value in
    let others = others_sound (MOST_SLAVES - length own) (get (codes "group") d) parts.1 in
    let rest = (optional_array (groups (MOST_SLAVES - length own) 0) (with_key document key.Groups) (get (codes "group") d)).value in
    let few_slaves : length (own ++ slaves_of rest) ≤ MOST_SLAVES = together MOST_SLAVES _ _ _ mandatory.1 others.few_slaves (length-append own (slaves_of rest)) in
    let from_0 = others.few in
    let few : suc (length rest) ≤ MOST_GROUPS = omega (arith, from_0) in
    rw (others.bare, le-ltb MOST_GROUPS _ few, le-ltb MOST_SLAVES _ few_slaves, mandatory.0, others.slaves) refl
