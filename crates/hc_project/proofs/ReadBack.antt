-- A project's tree is read as that project.
use Rattle.std.specs.Prelude.{◌≡◌, ℕ, ◌+◌, ◌-◌, ◌<◌, ◌≤◌, ◌||◌, ◌==◌, not, nat_lt, Bool, false, List, [], ◌∷◌, length, map, Option, Some, None, refl}
use Rattle.std.proofs.Common.{arith}
use Rattle.std.proofs.lemmas.Bool.Decides.{nat_tests}
use Rattle.std.specs.List.{list_any}
use Rattle.toml.specs.Data.{Data}
use Rattle.toml.specs.View.{items_of}
use Rattle.hc_records.specs.declared.limits.TheConstants.{MOST_AREAS, MOST_ENTRIES, MOST_GROUPS, MOST_PDOS}
use Rattle.hc_records.specs.declared.records.Dir.{Dir}
use Rattle.hc_records.specs.declared.records.Dir.TheVariants.{Out, In}
use Rattle.hc_records.specs.declared.records.Group.{Group}
use Rattle.hc_records.specs.Project.{is_outside, is_bare, reach, entry_outside, pdo_outside, area_outside, slave_outside}
use Rattle.hc_project.specs.declared.places.Key.TheVariants as key
use Rattle.hc_project.specs.declared.places.Place.{Place}
use Rattle.hc_project.specs.declared.reading.Reading.{Reading}
use Rattle.hc_project.specs.Places.{document, first_some, in_area, in_group, in_pdo, in_slave, with_key}
use Rattle.hc_project.specs.Reading.{both, right}
use Rattle.hc_project.specs.Values.{direction}
use Rattle.hc_project.specs.Arrays.{each}
use Rattle.hc_project.specs.Levels.{entry, pdo, assigned_index, area, slave, group}
use Rattle.hc_project.specs.Laws.{number_tree, dir_tree, entry_tree, pdo_tree, area_tree, slave_tree, group_tree, entry_unheld, word_unheld, pdo_unheld, area_unheld, slave_unheld, group_unheld}
use Rattle.hc_project.proofs.Numbers.{inside-held}
use Rattle.hc_project.proofs.Inside.{at-most, few-inside, or-left, or-right, some-inside, task-inside-7, variable-inside, variable-named}

-- a value that neither test holds for is read back from its tree, where its array isn't too long
abbrev pub Passes : {X : Type 0} → (X → Bool) → (X → Bool) → (X → Data) → (ℕ → Place → ℕ → Data → Reading X) → Type 0
Passes {X} p q spell one =
    (most : ℕ) (place : Place) (index : ℕ) (x : X) → index < most → p x ≡ false → q x ≡ false → one most place index (spell x) ≡ right x

-- no item is over the limit where the length isn't
pub not-over : (index most : ℕ) → index < most → not (nat_lt index most) ≡ false
not-over index most below = grind (arith, nat_tests)

-- so is a list of such values
pub each-right : {X : Type 0} (p q : X → Bool) (spell : X → Data) (one : ℕ → Place → ℕ → Data → Reading X) (most : ℕ) (place : Place) (index : ℕ) (xs : List X)
    → Passes p q spell one → index + length xs ≤ most → list_any p xs ≡ false → list_any q xs ≡ false
    → each (one most place) index (items_of (map spell xs)) ≡ right xs
unfolding both first_some
each-right p q spell one most place index [] passes few ps qs = refl
each-right p q spell one most place index (x ∷ xs) passes few ps qs =
    let first : one most place index (spell x) ≡ right x =
    passes most place index x (omega (arith, few)) (or-left (p x) (list_any p xs) ps) (or-left (q x) (list_any q xs) qs) in
    let rest : each (one most place) (index + 1) (items_of (map spell xs)) ≡ right xs =
    each-right p q spell one most place (index + 1) xs passes (omega (arith, few)) (or-right (p x) (list_any p xs) ps) (or-right (q x) (list_any q xs) qs) in
    rw (first, rest) refl

-- so is an array that isn't too long
pub list-right : {X : Type 0} (p q : X → Bool) (spell : X → Data) (one : ℕ → Place → ℕ → Data → Reading X) (most : ℕ) (place : Place) (xs : List X)
    → Passes p q spell one → length xs ≤ most → list_any p xs ≡ false → list_any q xs ≡ false
    → each (one most place) 0 (items_of (map spell xs)) ≡ right xs
list-right p q spell one most place xs passes few ps qs = each-right p q spell one most place 0 xs passes (omega (arith, few)) ps qs

-- the levels
entry-right_of : (most : ℕ) (place : Place) (index : ℕ) (name : Option ℕ) (bits : ℕ) → index < most → entry_outside (name, bits) ≡ false → entry_unheld (name, bits) ≡ false
    → entry most place index (entry_tree (name, bits)) ≡ right (name, bits)
unfolding both first_some
entry-right_of most place index None bits below inside held =
    rw (not-over index most below, inside-held 255 1 64 bits (omega arith) inside, inside) refl
entry-right_of most place index (Some v) bits below inside held =
    rw (
      not-over index most below,
      inside-held 255 1 64 bits (omega arith) inside,
      inside,
      inside-held 4294967295 0 4294967295 v (omega arith) (variable-inside v held),
      variable-inside v held,
      variable-named v held,
    ) refl

entry-right : Passes entry_outside entry_unheld entry_tree entry
entry-right most place index e below inside held = entry-right_of most place index e.0 e.1 below inside held

pdo-right : Passes pdo_outside pdo_unheld pdo_tree pdo
unfolding both first_some
pdo-right most place index p below inside held =
    let here = in_pdo place index in
    let few = at-most MOST_ENTRIES (length p.entries) (or-left (nat_lt MOST_ENTRIES (length p.entries)) (list_any entry_outside p.entries) inside) in
    let entries = or-right (nat_lt MOST_ENTRIES (length p.entries)) (list_any entry_outside p.entries) inside in
    let number = few-inside 65535 p.index (or-left (word_unheld p.index) (list_any entry_unheld p.entries) held) in
    let names = or-right (word_unheld p.index) (list_any entry_unheld p.entries) held in
    rw (
      not-over index most below,
      inside-held 65535 0 65535 p.index (omega arith) number,
      number,
      list-right entry_outside entry_unheld entry_tree entry MOST_ENTRIES here p.entries entry-right few entries names,
    ) refl

index-right : Passes word_unheld word_unheld number_tree assigned_index
unfolding both first_some
index-right most place index n below under held =
    let number = few-inside 65535 n under in
    rw (not-over index most below, inside-held 65535 0 65535 n (omega arith) number, number) refl

dir-right : (place : Place) (dir : Dir) → direction place (Some (dir_tree dir)) ≡ right dir
dir-right place Out = refl
dir-right place In = refl

area-right : Passes area_outside area_unheld area_tree area
unfolding both first_some
area-right most place index a below inside held =
    let here = in_area place index in
    let sm = nat_lt 15 a.sm in
    let phys = is_outside 4096 12287 a.phys in
    let task = not (nat_lt a.task 8) in
    let assigned = nat_lt MOST_PDOS (length a.assigned) in
    let offered = nat_lt MOST_PDOS (length a.offered) in
    let pdos = list_any pdo_outside a.offered in
    let reached = or-right (sm || phys || task || assigned || offered || pdos) (nat_lt 12288 (a.phys + reach a)) inside in
    let upper = or-left (sm || phys || task || assigned || offered || pdos) (nat_lt 12288 (a.phys + reach a)) inside in
    let pdos-inside = or-right (sm || phys || task || assigned || offered) pdos upper in
    let lists = or-left (sm || phys || task || assigned || offered) pdos upper in
    let offered-few = at-most MOST_PDOS (length a.offered) (or-right (sm || phys || task || assigned) offered lists) in
    let numbers = or-left (sm || phys || task || assigned) offered lists in
    let assigned-few = at-most MOST_PDOS (length a.assigned) (or-right (sm || phys || task) assigned numbers) in
    let three = or-left (sm || phys || task) assigned numbers in
    let task-inside = task-inside-7 a.task (or-right (sm || phys) task three) in
    let two = or-left (sm || phys) task three in
    let sm-inside = few-inside 15 a.sm (or-left sm phys two) in
    let phys-inside = or-right sm phys two in
    let indexes = or-left (list_any word_unheld a.assigned) (list_any pdo_unheld a.offered) held in
    let names = or-right (list_any word_unheld a.assigned) (list_any pdo_unheld a.offered) held in
    rw (
      not-over index most below,
      inside-held 255 0 15 a.sm (omega arith) sm-inside,
      sm-inside,
      dir-right (with_key here key.Dir) a.dir,
      inside-held 65535 4096 12287 a.phys (omega arith) phys-inside,
      phys-inside,
      inside-held 255 0 7 a.task (omega arith) task-inside,
      task-inside,
      list-right word_unheld word_unheld number_tree assigned_index MOST_PDOS here a.assigned index-right assigned-few indexes indexes,
      list-right pdo_outside pdo_unheld pdo_tree pdo MOST_PDOS here a.offered pdo-right offered-few pdos-inside names,
      reached,
    ) refl

pub slave-right : Passes slave_outside slave_unheld slave_tree slave
unfolding both first_some
slave-right most place index s below inside held =
    let station = s.station == 0 in
    let few = nat_lt MOST_AREAS (length s.areas) in
    let areas = list_any area_outside s.areas in
    let lists = or-left (station || few) areas inside in
    let number = some-inside 65535 s.station (or-left station few lists) (or-left (word_unheld s.station) (list_any area_unheld s.areas) held) in
    let names = or-right (word_unheld s.station) (list_any area_unheld s.areas) held in
    rw (
      not-over index most below,
      inside-held 65535 1 65535 s.station (omega arith) number,
      number,
      list-right area_outside area_unheld area_tree area MOST_AREAS (in_slave place index s.station) s.areas area-right
          (at-most MOST_AREAS (length s.areas) (or-right station few lists)) (or-right (station || few) areas inside) names,
    ) refl

-- a group where so many slaves have room is read back
pub group-right : (room index : ℕ) (g : Group) → index < MOST_GROUPS - 1 → is_bare g ≡ false → list_any slave_outside g.slaves ≡ false
    → length g.slaves ≤ room → group_unheld g ≡ false → group room index (group_tree g) ≡ right g
unfolding both first_some
group-right room index g below bare inside few held =
    let alias = or-left (g.alias == 0) (length g.slaves == 0) bare in
    let some = or-right (g.alias == 0) (length g.slaves == 0) bare in
    let number = some-inside 65535 g.alias alias (or-left (word_unheld g.alias) (list_any slave_unheld g.slaves) held) in
    let names = or-right (word_unheld g.alias) (list_any slave_unheld g.slaves) held in
    rw (
      not-over index (MOST_GROUPS - 1) below,
      inside-held 65535 1 65535 g.alias (omega arith) number,
      number,
      list-right slave_outside slave_unheld slave_tree slave room (in_group document (index + 1) g.alias) g.slaves slave-right few inside names,
      some,
    ) refl
