-- The levels of a project's text, from the entry of a PDO up to the document. A value that is no table has no keys, so a needed
-- one is absent. The keys of a table are read in the order of the format's page, the items of an array in the text's order. An
-- item is read with the most items of its array, the place of its table and its index.
use Rattle.std.specs.Prelude.{ℕ, ◌+◌, ◌-◌, ◌==◌, nat_lt, is_some, List, [], ◌∷◌, length, Some, codes}
use Rattle.toml.specs.Data.{Data, Items, no_items, item, at, get}
use Rattle.hc_records.specs.declared.limits.TheConstants.{LAST_SYNC_MANAGER, MEMORY_START, MEMORY_END, MOST_AREAS, MOST_ENTRIES, MOST_ENTRY_BITS, MOST_GROUPS, MOST_PDOS, MOST_SLAVES, TASKS}
use Rattle.hc_records.specs.declared.records.Pdo.{Pdo}
use Rattle.hc_records.specs.declared.records.Area.{Area}
use Rattle.hc_records.specs.declared.records.Slave.{Slave}
use Rattle.hc_records.specs.declared.records.Group.{Group}
use Rattle.hc_records.specs.Area.{Entry}
use Rattle.hc_records.specs.Project.{reach}
use Rattle.hc_records.specs.Variables.{variable_of}
use Rattle.hc_project.specs.declared.places.Key.TheVariants as key
use Rattle.hc_project.specs.declared.places.Place.{Place}
use Rattle.hc_project.specs.declared.reading.Reading.{Reading}
use Rattle.hc_project.specs.Places.{document, in_area, in_group, in_pdo, in_slave, with_key}
use Rattle.hc_project.specs.Reading.{both, faults_joined, missing_if, outside_if, right}
use Rattle.hc_project.specs.Values.{byte, word, double_word, direction}
use Rattle.hc_project.specs.Arrays.{each, needed_array, optional_array, over}

-- an array of two integers: a variable, or 0 for a gap, and its bits
abbrev pub entry : ℕ → Place → ℕ → Data → Reading Entry
entry most place index d =
    let here = with_key place (key.Entry index) in
    let variable = double_word (with_key place (key.Variable index)) (at 0 d) in
    let bits = byte 1 MOST_ENTRY_BITS (with_key place (key.Bits index)) (at 1 d) in
    record {
      value = (variable_of variable.value, bits.value);
      syntax_faults = faults_joined (
          over most index here
          ∷ variable.syntax_faults
          ∷ bits.syntax_faults
          ∷ missing_if (is_some (at 2 d)) here
          ∷ []);
    }

-- a PDO: its index, and its entries, which it needs
abbrev pub pdo : ℕ → Place → ℕ → Data → Reading Pdo
pdo most place index d =
    let here = in_pdo place index in
    let number = word 0 65535 (with_key here key.Index) (get (codes "index") d) in
    let entries = needed_array (each (entry MOST_ENTRIES here) 0) (with_key here key.Entries) (get (codes "entries") d) in
    record {
      value = record { index = number.value; entries = entries.value };
      syntax_faults = faults_joined (over most index here ∷ number.syntax_faults ∷ entries.syntax_faults ∷ []);
    }

-- the index of an assigned PDO
abbrev pub assigned_index : ℕ → Place → ℕ → Data → Reading ℕ
assigned_index most place index d =
    let here = with_key place (key.AssignedAt index) in
    let number = word 0 65535 here (Some d) in
    record { value = number.value; syntax_faults = both (over most index here) number.syntax_faults }

-- an area: its sync manager, direction, first byte of memory, task and assigned indexes, which it needs, and the PDOs that it
-- offers, if any; its first byte is also outside if its reach, which begins there, ends after the memory
abbrev pub area : ℕ → Place → ℕ → Data → Reading Area
area most place index d =
    let here = in_area place index in
    let sm = byte 0 LAST_SYNC_MANAGER (with_key here key.Sm) (get (codes "sm") d) in
    let dir = direction (with_key here key.Dir) (get (codes "dir") d) in
    let phys = word MEMORY_START (MEMORY_END - 1) (with_key here key.Phys) (get (codes "phys") d) in
    let task = byte 0 (TASKS - 1) (with_key here key.Task) (get (codes "task") d) in
    let assigned = needed_array (each (assigned_index MOST_PDOS here) 0) (with_key here key.Assigned) (get (codes "assigned") d) in
    let offered = optional_array (each (pdo MOST_PDOS here) 0) (with_key here key.Pdos) (get (codes "pdo") d) in
    let value : Area = record {
      sm = sm.value;
      dir = dir.value;
      phys = phys.value;
      offered = offered.value;
      assigned = assigned.value;
      task = task.value;
    } in
    record {
      value = value;
      syntax_faults = faults_joined (
          over most index here
          ∷ sm.syntax_faults
          ∷ dir.syntax_faults
          ∷ phys.syntax_faults
          ∷ outside_if (nat_lt MEMORY_END (value.phys + reach value)) (with_key here key.Phys)
          ∷ task.syntax_faults
          ∷ assigned.syntax_faults
          ∷ offered.syntax_faults
          ∷ []);
    }

-- a slave: its station address, and its areas, if any; the place of a wrong station address has 0 for it
abbrev pub slave : ℕ → Place → ℕ → Data → Reading Slave
slave most place index d =
    let station = word 1 65535 (with_key (in_slave place index 0) key.Station) (get (codes "station") d) in
    let here = in_slave place index station.value in
    let areas = optional_array (each (area MOST_AREAS here) 0) (with_key here key.Areas) (get (codes "area") d) in
    record {
      value = record { station = station.value; areas = areas.value };
      syntax_faults = faults_joined (over most index here ∷ station.syntax_faults ∷ areas.syntax_faults ∷ []);
    }

-- an optional group, among which this many slaves fit: its array of slaves is needed, and not empty; the place of a wrong alias
-- has 0 for it
abbrev pub group : ℕ → ℕ → Data → Reading Group
group room index d =
    let alias = word 1 65535 (with_key (in_group document (index + 1) 0) key.Alias) (get (codes "alias") d) in
    let here = in_group document (index + 1) alias.value in
    let slaves = needed_array (each (slave room here) 0) (with_key here key.Slaves) (get (codes "slave") d) in
    record {
      value = record { alias = alias.value; slaves = slaves.value };
      syntax_faults = faults_joined (
          over (MOST_GROUPS - 1) index here
          ∷ alias.syntax_faults
          ∷ slaves.syntax_faults
          ∷ outside_if (length slaves.value == 0) (with_key here key.Slaves)
          ∷ []);
    }

-- the optional groups from an index on, among which this many slaves fit together
abbrev pub groups : ℕ → ℕ → Items → Reading (List Group)
groups room index no_items = right []
groups room index (item d ds) =
    let first = group room index d in
    let rest = groups (room - length first.value.slaves) (index + 1) ds in
    record { value = first.value ∷ rest.value; syntax_faults = both first.syntax_faults rest.syntax_faults }

-- the declared groups of a document, the mandatory one first: it has alias 0 and the slaves at the top; the slaves of all are
-- limited together
abbrev pub declared_groups : Data → Reading (List Group)
declared_groups d =
    let mandatory = optional_array (each (slave MOST_SLAVES document) 0) (with_key document key.Slaves) (get (codes "slave") d) in
    let others = optional_array (groups (MOST_SLAVES - length mandatory.value) 0) (with_key document key.Groups) (get (codes "group") d) in
    record {
      value = record { alias = 0; slaves = mandatory.value } ∷ others.value;
      syntax_faults = both mandatory.syntax_faults others.syntax_faults;
    }
