-- The use of a task's datagrams by its areas, and the table of the task, the same as `task_table`, put together from these uses.
use Rattle.std.specs.Prelude.{ℕ, zero, suc, ◌+◌, ◌-◌, ◌/◌, ◌≤◌, min, List, [], ◌∷◌, ◌++◌, None, find, length, map, slice_get}
use Rattle.std.specs.Option.{option_map_or}
use Rattle.hc_records.specs.declared.keys.Key.{Key}
use Rattle.hc_records.specs.declared.limits.TheConstants.{MOST_DATAGRAM_BYTES}
use Rattle.hc_records.specs.declared.records.Dir.TheVariants.{In}
use Rattle.hc_records.specs.Keys.{same_dir}
use Rattle.hc_records.specs.Packing.{Placed}
use Rattle.hc_records.specs.Image.{datagram_count, end_of, inside, logical_address}
use Rattle.hc_registers.specs.Counting.{counted_from}
use Rattle.hc_places.specs.declared.datagram_uses.DatagramUse.{DatagramUse}
use Rattle.hc_places.specs.declared.table.Datagram.{Datagram}
use Rattle.hc_places.specs.Table.{Table, TaskTable}

-- the keys of the areas that lie in a datagram
abbrev pub keys_inside : ℕ → List Placed → List Key
keys_inside d areas = map (λ area. area.key) (inside d areas)

-- the working counter of a datagram, as its areas add to it in their order
abbrev pub counted_inside : ℕ → List Placed → ℕ
counted_inside d areas = counted_from None (keys_inside d areas)

-- the bytes of areas that lie in one datagram, up to the last used one
abbrev pub datagram_use_length : List Placed → ℕ
datagram_use_length areas = (end_of areas + 7) / 8

-- the use of a datagram by these areas: its bytes, its working counter, and the number of its bytes before its first input
abbrev pub datagram_use_of : List Placed → DatagramUse
datagram_use_of areas = record {
  length = datagram_use_length areas;
  expected = counted_from None (map (λ area. area.key) areas);
  outputs = option_map_or (λ area. area.bit / 8) (find (λ area. same_dir area.key.dir In) areas) (datagram_use_length areas);
}

-- the use of a datagram of a task; no bytes after the last one
abbrev pub datagram_use_in : List Placed → ℕ → DatagramUse
datagram_use_in areas datagram = datagram_use_of (inside datagram areas)

-- a datagram is no longer than the longest, and its outputs are some of its bytes
pub record IsDatagramUse (datagram_use : DatagramUse) : Type 0 where
  pub most : datagram_use.length ≤ MOST_DATAGRAM_BYTES
  pub part : datagram_use.outputs ≤ datagram_use.length

-- a task without datagrams, and one with one more datagram after the others

-- the table of a task that has no datagram: no outputs and no inputs
abbrev pub no_datagrams : TaskTable
no_datagrams = record { datagrams = []; outputs = 0; inputs = 0 }

-- a task's table with one more datagram: it has the next logical address, and begins in the image where the others end
abbrev pub with_datagram_use : ℕ → TaskTable → DatagramUse → TaskTable
with_datagram_use task table datagram_use = record {
  datagrams =
      table.datagrams
      ++ record {
        address = logical_address task (length table.datagrams);
        length = datagram_use.length;
        expected = datagram_use.expected;
        offset = table.outputs + table.inputs;
      } ∷ [];
  outputs = table.outputs + datagram_use.outputs;
  inputs = table.inputs + (datagram_use.length - datagram_use.outputs);
}

-- the table of so many datagrams of a task, from the first one on
abbrev pub loaded : ℕ → List Placed → ℕ → TaskTable
loaded task areas zero = no_datagrams
loaded task areas (suc datagram) = with_datagram_use task (loaded task areas datagram) (datagram_use_in areas datagram)

-- the table of all datagrams of a task, by its placed areas
abbrev pub table_at : ℕ → List Placed → TaskTable
table_at task areas = loaded task areas (datagram_count areas)

-- the use of a datagram by its task's table: its outputs are its bytes before the end of the task's outputs

-- length, expected counter and output bytes of a datagram, by its task's table
abbrev pub datagram_use_by_table : TaskTable → Datagram → DatagramUse
datagram_use_by_table table datagram = record {
  length = datagram.length;
  expected = datagram.expected;
  outputs = min (table.outputs - datagram.offset) datagram.length;
}

-- the use of a missing datagram: no bytes, no expected counter
abbrev pub no_datagram_use : DatagramUse
no_datagram_use = record { length = 0; expected = 0; outputs = 0 }

-- the use of the datagram with a number, by its task's table (`datagram_use_by_table`); `no_datagram_use` if the task has no
-- such datagram
abbrev pub datagram_use_in_table : TaskTable → ℕ → DatagramUse
datagram_use_in_table table datagram = option_map_or (datagram_use_by_table table) (slice_get table.datagrams datagram) no_datagram_use

-- the use of a task's datagram with a number, by a table; `no_datagram_use` if there is no such task or datagram
abbrev pub datagram_use_answered : Table → ℕ → ℕ → DatagramUse
datagram_use_answered table task datagram = option_map_or (λ found. datagram_use_in_table found datagram) (slice_get table.tasks task) no_datagram_use
