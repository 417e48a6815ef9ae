-- The whole table of a worked line, and worked swaps, computed by the definitions: a wrong definition fails here.
use Rattle.std.specs.Prelude.{◌≡◌, ℕ, List, [], ◌∷◌, Some, None, refl}
use Rattle.hc_records.specs.declared.records.Dir.TheVariants.{Out, In}
use Rattle.hc_records.specs.declared.records.Dir.{Dir}
use Rattle.hc_records.specs.declared.records.Area.{Area}
use Rattle.hc_records.specs.Area.{Entry}
use Rattle.hc_records.specs.Image.{VariablePlace}
use Rattle.hc_records.specs.Line.{Member}
use Rattle.hc_places.specs.Table.{VariableRow, Table, TaskTable, table_of}
use Rattle.hc_places.specs.Swap.{changed_variables, merged}

-- an area of a task with one PDO of these entries, which is assigned
abbrev area_of : ℕ → Dir → List Entry → Area
area_of task dir entries = record {
  sm = 0;
  dir = dir;
  phys = 0x1000;
  offered = record { index = 0x1600; entries = entries } ∷ [];
  assigned = 0x1600 ∷ [];
  task = task;
}

-- Two slaves. In task 0 they have three output areas of 3 bits, the second a gap of 2 bits and a
-- variable, and an input of 1 bit, which begins a byte; in task 1 the second one has an input of 2
-- bytes. Variables are numbered out of line order.
abbrev two_slaves : List Member
two_slaves =
    record {
      rank = 1;
      slave = record {
        station = 1001;
        areas = area_of 0 Out ((Some 7, 3) ∷ []) ∷ area_of 0 Out ((None, 2) ∷ (Some 5, 1) ∷ []) ∷ area_of 0 In ((Some 9, 1) ∷ []) ∷ [];
      };
    }
    ∷ record {
      rank = 2;
      slave = record { station = 1002; areas = area_of 1 In ((Some 8, 16) ∷ []) ∷ area_of 0 Out ((Some 6, 3) ∷ []) ∷ [] };
    }
    ∷ []

abbrev at : ℕ → ℕ → ℕ → Dir → VariablePlace
at task bit bits dir = record { task = task; datagram = 0; bit = bit; bits = bits; dir = dir }

abbrev none : TaskTable
none = record { datagrams = []; outputs = 0; inputs = 0 }

-- in task 0's datagram the first slave has outputs and inputs, and the second one outputs: they add 3 and 2; in task 1's the second one has inputs, and adds 1
two_slaves_table : table_of two_slaves ≡ record {
  tasks =
      record { datagrams = record { address = 0x0100_0000; length = 3; expected = 5; offset = 0 } ∷ []; outputs = 2; inputs = 1 }
      ∷ record { datagrams = record { address = 0x0200_0000; length = 2; expected = 1; offset = 0 } ∷ []; outputs = 0; inputs = 2 }
      ∷ none ∷ none ∷ none ∷ none ∷ none ∷ none ∷ [];
  variables =
      (5, at 0 5 1 Out) ∷ (6, at 0 6 3 Out) ∷ (7, at 0 0 3 Out) ∷ (8, at 1 0 16 In) ∷ (9, at 0 16 1 In) ∷ [];
}
two_slaves_table = refl

-- An output area of a whole datagram, and one of a byte after it, which begins the second datagram.
abbrev two_datagrams : List Member
two_datagrams =
    record { rank = 1; slave = record { station = 1001; areas = area_of 0 Out ((None, 11888) ∷ []) ∷ [] } }
    ∷ record { rank = 2; slave = record { station = 1002; areas = area_of 0 Out ((Some 3, 8) ∷ []) ∷ [] } }
    ∷ []

two_datagrams_table : table_of two_datagrams ≡ record {
  tasks =
      record {
        datagrams =
            record { address = 0x0100_0000; length = 1486; expected = 2; offset = 0 }
            ∷ record { address = 0x0100_0800; length = 1; expected = 2; offset = 1486 }
            ∷ [];
        outputs = 1487;
        inputs = 0;
      }
      ∷ none ∷ none ∷ none ∷ none ∷ none ∷ none ∷ none ∷ [];
  variables = (3, record { task = 0; datagram = 1; bit = 0; bits = 8; dir = Out }) ∷ [];
}
two_datagrams_table = refl

-- A variable that goes, one that is elsewhere, one that stays and one that appears.
abbrev table_with : List VariableRow → Table
table_with rows = record { tasks = []; variables = rows }

abbrev old_rows : List VariableRow
old_rows = (5, at 0 3 1 Out) ∷ (6, at 0 4 3 Out) ∷ (7, at 0 0 3 Out) ∷ []

abbrev new_rows : List VariableRow
new_rows = (6, at 0 3 3 Out) ∷ (7, at 0 0 3 Out) ∷ (8, at 0 6 2 Out) ∷ []

rows_merged : merged ((5, None) ∷ (6, Some (at 0 3 3 Out)) ∷ (8, Some (at 0 6 2 Out)) ∷ []) old_rows ≡ new_rows
rows_merged = refl

variables_changed : changed_variables (table_with old_rows) (table_with new_rows) ≡ 5 ∷ 6 ∷ 8 ∷ []
variables_changed = refl
