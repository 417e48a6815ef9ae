-- The value of a variable for a task, or the fault.
use Rattle.std.specs.Prelude.{ℕ, ◌==◌, Bool, false, is_none, not, unwrap_or, List, [], ◌∷◌, Option, option_and_then, Result, Ok, Err}
use Rattle.std.specs.Option.{option_map_or}
use Rattle.hc_bits.specs.Bits.{bits_of, number_of, run_of}
use Rattle.hc_records.specs.declared.records.Dir.TheVariants.{Out}
use Rattle.hc_records.specs.Image.{VariablePlace}
use Rattle.hc_records.specs.Keys.{same_dir}
use Rattle.hc_records.specs.Lists.{lowest}
use Rattle.hc_places.specs.Table.{place_in}
use Rattle.hc_publish.specs.declared.view_faults.ViewFault.{ViewFault}
use Rattle.hc_publish.specs.declared.view_faults.ViewFault.TheVariants.{NoSuchVariable, IsOutput, OtherTask, NotAnswered}
use Rattle.hc_publish.specs.ChangesSince.{ChangesSince, data_shown, table_shown}

-- the number of a place's bits in its datagram's data, the first bit the least significant
abbrev pub number_at : List ℕ → VariablePlace → ℕ
number_at bytes place = number_of (run_of (bits_of bytes) place.bit place.bits)

-- the data of the datagram in which a place lies, or none
abbrev pub data_at : (ℕ → ℕ → Option (List ℕ)) → Option VariablePlace → Option (List ℕ)
data_at slots place = option_and_then (λ found. slots found.task found.datagram) place

-- the faults of reading a variable with this place and these data, in order: it has no place, it is an output, it lies in
-- another task, its datagram has no data
abbrev pub view_faults : ℕ → Option VariablePlace → Option (List ℕ) → List (Bool × ViewFault)
view_faults task place bytes =
    (is_none place, NoSuchVariable)
    ∷ (option_map_or (λ found. same_dir found.dir Out) place false, IsOutput)
    ∷ (option_map_or (λ found. not (found.task == task)) place false, OtherTask)
    ∷ (is_none bytes, NotAnswered)
    ∷ []

-- the value of a variable with this place and these data for a task: the first fault whose condition holds, else the number of
-- its bits
abbrev pub value_with : ℕ → Option VariablePlace → Option (List ℕ) → Result ℕ ViewFault
value_with task place bytes =
    option_map_or (λ fault. Err fault) (lowest (view_faults task place bytes))
    (Ok (option_map_or (number_at (unwrap_or bytes [])) place 0))

-- the value of a variable with this place for a task, from the data or none of each datagram
abbrev pub value_by : (ℕ → ℕ → Option (List ℕ)) → ℕ → Option VariablePlace → Result ℕ ViewFault
value_by slots task place = value_with task place (data_at slots place)

-- the value of a variable for a task in a copy
abbrev pub value_shown : ChangesSince → ℕ → ℕ → Result ℕ ViewFault
value_shown changes_since task variable = value_by (data_shown changes_since) task (place_in (table_shown changes_since) variable)
