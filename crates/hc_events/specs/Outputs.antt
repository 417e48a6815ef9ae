-- The values of output variables, and the data that are sent.
use Rattle.std.specs.Prelude.{ℕ, ◌+◌, ◌-◌, ◌*◌, ◌==◌, ◌&&◌, nat_le, nat_lt, is_some, Bool, if◌then◌else◌, List, [], ◌∷◌, filter, find, map, Option}
use Rattle.std.specs.Option.{option_map_or}
use Rattle.std.specs.List.{range_with_len}
use Rattle.hc_bits.specs.Bits.{bit_of, number_of}
use Rattle.hc_records.specs.declared.records.Dir.TheVariants.{Out}
use Rattle.hc_records.specs.Keys.{same_dir}
use Rattle.hc_records.specs.Line.{Member}
use Rattle.hc_records.specs.Image.{VariablePlace, datagram_length, datagram_offset, task_places, task_variables, variable_place}
use Rattle.hc_events.specs.Entries.{History, Opened, Edited, Posted}
use Rattle.hc_events.specs.Points.{line_of}

-- the position of a bit of a variable in its task's image
abbrev pub image_bit : List Member → VariablePlace → ℕ → ℕ
image_bit line place k = 8 * datagram_offset (task_places place.task line) place.datagram + place.bit + k

-- a post of a task has a value for the variables that the task has
abbrev pub is_posted : ℕ → VariablePlace → Bool
is_posted task place = place.task == task

-- bit `k` of a variable after a post: its bit in the posted bytes if it has a place and this is in the posted task, otherwise
-- `before`
abbrev pub posted_bit : List Member → ℕ → List ℕ → ℕ → Option VariablePlace → ℕ → ℕ
posted_bit line task bytes k place before =
    option_map_or (λ found. if is_posted task found then bit_of bytes (image_bit line found k) else before) place before

-- bit k of a placed output variable: its bit in the last accepted post of the task that it then had, since it got its place; 0
-- if there is none. A variable has no place while its slave is not in the line
abbrev pub value_bit : History → ℕ → ℕ → ℕ
value_bit [] variable k = 0
value_bit (Opened groups ∷ history) variable k = 0
value_bit (Posted task bytes ∷ history) variable k =
    posted_bit (line_of history) task bytes k (variable_place variable (line_of history)) (value_bit history variable k)
value_bit (Edited edit ∷ history) variable k =
    if is_some (variable_place variable (line_of history)) then value_bit history variable k else 0
value_bit (entry ∷ history) variable k = value_bit history variable k

-- a variable with a place is an output, and is in the datagram with this number
abbrev pub is_output_in : ℕ → ℕ × VariablePlace → Bool
is_output_in d found = same_dir found.1.dir Out && (found.1.datagram == d)

-- the output variables that are in a datagram of a task, each with its place, in the order of the task's list and of their areas' entries
abbrev pub outputs_in : List Member → ℕ → ℕ → List (ℕ × VariablePlace)
outputs_in line task d = filter (is_output_in d) (task_variables line task)

-- a bit of the datagram belongs to a variable
abbrev pub has_bit : ℕ → ℕ × VariablePlace → Bool
has_bit k found = nat_le found.1.bit k && nat_lt k (found.1.bit + found.1.bits)

-- a bit as it is sent: the bit of the output variable to which it belongs, else 0
abbrev pub sent_bit : History → List (ℕ × VariablePlace) → ℕ → ℕ
sent_bit history outputs k = option_map_or (λ found. value_bit history found.0 (k - found.1.bit)) (find (has_bit k) outputs) 0

-- the byte with a number, from 0, that has these bits, the least significant first
abbrev pub byte_of : (ℕ → ℕ) → ℕ → ℕ
byte_of bit n = number_of (map (λ k. bit (8 * n + k)) (range_with_len 0 8))

-- `length` bytes, from byte 0 on, whose bits `bit` gives by their numbers: those of byte n from 8 * n on, the least significant first (`byte_of`)
abbrev pub bytes_of_bits : (ℕ → ℕ) → ℕ → List ℕ
bytes_of_bits bit length = map (byte_of bit) (range_with_len 0 length)

-- the data that a datagram of a task is sent with
abbrev pub sent_data : History → ℕ → ℕ → List ℕ
sent_data history task d =
    bytes_of_bits (sent_bit history (outputs_in (line_of history) task d)) (datagram_length (task_places task (line_of history)) d)
