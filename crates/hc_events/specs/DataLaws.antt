-- Laws of the data that are sent.
use Rattle.std.specs.Prelude.{◌≡◌, ℕ, ◌+◌, ◌*◌, ◌<◌, ◌≤◌, List, length, Some, None}
use Rattle.hc_records.specs.declared.limits.TheConstants.{TASKS}
use Rattle.hc_records.specs.declared.records.Dir.TheVariants.{Out}
use Rattle.hc_records.specs.Line.{Member, groups_of}
use Rattle.hc_records.specs.Image.{VariablePlace, variable_place}
use Rattle.hc_records.specs.Project.{lowest_fault}
use Rattle.hc_bits.specs.Bits.{bit_of}
use Rattle.hc_events.specs.Entries.{History}
use Rattle.hc_events.specs.Points.{line_of, state_of}
use Rattle.hc_events.specs.Sendings.{line_data_length}
use Rattle.hc_events.specs.Outputs.{sent_data, value_bit}

-- a variable of the line is an output in this datagram of this task, and has this place
pub record IsOutputOf (line : List Member) (task d variable : ℕ) (place : VariablePlace) : Type 0 where
  pub there : variable_place variable line ≡ Some place
  pub task_is : place.task ≡ task
  pub datagram : place.datagram ≡ d
  pub output : place.dir ≡ Out

-- a bit of the datagram lies in a place
pub record LiesIn (place : VariablePlace) (k : ℕ) : Type 0 where
  pub from : place.bit ≤ k
  pub below : k < place.bit + place.bits

-- a datagram is sent with its length; at each output variable's place are the bits of its value, and each bit that lies in no output variable's place is 0
pub record IsSentData (history : History) (task d : ℕ) (bytes : List ℕ) : Type 0 where
  pub size : length bytes ≡ line_data_length (line_of history) (task, d)
  pub values :
      (variable k : ℕ) (place : VariablePlace) → IsOutputOf (line_of history) task d variable place → k < place.bits
      → bit_of bytes (place.bit + k) ≡ value_bit history variable k
  pub others :
      (k : ℕ) → k < 8 * length bytes → ((variable : ℕ) (place : VariablePlace) → IsOutputOf (line_of history) task d variable place → ¬ (LiesIn place k))
      → bit_of bytes k ≡ 0

-- the sent data are the values of the output variables for each task, if the state is one of a project: `Project::groups`
-- returns the condition of the opened groups, and `Plan` that of the state's groups after its edits. A higher number is refused
-- before anything is sent
abbrev pub SentDataAreValues : Type 0
SentDataAreValues =
    (history : History) (task d : ℕ) → lowest_fault (groups_of (state_of history).groups) ≡ None → task < TASKS
    → IsSentData history task d (sent_data history task d)
