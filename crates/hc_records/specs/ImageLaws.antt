-- Laws of a task's image, its datagrams and its variables. Each is the contract of a function of `laws`.
use Rattle.std.specs.Prelude.{◌≡◌, ◌≢◌, ℕ, ◌+◌, ◌*◌, ◌<◌, ◌≤◌, ◌⊎◌, All, None, Some, List}
use Rattle.hc_records.specs.declared.limits.TheConstants.{MOST_DATAGRAM_BYTES, MOST_DATAGRAMS, MOST_ENTRY_BITS, TASKS}
use Rattle.hc_records.specs.declared.records.Dir.TheVariants.{In, Out}
use Rattle.hc_records.specs.Line.{Member, State, groups_of, line}
use Rattle.hc_records.specs.TaskList.{Keyed}
use Rattle.hc_records.specs.Packing.{Placed, empty_front, packed}
use Rattle.hc_records.specs.Image.{VariablePlace, datagram_count, datagram_length, datagram_offset, image_length, input_length, output_length, task_places, variable_place}
use Rattle.hc_records.specs.Project.{lowest_fault}
use Rattle.hc_records.specs.Laws.{IsPackable}

-- the datagrams lie end to end: the first begins the image, each next one begins at the end of the one before it, and the end
-- of the last one is the end of the outputs and the inputs
pub record TilesImage (areas : List Placed) : Type 0 where
  pub first : datagram_offset areas 0 ≡ 0
  pub next : (datagram : ℕ) → datagram_offset areas (datagram + 1) ≡ datagram_offset areas datagram + datagram_length areas datagram
  pub last : datagram_offset areas (datagram_count areas) ≡ output_length areas + input_length areas

-- `TilesImage` holds for the datagrams of any list of areas that is packed
abbrev pub DatagramsTileTheImage : Type 0
DatagramsTileTheImage = (list : List Keyed) → TilesImage (packed empty_front list)

-- the image of a task of at most 16 datagrams has at most 16 times 1,486 bytes
abbrev pub ImagesAreShort : Type 0
ImagesAreShort =
    (list : List Keyed) → All IsPackable list → datagram_count (packed empty_front list) ≤ MOST_DATAGRAMS
    → image_length (packed empty_front list) ≤ MOST_DATAGRAMS * MOST_DATAGRAM_BYTES

-- a place has 1 to 64 bits, all of them in one datagram of its task
pub record LiesInDatagram (line : List Member) (place : VariablePlace) : Type 0 where
  pub task : place.task < TASKS
  pub datagram : place.datagram < datagram_count (task_places place.task line)
  pub some : 1 ≤ place.bits
  pub most : place.bits ≤ MOST_ENTRY_BITS
  pub within : place.bit + place.bits ≤ 8 * datagram_length (task_places place.task line) place.datagram

-- `LiesInDatagram` holds for the places of all variables of the line of a project
abbrev pub VariablesLieInDatagrams : Type 0
VariablesLieInDatagrams =
    (state : State) (variable : ℕ) (place : VariablePlace)
    → lowest_fault (groups_of state.groups) ≡ None → variable_place variable (line state) ≡ Some place
    → LiesInDatagram (line state) place

-- two places in one datagram share no bit: one ends at or before the first bit of the other
abbrev pub SharesNoBit : VariablePlace → VariablePlace → Type 0
SharesNoBit a b =
    a.task ≡ b.task → a.datagram ≡ b.datagram → (a.bit + a.bits ≤ b.bit) ⊎ (b.bit + b.bits ≤ a.bit)

-- `SharesNoBit` holds for the places of two variables of a line
abbrev pub VariablesShareNoBit : Type 0
VariablesShareNoBit =
    (line : List Member) (variable other : ℕ) (place another : VariablePlace) → variable ≢ other
    → variable_place variable line ≡ Some place → variable_place other line ≡ Some another → SharesNoBit place another

-- the first bit of a place in its task's image
abbrev pub place_bit : List Member → VariablePlace → ℕ
place_bit line place = 8 * datagram_offset (task_places place.task line) place.datagram + place.bit

-- an output variable ends by the end of the image's output bytes, and an input variable begins at or after it
pub record IsInItsPart (line : List Member) (place : VariablePlace) : Type 0 where
  pub output : place.dir ≡ Out → place_bit line place + place.bits ≤ 8 * output_length (task_places place.task line)
  pub input : place.dir ≡ In → 8 * output_length (task_places place.task line) ≤ place_bit line place

-- `IsInItsPart` holds for every variable of a line
abbrev pub VariablesAreInTheirParts : Type 0
VariablesAreInTheirParts =
    (state : State) (variable : ℕ) (place : VariablePlace) → variable_place variable (line state) ≡ Some place
    → IsInItsPart (line state) place
