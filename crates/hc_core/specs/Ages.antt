-- The ages of the data that tasks read, as a core stores them: the serial of the sending and the epoch of the answer, for each
-- datagram that a line can have, task by task.
use Rattle.std.specs.Prelude.{◌≡◌, ℕ, ◌*◌, ◌<◌, ◌==◌, ◌&&◌, if◌then◌else◌, List, fold, length, slice_index_or, Option, Some, None, option_map}
use Rattle.hc_records.specs.declared.limits.TheConstants.{MOST_DATAGRAMS, TASKS}
use Rattle.hc_records.specs.Slots.{slot_number}
use Rattle.hc_events.specs.Entries.{History}
use Rattle.hc_events.specs.Images.{NewAnswer, is_for, renewed}
use Rattle.hc_events.specs.Steady.{SteadyData, steady_data, steady_slot}
use Rattle.hc_images.specs.Image.{DatagramImage, data_of}
use Rattle.hc_core.specs.declared.ages.DataAge.{DataAge}

-- an age or none for each datagram, task by task
abbrev pub Ages : Type 0
Ages = List (Option DataAge)

-- there are as many as eight tasks of sixteen datagrams have
abbrev pub AreWhole : Ages → Type 0
AreWhole ages = length ages ≡ MOST_DATAGRAMS * TASKS

-- the age of a datagram's data, or none
abbrev pub age_of : Ages → ℕ → ℕ → Option DataAge
age_of ages task d = slice_index_or ages (slot_number task d) None

-- no datagram has an age, as at the opening of a project
abbrev pub HaveNone : Ages → Type 0
HaveNone ages = (task d : ℕ) → age_of ages task d ≡ None

-- a datagram has this age from then on, and every other one keeps what it had
abbrev pub Dates : Ages → Ages → ℕ → ℕ → DataAge → Type 0
Dates old new task d age = (t e : ℕ) → e < MOST_DATAGRAMS → age_of new t e ≡ (if (task == t) && (d == e) then Some age else age_of old t e)

-- no datagram of a task has an age from then on, and each of another task keeps what it had
abbrev pub Undates : Ages → Ages → ℕ → Type 0
Undates old new task = (t e : ℕ) → e < MOST_DATAGRAMS → age_of new t e ≡ (if task == t then None else age_of old t e)

-- by good answers

-- the age of a datagram's data once a good answer came: this one if the answer is of this datagram, otherwise the age before
-- it, if any
abbrev pub aged : DataAge → ℕ → ℕ → Option DataAge → NewAnswer → Option DataAge
aged age task d so_far good = if is_for task d good then Some age else so_far

-- each datagram has the age that it has once these good answers came one after another, all to one sending and in one epoch
abbrev pub AreAged : DataAge → List NewAnswer → Ages → Ages → Type 0
AreAged age answers old new = (task d : ℕ) → d < MOST_DATAGRAMS → age_of new task d ≡ fold (aged age task d) (age_of old task d) answers

-- each datagram has the data that it has once these good answers came one after another
abbrev pub AreRenewed : List NewAnswer → DatagramImage → DatagramImage → Type 0
AreRenewed answers old new = (task d : ℕ) → d < MOST_DATAGRAMS → data_of new task d ≡ fold (renewed task d) (data_of old task d) answers

-- by the record

-- the age of steady data
abbrev pub data_age : SteadyData → DataAge
data_age found = record { serial = found.serial; epoch = found.epoch }

-- the age of a datagram's steady data, or none
abbrev pub steady_age : History → ℕ → ℕ → Option DataAge
steady_age history task d = option_map data_age (steady_data history task d)

-- the ages are those that the record says
abbrev pub ShowAges : History → Ages → Type 0
ShowAges history ages = (task d : ℕ) → task < TASKS → d < MOST_DATAGRAMS → age_of ages task d ≡ steady_age history task d

-- the input image has the steady data of each datagram
abbrev pub ShowsSteadyData : History → DatagramImage → Type 0
ShowsSteadyData history image = (task d : ℕ) → task < TASKS → d < MOST_DATAGRAMS → data_of image task d ≡ steady_slot history task d
