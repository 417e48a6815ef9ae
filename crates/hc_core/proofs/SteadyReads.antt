-- The steady data of a datagram and their age, after good answers and after edits, and what a task reads of them in the present epoch.
use Rattle.std.proofs.Common.{◌≡◌, ℕ, ◌==◌, ◌∙◌, Bool, true, false, cond, List, [], ◌∷◌, refl, sym, ap, Option, Some, None}
use Rattle.std.specs.Prelude.{fold, is_some, option_map}
use Rattle.std.specs.Option.{option_map_or}
use Rattle.std.proofs.lemmas.Bool.{eq-eqb, eqb-true}
use Rattle.hc_events.specs.Ages.{data_serial}
use Rattle.hc_events.specs.Arrivals.{Arrival}
use Rattle.hc_events.specs.Entries.{History, Came}
use Rattle.hc_events.specs.Images.{NewAnswer, is_for, new_answer_by, renewed, slot_of}
use Rattle.hc_events.specs.Points.{epoch_of}
use Rattle.hc_events.specs.Steady.{SteadyData, steadied, steady_data, steady_serial, steady_slot}
use Rattle.hc_events.proofs.lemmas.Steady.{slots-steady, steady-slots}
use Rattle.hc_core.specs.declared.ages.DataAge.{DataAge}
use Rattle.hc_core.specs.Ages.{aged, data_age, steady_age}

abbrev found_of : List ℕ → ℕ → ℕ → SteadyData
found_of bytes serial epoch = record { bytes = bytes; serial = serial; epoch = epoch }

abbrev pub age_from : ℕ → ℕ → DataAge
age_from serial epoch = record { serial = serial; epoch = epoch }

-- good answers

one_slot : (own : Bool) (bytes : List ℕ) (serial epoch : ℕ) (before : Option SteadyData)
    → option_map (λ (found : SteadyData). found.bytes) (cond own (Some (found_of bytes serial epoch)) before) ≡ cond own (Some bytes) (option_map (λ (found : SteadyData). found.bytes) before)
one_slot true bytes serial epoch before = refl
one_slot false bytes serial epoch before = refl

slots_by : (serial epoch task d : ℕ) (before : Option SteadyData) (answers : List NewAnswer)
    → option_map (λ (found : SteadyData). found.bytes) (fold (steadied serial epoch task d) before answers) ≡ fold (renewed task d) (option_map (λ (found : SteadyData). found.bytes) before) answers
slots_by serial epoch task d before [] = refl
slots_by serial epoch task d before (good ∷ answers) =
    slots_by serial epoch task d (steadied serial epoch task d before good) answers
    ∙ ap (λ slot. fold (renewed task d) slot answers) (one_slot (is_for task d good) good.bytes serial epoch before)

-- the steady data after an arrival are those of its good answers
pub slots-after : (history : History) (arrival : Arrival) (task d : ℕ) → steady_slot (Came arrival ∷ history) task d ≡ fold (renewed task d) (steady_slot history task d) (new_answer_by history arrival)
slots-after history arrival task d = slots_by arrival.serial (epoch_of history) task d (steady_data history task d) (new_answer_by history arrival)

one_age : (own : Bool) (bytes : List ℕ) (serial epoch : ℕ) (before : Option SteadyData)
    → option_map data_age (cond own (Some (found_of bytes serial epoch)) before) ≡ cond own (Some (age_from serial epoch)) (option_map data_age before)
one_age true bytes serial epoch before = refl
one_age false bytes serial epoch before = refl

ages_by : (serial epoch task d : ℕ) (before : Option SteadyData) (answers : List NewAnswer)
    → option_map data_age (fold (steadied serial epoch task d) before answers) ≡ fold (aged (age_from serial epoch) task d) (option_map data_age before) answers
ages_by serial epoch task d before [] = refl
ages_by serial epoch task d before (good ∷ answers) =
    ages_by serial epoch task d (steadied serial epoch task d before good) answers
    ∙ ap (λ age. fold (aged (age_from serial epoch) task d) age answers) (one_age (is_for task d good) good.bytes serial epoch before)

-- the ages after an arrival are those of its good answers
pub ages-after : (history : History) (arrival : Arrival) (epoch task d : ℕ) → epoch ≡ epoch_of history
    → steady_age (Came arrival ∷ history) task d ≡ fold (aged (record { serial = arrival.serial; epoch = epoch }) task d) (steady_age history task d) (new_answer_by history arrival)
ages-after history arrival epoch task d same =
    ages_by arrival.serial (epoch_of history) task d (steady_data history task d) (new_answer_by history arrival)
    ∙ ap (λ (now : ℕ). fold (aged (age_from arrival.serial now) task d) (steady_age history task d) (new_answer_by history arrival)) (sym same)

-- an arrival without a good answer leaves them
pub none-steadied : (history : History) (arrival : Arrival) (task d : ℕ) → new_answer_by history arrival ≡ [] → steady_data (Came arrival ∷ history) task d ≡ steady_data history task d
none-steadied history arrival task d none = ap (fold (steadied arrival.serial (epoch_of history) task d) (steady_data history task d)) none

-- an age has the serial of its data
pub serial-of_age : (found : Option SteadyData) → option_map (λ (age : DataAge). age.serial) (option_map data_age found) ≡ option_map (λ (one : SteadyData). one.serial) found
serial-of_age None = refl
serial-of_age (Some found) = refl

-- edits

pub chosen-mapped : {X Y : Type 0} (f : X → Y) (changes : Bool) (before : Option X) → option_map f (cond changes None before) ≡ cond changes None (option_map f before)
chosen-mapped f true before = refl
chosen-mapped f false before = refl

-- the present epoch

-- the answer that brought the steady data came in the present epoch
abbrev pub is_of_epoch : ℕ → Option DataAge → Bool
is_of_epoch epoch age = option_map_or (λ (found : DataAge). found.epoch == epoch) age false

present_by : (history : History) (task d : ℕ) (slot : Option (List ℕ)) (steady : Option SteadyData) → slot_of history task d ≡ slot → steady_data history task d ≡ steady
    → is_of_epoch (epoch_of history) (steady_age history task d) ≡ is_some (slot_of history task d)
present_by history task d (Some bytes) steady read is =
    let same = slots-steady history task d bytes read in
    ap (λ found. is_of_epoch (epoch_of history) (option_map data_age found)) same.steady
    ∙ eq-eqb (epoch_of history) (epoch_of history) refl
    ∙ sym (ap (λ (o : Option (List ℕ)). is_some o) read)
present_by history task d None None read is =
    ap (λ found. is_of_epoch (epoch_of history) (option_map data_age found)) is ∙ sym (ap (λ (o : Option (List ℕ)). is_some o) read)
present_by history task d None (Some found) read is =
    ap (λ one. is_of_epoch (epoch_of history) (option_map data_age one)) is ∙ by (found.epoch == epoch_of history) refl ∙ sym (ap (λ (o : Option (List ℕ)). is_some o) read)
  where
    by : (same : Bool) → (found.epoch == epoch_of history) ≡ same → (found.epoch == epoch_of history) ≡ false
    by false e = e
    by true e =
        let never : Some found.bytes ≡ None = sym (steady-slots history task d found is (eqb-true found.epoch (epoch_of history) e)) ∙ read in
        cc

-- just then the task reads data
pub present-is : (history : History) (task d : ℕ) → is_of_epoch (epoch_of history) (steady_age history task d) ≡ is_some (slot_of history task d)
present-is history task d = present_by history task d (slot_of history task d) (steady_data history task d) refl refl

read_by : (history : History) (task d : ℕ) (slot : Option (List ℕ)) → slot_of history task d ≡ slot → is_some (slot_of history task d) ≡ true
    → (steady_slot history task d ≡ slot_of history task d) × (steady_serial history task d ≡ data_serial history task d)
read_by history task d None read some = let never : false ≡ true = sym (ap (λ (o : Option (List ℕ)). is_some o) read) ∙ some in cc
read_by history task d (Some bytes) read some =
    let same = slots-steady history task d bytes read in (
      ap (option_map (λ (found : SteadyData). found.bytes)) same.steady ∙ sym read,
      ap (option_map (λ (found : SteadyData). found.serial)) same.steady ∙ sym same.date,
    )

-- the data that it reads are the steady data, with the same serial
pub read-is : (history : History) (task d : ℕ) → is_some (slot_of history task d) ≡ true → (steady_slot history task d ≡ slot_of history task d) × (steady_serial history task d ≡ data_serial history task d)
read-is history task d some = read_by history task d (slot_of history task d) refl some

pub none-of : {X : Type 0} (found : Option X) → is_some found ≡ false → found ≡ None
none-of None e = refl
none-of (Some x) e = cc
