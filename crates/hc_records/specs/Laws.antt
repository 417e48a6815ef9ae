-- Laws that follow from the definitions. Each is the contract of a function of `laws`.
use Rattle.std.specs.Prelude.{◌≡◌, ℕ, ◌+◌, ◌*◌, ◌%◌, ◌<◌, ◌≤◌, ◌⊎◌, true, IsTrue, All, AllPairs, Contains, None, List, [], ◌∷◌, ◌++◌, length, map, if◌then◌else◌}
use Rattle.std.specs.List.{flat_map}
use Rattle.hc_records.specs.declared.limits.TheConstants.{MOST_AREA_BITS, MOST_DATAGRAM_BYTES}
use Rattle.hc_records.specs.declared.records.Dir.TheVariants.{Out, In}
use Rattle.hc_records.specs.declared.keys.Key.{Key}
use Rattle.hc_records.specs.declared.keys.TheConstants.Key.{START, END}
use Rattle.hc_records.specs.Keys.{is_before}
use Rattle.hc_records.specs.Line.{State, groups_of, line}
use Rattle.hc_records.specs.TaskList.{Keyed, task_list}
use Rattle.hc_records.specs.Packing.{Front, Placed, empty_front, fits, placed_at, front_with, packed}
use Rattle.hc_records.specs.Image.{datagram_count, datagram_length, datagram_offset, output_length}
use Rattle.hc_records.specs.Boundaries.{begins_later, later_keys, touched, unsettled_spans, width_in}
use Rattle.hc_records.specs.Project.{lowest_fault}

-- an area of at least one bit that is no wider than a datagram
pub record IsPackable (area : Keyed) : Type 0 where
  pub some : 0 < area.1
  pub narrow : area.1 ≤ MOST_AREA_BITS

-- in a project, every area of every task's list of every line is packable
abbrev pub ProjectsArePackable : Type 0
ProjectsArePackable =
    (state : State) (task : ℕ) → lowest_fault (groups_of state.groups) ≡ None
    → All IsPackable (task_list task (line state))

-- the places of a list are its areas', in its order
abbrev pub PlacesKeepTheList : Type 0
PlacesKeepTheList = (front : Front) (list : List Keyed) → map (λ area. (area.key, area.bits)) (packed front list) ≡ list

-- an area lies in its datagram: its first bit and its bits end by the datagram's last bit
abbrev pub LiesInside : Placed → Type 0
LiesInside area = area.bit + area.bits ≤ MOST_AREA_BITS

-- `LiesInside` holds for each area of a list of packable areas, once the list is packed
abbrev pub AreasLieInside : Type 0
AreasLieInside = (list : List Keyed) → All IsPackable list → All LiesInside (packed empty_front list)

-- an area of 8 bits or more begins a byte
abbrev pub BeginsByte : Placed → Type 0
BeginsByte area = 8 ≤ area.bits → area.bit % 8 ≡ 0

-- `BeginsByte` holds for each area of a list that is packed
abbrev pub WideAreasBeginBytes : Type 0
WideAreasBeginBytes = (list : List Keyed) → All BeginsByte (packed empty_front list)

-- a datagram has 1 to 1,486 bytes
pub record IsDatagramLength (bytes : ℕ) : Type 0 where
  pub some : 1 ≤ bytes
  pub most : bytes ≤ MOST_DATAGRAM_BYTES

-- `IsDatagramLength` holds for each datagram of a list of packable areas, once the list is packed
abbrev pub DatagramsAreSendable : Type 0
DatagramsAreSendable =
    (list : List Keyed) (datagram : ℕ) → All IsPackable list → datagram < datagram_count (packed empty_front list)
    → IsDatagramLength (datagram_length (packed empty_front list) datagram)

-- an area is in an earlier datagram than another, or ends in the same one before the other begins
abbrev pub LiesBefore : Placed → Placed → Type 0
LiesBefore a b = (a.datagram < b.datagram) ⊎ ((a.datagram ≡ b.datagram) × (a.bit + a.bits ≤ b.bit))

-- two areas of a task share no bit
abbrev pub AreasShareNoBit : Type 0
AreasShareNoBit = (list : List Keyed) → AllPairs LiesBefore (packed empty_front list)

-- the keys of a list ascend
abbrev pub Ascends : List Keyed → Type 0
Ascends list = AllPairs (λ a b. IsTrue (is_before a.0 b.0)) list

-- the keys of the list of each task of any line ascend
abbrev pub KeysAscend : Type 0
KeysAscend = (state : State) (task : ℕ) → Ascends (task_list task (line state))

-- the key of each area of a task's list lies above START
abbrev pub KeysLieAboveStart : Type 0
KeysLieAboveStart = (state : State) (task : ℕ) → All (λ area. IsTrue (is_before START area.0)) (task_list task (line state))

-- in a project, the key of each area of a task's list lies below END
abbrev pub KeysLieBelowEnd : Type 0
KeysLieBelowEnd =
    (state : State) (task : ℕ) → lowest_fault (groups_of state.groups) ≡ None
    → All (λ area. IsTrue (is_before area.0 END)) (task_list task (line state))

-- a list that fits one datagram
abbrev pub FitsOneDatagram : List Keyed → Type 0
FitsOneDatagram part = datagram_count (packed empty_front part) ≤ 1

-- packing from the front needs no more datagrams than any cut of the list in its order into parts that fit one each
abbrev pub PackingIsLeast : Type 0
PackingIsLeast =
    (list : List Keyed) (parts : List (List Keyed)) → flat_map (λ part. part) parts ≡ list
    → All FitsOneDatagram parts → datagram_count (packed empty_front list) ≤ length parts

-- the datagram being filled once the areas of a list are placed
abbrev pub front_after : Front → List Keyed → Front
front_after front [] = front
front_after front (area ∷ areas) = front_after (front_with (placed_at front area)) areas

-- an area's place with its datagram number increased by so many datagrams
abbrev pub raised : ℕ → Placed → Placed
raised datagrams area = record area { datagram = area.datagram + datagrams }

-- from an area that begins a later datagram on, the areas are as if they were a list of their own
abbrev pub CutsAreAlone : Type 0
CutsAreAlone =
    (before : List Keyed) (area : Keyed) (areas : List Keyed) → All IsPackable (before ++ area ∷ areas)
    → begins_later (placed_at (front_after empty_front before) area) ≡ true
    → packed empty_front (before ++ area ∷ areas)
    ≡ packed empty_front before ++ map (raised (datagram_count (packed empty_front before))) (packed empty_front (area ∷ areas))

-- the boundary keys from an area on, while a datagram is being filled
abbrev pub cuts_from : Front → List Keyed → List Key
cuts_from front [] = []
cuts_from front (area ∷ areas) =
    if fits front area
    then cuts_from (front_with (placed_at front area)) areas
    else area.0 ∷ cuts_from (front_with (placed_at front area)) areas

-- the boundaries inside a list are the keys of the areas that do not fit the datagram being filled
abbrev pub BoundariesAreCuts : Type 0
BoundariesAreCuts = (list : List Keyed) → All IsPackable list → later_keys list ≡ cuts_from empty_front list

-- a task that has an area has one datagram more than boundaries inside its list
abbrev pub DatagramsAreSpans : Type 0
DatagramsAreSpans =
    (area : Keyed) (areas : List Keyed) → All IsPackable (area ∷ areas)
    → datagram_count (packed empty_front (area ∷ areas)) ≡ length (later_keys (area ∷ areas)) + 1

-- a boundary inside a list is the key of an area with a width
abbrev pub BoundariesHaveWidth : Type 0
BoundariesHaveWidth =
    (list : List Keyed) (key : Key) → All IsPackable list → Contains (later_keys list) key → 0 < width_in list key

-- an edit that leaves a task's list as it was leaves all its spans settled
abbrev pub UntouchedIsSettled : Type 0
UntouchedIsSettled = (list : List Keyed) → unsettled_spans list list ≡ 0

-- the first bit of an area in the task's image
abbrev pub area_image_bit : List Placed → Placed → ℕ
area_image_bit areas area = 8 * datagram_offset areas area.datagram + area.bit

-- an output area ends by the end of the image's output bytes, and an input area begins at or after it
pub record KeepsToItsPart (areas : List Placed) (area : Placed) : Type 0 where
  pub output : area.key.dir ≡ Out → area_image_bit areas area + area.bits ≤ 8 * output_length areas
  pub input : area.key.dir ≡ In → 8 * output_length areas ≤ area_image_bit areas area

-- the outputs of a task are the first bytes of its image, and its inputs are the bytes after them
abbrev pub OutputsComeFirst : Type 0
OutputsComeFirst = (list : List Keyed) → Ascends list → All (KeepsToItsPart (packed empty_front list)) (packed empty_front list)

-- the keys of a list lie between START and END
pub record LiesBetween (list : List Keyed) : Type 0 where
  pub above : All (λ area. IsTrue (is_before START area.0)) list
  pub below : All (λ area. IsTrue (is_before area.0 END)) list

-- if the width of a key differs, at least one span of the new list is not settled
abbrev pub TouchedCountsOnce : Type 0
TouchedCountsOnce =
    (old new : List Keyed) → LiesBetween old → LiesBetween new → 0 < length (touched old new) → 1 ≤ unsettled_spans old new
