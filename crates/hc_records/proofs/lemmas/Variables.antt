-- The variables of a line, from the entries of its areas and the places of these.
use Rattle.std.proofs.Common.{◌≡◌, ℕ, ◌+◌, ◌<◌, ◌≤◌, Bool, true, false, List, [], ◌∷◌, Option, Some, None, refl, arith}
use Rattle.std.specs.Prelude.{All, AllPairs, map}
use Rattle.std.specs.Option.{option_map_or}
use Rattle.std.specs.List.{flat_map, zip}
use Rattle.std.proofs.lemmas.List.Elements.{All-nil, All-cons, All-head, All-tail, All-append, All-map, All-weaker}
use Rattle.std.proofs.lemmas.List.Kept.{AllPairs-cons}
use Rattle.std.proofs.lemmas.List.Sums.{sum_by-cons}
use Rattle.hc_records.specs.declared.limits.TheConstants.{TASKS}
use Rattle.hc_records.specs.Area.{Entry, assigned_entries, entry_bits, width}
use Rattle.hc_records.specs.Line.{Member}
use Rattle.hc_records.specs.TaskList.{Listed, keyed, task_areas}
use Rattle.hc_records.specs.Packing.{Front, Placed, fits, empty_front, packed, placed_at, front_with}
use Rattle.hc_records.specs.Image.{VariablePlace, area_variables, task_places, task_variables, tasks, variables_from}
use Rattle.hc_records.proofs.lemmas.Finds.{all-tasks}
use Rattle.hc_records.proofs.lemmas.Lists.{All-flat_map, AllPairs-append, AllPairs-head, AllPairs-nil, AllPairs-tail}
use Rattle.hc_records.proofs.lemmas.Packed.{place}

-- a variable of entries: its bits lie between two bits, and their number is one that an entry has
pub record IsEntryVariable (P : ℕ → Type 0) (start end : ℕ) (found : ℕ × (ℕ × ℕ)) : Type 0 where
  pub from : start ≤ found.1.0
  pub to : found.1.0 + found.1.1 ≤ end
  pub is : P found.1.1

-- the variable of an entry, or none
abbrev named : Option ℕ → ℕ → ℕ → List (ℕ × (ℕ × ℕ))
named variable bit bits = option_map_or (λ v. (v, (bit, bits)) ∷ []) variable []

named-all : (Q : ℕ × (ℕ × ℕ) → Type 0) (variable : Option ℕ) (bit bits : ℕ) → ((v : ℕ) → Q (v, (bit, bits))) → All Q (named variable bit bits)
named-all Q None bit bits each = All-nil Q
named-all Q (Some v) bit bits each = All-cons Q (v, (bit, bits)) [] (each v) (All-nil Q)

named-pairs : (R : ℕ × (ℕ × ℕ) → ℕ × (ℕ × ℕ) → Type 0) (variable : Option ℕ) (bit bits : ℕ) → AllPairs R (named variable bit bits)
named-pairs R None bit bits = AllPairs-nil R
named-pairs R (Some v) bit bits = AllPairs-cons R (v, (bit, bits)) [] (All-nil (R (v, (bit, bits)))) (AllPairs-nil R)

pub entry-variables : (P : ℕ → Type 0) (bit : ℕ) (entries : List Entry) → All (λ entry. P entry.1) entries →
    All (IsEntryVariable P bit (bit + entry_bits entries)) (variables_from bit entries)
entry-variables P bit [] all = All-nil (IsEntryVariable P bit (bit + entry_bits []))
entry-variables P bit (entry ∷ entries) all =
    let next = bit + entry.1 in
    let end = bit + entry_bits (entry ∷ entries) in
    let sum : entry_bits (entry ∷ entries) ≡ entry.1 + entry_bits entries = sum_by-cons (λ (e : Entry). e.1) entry entries in
    All-append (IsEntryVariable P bit end) (named entry.0 bit entry.1) (variables_from next entries)
    (named-all (IsEntryVariable P bit end) entry.0 bit entry.1 (λ v. record { from = omega arith; to = omega arith; is = All-head (λ (e : Entry). P e.1) entry entries all }))
    (All-weaker (IsEntryVariable P next (next + entry_bits entries)) (IsEntryVariable P bit end)
    (λ found within. record { from = let from = within.from in omega arith; to = let to = within.to in omega arith; is = within.is })
    (variables_from next entries) (entry-variables P next entries (All-tail (λ (e : Entry). P e.1) entry entries all)))

-- each ends at or before the bit where a later one begins
abbrev pub EndsFirst : ℕ × (ℕ × ℕ) → ℕ × (ℕ × ℕ) → Type 0
EndsFirst a b = a.1.0 + a.1.1 ≤ b.1.0

abbrev pub IsAnything : ℕ → Type 0
IsAnything n = n ≡ n

pub entry-variables-apart : (bit : ℕ) (entries : List Entry) → AllPairs EndsFirst (variables_from bit entries)
entry-variables-apart bit [] = AllPairs-nil EndsFirst
entry-variables-apart bit (entry ∷ entries) =
    let next = bit + entry.1 in
    AllPairs-append EndsFirst (named entry.0 bit entry.1) (variables_from next entries) (named-pairs EndsFirst entry.0 bit entry.1) (entry-variables-apart next entries)
    (named-all (λ first. All (EndsFirst first) (variables_from next entries)) entry.0 bit entry.1
    (λ v. All-weaker (IsEntryVariable IsAnything next (next + entry_bits entries)) (EndsFirst (v, (bit, entry.1))) (λ found within. within.from)
    (variables_from next entries) (entry-variables IsAnything next entries (λ k d within. refl))))

-- the two sides of a zipped list

pub zip-left : {X Y : Type 0} (P : X → Type 0) (xs : List X) (ys : List Y) → All P xs → All (λ pair. P pair.0) (zip xs ys)
zip-left P [] ys all = All-nil (λ pair. P pair.0)
zip-left P (x ∷ xs) [] all = All-nil (λ pair. P pair.0)
zip-left P (x ∷ xs) (y ∷ ys) all = All-cons (λ pair. P pair.0) (x, y) (zip xs ys) (All-head P x xs all) (zip-left P xs ys (All-tail P x xs all))

pub zip-right : {X Y : Type 0} (P : Y → Type 0) (xs : List X) (ys : List Y) → All P ys → All (λ pair. P pair.1) (zip xs ys)
zip-right P [] ys all = All-nil (λ pair. P pair.1)
zip-right P (x ∷ xs) [] all = All-nil (λ pair. P pair.1)
zip-right P (x ∷ xs) (y ∷ ys) all = All-cons (λ pair. P pair.1) (x, y) (zip xs ys) (All-head P y ys all) (zip-right P xs ys (All-tail P y ys all))

pub zip-pairs : {X Y : Type 0} (R : Y → Y → Type 0) (xs : List X) (ys : List Y) → AllPairs R ys → AllPairs (λ a b. R a.1 b.1) (zip xs ys)
zip-pairs R [] ys pairs = AllPairs-nil (λ a b. R a.1 b.1)
zip-pairs R (x ∷ xs) [] pairs = AllPairs-nil (λ a b. R a.1 b.1)
zip-pairs R (x ∷ xs) (y ∷ ys) pairs =
    AllPairs-cons (λ a b. R a.1 b.1) (x, y) (zip xs ys) (zip-right (R y) xs ys (AllPairs-head R y ys pairs)) (zip-pairs R xs ys (AllPairs-tail R y ys pairs))

-- an area of a task is at a place of its own key and width
pub record IsPlaced (pair : Listed × Placed) : Type 0 where
  pub key : pair.1.key ≡ pair.0.key
  pub bits : pair.1.bits ≡ width pair.0.area

place-is : (fitting : Bool) (front : Front) (listed : Listed) → IsPlaced (listed, place fitting front (keyed listed))
place-is true front listed = record { key = refl; bits = refl }
place-is false front listed = record { key = refl; bits = refl }

zip-placed : (front : Front) (areas : List Listed) → All IsPlaced (zip areas (packed front (map keyed areas)))
zip-placed front [] = All-nil IsPlaced
zip-placed front (listed ∷ areas) =
    let first = placed_at front (keyed listed) in
    All-cons IsPlaced (listed, first) (zip areas (packed (front_with first) (map keyed areas))) (place-is (fits front (keyed listed)) front listed) (zip-placed (front_with first) areas)

-- the areas of a task with their places
abbrev pub task_pairs : List Member → ℕ → List (Listed × Placed)
task_pairs line task = zip (task_areas task line) (task_places task line)

pub pairs-placed : (line : List Member) (task : ℕ) → All IsPlaced (task_pairs line task)
pairs-placed line task = zip-placed empty_front (task_areas task line)

-- the place of an area's variable
abbrev pub place_of : ℕ → Listed × Placed → ℕ × (ℕ × ℕ) → VariablePlace
place_of task pair found = record { task = task; datagram = pair.1.datagram; bit = found.1.0; bits = found.1.1; dir = pair.0.area.dir }

-- what holds of the places of all of an area's entries' variables holds of the area's variables
pub area-variables-all : (P : ℕ → Type 0) (Q : VariablePlace → Type 0) (task : ℕ) (pair : Listed × Placed) → IsPlaced pair → All (λ entry. P entry.1) (assigned_entries pair.0.area) →
    ((found : ℕ × (ℕ × ℕ)) → IsEntryVariable P pair.1.bit (pair.1.bit + pair.1.bits) found → Q (place_of task pair found)) → All (λ variable. Q variable.1) (area_variables task pair)
area-variables-all P Q task pair placed all each =
    let entries = assigned_entries pair.0.area in
    let bits : pair.1.bits ≡ entry_bits entries = placed.bits in
    All-map (λ variable. Q variable.1) (λ found. (found.0, place_of task pair found)) (variables_from pair.1.bit entries)
    (All-weaker (IsEntryVariable P pair.1.bit (pair.1.bit + entry_bits entries)) (λ found. Q (place_of task pair found))
    (λ found within. each found (record { from = within.from; to = let to = within.to in omega arith; is = within.is }))
    (variables_from pair.1.bit entries) (entry-variables P pair.1.bit entries all))

-- what holds of all variables of each task of a line
pub line-variables-all : (Q : VariablePlace → Type 0) (line : List Member) → ((task : ℕ) → task < TASKS → All (λ pair. All (λ variable. Q variable.1) (area_variables task pair)) (task_pairs line task)) →
    All (λ variable. Q variable.1) (flat_map (task_variables line) tasks)
line-variables-all Q line each =
    All-flat_map (λ variable. Q variable.1) (task_variables line) tasks
    (all-tasks (λ task. All (λ variable. Q variable.1) (task_variables line task))
    (λ task low. All-flat_map (λ variable. Q variable.1) (area_variables task) (task_pairs line task) (each task low)))
