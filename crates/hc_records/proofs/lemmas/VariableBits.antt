-- The places of a line's variables, which share no bit.
use Rattle.std.proofs.Common.{◌≡◌, ◌≢◌, ℕ, ◌+◌, ◌<◌, ◌≤◌, ◌⊎◌, inl, inr, List, Some, get_or, refl, sym, arith}
use Rattle.std.specs.Prelude.{All, AllPairs, find, ◌==◌}
use Rattle.std.specs.List.{flat_map}
use Rattle.std.proofs.lemmas.List.Elements.{All-weaker}
use Rattle.hc_records.specs.Area.{assigned_entries}
use Rattle.hc_records.specs.Line.{Member, line}
use Rattle.hc_records.specs.TaskList.{Listed, task_areas, task_list}
use Rattle.hc_records.specs.Packing.{Placed, empty_front}
use Rattle.hc_records.specs.Image.{VariablePlace, area_variables, task_places, task_variables, tasks, variable_place, variables_from}
use Rattle.hc_records.specs.Laws.{LiesBefore}
use Rattle.hc_records.specs.ImageLaws.{SharesNoBit}
use Rattle.hc_records.proofs.lemmas.Finds.{found-all, found-two, mapped-some, tasks-ascend}
use Rattle.hc_records.proofs.lemmas.Lists.{All-flat_map, AllPairs-flat_map, AllPairs-map, AllPairs-weaker}
use Rattle.hc_records.proofs.lemmas.Variables.{EndsFirst, IsPlaced, area-variables-all, entry-variables-apart, pairs-placed, place_of, task_pairs, zip-pairs, IsAnything}
use Rattle.hc_records.proofs.Apart.{packed-apart}

-- the variable that is found at a place is one of the line's
pub found-place : (Q : VariablePlace → Type 0) (line : List Member) (variable : ℕ) (place : VariablePlace) → All (λ found. Q found.1) (flat_map (task_variables line) tasks) →
    variable_place variable line ≡ Some place → Q place
found-place Q line variable place all is =
    let all_variables = flat_map (task_variables line) tasks in
    let found = mapped-some (λ (f : ℕ × VariablePlace). f.1) (find (λ f. f.0 == variable) all_variables) place is in
    rw (← found.2) (found-all (λ f. Q f.1) (λ f. f.0 == variable) all_variables found.0 all found.1)

-- of two places in one datagram, the first ends at or before the bit where the second begins
abbrev IsFirst : ℕ × VariablePlace → ℕ × VariablePlace → Type 0
IsFirst a b = a.1.task ≡ b.1.task → a.1.datagram ≡ b.1.datagram → a.1.bit + a.1.bits ≤ b.1.bit

area-apart : (task : ℕ) (pair : Listed × Placed) → AllPairs IsFirst (area_variables task pair)
area-apart task pair =
    AllPairs-map IsFirst (λ found. (found.0, place_of task pair found)) (variables_from pair.1.bit (assigned_entries pair.0.area))
    (AllPairs-weaker EndsFirst (λ a b. IsFirst (a.0, place_of task pair a) (b.0, place_of task pair b)) (λ a b ends same same'. ends)
    (variables_from pair.1.bit (assigned_entries pair.0.area)) (entry-variables-apart pair.1.bit (assigned_entries pair.0.area)))

-- a variable of an area: its task, its datagram, and the bits between which it lies
record IsAreaVariable (task : ℕ) (pair : Listed × Placed) (place : VariablePlace) : Type 0 where
  pub in_task : place.task ≡ task
  pub in_datagram : place.datagram ≡ pair.1.datagram
  pub from : pair.1.bit ≤ place.bit
  pub to : place.bit + place.bits ≤ pair.1.bit + pair.1.bits

area-inside : (task : ℕ) (pair : Listed × Placed) → IsPlaced pair → All (λ variable. IsAreaVariable task pair variable.1) (area_variables task pair)
area-inside task pair placed =
    area-variables-all IsAnything (IsAreaVariable task pair) task pair placed (λ k d within. refl)
    (λ found within. record { in_task = refl; in_datagram = refl; from = within.from; to = within.to })

-- an area that is before another
record Precedes (a b : Listed × Placed) : Type 0 where
  pub first : IsPlaced a
  pub second : IsPlaced b
  pub before : LiesBefore a.1 b.1

first-by : (task : ℕ) (a b : Listed × Placed) (x y : ℕ × VariablePlace) → LiesBefore a.1 b.1 → IsAreaVariable task a x.1 → IsAreaVariable task b y.1 → IsFirst x y
first-by task a b x y (inl less) in_a in_b same same' =
    let left = in_a.in_datagram in
    let right = in_b.in_datagram in
    absurd (omega arith)
first-by task a b x y (inr (number, less)) in_a in_b same same' =
    let to = in_a.to in
    let from = in_b.from in
    omega arith

areas-apart : (task : ℕ) (a b : Listed × Placed) → Precedes a b → All (λ x. All (IsFirst x) (area_variables task b)) (area_variables task a)
areas-apart task a b precedes =
    All-weaker (λ x. IsAreaVariable task a x.1) (λ x. All (IsFirst x) (area_variables task b))
    (λ x in_a. All-weaker (λ y. IsAreaVariable task b y.1) (IsFirst x) (λ y in_b. first-by task a b x y precedes.before in_a in_b) (area_variables task b) (area-inside task b precedes.second))
    (area_variables task a) (area-inside task a precedes.first)

task-apart : (line : List Member) (task : ℕ) → AllPairs IsFirst (task_variables line task)
task-apart line task =
    AllPairs-flat_map IsFirst Precedes (area_variables task) (area-apart task) (areas-apart task) (task_pairs line task)
    (λ i j d lower within. record {
      first = pairs-placed line task i d (omega arith);
      second = pairs-placed line task j d within;
      before = zip-pairs LiesBefore (task_areas task line) (task_places task line) (packed-apart empty_front (task_list task line)) i j d lower within;
    })

of-task : (line : List Member) (task : ℕ) → All (λ variable. variable.1.task ≡ task) (task_variables line task)
of-task line task =
    All-flat_map (λ variable. variable.1.task ≡ task) (area_variables task) (task_pairs line task)
    (λ k d within. area-variables-all IsAnything (λ place. place.task ≡ task) task (get_or (task_pairs line task) k d) (pairs-placed line task k d within) (λ i e inside. refl) (λ found is. refl))

tasks-apart : (line : List Member) (low high : ℕ) → low < high → All (λ x. All (IsFirst x) (task_variables line high)) (task_variables line low)
tasks-apart line low high less =
    All-weaker (λ x. x.1.task ≡ low) (λ x. All (IsFirst x) (task_variables line high))
    (λ x is. All-weaker (λ y. y.1.task ≡ high) (IsFirst x) (λ y is' same same'. absurd (omega arith)) (task_variables line high) (of-task line high))
    (task_variables line low) (of-task line low)

line-apart : (line : List Member) → AllPairs IsFirst (flat_map (task_variables line) tasks)
line-apart line = AllPairs-flat_map IsFirst (λ a b. a < b) (task_variables line) (task-apart line) (tasks-apart line) tasks tasks-ascend

either-way : (a b : ℕ × VariablePlace) → IsFirst a b ⊎ IsFirst b a → SharesNoBit a.1 b.1
either-way a b (inl first) same same' = inl (first same same')
either-way a b (inr first) same same' = inr (first (sym same) (sym same'))

pub variables-apart : (line : List Member) (variable other : ℕ) (place another : VariablePlace) → variable ≢ other →
    variable_place variable line ≡ Some place → variable_place other line ≡ Some another → SharesNoBit place another
variables-apart line variable other place another apart is is' =
    let all = flat_map (task_variables line) tasks in
    let first = mapped-some (λ (f : ℕ × VariablePlace). f.1) (find (λ f. f.0 == variable) all) place is in
    let second = mapped-some (λ (f : ℕ × VariablePlace). f.1) (find (λ f. f.0 == other) all) another is' in
    rw (← first.2, ← second.2) (either-way first.0 second.0 (found-two IsFirst variable other all first.0 second.0 apart (line-apart line) first.1 second.1))
