-- In the line of a project each bit of sent data belongs to the one output variable in whose place it lies.
use Rattle.std.proofs.Common.{◌≡◌, ◌⊎◌, inl, inr, ℕ, ◌+◌, ◌-◌, ◌*◌, ◌<◌, ◌≤◌, ◌==◌, nat_le, nat_lt, Bool, true, false, cond, get_or, List, [], ◌∷◌, refl, sym, ap, ap₂, ◌∙◌, subst, arith, Option, Some, None, ltb-true}
use Rattle.std.specs.Prelude.{All, find, option_map}
use Rattle.std.specs.Option.{option_map_or}
use Rattle.std.specs.List.{flat_map}
use Rattle.std.proofs.lemmas.Bool.{and_from, and_parts, eq-eqb, eqb-true, eqb-false}
use Rattle.std.proofs.lemmas.Bool.Decides.{nat_tests}
use Rattle.std.proofs.lemmas.List.Elements.{All-nil, All-cons, All-map, All-weaker}
use Rattle.std.proofs.lemmas.Option.{same_Some}
use Rattle.hc_records.specs.declared.limits.TheConstants.{TASKS}
use Rattle.hc_records.specs.declared.records.Dir.TheVariants.{Out}
use Rattle.hc_records.specs.Keys.{same_dir}
use Rattle.hc_records.specs.Area.{assigned_entries}
use Rattle.hc_records.specs.Line.{Member, groups_of}
use Rattle.hc_records.specs.Image.{VariablePlace, area_variables, datagram_length, task_places, task_variables, tasks, variable_place, variables_from}
use Rattle.hc_records.specs.Project.{lowest_fault}
use Rattle.hc_records.proofs.lemmas.Finds.{all-tasks, each-task, found-none, mapped-some}
use Rattle.hc_records.proofs.lemmas.Lists.{All-append_left, All-append_right, All-flat_map, All-from_filter, All-passing, AllPairs-head, AllPairs-tail}
use Rattle.hc_records.proofs.lemmas.VariableBits.{variables-apart}
use Rattle.hc_records.proofs.lemmas.VariablePlaces.{variables-lie, same_dir-same}
use Rattle.hc_records.proofs.lemmas.Variables.{place_of, task_pairs}
use Rattle.hc_records.proofs.lemmas.Choices.{by_bool, lower-other}
use Rattle.hc_places.specs.Table.{VariableRow, RowsAscend, by_number}
use Rattle.hc_places.proofs.lemmas.Ascends.{table-ascends}
use Rattle.hc_places.proofs.lemmas.Found.{find-holds}
use Rattle.hc_places.proofs.lemmas.Sorted.{filter-by_number, find-by_number, numbered}
use Rattle.hc_events.specs.Entries.{History}
use Rattle.hc_events.specs.Points.{line_of, state_of}
use Rattle.hc_events.specs.Outputs.{has_bit, is_output_in, outputs_in, sent_bit, sent_data, value_bit}
use Rattle.hc_events.specs.DataLaws.{IsOutputOf, IsSentData, LiesIn}
use Rattle.hc_events.proofs.lemmas.SentBits.{sent-data}
use Rattle.hc_events.proofs.lemmas.Awaited.{same_is}

-- in rows that ascend each row is found by its number

abbrev IsFoundIn : List VariableRow → VariableRow → Type 0
IsFoundIn rows row = find (numbered row.0) rows ≡ Some row

first_found : (same : Bool) (row : VariableRow) (rest : Option VariableRow) (other : VariableRow) → same ≡ false → rest ≡ Some other → cond same (Some row) rest ≡ Some other
first_found true row rest other e there = cc
first_found false row rest other e there = there

found_in : (rows : List VariableRow) → RowsAscend rows → All (IsFoundIn rows) rows
found_in [] ascend = All-nil (IsFoundIn [])
found_in (row ∷ rows) ascend =
    All-cons (IsFoundIn (row ∷ rows)) row rows
    (ap (λ b. cond b (Some row) (find (numbered row.0) rows)) (same_is row.0))
    (λ k d within. first_found (row.0 == (get_or rows k d).0) row (find (numbered (get_or rows k d).0) rows) (get_or rows k d)
    (lower-other row.0 (get_or rows k d).0 (AllPairs-head (λ (a b : VariableRow). a.0 < b.0) row rows ascend k d within))
    (found_in rows (AllPairs-tail (λ (a b : VariableRow). a.0 < b.0) row rows ascend) k d within))

-- so it is in rows that ascend once they are put in order
found_before : (rows : List VariableRow) → RowsAscend (by_number rows) → All (IsFoundIn rows) rows
found_before rows ascend = λ k d within.
    let number = (get_or rows k d).0 in
    let sorted = All-weaker (IsFoundIn (by_number rows)) (λ row. numbered number row ≡ true → IsFoundIn rows row) (λ row there passes. sym (find-by_number row.0 rows) ∙ there) (by_number rows) (found_in (by_number rows) ascend) in
    let unchanged = All-passing (IsFoundIn rows) (numbered number) (by_number rows) sorted in
    All-from_filter (IsFoundIn rows) (numbered number) rows (subst (All (IsFoundIn rows)) (filter-by_number number rows) unchanged) k d within (same_is number)

-- a variable of a project's line has the place of its row

abbrev pub IsPlaced : List Member → VariableRow → Type 0
IsPlaced line row = variable_place row.0 line ≡ Some row.1

all_placed : (history : History) → lowest_fault (groups_of (state_of history).groups) ≡ None → All (IsPlaced (line_of history)) (flat_map (task_variables (line_of history)) tasks)
all_placed history none =
    let rows = flat_map (task_variables (line_of history)) tasks in
    All-weaker (IsFoundIn rows) (IsPlaced (line_of history)) (λ row there. ap (λ found. option_map (λ (r : VariableRow). r.1) found) there) rows
    (found_before rows (table-ascends (state_of history).groups none))

each_flat : (Q : VariableRow → Type 0) (f : ℕ → List VariableRow) (numbers : List ℕ) → All Q (flat_map f numbers) → All (λ n. All Q (f n)) numbers
each_flat Q f [] all = All-nil (λ n. All Q (f n))
each_flat Q f (n ∷ numbers) all =
    All-cons (λ m. All Q (f m)) n numbers (All-append_left Q (f n) (flat_map f numbers) all) (each_flat Q f numbers (All-append_right Q (f n) (flat_map f numbers) all))

pub task-placed : (history : History) → lowest_fault (groups_of (state_of history).groups) ≡ None → (task : ℕ) → task < TASKS → All (IsPlaced (line_of history)) (task_variables (line_of history) task)
task-placed history none task low =
    each-task (λ t. All (IsPlaced (line_of history)) (task_variables (line_of history) t))
    (each_flat (IsPlaced (line_of history)) (task_variables (line_of history)) tasks (all_placed history none)) task low

pub of-task : (line : List Member) (task : ℕ) → All (λ (row : VariableRow). row.1.task ≡ task) (task_variables line task)
of-task line task =
    All-flat_map (λ (row : VariableRow). row.1.task ≡ task) (area_variables task) (task_pairs line task)
    (λ k d within. let pair = get_or (task_pairs line task) k d in
    All-map (λ (row : VariableRow). row.1.task ≡ task) (λ found. (found.0, place_of task pair found)) (variables_from pair.1.bit (assigned_entries pair.0.area)) (λ i e inside. refl))

-- rows of a datagram's outputs

pub record IsRow (line : List Member) (task d : ℕ) (row : VariableRow) : Type 0 where
  pub there : IsPlaced line row
  pub task_is : row.1.task ≡ task
  pub output : is_output_in d row ≡ true

pub outputs-are : (line : List Member) (task d : ℕ) → All (IsPlaced line) (task_variables line task) → All (IsRow line task d) (outputs_in line task d)
outputs-are line task d placed =
    All-passing (IsRow line task d) (is_output_in d) (task_variables line task)
    (λ k e within passes. record { there = placed k e within; task_is = of-task line task k e within; output = passes })

pub datagram-of : (d : ℕ) (row : VariableRow) → is_output_in d row ≡ true → row.1.datagram ≡ d
datagram-of d row output = eqb-true row.1.datagram d (and_parts (same_dir row.1.dir Out) (row.1.datagram == d) output).1

is_least : (m n : ℕ) → nat_le m n ≡ true → m ≤ n
is_least m n e = grind (arith, nat_tests)

pub from-bit : (k : ℕ) (row : VariableRow) → has_bit k row ≡ true → LiesIn row.1 k
from-bit k row has =
    let parts = and_parts (nat_le row.1.bit k) (nat_lt k (row.1.bit + row.1.bits)) has in
    let low = parts.0 in
    let high = parts.1 in
    record { from = is_least row.1.bit k low; below = ltb-true k (row.1.bit + row.1.bits) high }

two_apart : (a b : VariablePlace) (k : ℕ) → LiesIn a k → LiesIn b k → (a.bit + a.bits ≤ b.bit) ⊎ (b.bit + b.bits ≤ a.bit) → ⊥
two_apart a b k in_a in_b (inl less) = let below = in_a.below in let from = in_b.from in omega arith
two_apart a b k in_a in_b (inr less) = let below = in_b.below in let from = in_a.from in omega arith

-- a bit lies in one row of them
same_row : (line : List Member) (task d k : ℕ) (a b : VariableRow) → IsRow line task d a → IsRow line task d b → has_bit k a ≡ true → has_bit k b ≡ true → a ≡ b
same_row line task d k a b is is' has has' =
    by_bool (a.0 == b.0)
    (λ t. let names : a.0 ≡ b.0 = eqb-true a.0 b.0 t in
    let places : a.1 ≡ b.1 = same_Some a.1 b.1 (sym is.there ∙ ap (λ v. variable_place v line) names ∙ is'.there) in
    ap₂ (λ (n : ℕ) (place : VariablePlace). (n, place)) names places)
    (λ t. absurd (two_apart a.1 b.1 k (from-bit k a has) (from-bit k b has')
    (variables-apart line a.0 b.0 a.1 b.1 (eqb-false a.0 b.0 t) is.there is'.there (is.task_is ∙ sym is'.task_is) (datagram-of d a is.output ∙ sym (datagram-of d b is'.output)))))

-- so the row with a bit is the one that is found by it

chosen_row : (line : List Member) (task d k : ℕ) (row : VariableRow) → IsRow line task d row → has_bit k row ≡ true → All (IsRow line task d) (outputs_in line task d)
    → (All (λ (other : VariableRow). has_bit k other ≡ false) (outputs_in line task d) → ⊥) → (found : Option VariableRow) → find (has_bit k) (outputs_in line task d) ≡ found → found ≡ Some row
chosen_row line task d k row is has all none None e = absurd (none (found-none (has_bit k) (outputs_in line task d) e))
chosen_row line task d k row is has all none (Some other) e =
    let holds = find-holds (IsRow line task d) (has_bit k) (outputs_in line task d) other e all in
    ap Some (same_row line task d k other row holds.0 is holds.1 has)

abbrev IsFoundBy : List Member → ℕ → ℕ → VariableRow → Type 0
IsFoundBy line task d row = (k : ℕ) → row.1.task ≡ task → is_output_in d row ≡ true → has_bit k row ≡ true → find (has_bit k) (outputs_in line task d) ≡ Some row

found_own : (line : List Member) (task d : ℕ) → All (IsPlaced line) (task_variables line task) → All (IsFoundBy line task d) (task_variables line task)
found_own line task d placed = λ i e within k same output has.
    let row = get_or (task_variables line task) i e in
    chosen_row line task d k row (record { there = placed i e within; task_is = same; output = output }) has (outputs-are line task d placed)
    (λ none. let lacks : has_bit k row ≡ false = All-from_filter (λ (other : VariableRow). has_bit k other ≡ false) (is_output_in d) (task_variables line task) none i e within output in
    let never : true ≡ false = sym has ∙ lacks in cc)
    (find (has_bit k) (outputs_in line task d)) refl

found_any : (history : History) → lowest_fault (groups_of (state_of history).groups) ≡ None → (task d : ℕ) → All (IsFoundBy (line_of history) task d) (flat_map (task_variables (line_of history)) tasks)
found_any history none task d =
    let line = line_of history in
    All-flat_map (IsFoundBy line task d) (task_variables line) tasks
    (all-tasks (λ t. All (IsFoundBy line task d) (task_variables line t))
    (λ t low i e within k same output has.
    let row = get_or (task_variables line t) i e in
    let own : row.1.task ≡ t = of-task line t i e within in
    subst (λ u. find (has_bit k) (outputs_in line u d) ≡ Some row) (sym own ∙ same)
    (found_own line t d (task-placed history none t low) i e within k own output has)))

-- the bits of sent data

least_is : (bit j : ℕ) → nat_le bit (bit + j) ≡ true
least_is bit j = grind (arith, nat_tests)

below_is : (bit j bits : ℕ) → j < bits → nat_lt (bit + j) (bit + bits) ≡ true
below_is bit j bits low = grind (arith, nat_tests)

to_bit : (place : VariablePlace) (n j : ℕ) → j < place.bits → has_bit (place.bit + j) (n, place) ≡ true
to_bit place n j low = and_from _ _ (least_is place.bit j) (below_is place.bit j place.bits low)

rest_of : (bit j : ℕ) → (bit + j) - bit ≡ j
rest_of bit j = omega arith

out_is : (place : VariablePlace) (n d : ℕ) → place.dir ≡ Out → place.datagram ≡ d → is_output_in d (n, place) ≡ true
out_is place n d dir datagram = and_from _ _ (ap (λ x. same_dir x Out) dir) (eq-eqb place.datagram d datagram)

pub found-variable : (history : History) → lowest_fault (groups_of (state_of history).groups) ≡ None → (task d variable j : ℕ) (place : VariablePlace) → IsOutputOf (line_of history) task d variable place → j < place.bits
    → find (has_bit (place.bit + j)) (outputs_in (line_of history) task d) ≡ Some (variable, place)
found-variable history none task d variable j place is low =
    let rows = flat_map (task_variables (line_of history)) tasks in
    let row = mapped-some (λ (r : VariableRow). r.1) (find (λ r. r.0 == variable) rows) place is.there in
    let holds = find-holds (IsFoundBy (line_of history) task d) (λ r. r.0 == variable) rows row.0 row.1 (found_any history none task d) in
    let same : row.0 ≡ (variable, place) = ap₂ (λ (n : ℕ) (p : VariablePlace). (n, p)) (eqb-true row.0.0 variable holds.1) row.2 in
    let by : IsFoundBy (line_of history) task d (variable, place) = subst (IsFoundBy (line_of history) task d) same holds.0 in
    by (place.bit + j) is.task_is (out_is place variable d is.output is.datagram) (to_bit place variable j low)

variable_bit : (history : History) (outputs : List VariableRow) (variable j : ℕ) (place : VariablePlace) → find (has_bit (place.bit + j)) outputs ≡ Some (variable, place) → sent_bit history outputs (place.bit + j) ≡ value_bit history variable j
variable_bit history outputs variable j place e =
    ap (λ found. option_map_or (λ (pair : VariableRow). value_bit history pair.0 ((place.bit + j) - pair.1.bit)) found 0) e ∙ ap (value_bit history variable) (rest_of place.bit j)

no_variable : (history : History) (task d k : ℕ) → All (IsRow (line_of history) task d) (outputs_in (line_of history) task d)
    → ((variable : ℕ) (place : VariablePlace) → IsOutputOf (line_of history) task d variable place → LiesIn place k → ⊥)
    → (found : Option VariableRow) → find (has_bit k) (outputs_in (line_of history) task d) ≡ found → option_map_or (λ (pair : VariableRow). value_bit history pair.0 (k - pair.1.bit)) found 0 ≡ 0
no_variable history task d k all none None e = refl
no_variable history task d k all none (Some row) e =
    let holds = find-holds (IsRow (line_of history) task d) (has_bit k) (outputs_in (line_of history) task d) row e all in
    let is = holds.0 in
    absurd (none row.0 row.1
    (record { there = is.there; task_is = is.task_is; datagram = datagram-of d row is.output; output = same_dir-same row.1.dir Out (and_parts (same_dir row.1.dir Out) (row.1.datagram == d) is.output).0 })
    (from-bit k row holds.1))

inside : (end size bit bits j : ℕ) → bit + bits ≤ end → end ≡ size → j < bits → bit + j < size
inside end size bit bits j within same low = omega arith

pub sent-values : (history : History) (task d : ℕ) → lowest_fault (groups_of (state_of history).groups) ≡ None → task < TASKS → IsSentData history task d (sent_data history task d)
sent-values history task d none low =
    let has = sent-data history task d in
    record {
      size = has.size;
      values = λ variable k place is few.
          has.bits (place.bit + k)
          (inside (8 * datagram_length (task_places place.task (line_of history)) place.datagram) _ place.bit place.bits k (variables-lie (state_of history) variable place none is.there).within
          (ap₂ (λ t e. 8 * datagram_length (task_places t (line_of history)) e) is.task_is is.datagram) few)
          ∙ variable_bit history (outputs_in (line_of history) task d) variable k place (found-variable history none task d variable k place is few);
      others = λ k below free.
          has.bits k (subst (λ n. k < 8 * n) has.size below)
          ∙ no_variable history task d k (outputs-are (line_of history) task d (task-placed history none task low)) free (find (has_bit k) (outputs_in (line_of history) task d)) refl;
    }
