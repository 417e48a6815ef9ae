-- An edit that doesn't change a task leaves it undisturbed.
use Rattle.std.proofs.Common.{◌≡◌, ℕ, ◌+◌, ◌-◌, ◌<◌, ◌≤◌, ◌==◌, ◌∙◌, inl, inr, ⊎_elim, true, false, cond, List, ◌∷◌, refl, sym, ap, arith, Option, Some, None}
use Rattle.std.specs.Prelude.{◌⊎◌, find, is_some, option_map}
use Rattle.std.specs.Option.{option_map_or}
use Rattle.std.specs.List.{flat_map}
use Rattle.std.proofs.lemmas.Bool.{and_parts, eq-eqb, or_left, or_right}
use Rattle.hc_records.specs.declared.edit.Edit.{Edit}
use Rattle.hc_records.specs.declared.limits.TheConstants.{TASKS}
use Rattle.hc_records.specs.declared.records.Dir.TheVariants.{Out}
use Rattle.hc_records.specs.Edits.{edit_faults, over_limit_task}
use Rattle.hc_records.specs.Image.{VariablePlace, datagram_length, task_places, task_variables, tasks, variable_place}
use Rattle.hc_records.specs.Keys.{same_dir}
use Rattle.hc_records.specs.Line.{Member, groups_of, line}
use Rattle.hc_records.specs.Lists.{lowest}
use Rattle.hc_records.specs.Project.{lowest_fault}
use Rattle.hc_records.proofs.lemmas.VariablePlaces.{same_dir-same}
use Rattle.hc_places.specs.Table.{VariableRow, place_in, table_of}
use Rattle.hc_places.proofs.lemmas.Found.{find-holds}
use Rattle.hc_places.proofs.lemmas.Sorted.{find-by_number}
use Rattle.hc_events.specs.Accepted.{AreAccepted}
use Rattle.hc_events.specs.DataLaws.{IsOutputOf, LiesIn}
use Rattle.hc_events.specs.Entries.{History, Edited}
use Rattle.hc_events.specs.Outputs.{bytes_of_bits, has_bit, outputs_in, sent_bit, sent_data, value_bit}
use Rattle.hc_events.specs.Points.{line_of, state_of}
use Rattle.hc_events.specs.Steady.{edit_changes, lies_in_task}
use Rattle.hc_events.specs.SteadyLaws.{IsUndisturbed}
use Rattle.hc_events.proofs.lemmas.ReadyEdits.{ready-waits, untouched-ready}
use Rattle.hc_events.proofs.lemmas.SameAfter.{bytes-alike}
use Rattle.hc_events.proofs.lemmas.SentValues.{IsRow, datagram-of, found-variable, from-bit, outputs-are, task-placed}
use Rattle.hc_events.proofs.lemmas.Steady.{edit-moves}
use Rattle.hc_events.proofs.lemmas.SteadyPosts.{posts-stay}
use Rattle.hc_events.proofs.lemmas.Unchanged.{IsUnchanged, place-stays, same-length, unchanged-parts}

-- a table has a variable's place of the line
has_place : (line : List Member) (variable : ℕ) → place_in (table_of line) variable ≡ variable_place variable line
has_place line variable = ap (option_map (λ (row : VariableRow). row.1)) (find-by_number variable (flat_map (task_variables line) tasks))

-- a project before an edit and after it, and a task that the edit doesn't change

pub record LeavesTask (history : History) (edit : Edit) (task : ℕ) : Type 0 where
  pub all : AreAccepted history
  pub low : task < TASKS
  pub project : lowest_fault (groups_of (state_of history).groups) ≡ None
  pub uncrowded : over_limit_task (line_of history) ≡ None
  pub after : lowest_fault (groups_of (state_of (Edited edit ∷ history)).groups) ≡ None
  pub accepted : lowest (edit_faults (state_of history) edit) ≡ None
  pub none : edit_changes history edit task ≡ false

parts : (history : History) (edit : Edit) (task : ℕ) → LeavesTask history edit task → IsUnchanged (state_of history) (state_of (Edited edit ∷ history)) task
parts history edit task leaves = unchanged-parts (state_of history) (state_of (Edited edit ∷ history)) task leaves.none

stays_placed : (history : History) (edit : Edit) (task variable : ℕ) → LeavesTask history edit task
    → (lies_in_task task (place_in (table_of (line_of history)) variable) ≡ true) ⊎ (lies_in_task task (place_in (table_of (line_of (Edited edit ∷ history))) variable) ≡ true)
    → place_in (table_of (line_of (Edited edit ∷ history))) variable ≡ place_in (table_of (line_of history)) variable
stays_placed history edit task variable leaves own =
    let old = table_of (line_of history) in
    let new = table_of (line_of (Edited edit ∷ history)) in
    place-stays old new task variable (parts history edit task leaves).moves
    (⊎_elim (λ here. or_left (lies_in_task task (place_in old variable)) (lies_in_task task (place_in new variable)) here)
    (λ here. or_right (lies_in_task task (place_in old variable)) (lies_in_task task (place_in new variable)) here) own)

lies_at : (place : VariablePlace) (task : ℕ) (found : Option VariablePlace) → found ≡ Some place → place.task ≡ task → lies_in_task task found ≡ true
lies_at place task found is same = ap (lies_in_task task) is ∙ eq-eqb place.task task same

-- so an output of the task has its place in the line before the edit and in the line after it

abbrev HasPlaces : History → History → ℕ → Type 0
HasPlaces a b task = (variable : ℕ) (place : VariablePlace) → place.task ≡ task → variable_place variable (line_of a) ≡ Some place → variable_place variable (line_of b) ≡ Some place

places_forth : (history : History) (edit : Edit) (task : ℕ) → LeavesTask history edit task → HasPlaces history (Edited edit ∷ history) task
places_forth history edit task leaves = λ variable place same is.
    sym (has_place (line_of (Edited edit ∷ history)) variable)
    ∙ stays_placed history edit task variable leaves (inl (lies_at place task (place_in (table_of (line_of history)) variable) (has_place (line_of history) variable ∙ is) same))
    ∙ has_place (line_of history) variable ∙ is

places_back : (history : History) (edit : Edit) (task : ℕ) → LeavesTask history edit task → HasPlaces (Edited edit ∷ history) history task
places_back history edit task leaves = λ variable place same is.
    sym (has_place (line_of history) variable)
    ∙ sym (stays_placed history edit task variable leaves
    (inr (lies_at place task (place_in (table_of (line_of (Edited edit ∷ history))) variable) (has_place (line_of (Edited edit ∷ history)) variable ∙ is) same)))
    ∙ has_place (line_of (Edited edit ∷ history)) variable ∙ is

-- the row of a bit

row_of : (a : History) (task d k : ℕ) (row : VariableRow) → lowest_fault (groups_of (state_of a).groups) ≡ None → task < TASKS → find (has_bit k) (outputs_in (line_of a) task d) ≡ Some row → IsRow (line_of a) task d row × LiesIn row.1 k
row_of a task d k row project low is =
    let holds = find-holds (IsRow (line_of a) task d) (has_bit k) (outputs_in (line_of a) task d) row is (outputs-are (line_of a) task d (task-placed a project task low)) in
    (holds.0, from-bit k row holds.1)

row_in : (a b : History) (task d k : ℕ) (row : VariableRow) → lowest_fault (groups_of (state_of a).groups) ≡ None → lowest_fault (groups_of (state_of b).groups) ≡ None → task < TASKS → HasPlaces a b task
    → find (has_bit k) (outputs_in (line_of a) task d) ≡ Some row → find (has_bit k) (outputs_in (line_of b) task d) ≡ Some row
row_in a b task d k row project project' low places is =
    let of = row_of a task d k row project low is in
    let from : row.1.bit ≤ k = of.1.from in
    let below : k < row.1.bit + row.1.bits = of.1.below in
    let j : ℕ = k - row.1.bit in
    let few : k - row.1.bit < row.1.bits = omega arith in
    let whole : row.1.bit + (k - row.1.bit) ≡ k = omega arith in
    let out : IsOutputOf (line_of b) task d row.0 row.1 = record {
      there = places row.0 row.1 of.0.task_is of.0.there;
      task_is = of.0.task_is;
      datagram = datagram-of d row of.0.output;
      output = same_dir-same row.1.dir Out (and_parts (same_dir row.1.dir Out) (row.1.datagram == d) of.0.output).0;
    } in
    sym (ap (λ n. find (has_bit n) (outputs_in (line_of b) task d)) whole) ∙ found-variable b project' task d row.0 (k - row.1.bit) row.1 out few

one_row : (a b : History) (task d k : ℕ) (found other : Option VariableRow) → find (has_bit k) (outputs_in (line_of a) task d) ≡ found → find (has_bit k) (outputs_in (line_of b) task d) ≡ other
    → ((row : VariableRow) → find (has_bit k) (outputs_in (line_of a) task d) ≡ Some row → find (has_bit k) (outputs_in (line_of b) task d) ≡ Some row)
    → ((row : VariableRow) → find (has_bit k) (outputs_in (line_of b) task d) ≡ Some row → find (has_bit k) (outputs_in (line_of a) task d) ≡ Some row) → other ≡ found
one_row a b task d k (Some row) other is is' forth back = sym is' ∙ forth row is
one_row a b task d k None None is is' forth back = refl
one_row a b task d k None (Some row) is is' forth back = let never : None ≡ Some row = sym is ∙ back row is' in cc

same_rows : (history : History) (edit : Edit) (task d k : ℕ) → LeavesTask history edit task → find (has_bit k) (outputs_in (line_of (Edited edit ∷ history)) task d) ≡ find (has_bit k) (outputs_in (line_of history) task d)
same_rows history edit task d k leaves =
    let next = Edited edit ∷ history in
    one_row history next task d k (find (has_bit k) (outputs_in (line_of history) task d)) (find (has_bit k) (outputs_in (line_of next) task d)) refl refl
    (λ row is. row_in history next task d k row leaves.project leaves.after leaves.low (places_forth history edit task leaves) is)
    (λ row is. row_in next history task d k row leaves.after leaves.project leaves.low (places_back history edit task leaves) is)

-- so each bit is sent as before

same_value : (history : History) (edit : Edit) (task d k : ℕ) → LeavesTask history edit task → (found : Option VariableRow) → find (has_bit k) (outputs_in (line_of history) task d) ≡ found
    → option_map_or (λ (row : VariableRow). value_bit (Edited edit ∷ history) row.0 (k - row.1.bit)) found 0 ≡ option_map_or (λ (row : VariableRow). value_bit history row.0 (k - row.1.bit)) found 0
same_value history edit task d k leaves None is = refl
same_value history edit task d k leaves (Some row) is =
    let of = row_of history task d k row leaves.project leaves.low is in
    ap (λ found. cond (is_some found) (value_bit history row.0 (k - row.1.bit)) 0) of.0.there

same_bit : (history : History) (edit : Edit) (task d k : ℕ) → LeavesTask history edit task
    → sent_bit (Edited edit ∷ history) (outputs_in (line_of (Edited edit ∷ history)) task d) k ≡ sent_bit history (outputs_in (line_of history) task d) k
same_bit history edit task d k leaves =
    ap (λ found. option_map_or (λ (row : VariableRow). value_bit (Edited edit ∷ history) row.0 (k - row.1.bit)) found 0) (same_rows history edit task d k leaves)
    ∙ same_value history edit task d k leaves (find (has_bit k) (outputs_in (line_of history) task d)) refl

pub data-stays : (history : History) (edit : Edit) (task d : ℕ) → LeavesTask history edit task → sent_data (Edited edit ∷ history) task d ≡ sent_data history task d
data-stays history edit task d leaves =
    let next = Edited edit ∷ history in
    bytes-alike (sent_bit next (outputs_in (line_of next) task d)) (sent_bit history (outputs_in (line_of history) task d)) (λ k. same_bit history edit task d k leaves) (datagram_length (task_places task (line_of next)) d)
    ∙ ap (bytes_of_bits (sent_bit history (outputs_in (line_of history) task d))) (sym (same-length (line_of history) (line_of next) task d (parts history edit task leaves).table))

-- all of it

pub is-undisturbed : (history : History) (edit : Edit) (task : ℕ) → LeavesTask history edit task → IsUndisturbed history edit task
is-undisturbed history edit task leaves =
    let unchanged = parts history edit task leaves in
    let moves = edit-moves history edit task in
    record {
      table = sym unchanged.table;
      places = λ variable own. stays_placed history edit task variable leaves own;
      blocks = sym unchanged.blocks;
      epoch = moves.left leaves.none;
      data_sent = λ d. data-stays history edit task d leaves;
      steady = λ d. moves.same_data d leaves.none;
      posts = λ epoch bytes accepted. posts-stay history edit task epoch bytes (moves.left leaves.none) (sym unchanged.table) accepted;
      ready = λ ready.
          untouched-ready history edit task (record {
            at = record { all = leaves.all; project = leaves.project; uncrowded = leaves.uncrowded };
            accepted = leaves.accepted;
            after = leaves.after;
            blocks = sym unchanged.blocks;
            none = ready-waits history task ready;
          });
    }
