-- A change that says what differs between two tables leads from the one to the other, and says as much as there is to say.
use Rattle.std.proofs.Common.{◌≡◌, ◌∙◌, ap, ℕ, zero, suc, ◌<◌, Bool, true, false, cond, List, [], ◌∷◌, length, refl, sym, subst, arith}
use Rattle.std.specs.Prelude.{Option, Some, None, find, not, option_map, set, slice_get, unwrap_or, ◌==◌, ◌||◌}
use Rattle.std.specs.Option.{option_map_or}
use Rattle.std.proofs.lemmas.Bool.{eqb-true}
use Rattle.std.proofs.lemmas.Bool.Decides.{nat_tests}
use Rattle.std.proofs.lemmas.List.Elements.{All-head, All-tail}
use Rattle.std.proofs.lemmas.List.{length-map}
use Rattle.hc_records.specs.declared.edit.Edit.{Edit}
use Rattle.hc_records.specs.Image.{VariablePlace}
use Rattle.hc_records.proofs.lemmas.Choices.{is_other}
use Rattle.hc_places.specs.Table.{IsTable, Table, TaskTable}
use Rattle.hc_places.specs.Swap.{Change, ChangedRow, ChangedTask, ChangesAscend, IsDifference, LeadsAsSaid, SaysWhatDiffers, changed_variables, merged, tasks_replaced, same_found, swapped, said_of, AreDifferences}
use Rattle.hc_places.proofs.Changed.{different-among, different-once, numbers, numbers-once, place_of}
use Rattle.hc_places.proofs.Members.{among, as-long}
use Rattle.hc_places.proofs.Swapped.{merged-rows-ascend, place-merged, tables-answer_given}
use Rattle.hc_places.proofs.Walked.{AreAbove, ascends-above, ascends-rest}

-- what changed rows say of a variable
abbrev said : List ChangedRow → ℕ → Option (Option VariablePlace)
said rows variable = option_map (λ (changed : ChangedRow). changed.1) (find (λ (changed : ChangedRow). changed.0 == variable) rows)

-- tasks, some of them replaced

unchanged-as-is : {X : Type 0} (found : Option X) → found ≡ option_map (λ x. x) found
unchanged-as-is found = grind arith

next-tests : (i j : ℕ) → (i == j) ≡ (suc i == suc j)
next-tests i j = grind (arith, nat_tests)

get-set-by : {X : Type 0} (here : Bool) (xs : List X) (i j : ℕ) (x : X) → (i == j) ≡ here → slice_get (set xs i x) j ≡ cond here (option_map (λ _. x) (slice_get xs j)) (slice_get xs j)
get-set-by true [] i j x is = refl
get-set-by false [] i j x is = refl
get-set-by true (y ∷ ys) zero zero x is = refl
get-set-by false (y ∷ ys) zero zero x is = cc
get-set-by true (y ∷ ys) zero (suc j) x is = let same = eqb-true 0 (suc j) is in absurd (omega arith)
get-set-by false (y ∷ ys) zero (suc j) x is = refl
get-set-by true (y ∷ ys) (suc i) zero x is = let same = eqb-true (suc i) 0 is in absurd (omega arith)
get-set-by false (y ∷ ys) (suc i) zero x is = refl
get-set-by here (y ∷ ys) (suc i) (suc j) x is = get-set-by here ys i j x (next-tests i j ∙ is)

get-set : {X : Type 0} (xs : List X) (i j : ℕ) (x : X) → slice_get (set xs i x) j ≡ cond (i == j) (option_map (λ _. x) (slice_get xs j)) (slice_get xs j)
get-set xs i j x = get-set-by (i == j) xs i j x refl

none-said : (task : ℕ) (others : List ChangedTask) → AreAbove task others → said_of others task ≡ None
none-said task [] above = refl
none-said task (c ∷ others) above =
    grind (arith, is_other, All-head, All-tail, none-said task others (All-tail (λ (c : ChangedTask). task < c.0) c others above))

-- a task after the first change
said-by : (here : Bool) (c : ChangedTask) (found : Option ChangedTask) (old : Option TaskTable)
    → (here ≡ true → option_map (λ (c : ChangedTask). c.1) found ≡ None)
    → option_map (λ old. unwrap_or (option_map (λ (c : ChangedTask). c.1) found) old) (cond here (option_map (λ _. c.1) old) old)
    ≡ option_map (λ old. unwrap_or (option_map (λ (c : ChangedTask). c.1) (cond here (Some c) found)) old) old
said-by here c found old none = grind arith

pub task-replaced : (changed : List ChangedTask) (tasks : List TaskTable) (task : ℕ) → ChangesAscend changed
    → slice_get (tasks_replaced changed tasks) task ≡ option_map (λ old. unwrap_or (said_of changed task) old) (slice_get tasks task)
task-replaced [] tasks task ascends = unchanged-as-is (slice_get tasks task)
task-replaced (c ∷ others) tasks task ascends =
    task-replaced others (set tasks c.0 c.1) task (ascends-rest c others ascends)
    ∙ ap (option_map (λ old. unwrap_or (said_of others task) old)) (get-set tasks c.0 task c.1)
    ∙ said-by (c.0 == task) c (find (λ (c : ChangedTask). c.0 == task) others) (slice_get tasks task)
    (λ here. none-said task others (rw (← (eqb-true c.0 task here)) (ascends-above c others ascends)))

-- a task's new table is the one that a change says for it, otherwise its old one, if the old line has as many tasks as the new one

as-many : {X : Type 0} (xs ys : List X) (i : ℕ) (y : X) → length xs ≡ length ys → slice_get ys i ≡ Some y → option_map (λ _. y) (slice_get xs i) ≡ Some y
as-many [] [] i y same is = cc
as-many [] (z ∷ zs) i y same is = cc
as-many (x ∷ xs) [] i y same is = cc
as-many (x ∷ xs) (z ∷ zs) zero y same is = refl
as-many (x ∷ xs) (z ∷ zs) (suc i) y same is = as-many xs zs i y (omega arith) is

new-by : (olds updates : List TaskTable) (task : ℕ) (answer_given : Option TaskTable) → length olds ≡ length updates → IsDifference (slice_get olds task) (slice_get updates task) answer_given
    → option_map (λ old. unwrap_or answer_given old) (slice_get olds task) ≡ slice_get updates task
new-by olds updates task None same is = sym (unchanged-as-is (slice_get olds task)) ∙ is
new-by olds updates task (Some table) same is = as-many olds updates task table same is.0 ∙ sym is.0

same-elements : {X : Type 0} (xs ys : List X) → ((i : ℕ) → slice_get xs i ≡ slice_get ys i) → xs ≡ ys
same-elements [] [] same = refl
same-elements [] (y ∷ ys) same = let never = same 0 in cc
same-elements (x ∷ xs) [] same = let never = same 0 in cc
same-elements (x ∷ xs) (y ∷ ys) same =
    let head = same 0 in
    let rest = same-elements xs ys (λ i. same (suc i)) in
    cc

tasks-lead : (old new : Table) (change : Change) → IsTable old → IsTable new → ChangesAscend change.tasks → SaysWhatDiffers old new change → (swapped change old).tasks ≡ new.tasks
tasks-lead old new change before after ascends says =
    same-elements (tasks_replaced change.tasks old.tasks) new.tasks
    (λ task. task-replaced change.tasks old.tasks task ascends ∙ new-by old.tasks new.tasks task (said_of change.tasks task) (before.eight ∙ sym after.eight) (says.tasks task))

-- so is a variable's place

answer_given-by : (same : Bool) (old new : Option VariablePlace) → same_found old new ≡ same → unwrap_or (cond same None (Some new)) old ≡ new
answer_given-by same old new is = grind arith

place-leads : (old new : Table) (change : Change) → IsTable old → SaysWhatDiffers old new change → (variable : ℕ)
    → place_of (merged change.rows old.variables) variable ≡ place_of new.variables variable
place-leads old new change before says variable = grind (arith, place-merged, place_of, answer_given-by)

says-leads : (old new : Table) (change : Change) → IsTable old → IsTable new → ChangesAscend change.tasks → SaysWhatDiffers old new change → swapped change old ≡ new
says-leads old new change before after ascends says =
    grind (arith, tables-answer_given, merged-rows-ascend, tasks-lead, place-leads)

-- something is said of just those variables whose place differs

abbrev is_answered : Option (Option VariablePlace) → Bool
is_answered answer_given = option_map_or (λ _. true) answer_given false

answer_given-or : (here : Bool) (row : ChangedRow) (found : Option ChangedRow)
    → (here || is_answered (option_map (λ (c : ChangedRow). c.1) found)) ≡ is_answered (option_map (λ (c : ChangedRow). c.1) (cond here (Some row) found))
answer_given-or here row found = grind arith

among-said : (rows : List ChangedRow) (variable : ℕ) → among variable (numbers rows) ≡ is_answered (said rows variable)
among-said [] variable = refl
among-said (row ∷ rows) variable =
    ap (λ (rest : Bool). (row.0 == variable) || rest) (among-said rows variable) ∙ answer_given-or (row.0 == variable) row (find (λ (c : ChangedRow). c.0 == variable) rows)

answer_given-differs : (same : Bool) (new : Option VariablePlace) → is_answered (cond same None (Some new)) ≡ not same
answer_given-differs same new = grind arith

says-count : (old new : Table) (change : Change) → IsTable old → IsTable new → ChangesAscend change.rows → SaysWhatDiffers old new change
    → length change.rows ≡ length (changed_variables old new)
says-count old new change before after ascends says =
    sym (length-map change.rows (λ (row : ChangedRow). row.0))
    ∙ as-long (numbers change.rows) (changed_variables old new) (numbers-once change.rows ascends) (different-once old.variables new.variables before.ascends after.ascends)
    (λ variable. among-said change.rows variable
    ∙ ap is_answered (says.places variable)
    ∙ answer_given-differs (same_found (place_of old.variables variable) (place_of new.variables variable)) (place_of new.variables variable)
    ∙ sym (different-among old.variables new.variables variable))

-- what is said of each task and of each variable is what a change says

abbrev pub change_of : List ChangedTask → List ChangedRow → Change
change_of tasks rows = record { tasks = tasks; rows = rows }

abbrev pub SamePlaces : List ChangedRow → List ChangedRow → Type 0
SamePlaces rows given = (variable : ℕ) → find (λ (c : ChangedRow). c.0 == variable) rows ≡ find (λ (c : ChangedRow). c.0 == variable) given

-- a swap leads to the new table if its rows say the same as those that were given
pub leads-said : (edit : Edit) (tasks unchanged : List ChangedTask) (given rows : List ChangedRow) → unchanged ≡ tasks → SamePlaces rows given → ChangesAscend tasks → ChangesAscend rows
    → LeadsAsSaid (change_of tasks given) (record { edit = edit; change = change_of unchanged rows })
leads-said edit tasks unchanged given rows same places first second old new before after says =
    let own : SaysWhatDiffers old new (change_of unchanged rows) = record {
      tasks = subst (AreDifferences old.tasks new.tasks) (sym same) says.tasks;
      places = λ variable. ap (option_map (λ (c : ChangedRow). c.1)) (places variable) ∙ says.places variable;
    } in
    let ascends : ChangesAscend unchanged = subst ChangesAscend (sym same) first in
    record {
      leads = says-leads old new (change_of unchanged rows) before after ascends own;
      says = own;
      count = says-count old new (change_of unchanged rows) before after second own;
    }
