-- The tasks that an edit changes, by what its swap says of the tables and of the variables' places.
use Rattle.std.proofs.Common.{◌≡◌, ℕ, ◌<◌, ◌==◌, ◌||◌, ◌∙◌, Bool, true, false, cond, Contains, List, [], ◌∷◌, refl, sym, ap, ap₂, subst, arith, inl, inr, Option, Some, None}
use Rattle.std.specs.Prelude.{find, if◌then◌else◌, is_some, not, option_map, slice_get}
use Rattle.std.specs.List.{list_any}
use Rattle.std.proofs.lemmas.Bool.{eq-eqb, eqb-true, false_from_ne_true}
use Rattle.std.proofs.lemmas.List.Elements.{All-contains_itself}
use Rattle.std.proofs.lemmas.Option.{same_Some}
use Rattle.hc_records.specs.declared.limits.TheConstants.{TASKS}
use Rattle.hc_records.specs.Image.{VariablePlace}
use Rattle.hc_records.specs.Line.{Member}
use Rattle.hc_places.specs.Swap.{Change, ChangedRow, ChangedTask, ChangesAscend, IsDifference, SaysWhatDiffers, changed_variables, same_found, said_of, variables_of_both}
use Rattle.hc_places.specs.Table.{Table, TaskTable, place_in, table_of, task_table}
use Rattle.hc_places.proofs.lemmas.DatagramUses.{table-at}
use Rattle.hc_places.proofs.lemmas.Found.{find-holds}
use Rattle.hc_places.proofs.lemmas.Same.{found-same}
use Rattle.hc_plan.proofs.lemmas.Elements.{contains-order, contains-unkept, some-passes, which-passes}
use Rattle.hc_events.specs.Steady.{lies_in_task, moves_variable, same_task}
use Rattle.hc_events.proofs.lemmas.Unchanged.{place-stays, task-alike}
use Rattle.hc_owed.proofs.lemmas.SameTask.{tasks-same}
use Rattle.hc_core.specs.Changed.{has_place, has_table, row_lies}

pub both-ways : (a b : Bool) → (a ≡ true → b ≡ true) → (b ≡ true → a ≡ true) → a ≡ b
both-ways true b forth back = sym (forth refl)
both-ways false true forth back = back refl
both-ways false false forth back = refl

-- the tables

any-by : {X : Type 0} (test : X → Bool) (x : X) (xs : List X) (here : Bool) → test x ≡ here → list_any test xs ≡ is_some (find test xs) → (test x || list_any test xs) ≡ is_some (cond (test x) (Some x) (find test xs))
any-by test x xs true e rest = ap (λ b. b || list_any test xs) e ∙ sym (ap (λ b. is_some (cond b (Some x) (find test xs))) e)
any-by test x xs false e rest = ap (λ b. b || list_any test xs) e ∙ rest ∙ sym (ap (λ b. is_some (cond b (Some x) (find test xs))) e)

any-found : {X : Type 0} (test : X → Bool) (xs : List X) → list_any test xs ≡ is_some (find test xs)
any-found test [] = refl
any-found test (x ∷ xs) = any-by test x xs (test x) refl (any-found test xs)

some-mapped : {X Y : Type 0} (f : X → Y) (found : Option X) → is_some (option_map f found) ≡ is_some found
some-mapped f None = refl
some-mapped f (Some x) = refl

new-table : (a b : TaskTable) (said : Option TaskTable) → IsDifference (Some a) (Some b) said → is_some said ≡ not (same_task a b)
new-table a b None same = sym (ap not (ap (same_task a) (sym (same_Some a b same)) ∙ task-alike a))
new-table a b (Some now) is = sym (ap not (false_from_ne_true (same_task a b) (λ same. is.1 (ap (λ (t : TaskTable). Some t) (tasks-same a b same)))))

pub table-differs : (old new : List Member) (change : Change) (task : ℕ) → task < TASKS → SaysWhatDiffers (table_of old) (table_of new) change → has_table change task ≡ not (same_task (task_table old task) (task_table new task))
table-differs old new change task low says =
    any-found (λ (changed : ChangedTask). changed.0 == task) change.tasks
    ∙ sym (some-mapped (λ (found : ChangedTask). found.1) (find (λ (changed : ChangedTask). changed.0 == task) change.tasks))
    ∙ new-table (task_table old task) (task_table new task) (said_of change.tasks task)
    (subst (λ (a : Option TaskTable). IsDifference a (Some (task_table new task)) (said_of change.tasks task)) (table-at old task low)
    (subst (λ (b : Option TaskTable). IsDifference (slice_get (table_of old).tasks task) b (said_of change.tasks task)) (table-at new task low) (says.tasks task)))

-- the places

row-found : (rows : List ChangedRow) (row : ChangedRow) → ChangesAscend rows → Contains rows row → option_map (λ (changed : ChangedRow). changed.1) (find (λ (changed : ChangedRow). changed.0 == row.0) rows) ≡ Some row.1
row-found rows row ascends has = by (find (λ (changed : ChangedRow). changed.0 == row.0) rows) refl
  where
    by : (found : Option ChangedRow) → find (λ (changed : ChangedRow). changed.0 == row.0) rows ≡ found → option_map (λ (changed : ChangedRow). changed.1) (find (λ (changed : ChangedRow). changed.0 == row.0) rows) ≡ Some row.1
    by None is =
        let never : true ≡ false =
        sym (some-passes (λ (changed : ChangedRow). changed.0 == row.0) rows row has (eq-eqb row.0 row.0 refl)) ∙ any-found (λ (changed : ChangedRow). changed.0 == row.0) rows ∙ ap (λ (o : Option ChangedRow). is_some o) is in
        cc
    by (Some other) is =
        let found = find-holds (Contains rows) (λ (changed : ChangedRow). changed.0 == row.0) rows other is (All-contains_itself rows) in
        let same = eqb-true other.0 row.0 found.1 in
        ap (option_map (λ (changed : ChangedRow). changed.1)) is
        ∙ elim (contains-order (λ (a b : ChangedRow). a.0 < b.0) rows other row ascends found.0 has) [
          | inl one ↦ ap (λ (changed : ChangedRow). Some changed.1) one
          | inr (inl less) ↦ absurd (omega (arith, less, same))
          | inr (inr less) ↦ absurd (omega (arith, less, same))
        ]

differs-said : (a b : Option VariablePlace) (now : Option VariablePlace) → (if same_found a b then None else Some b) ≡ Some now → (same_found a b ≡ false) × (b ≡ now)
differs-said a b now = by (same_found a b)
  where
    by : (same : Bool) → cond same None (Some b) ≡ Some now → (same ≡ false) × (b ≡ now)
    by true is = cc
    by false is = (refl, same_Some b now is)

-- a changed row's variable lies in a task before or after, if the row says so
row-test : (old new : Table) (change : Change) (task : ℕ) (row : ChangedRow) → place_in new row.0 ≡ row.1 → row_lies old task row ≡ (lies_in_task task (place_in old row.0) || lies_in_task task (place_in new row.0))
row-test old new change task row is = ap (λ (place : Option VariablePlace). lies_in_task task (place_in old row.0) || lies_in_task task place) (sym is)

pub place-differs : (old new : Table) (change : Change) (task : ℕ) → ChangesAscend change.rows → SaysWhatDiffers old new change → has_place old change task ≡ moves_variable old new task
place-differs old new change task ascends says = both-ways (has_place old change task) (moves_variable old new task) forth back
  where
    forth : has_place old change task ≡ true → moves_variable old new task ≡ true
    forth has = by (moves_variable old new task) refl
      where
        row : (r : ChangedRow) × Contains change.rows r × (row_lies old task r ≡ true)
        row = which-passes (row_lies old task) change.rows has

        by : (moves : Bool) → moves_variable old new task ≡ moves → moves_variable old new task ≡ true
        by true e = e
        by false e =
            let one = differs-said (place_in old row.0.0) (place_in new row.0.0) row.0.1 (sym (says.places row.0.0) ∙ row-found change.rows row.0 ascends row.1) in
            let same = place-stays old new task row.0.0 e (sym (row-test old new change task row.0 one.1) ∙ row.2) in
            let never : true ≡ false = sym (found-same (place_in old row.0.0) (place_in new row.0.0) (sym same)) ∙ one.0 in
            cc

    back : moves_variable old new task ≡ true → has_place old change task ≡ true
    back moves =
        let which = which-passes (λ variable. lies_in_task task (place_in old variable) || lies_in_task task (place_in new variable)) (changed_variables old new) moves in
        let variable = which.0 in
        let own = contains-unkept (λ v. not (same_found (place_in old v) (place_in new v))) (variables_of_both old new) variable which.1 in
        let differ : same_found (place_in old variable) (place_in new variable) ≡ false = not-true' (same_found (place_in old variable) (place_in new variable)) own.1 in
        let said : said_of change.rows variable ≡ Some (place_in new variable) = says.places variable ∙ ap (λ b. cond b None (Some (place_in new variable))) differ in
        found variable which.2 (find (λ (changed : ChangedRow). changed.0 == variable) change.rows) refl said
      where
        not-true' : (b : Bool) → not b ≡ true → b ≡ false
        not-true' true e = cc
        not-true' false e = refl

        found : (variable : ℕ) → (lies_in_task task (place_in old variable) || lies_in_task task (place_in new variable)) ≡ true → (one : Option ChangedRow) → find (λ (changed : ChangedRow). changed.0 == variable) change.rows ≡ one
            → said_of change.rows variable ≡ Some (place_in new variable) → has_place old change task ≡ true
        found variable lies None is said = let never : None ≡ Some (place_in new variable) = sym (ap (option_map (λ (changed : ChangedRow). changed.1)) is) ∙ said in cc
        found variable lies (Some row) is said =
            let has = find-holds (Contains change.rows) (λ (changed : ChangedRow). changed.0 == variable) change.rows row is (All-contains_itself change.rows) in
            let number : row.0 ≡ variable = eqb-true row.0 variable has.1 in
            let place : row.1 ≡ place_in new variable = same_Some row.1 (place_in new variable) (sym (ap (option_map (λ (changed : ChangedRow). changed.1)) is) ∙ said) in
            some-passes (row_lies old task) change.rows row has.0
            (ap₂ (λ (v : ℕ) (p : Option VariablePlace). lies_in_task task (place_in old v) || lies_in_task task p) number place ∙ lies)
