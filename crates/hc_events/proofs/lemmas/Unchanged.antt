-- The test of a changed task: the tables, the places and the blocks of an unchanged task are the same.
use Rattle.std.proofs.Common.{◌≡◌, ℕ, suc, ◌+◌, ◌<◌, ◌≤◌, ◌==◌, ◌&&◌, ◌||◌, nat_lt, not, ◌∙◌, Bool, true, false, cond, List, [], ◌∷◌, ◌++◌, filter, length, map, refl, sym, ap, ap₂, subst, arith, Option, Some, None}
use Rattle.std.specs.Prelude.{◌/◌, All, find, is_some, option_and_then, option_map, slice_get, slice_index_or}
use Rattle.std.specs.Str.{bytes_eq}
use Rattle.std.specs.Option.{option_map_or}
use Rattle.std.specs.List.{list_any}
use Rattle.std.proofs.lemmas.Bool.{and_from, and_parts, eqb-true, not-false, or_parts, or_right}
use Rattle.std.proofs.lemmas.Bool.Decides.{nat_tests}
use Rattle.std.proofs.lemmas.List.Elements.{All-weaker}
use Rattle.std.proofs.lemmas.List.FromFn.{get_or-map-range_with_len, length-map-range_with_len}
use Rattle.std.proofs.lemmas.Slice.Eq.{bytes_eq-Decides}
use Rattle.hc_records.specs.Image.{VariablePlace, datagram_count, datagram_length, end_of, inside, task_places}
use Rattle.hc_records.specs.Keys.{same_dir}
use Rattle.hc_records.specs.Line.{Member, State, is_at, line}
use Rattle.hc_records.specs.Packing.{Placed}
use Rattle.hc_records.proofs.lemmas.Choices.{by_bool}
use Rattle.hc_records.proofs.lemmas.Greatest.{greatest-all}
use Rattle.hc_records.proofs.lemmas.Lists.{All-append_left, All-append_right, All-from_filter, All-from_none}
use Rattle.hc_records.proofs.lemmas.VariablePlaces.{same_dir-same}
use Rattle.hc_registers.specs.Blocks.{LineBlock, RegisterBlock, line_blocks, same_bytes}
use Rattle.hc_places.specs.declared.table.Datagram.{Datagram}
use Rattle.hc_places.specs.Swap.{changed_variables, numbers_of, same_found, same_place}
use Rattle.hc_places.specs.Table.{Table, TaskTable, VariableRow, datagram_of, place_in, table_of, task_table}
use Rattle.hc_places.proofs.lemmas.Same.{found-same}
use Rattle.hc_events.specs.Ready.{area_index, is_in_task}
use Rattle.hc_events.specs.Steady.{changes_task, lies_in_task, moves_variable, same_datagram, same_line_block, same_lists, same_task, task_blocks}
use Rattle.hc_events.proofs.lemmas.ReadyEdits.{none-passes}

-- lists by a test that says when two elements are the same

lists_same : {X : Type 0} (same : X → X → Bool) → ((x y : X) → same x y ≡ true → x ≡ y) → (xs ys : List X) → same_lists same xs ys ≡ true → xs ≡ ys
lists_same same k [] [] e = refl
lists_same same k [] (y ∷ ys) e = cc
lists_same same k (x ∷ xs) [] e = cc
lists_same same k (x ∷ xs) (y ∷ ys) e =
    let both = and_parts (same x y) (same_lists same xs ys) e in
    ap₂ (λ a b. a ∷ b) (k x y both.0) (lists_same same k xs ys both.1)

pub lists-alike : {X : Type 0} (same : X → X → Bool) → ((x : X) → same x x ≡ true) → (xs : List X) → same_lists same xs xs ≡ true
lists-alike same k [] = refl
lists-alike same k (x ∷ xs) = and_from (same x x) (same_lists same xs xs) (k x) (lists-alike same k xs)

-- datagrams

datagrams_same : (a b : Datagram) → same_datagram a b ≡ true → a ≡ b
datagrams_same a b e =
    let last = and_parts ((a.address == b.address) && (a.length == b.length) && (a.expected == b.expected)) (a.offset == b.offset) e in
    let third = and_parts ((a.address == b.address) && (a.length == b.length)) (a.expected == b.expected) last.0 in
    let both = and_parts (a.address == b.address) (a.length == b.length) third.0 in
    ap (λ (n : ℕ). record { address = n; length = a.length; expected = a.expected; offset = a.offset }) (eqb-true a.address b.address both.0)
    ∙ ap (λ (n : ℕ). record { address = b.address; length = n; expected = a.expected; offset = a.offset }) (eqb-true a.length b.length both.1)
    ∙ ap (λ (n : ℕ). record { address = b.address; length = b.length; expected = n; offset = a.offset }) (eqb-true a.expected b.expected third.1)
    ∙ ap (λ (n : ℕ). record { address = b.address; length = b.length; expected = b.expected; offset = n }) (eqb-true a.offset b.offset last.1)

same_number : (n : ℕ) → (n == n) ≡ true
same_number n = grind (arith, nat_tests)

datagram_alike : (a : Datagram) → same_datagram a a ≡ true
datagram_alike a =
    and_from ((a.address == a.address) && (a.length == a.length) && (a.expected == a.expected)) (a.offset == a.offset)
    (and_from ((a.address == a.address) && (a.length == a.length)) (a.expected == a.expected)
    (and_from (a.address == a.address) (a.length == a.length) (same_number a.address) (same_number a.length)) (same_number a.expected)) (same_number a.offset)

tasks_same : (a b : TaskTable) → same_task a b ≡ true → a ≡ b
tasks_same a b e =
    let last = and_parts (same_lists same_datagram a.datagrams b.datagrams && (a.outputs == b.outputs)) (a.inputs == b.inputs) e in
    let both = and_parts (same_lists same_datagram a.datagrams b.datagrams) (a.outputs == b.outputs) last.0 in
    ap (λ (list : List Datagram). record { datagrams = list; outputs = a.outputs; inputs = a.inputs }) (lists_same same_datagram datagrams_same a.datagrams b.datagrams both.0)
    ∙ ap (λ (n : ℕ). record { datagrams = b.datagrams; outputs = n; inputs = a.inputs }) (eqb-true a.outputs b.outputs both.1)
    ∙ ap (λ (n : ℕ). record { datagrams = b.datagrams; outputs = b.outputs; inputs = n }) (eqb-true a.inputs b.inputs last.1)

pub task-alike : (a : TaskTable) → same_task a a ≡ true
task-alike a =
    and_from (same_lists same_datagram a.datagrams a.datagrams && (a.outputs == a.outputs)) (a.inputs == a.inputs)
    (and_from (same_lists same_datagram a.datagrams a.datagrams) (a.outputs == a.outputs) (lists-alike same_datagram datagram_alike a.datagrams) (same_number a.outputs)) (same_number a.inputs)

-- blocks

blocks_same : (a b : LineBlock) → same_line_block a b ≡ true → a ≡ b
blocks_same a b e =
    let last = and_parts ((a.station == b.station) && (a.number == b.number)) (same_bytes a.block b.block) e in
    let both = and_parts (a.station == b.station) (a.number == b.number) last.0 in
    let own = and_parts (a.block.register == b.block.register) (bytes_eq a.block.bytes b.block.bytes) last.1 in
    let block : a.block ≡ b.block =
    ap (λ (n : ℕ). record { register = n; bytes = a.block.bytes }) (eqb-true a.block.register b.block.register own.0)
    ∙ ap (λ (bytes : List ℕ). record { register = b.block.register; bytes = bytes }) ((bytes_eq-Decides a.block.bytes b.block.bytes).0 own.1) in
    ap (λ (s : ℕ). record { station = s; number = a.number; block = a.block }) (eqb-true a.station b.station both.0)
    ∙ ap (λ (n : ℕ). record { station = b.station; number = n; block = a.block }) (eqb-true a.number b.number both.1)
    ∙ ap (λ (one : RegisterBlock). record { station = b.station; number = b.number; block = one }) block

pub block-alike : (a : LineBlock) → same_line_block a a ≡ true
block-alike a =
    and_from ((a.station == a.station) && (a.number == a.number)) (same_bytes a.block a.block)
    (and_from (a.station == a.station) (a.number == a.number) (same_number a.station) (same_number a.number))
    (and_from (a.block.register == a.block.register) (bytes_eq a.block.bytes a.block.bytes) (same_number a.block.register) ((bytes_eq-Decides a.block.bytes a.block.bytes).1 refl))

-- places

places_same : (a b : VariablePlace) → same_place a b ≡ true → a ≡ b
places_same a b e =
    let last = and_parts ((a.task == b.task) && (a.datagram == b.datagram) && (a.bit == b.bit) && (a.bits == b.bits)) (same_dir a.dir b.dir) e in
    let fourth = and_parts ((a.task == b.task) && (a.datagram == b.datagram) && (a.bit == b.bit)) (a.bits == b.bits) last.0 in
    let third = and_parts ((a.task == b.task) && (a.datagram == b.datagram)) (a.bit == b.bit) fourth.0 in
    let both = and_parts (a.task == b.task) (a.datagram == b.datagram) third.0 in
    ap (λ (n : ℕ). record { task = n; datagram = a.datagram; bit = a.bit; bits = a.bits; dir = a.dir }) (eqb-true a.task b.task both.0)
    ∙ ap (λ (n : ℕ). record { task = b.task; datagram = n; bit = a.bit; bits = a.bits; dir = a.dir }) (eqb-true a.datagram b.datagram both.1)
    ∙ ap (λ (n : ℕ). record { task = b.task; datagram = b.datagram; bit = n; bits = a.bits; dir = a.dir }) (eqb-true a.bit b.bit third.1)
    ∙ ap (λ (n : ℕ). record { task = b.task; datagram = b.datagram; bit = b.bit; bits = n; dir = a.dir }) (eqb-true a.bits b.bits fourth.1)
    ∙ ap (λ (way : _). record { task = b.task; datagram = b.datagram; bit = b.bit; bits = b.bits; dir = way }) (same_dir-same a.dir b.dir last.1)

found_same : (a b : Option VariablePlace) → same_found a b ≡ true → a ≡ b
found_same None None e = refl
found_same None (Some b) e = cc
found_same (Some a) None e = cc
found_same (Some a) (Some b) e = ap (λ (p : VariablePlace). Some p) (places_same a b e)

-- a variable that a table has a place for is one of its numbers

abbrev OneOf : List ℕ → ℕ → Type 0
OneOf numbers variable = list_any (λ (other : ℕ). other == variable) numbers ≡ true

in_rows : (rows : List VariableRow) (variable : ℕ) → is_some (find (λ (row : VariableRow). row.0 == variable) rows) ≡ true → OneOf (map (λ (row : VariableRow). row.0) rows) variable
in_rows [] variable e = cc
in_rows (row ∷ rows) variable e =
    by_bool (row.0 == variable)
    (λ t. ap (λ b. b || list_any (λ (other : ℕ). other == variable) (map (λ (r : VariableRow). r.0) rows)) t)
    (λ t. or_right (row.0 == variable) (list_any (λ (other : ℕ). other == variable) (map (λ (r : VariableRow). r.0) rows))
    (in_rows rows variable (sym (ap (λ b. is_some (cond b (Some row) (find (λ (r : VariableRow). r.0 == variable) rows))) t) ∙ e)))

lies_some : (task : ℕ) (found : Option VariableRow) → lies_in_task task (option_map (λ (row : VariableRow). row.1) found) ≡ true → is_some found ≡ true
lies_some task None e = cc
lies_some task (Some row) e = refl

-- no changed variable is the task's, so a variable of the task has its place

abbrev Test : Table → Table → ℕ → ℕ → Bool
Test old new task variable = lies_in_task task (place_in old variable) || lies_in_task task (place_in new variable)

abbrev Differs : Table → Table → ℕ → Bool
Differs old new variable = not (same_found (place_in old variable) (place_in new variable))

at_number : (numbers : List ℕ) (variable : ℕ) (P : ℕ → Type 0) → All P numbers → OneOf numbers variable → P variable
at_number [] variable P all e = cc
at_number (number ∷ numbers) variable P all e =
    by_bool (number == variable)
    (λ t. subst P (eqb-true number variable t) (all 0 number (omega arith)))
    (λ t. at_number numbers variable P (λ k d low. all (suc k) d (omega arith)) (sym (ap (λ b. b || list_any (λ (other : ℕ). other == variable) numbers) t) ∙ e))

by_test : (old new : Table) (task variable : ℕ) → (Differs old new variable ≡ true → Test old new task variable ≡ false) → Test old new task variable ≡ true → place_in old variable ≡ place_in new variable
by_test old new task variable free own =
    by_bool (same_found (place_in old variable) (place_in new variable))
    (λ t. found_same (place_in old variable) (place_in new variable) t)
    (λ t. let never : true ≡ false = sym own ∙ free (ap not t) in cc)

placed_test : (found : Option VariablePlace) → option_map_or (λ (place : VariablePlace). true) found false ≡ false → (task : ℕ) → lies_in_task task found ≡ false
placed_test None e task = refl
placed_test (Some place) e task = cc

pub place-stays : (old new : Table) (task variable : ℕ) → moves_variable old new task ≡ false → Test old new task variable ≡ true → place_in new variable ≡ place_in old variable
place-stays old new task variable none own =
    let differing = All-from_filter (λ (v : ℕ). Test old new task v ≡ false) (Differs old new) (numbers_of old ++ filter (λ v. not (option_map_or (λ place. true) (place_in old v) false)) (numbers_of new))
    (All-from_none (Test old new task) (changed_variables old new) none) in
    let of_old = All-append_left (λ (v : ℕ). Differs old new v ≡ true → Test old new task v ≡ false) (numbers_of old) (filter (λ v. not (option_map_or (λ place. true) (place_in old v) false)) (numbers_of new)) differing in
    let of_new = All-from_filter (λ (v : ℕ). Differs old new v ≡ true → Test old new task v ≡ false) (λ v. not (option_map_or (λ place. true) (place_in old v) false)) (numbers_of new)
    (All-append_right (λ (v : ℕ). Differs old new v ≡ true → Test old new task v ≡ false) (numbers_of old) (filter (λ v. not (option_map_or (λ place. true) (place_in old v) false)) (numbers_of new)) differing) in
    by_bool (is_some (find (λ (row : VariableRow). row.0 == variable) old.variables))
    (λ t. sym (by_test old new task variable (at_number (numbers_of old) variable (λ (v : ℕ). Differs old new v ≡ true → Test old new task v ≡ false) of_old (in_rows old.variables variable t)) own))
    (λ t. let gone : option_map_or (λ (place : VariablePlace). true) (place_in old variable) false ≡ false = none_placed (find (λ (row : VariableRow). row.0 == variable) old.variables) t in
    let here : lies_in_task task (place_in new variable) ≡ true = sym (ap (λ b. b || lies_in_task task (place_in new variable)) (placed_test (place_in old variable) gone task)) ∙ own in
    let there = lies_some task (find (λ (row : VariableRow). row.0 == variable) new.variables) here in
    sym (by_test old new task variable
    (at_number (numbers_of new) variable (λ (v : ℕ). not (option_map_or (λ (place : VariablePlace). true) (place_in old v) false) ≡ true → Differs old new v ≡ true → Test old new task v ≡ false) of_new (in_rows new.variables variable there) (ap not gone)) own))
  where
    none_placed : (found : Option VariableRow) → is_some found ≡ false → option_map_or (λ (place : VariablePlace). true) (option_map (λ (row : VariableRow). row.1) found) false ≡ false
    none_placed None e = refl
    none_placed (Some row) e = cc

-- an unchanged task

pub record IsUnchanged (old new : State) (task : ℕ) : Type 0 where
  pub table : task_table (line old) task ≡ task_table (line new) task
  pub moves : moves_variable (table_of (line old)) (table_of (line new)) task ≡ false
  pub blocks : task_blocks old task ≡ task_blocks new task

pub unchanged-parts : (old new : State) (task : ℕ) → changes_task old new task ≡ false → IsUnchanged old new task
unchanged-parts old new task none =
    let table = same_task (task_table (line old) task) (task_table (line new) task) in
    let places = moves_variable (table_of (line old)) (table_of (line new)) task in
    let blocks = same_lists same_line_block (task_blocks old task) (task_blocks new task) in
    let last = or_parts (not table || places) (not blocks) none in
    let both = or_parts (not table) places last.0 in
    record {
      table = tasks_same (task_table (line old) task) (task_table (line new) task) (not-false table both.0);
      moves = both.1;
      blocks = lists_same same_line_block blocks_same (task_blocks old task) (task_blocks new task) (not-false blocks last.1);
    }

-- the other way round

none_moves : (table : Table) (task : ℕ) (numbers : List ℕ) → list_any (Test table table task) (filter (Differs table table) numbers) ≡ false
none_moves table task [] = refl
none_moves table task (number ∷ numbers) =
    ap (λ b. list_any (Test table table task) (cond (not b) (number ∷ filter (Differs table table) numbers) (filter (Differs table table) numbers))) (found-same (place_in table number) (place_in table number) refl)
    ∙ none_moves table task numbers

pub same-changes : (old new : State) (task : ℕ) → line new ≡ line old → changes_task old new task ≡ false
same-changes old new task same =
    let table : same_task (task_table (line old) task) (task_table (line new) task) ≡ true = ap (λ members. same_task (task_table (line old) task) (task_table members task)) same ∙ task-alike (task_table (line old) task) in
    let blocks : task_blocks new task ≡ task_blocks old task = ap (λ members. filter (λ (block : LineBlock). option_map_or (is_in_task task) (option_and_then (λ (m : Member). slice_get m.slave.areas (area_index block.number)) (find (is_at block.station) members)) false) (line_blocks members)) same in
    ap (λ b. not b || moves_variable (table_of (line old)) (table_of (line new)) task || not (same_lists same_line_block (task_blocks old task) (task_blocks new task))) table
    ∙ ap (λ members. moves_variable (table_of (line old)) (table_of members) task || not (same_lists same_line_block (task_blocks old task) (task_blocks new task))) same
    ∙ ap (λ b. b || not (same_lists same_line_block (task_blocks old task) (task_blocks new task)))
    (none_moves (table_of (line old)) task (numbers_of (table_of (line old)) ++ filter (λ v. not (option_map_or (λ place. true) (place_in (table_of (line old)) v) false)) (numbers_of (table_of (line old)))))
    ∙ ap (λ (list : List LineBlock). not (same_lists same_line_block (task_blocks old task) list)) blocks
    ∙ ap not (lists-alike same_line_block block-alike (task_blocks old task))

-- the lengths of its datagrams

after_last : (places : List Placed) (d : ℕ) → datagram_count places ≤ d → datagram_length places d ≡ 0
after_last places d high =
    let none : inside d places ≡ [] =
    none-passes (λ (area : Placed). area.datagram == d) places
    (All-weaker (λ (area : Placed). area.datagram + 1 ≤ datagram_count places) (λ (area : Placed). (area.datagram == d) ≡ false) (λ area low. apart area.datagram d (omega arith)) places
    (greatest-all (λ (area : Placed). area.datagram + 1) 0 places)) in
    ap (λ areas. (end_of areas + 7) / 8) none
  where
    apart : (a b : ℕ) → a < b → (a == b) ≡ false
    apart a b less = grind (arith, nat_tests)

blank : Datagram
blank = record { address = 0; length = 0; expected = 0; offset = 0 }

row_length : (line : List Member) (task d : ℕ) → d < datagram_count (task_places task line) → (slice_index_or (task_table line task).datagrams d blank).length ≡ datagram_length (task_places task line) d
row_length line task d low = ap (λ (row : Datagram). row.length) (get_or-map-range_with_len (datagram_of line task) 0 (datagram_count (task_places task line)) d d blank low (omega arith))

pub same-length : (old new : List Member) (task d : ℕ) → task_table old task ≡ task_table new task → datagram_length (task_places task old) d ≡ datagram_length (task_places task new) d
same-length old new task d same =
    let few : length (task_table old task).datagrams ≡ datagram_count (task_places task old) = length-map-range_with_len (datagram_of old task) 0 (datagram_count (task_places task old)) in
    let few' : length (task_table new task).datagrams ≡ datagram_count (task_places task new) = length-map-range_with_len (datagram_of new task) 0 (datagram_count (task_places task new)) in
    let count : datagram_count (task_places task old) ≡ datagram_count (task_places task new) = sym few ∙ ap (λ (table : TaskTable). length table.datagrams) same ∙ few' in
    by_bool (nat_lt d (datagram_count (task_places task old)))
    (λ t. let low = below_true d (datagram_count (task_places task old)) t in
    sym (row_length old task d low) ∙ ap (λ (table : TaskTable). (slice_index_or table.datagrams d blank).length) same ∙ row_length new task d (omega arith))
    (λ t. let high = not_below d (datagram_count (task_places task old)) t in
    after_last (task_places task old) d high ∙ sym (after_last (task_places task new) d (omega arith)))
  where
    below_true : (a b : ℕ) → nat_lt a b ≡ true → a < b
    below_true a b t = grind (arith, nat_tests)

    not_below : (a b : ℕ) → nat_lt a b ≡ false → b ≤ a
    not_below a b t = grind (arith, nat_tests)
