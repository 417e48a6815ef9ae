-- In the line of a project's groups each variable has one row at most.
use Rattle.std.proofs.Common.{◌≡◌, ◌∙◌, ap, ℕ, ◌+◌, ◌≤◌, Bool, true, false, cond, List, [], ◌∷◌, ◌++◌, length, refl, arith, if◌then◌else◌}
use Rattle.std.specs.Prelude.{All, Option, Some, None, find, map, nat_lt, slice_index_or, ◌==◌, ◌&&◌}
use Rattle.std.specs.Option.{option_map_or}
use Rattle.std.specs.List.{cons_option, enumerate_from, flat_map, list_any, zip}
use Rattle.std.proofs.lemmas.Bool.{cond-false, eqb-true, or_parts}
use Rattle.std.proofs.lemmas.Bool.Decides.{nat_tests}
use Rattle.hc_records.specs.declared.records.Area.{Area}
use Rattle.hc_records.specs.declared.records.Dir.{Dir}
use Rattle.hc_records.specs.declared.records.Dir.TheVariants.{Out, In}
use Rattle.hc_records.specs.declared.records.Pdo.{Pdo}
use Rattle.hc_records.specs.declared.records.Slave.{Slave}
use Rattle.hc_records.specs.declared.records.Group.{Group}
use Rattle.hc_records.specs.declared.records.Declared.{Declared}
use Rattle.hc_records.specs.Lists.{has_repeat}
use Rattle.hc_records.specs.Keys.{same_dir}
use Rattle.hc_records.specs.Area.{Entry, assigned_entries, entries_at, width}
use Rattle.hc_records.specs.Line.{Member, line_from, members_from, present_slaves}
use Rattle.hc_records.specs.TaskList.{Listed, belongs, slave_areas, task_areas}
use Rattle.hc_records.specs.Packing.{Placed}
use Rattle.hc_records.specs.Image.{area_variables, task_places, task_variables, tasks, variables_from}
use Rattle.hc_records.specs.Project.{area_names, entry_names, has_unknown_pdo, lowest_fault, pdo_names, slave_names, slaves_of, some_area}
use Rattle.hc_records.proofs.lemmas.Lines.{declared_slaves, ranked}
use Rattle.hc_records.proofs.lemmas.Lists.{All-flat_map, All-from_none}
use Rattle.hc_records.proofs.lemmas.Projects.{project-assigned, project-names}
use Rattle.hc_records.proofs.lemmas.Tasks.{listed}
use Rattle.hc_places.specs.Table.{VariableRow}
use Rattle.hc_places.proofs.lemmas.Totals.{total, total-append, total-enumerate, total-filter, total-flat_map, total-less, total-map, total-plus, total-same, total-swap, total-within, total-zero, total-zip}

-- how often a variable is at a number, in an entry, in an area's assigned entries, in a row, in an area's offered entries

abbrev pub own : ℕ → ℕ → ℕ
own variable number = cond (variable == number) 1 0

abbrev pub held : ℕ → Entry → ℕ
held variable entry = option_map_or (own variable) entry.0 0

abbrev pub weight : ℕ → Area → ℕ
weight variable area = total (held variable) (assigned_entries area)

abbrev pub of_row : ℕ → VariableRow → ℕ
of_row variable row = own variable row.0

abbrev of_pdo : ℕ → Pdo → ℕ
of_pdo variable pdo = total (held variable) pdo.entries

abbrev offers : ℕ → Area → ℕ
offers variable area = total (of_pdo variable) area.offered

-- what is once in a list counts once

apart : (k x y : ℕ) → (y == x) ≡ false → k ≡ x → (k == y) ≡ false
apart k x y other same = grind (arith, nat_tests)

none-equal : (k value x : ℕ) (xs : List ℕ) → list_any (λ y. y == x) xs ≡ false → k ≡ x → total (λ i. cond (k == i) value 0) xs ≡ 0
none-equal k value x [] none same = refl
none-equal k value x (y ∷ ys) none same =
    let parts = or_parts (y == x) (list_any (λ y. y == x) ys) none in
    let rest = none-equal k value x ys parts.1 same in
    let here = cond-false (k == y) value 0 (apart k x y parts.0 same) in
    omega arith

once-by : (same : Bool) (k value x : ℕ) (xs : List ℕ) → (k == x) ≡ same → list_any (λ y. y == x) xs ≡ false → total (λ i. cond (k == i) value 0) xs ≤ value
    → cond same value 0 + total (λ i. cond (k == i) value 0) xs ≤ value
once-by true k value x xs test none rest = let zero = none-equal k value x xs none (eqb-true k x test) in omega arith
once-by false k value x xs test none rest = omega arith

pub once : (k value : ℕ) (xs : List ℕ) → has_repeat xs ≡ false → total (λ i. cond (k == i) value 0) xs ≤ value
once k value [] none = omega arith
once k value (x ∷ xs) none =
    let parts = or_parts (list_any (λ y. y == x) xs) (has_repeat xs) none in
    once-by (k == x) k value x xs refl parts.0 (once k value xs parts.1)

-- an area assigns no more than it offers

offered-first : (same : Bool) (pdo : Pdo) (found : Option Pdo) (variable : ℕ)
    → total (held variable) (option_map_or (λ (p : Pdo). p.entries) (cond same (Some pdo) found) []) ≤ cond same (of_pdo variable pdo) 0 + total (held variable) (option_map_or (λ (p : Pdo). p.entries) found [])
offered-first same pdo found variable = grind arith

offered-once : (variable : ℕ) (offered : List Pdo) (assigned : List ℕ) → has_repeat assigned ≡ false
    → total (λ i. total (held variable) (entries_at offered i)) assigned ≤ total (of_pdo variable) offered
offered-once variable [] assigned none = let zero = total-zero assigned in omega arith
offered-once variable (pdo ∷ offered) assigned none =
    let own_entries : ℕ → ℕ = λ i. cond (pdo.index == i) (of_pdo variable pdo) 0 in
    let others : ℕ → ℕ = λ i. total (held variable) (entries_at offered i) in
    let split = total-less (λ i. total (held variable) (entries_at (pdo ∷ offered) i)) (λ i. own_entries i + others i)
    (λ i. offered-first (pdo.index == i) pdo (find (λ (p : Pdo). p.index == i) offered) variable) assigned in
    let sum = total-plus own_entries others assigned in
    let first = once pdo.index (of_pdo variable pdo) assigned none in
    let rest = offered-once variable offered assigned none in
    omega arith

area-once : (variable : ℕ) (area : Area) → has_repeat area.assigned ≡ false → weight variable area ≤ offers variable area
area-once variable area none =
    let flat = total-flat_map (held variable) (entries_at area.offered) area.assigned in
    let all = offered-once variable area.offered area.assigned none in
    omega arith

-- the rows of an area are its assigned entries

entry-total : (variable bit bits : ℕ) (name : Option ℕ) (rest : List (ℕ × (ℕ × ℕ)))
    → total (λ (found : ℕ × (ℕ × ℕ)). own variable found.0) (option_map_or (λ v. (v, (bit, bits)) ∷ []) name [] ++ rest)
    ≡ option_map_or (own variable) name 0 + total (λ (found : ℕ × (ℕ × ℕ)). own variable found.0) rest
entry-total variable bit bits name rest = grind arith

entries-total : (variable bit : ℕ) (entries : List Entry) → total (λ (found : ℕ × (ℕ × ℕ)). own variable found.0) (variables_from bit entries) ≡ total (held variable) entries
entries-total variable bit [] = refl
entries-total variable bit (entry ∷ entries) =
    grind (arith, entry-total, entries-total variable (bit + entry.1) entries)

pub rows-total : (variable task : ℕ) (pair : Listed × Placed) → total (of_row variable) (area_variables task pair) ≡ weight variable pair.0.area
rows-total variable task pair = grind (arith, total-map, entries-total)

abbrev of_listed : ℕ → Listed → ℕ
of_listed variable l = weight variable l.area

task-total : (variable task : ℕ) (line : List Member) → total (of_row variable) (task_variables line task) ≤ total (of_listed variable) (task_areas task line)
task-total variable task line =
    let pairs = zip (task_areas task line) (task_places task line) in
    let flat = total-flat_map (of_row variable) (area_variables task) pairs in
    let same = total-same (λ (pair : Listed × Placed). total (of_row variable) (area_variables task pair)) (λ (pair : Listed × Placed). of_listed variable pair.0) (rows-total variable task) pairs in
    let first = total-zip (of_listed variable) (task_areas task line) (task_places task line) in
    omega arith

-- the areas of a task are those of the slaves that belong there

abbrev share : ℕ → ℕ → Dir → Area → ℕ
share variable task dir area = cond (belongs task dir area) (weight variable area) 0

abbrev shares : ℕ → ℕ → Area → ℕ
shares variable task area = share variable task Out area + share variable task In area

slave-total : (variable task : ℕ) (dir : Dir) (member : Member) → total (of_listed variable) (slave_areas task dir member) ≡ total (share variable task dir) member.slave.areas
slave-total variable task dir member =
    grind (arith, total-map, listed, total-filter, total-enumerate)

line-total : (variable task : ℕ) (line : List Member) → total (of_listed variable) (task_areas task line) ≡ total (λ (m : Member). total (shares variable task) m.slave.areas) line
line-total variable task line =
    let of_dir : Dir → Member → ℕ = λ dir m. total (share variable task dir) m.slave.areas in
    let joined = total-append (of_listed variable) (flat_map (slave_areas task Out) line) (flat_map (slave_areas task In) line) in
    let out = total-flat_map (of_listed variable) (slave_areas task Out) line ∙ total-same (λ m. total (of_listed variable) (slave_areas task Out m)) (of_dir Out) (slave-total variable task Out) line in
    let in_ = total-flat_map (of_listed variable) (slave_areas task In) line ∙ total-same (λ m. total (of_listed variable) (slave_areas task In m)) (of_dir In) (slave-total variable task In) line in
    let both =
    total-same (λ (m : Member). total (shares variable task) m.slave.areas) (λ m. of_dir Out m + of_dir In m) (λ m. total-plus (share variable task Out) (share variable task In) m.slave.areas) line
    ∙ total-plus (of_dir Out) (of_dir In) line in
    omega arith

-- an area belongs to one task, in one direction

share-two : (dir : Dir) (own_task some : Bool) (value : ℕ) → cond (own_task && same_dir dir Out && some) value 0 + cond (own_task && same_dir dir In && some) value 0 ≤ cond own_task value 0
share-two dir own_task some value = grind arith

tasks-area : (variable : ℕ) (area : Area) → total (λ task. shares variable task area) tasks ≤ weight variable area
tasks-area variable area =
    let less = total-less (λ task. shares variable task area) (λ task. cond (area.task == task) (weight variable area) 0)
    (λ task. share-two area.dir (area.task == task) (nat_lt 0 (width area)) (weight variable area)) tasks in
    let all = once area.task (weight variable area) tasks refl in
    omega arith

abbrev pub of_areas : ℕ → Slave → ℕ
of_areas variable slave = total (weight variable) slave.areas

tasks-slave : (variable : ℕ) (slave : Slave) → total (λ task. total (shares variable task) slave.areas) tasks ≤ of_areas variable slave
tasks-slave variable slave =
    let turned = total-swap (shares variable) tasks slave.areas in
    let less = total-less (λ area. total (λ task. shares variable task area) tasks) (weight variable) (tasks-area variable) slave.areas in
    omega arith

tasks-line : (variable : ℕ) (line : List Member) → total (of_row variable) (flat_map (task_variables line) tasks) ≤ total (λ (m : Member). of_areas variable m.slave) line
tasks-line variable line =
    let of_task : ℕ → Member → ℕ = λ task m. total (shares variable task) m.slave.areas in
    let flat = total-flat_map (of_row variable) (task_variables line) tasks in
    let each = total-less (λ task. total (of_row variable) (task_variables line task)) (λ task. total (of_task task) line)
    (λ task. let less = task-total variable task line in let same = line-total variable task line in omega arith) tasks in
    let turned = total-swap of_task tasks line in
    let less = total-less (λ (m : Member). total (λ task. of_task task m) tasks) (λ (m : Member). of_areas variable m.slave) (λ m. tasks-slave variable m.slave) line in
    omega arith

-- the slaves of the line are declared

members-total : (f : Slave → ℕ) (rank : ℕ) (slaves : List Slave) → total (λ (m : Member). f m.slave) (members_from rank slaves) ≡ total f slaves
members-total f rank slaves = total-map (λ (m : Member). f m.slave) ranked (enumerate_from rank slaves) ∙ total-enumerate f rank slaves

present-total : (f : Slave → ℕ) (present : Bool) (rank : ℕ) (slaves : List Slave) → total (λ (m : Member). f m.slave) (members_from rank (if present then slaves else [])) ≤ total f slaves
present-total f true rank slaves = let all = members-total f rank slaves in omega arith
present-total f false rank slaves = omega arith

pub line-declared : (f : Slave → ℕ) (rank : ℕ) (groups : List Declared) → total (λ (m : Member). f m.slave) (line_from rank groups) ≤ total f (declared_slaves groups)
line-declared f rank [] = omega arith
line-declared f rank (declared ∷ groups) =
    let slaves = declared.group.slaves in
    let next = rank + length slaves in
    let joined = total-append (λ (m : Member). f m.slave) (members_from rank (present_slaves declared)) (line_from next groups) in
    let all = total-append f slaves (declared_slaves groups) in
    let here = present-total f declared.present rank slaves in
    let rest = line-declared f next groups in
    omega arith

-- the names of a project

name-total : (variable : ℕ) (name : Option ℕ) (rest : List ℕ) → total (own variable) (cons_option name rest) ≡ option_map_or (own variable) name 0 + total (own variable) rest
name-total variable name rest = grind arith

pub entry-names : (variable : ℕ) (entries : List Entry) → total (own variable) (entry_names entries) ≡ total (held variable) entries
entry-names variable [] = refl
entry-names variable (entry ∷ entries) = name-total variable entry.0 (entry_names entries) ∙ ap (λ (n : ℕ). held variable entry + n) (entry-names variable entries)

pdo-names : (variable : ℕ) (pdos : List Pdo) → total (own variable) (pdo_names pdos) ≡ total (of_pdo variable) pdos
pdo-names variable pdos = grind (arith, total-flat_map, total-same, total, entry-names)

area-names : (variable : ℕ) (areas : List Area) → total (own variable) (area_names areas) ≡ total (offers variable) areas
area-names variable areas = grind (arith, total-flat_map, total-same, total, pdo-names)

slave-names : (variable : ℕ) (slaves : List Slave) → total (own variable) (slave_names slaves) ≡ total (λ (slave : Slave). total (offers variable) slave.areas) slaves
slave-names variable slaves = grind (arith, total-flat_map, total-same, total, area-names)

-- each area assigns a PDO once

abbrev AssignsOnce : Area → Type 0
AssignsOnce area = has_repeat area.assigned ≡ false

area-assigns : (area : Area) → has_unknown_pdo area ≡ false → AssignsOnce area
area-assigns area none = grind arith

slaves-assign : (slaves : List Slave) → list_any (λ (slave : Slave). list_any has_unknown_pdo slave.areas) slaves ≡ false → All (λ (slave : Slave). All AssignsOnce slave.areas) slaves
slaves-assign slaves none i d below j e under = grind (arith, area-assigns, All-from_none)

project-assigns : (groups : List Group) → some_area has_unknown_pdo groups ≡ false → All (λ (slave : Slave). All AssignsOnce slave.areas) (slaves_of groups)
project-assigns groups none =
    All-flat_map (λ (slave : Slave). All AssignsOnce slave.areas) (λ (group : Group). group.slaves) groups
    (λ i d below. slaves-assign _ (All-from_none (λ (group : Group). list_any (λ (slave : Slave). list_any has_unknown_pdo slave.areas) group.slaves) groups none i d below))

-- each variable has one assigned entry at most among all declared slaves
pub declared-once : (groups : List Declared) → lowest_fault (map (λ declared. declared.group) groups) ≡ None → (variable : ℕ)
    → total (of_areas variable) (declared_slaves groups) ≤ 1
declared-once groups none variable =
    let slaves = declared_slaves groups in
    let assigns = project-assigns (map (λ declared. declared.group) groups) (project-assigned (map (λ declared. declared.group) groups) none) in
    let less = total-within (of_areas variable) (λ (slave : Slave). total (offers variable) slave.areas) slaves
    (λ i d below. total-within (weight variable) (offers variable) (slice_index_or slaves i d).areas
    (λ j e under. area-once variable (slice_index_or (slice_index_or slaves i d).areas j e) (assigns i d below j e under))) in
    let names = slave-names variable slaves in
    let one = once variable 1 (slave_names slaves) (project-names (map (λ declared. declared.group) groups) none) in
    omega arith

-- and one row at most
pub variable-once : (groups : List Declared) → lowest_fault (map (λ declared. declared.group) groups) ≡ None → (variable : ℕ)
    → total (of_row variable) (flat_map (task_variables (line_from 1 groups)) tasks) ≤ 1
variable-once groups none variable =
    let line = tasks-line variable (line_from 1 groups) in
    let declared = line-declared (of_areas variable) 1 groups in
    let once_declared = declared-once groups none variable in
    omega arith
