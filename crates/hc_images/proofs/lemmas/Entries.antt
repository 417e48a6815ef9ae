-- Over an edit each variable keeps its bits and its direction: it is in one declared entry, and edits leave what is declared. Beside it they may declare more,
-- which isn't in the line.
use Rattle.std.proofs.Common.{◌≡◌, ◌≢◌, ℕ, zero, suc, ◌+◌, ◌==◌, Bool, true, false, cond, List, [], ◌∷◌, ◌++◌, map, refl, sym, ap, ap₂, ◌∙◌, subst, Option, Some, None, rules}
use Rattle.std.specs.Prelude.{All, find}
use Rattle.std.specs.Option.{option_map_or}
use Rattle.std.specs.Result.{result_unwrap_or}
use Rattle.std.specs.List.{enumerate_from, flat_map}
use Rattle.std.proofs.lemmas.Bool.{eqb-true}
use Rattle.std.proofs.lemmas.Grind.{flat_map-append}
use Rattle.std.proofs.lemmas.List.{map-append}
use Rattle.std.proofs.lemmas.List.Elements.{All-nil, All-cons, All-head, All-map, All-tail, All-weaker}
use Rattle.std.proofs.lemmas.Option.{same_Some}
use Rattle.hc_records.specs.declared.records.Dir.{Dir}
use Rattle.hc_records.specs.declared.records.Pdo.{Pdo}
use Rattle.hc_records.specs.declared.records.Area.{Area}
use Rattle.hc_records.specs.declared.records.Slave.{Slave}
use Rattle.hc_records.specs.declared.records.Declared.{Declared}
use Rattle.hc_records.specs.declared.edit.Edit.{Edit}
use Rattle.hc_records.specs.declared.edit.Edit.TheVariants.{Connect, Disconnect, Remap, Move, Declare}
use Rattle.hc_records.specs.declared.faults.EditFault.{EditFault}
use Rattle.hc_records.specs.Area.{Entry, assigned_entries}
use Rattle.hc_records.specs.Lists.{changed_at, has_repeat, lowest}
use Rattle.hc_records.specs.Line.{Member, State, groups_of, line, line_from}
use Rattle.hc_records.specs.Edits.{changed, declares, edit_faults, groups_after, refused_by, state_after, with_area, with_slaves}
use Rattle.hc_records.specs.Image.{VariablePlace, area_variables, task_places, task_variables, tasks, variable_place, variables_from}
use Rattle.hc_records.specs.Packing.{Placed}
use Rattle.hc_records.specs.Project.{entry_names, lowest_fault, slave_names, slaves_of}
use Rattle.hc_records.specs.TaskList.{Listed, belongs, task_areas}
use Rattle.hc_records.proofs.lemmas.Declaring.{line-absent}
use Rattle.hc_records.proofs.lemmas.Entries.{assigned-all, task-areas-all}
use Rattle.hc_records.proofs.lemmas.Finds.{all-tasks, mapped-some}
use Rattle.hc_records.proofs.lemmas.Lines.{line-slaves}
use Rattle.hc_records.proofs.lemmas.Lists.{All-append_left, All-append_right, All-enumerate_from, All-flat_map, AllPairs-from_once, AllPairs-unmap}
use Rattle.hc_records.proofs.lemmas.Projects.{project-names}
use Rattle.hc_records.proofs.lemmas.Variables.{place_of, task_pairs, zip-left}
use Rattle.hc_places.specs.Table.{VariableRow, place_in, table_of}
use Rattle.hc_places.proofs.lemmas.Found.{find-holds}
use Rattle.hc_images.specs.Values.{KeepEntries, KeepsItsEntry}
use Rattle.hc_images.proofs.Numbered.{IsFoundIn, each-found}
use Rattle.hc_images.proofs.lemmas.LaidOut.{place-of_line}

-- a variable with its bits and its direction, as they are declared

abbrev Named : Type 0
Named = ℕ × (ℕ × Dir)

abbrev entry_named : Dir → Entry → List Named
entry_named dir entry = option_map_or (λ variable. (variable, (entry.1, dir)) ∷ []) entry.0 []

abbrev pdo_named : Dir → Pdo → List Named
pdo_named dir pdo = flat_map (entry_named dir) pdo.entries

abbrev area_named : Area → List Named
area_named area = flat_map (pdo_named area.dir) area.offered

abbrev slave_named : Slave → List Named
slave_named slave = flat_map area_named slave.areas

abbrev group_named : Declared → List Named
group_named declared = flat_map slave_named declared.group.slaves

abbrev named_in : List Declared → List Named
named_in groups = flat_map group_named groups

-- an edit leaves them

flat_same : {X Y : Type 0} (f : X → List Y) (g : X → X) (xs : List X) → ((x : X) → f (g x) ≡ f x) → flat_map f (map g xs) ≡ flat_map f xs
flat_same f g [] same = refl
flat_same f g (x ∷ xs) same = ap₂ (λ own rest. own ++ rest) (same x) (flat_same f g xs same)

flat_changed : {X Y : Type 0} (f : X → List Y) (g : X → X) (index : ℕ) (xs : List X) → ((x : X) → f (g x) ≡ f x) → flat_map f (changed_at index g xs) ≡ flat_map f xs
flat_changed f g index [] same = refl
flat_changed f g zero (x ∷ xs) same = ap (λ own. own ++ flat_map f xs) (same x)
flat_changed f g (suc index) (x ∷ xs) same = ap (λ rest. f x ++ rest) (flat_changed f g index xs same)

presence_by : (own present : Bool) (declared : Declared) → group_named (cond own (record declared { present = present }) declared) ≡ group_named declared
presence_by own present declared = search rules

area_by : (own : Bool) (index : ℕ) (change : Area → Area) (slave : Slave) → ((area : Area) → area_named (change area) ≡ area_named area)
    → slave_named (cond own (record slave { areas = changed_at index change slave.areas }) slave) ≡ slave_named slave
area_by own index change slave same = search (rules, flat_changed)

area_unchanged : (station index : ℕ) (change : Area → Area) (groups : List Declared) → ((area : Area) → area_named (change area) ≡ area_named area)
    → named_in (map (with_slaves (with_area station index change)) groups) ≡ named_in groups
area_unchanged station index change groups same = search (rules, flat_same, area_by)

named_after : (groups : List Declared) (edit : Edit) → declares edit ≡ false → named_in (groups_after groups edit) ≡ named_in groups
named_after groups (Connect alias) none = search (rules, flat_same, presence_by)
named_after groups (Disconnect alias) none = search (rules, flat_same, presence_by)
named_after groups (Remap station area pdos) none = search (rules, area_unchanged)
named_after groups (Move station area task) none = search (rules, area_unchanged)
named_after groups (Declare group) none = cc

either_state : (fault : Option EditFault) (state next : State) → named_in next.groups ≡ named_in state.groups
    → named_in (result_unwrap_or (refused_by fault next) state).groups ≡ named_in state.groups
either_state fault state next same = search rules

named_unchanged : (state : State) (edit : Edit) → declares edit ≡ false → named_in (state_after state edit).groups ≡ named_in state.groups
named_unchanged state edit none = either_state (lowest (edit_faults state edit)) state (changed state edit) (named_after state.groups edit none)

-- no variable is declared twice

abbrev name : Named → ℕ
name named = named.0

entries_names : (dir : Dir) (entries : List Entry) → map name (flat_map (entry_named dir) entries) ≡ entry_names entries
entries_names dir [] = refl
entries_names dir ((None, bits) ∷ entries) = entries_names dir entries
entries_names dir ((Some variable, bits) ∷ entries) = ap (λ rest. variable ∷ rest) (entries_names dir entries)

names_flat : {X : Type 0} (f : X → List Named) (g : X → List ℕ) (xs : List X) → ((x : X) → map name (f x) ≡ g x) → map name (flat_map f xs) ≡ flat_map g xs
names_flat f g [] same = refl
names_flat f g (x ∷ xs) same = map-append name (f x) (flat_map f xs) ∙ ap₂ (λ own rest. own ++ rest) (same x) (names_flat f g xs same)

slaves_names : (slaves : List Slave) → map name (flat_map slave_named slaves) ≡ slave_names slaves
slaves_names slaves = search (rules, names_flat, entries_names)

groups_names : (groups : List Declared) → map name (named_in groups) ≡ slave_names (slaves_of (groups_of groups))
groups_names [] = refl
groups_names (declared ∷ groups) = search (rules, map-append, slaves_names, flat_map-append, groups_names groups)

each_named : (groups : List Declared) → lowest_fault (groups_of groups) ≡ None → All (IsFoundIn (named_in groups)) (named_in groups)
each_named groups none =
    each-found (named_in groups)
    (AllPairs-unmap (λ m n. m ≢ n) name (named_in groups)
    (AllPairs-from_once (map name (named_in groups)) (ap has_repeat (groups_names groups) ∙ project-names (groups_of groups) none)))

-- a variable of the line is one of them

each_flat : {X Y : Type 0} (P : Y → Type 0) (f : X → List Y) (xs : List X) → All P (flat_map f xs) → All (λ x. All P (f x)) xs
each_flat P f [] all = All-nil (λ x. All P (f x))
each_flat P f (x ∷ xs) all =
    All-cons (λ y. All P (f y)) x xs (All-append_left P (f x) (flat_map f xs) all) (each_flat P f xs (All-append_right P (f x) (flat_map f xs) all))

entry_variables : (P : Named → Type 0) (dir : Dir) (bit : ℕ) (entries : List Entry) → All (λ entry. All P (entry_named dir entry)) entries
    → All (λ found. P (found.0, (found.1.1, dir))) (variables_from bit entries)
entry_variables P dir bit [] all = All-nil (λ found. P (found.0, (found.1.1, dir)))
entry_variables P dir bit ((None, bits) ∷ entries) all =
    entry_variables P dir (bit + bits) entries (All-tail (λ entry. All P (entry_named dir entry)) (None, bits) entries all)
entry_variables P dir bit ((Some variable, bits) ∷ entries) all =
    search (rules, All-cons, All-head, All-tail, entry_variables P dir (bit + bits) entries (All-tail (λ entry. All P (entry_named dir entry)) (Some variable, bits) entries all))

abbrev OfRow : (Named → Type 0) → VariableRow → Type 0
OfRow P row = P (row.0, (row.1.bits, row.1.dir))

abbrev OfArea : (Named → Type 0) → Area → Type 0
OfArea P area = All P (area_named area)

area_rows : (P : Named → Type 0) (task : ℕ) (pair : Listed × Placed) → OfArea P pair.0.area → All (OfRow P) (area_variables task pair)
area_rows P task pair all =
    let area = pair.0.area in
    let entries = assigned_entries area in
    All-map (OfRow P) (λ found. (found.0, place_of task pair found)) (variables_from pair.1.bit entries)
    (entry_variables P area.dir pair.1.bit entries
    (assigned-all (λ entry. All P (entry_named area.dir entry)) area
    (All-weaker (λ pdo. All P (pdo_named area.dir pdo)) (λ pdo. All (λ entry. All P (entry_named area.dir entry)) pdo.entries)
    (λ pdo own. each_flat P (entry_named area.dir) pdo.entries own) area.offered (each_flat P (pdo_named area.dir) area.offered all))))

task_rows : (P : Named → Type 0) (task : ℕ) (line : List Member) → All (λ member. All (OfArea P) member.slave.areas) line → All (OfRow P) (task_variables line task)
task_rows P task line all =
    All-flat_map (OfRow P) (area_variables task) (task_pairs line task)
    (All-weaker (λ pair. OfArea P pair.0.area) (λ pair. All (OfRow P) (area_variables task pair)) (λ pair own. area_rows P task pair own) (task_pairs line task)
    (zip-left (λ found. OfArea P found.area) (task_areas task line) (task_places task line)
    (task-areas-all (λ found. OfArea P found.area) task line
    (λ dir. All-weaker (λ member. All (OfArea P) member.slave.areas)
    (λ member. All (λ e. belongs task dir e.1 ≡ true → OfArea P e.1) (enumerate_from 0 member.slave.areas))
    (λ member own. All-weaker (λ e. OfArea P e.1) (λ e. belongs task dir e.1 ≡ true → OfArea P e.1) (λ e is passes. is) (enumerate_from 0 member.slave.areas)
    (All-enumerate_from (OfArea P) 0 member.slave.areas own)) line all))))

all_rows : (P : Named → Type 0) (groups : List Declared) → All P (named_in groups) → All (OfRow P) (flat_map (task_variables (line_from 1 groups)) tasks)
all_rows P groups all =
    let slaves =
    line-slaves (λ slave. All (OfArea P) slave.areas) 1 groups
    (All-weaker (λ declared. All P (group_named declared)) (λ declared. All (λ slave. All (OfArea P) slave.areas) declared.group.slaves)
    (λ declared own. All-weaker (λ slave. All P (slave_named slave)) (λ slave. All (OfArea P) slave.areas)
    (λ slave its. each_flat P area_named slave.areas its) declared.group.slaves (each_flat P slave_named declared.group.slaves own)) groups (each_flat P group_named groups all)) in
    search (rules, All-flat_map, all-tasks, task_rows)

abbrev IsNamed : List Named → ℕ → VariablePlace → Type 0
IsNamed named variable place = find (λ other. other.0 == variable) named ≡ Some (variable, (place.bits, place.dir))

variable_named : (named : List Named) (groups : List Declared) (variable : ℕ) (place : VariablePlace) → All (IsFoundIn named) (named_in groups) → variable_place variable (line_from 1 groups) ≡ Some place → IsNamed named variable place
variable_named named groups variable place all there =
    let rows = flat_map (task_variables (line_from 1 groups)) tasks in
    let row = mapped-some (λ (r : VariableRow). r.1) (find (λ r. r.0 == variable) rows) place there in
    let found = row.0 in
    let holds = find-holds (OfRow (IsFoundIn named)) (λ r. r.0 == variable) rows found row.1 (all_rows (IsFoundIn named) groups all) in
    let number : found.0 ≡ variable = eqb-true found.0 variable holds.1 in
    subst (λ (p : VariablePlace). IsNamed named variable p) row.2 (subst (λ (n : ℕ). IsNamed named n found.1) number holds.0)

same_entry : (found : Option Named) (variable : ℕ) (place another : VariablePlace) → found ≡ Some (variable, (place.bits, place.dir)) → found ≡ Some (variable, (another.bits, another.dir))
    → KeepsItsEntry place another
same_entry found variable place another first second = search (rules, same_Some)

changes_keep : (state : State) (edit : Edit) → declares edit ≡ false → lowest_fault (groups_of state.groups) ≡ None → KeepEntries (table_of (line state)) (table_of (line (state_after state edit)))
changes_keep state edit changes none variable place another there there' =
    let named = named_in state.groups in
    let next = state_after state edit in
    let all = each_named state.groups none in
    let all' : All (IsFoundIn named) (named_in next.groups) = subst (All (IsFoundIn named)) (sym (named_unchanged state edit changes)) all in
    let first = variable_named named state.groups variable place all (sym (place-of_line (line state) variable) ∙ there) in
    let second = variable_named named next.groups variable another all' (sym (place-of_line (line next) variable) ∙ there') in
    same_entry (find (λ other. other.0 == variable) named) variable place another first second

-- a group that is declared is absent, so the line is the same

either_line : (fault : Option EditFault) (state next : State) → line next ≡ line state → line (result_unwrap_or (refused_by fault next) state) ≡ line state
either_line None state next same = same
either_line (Some fault) state next same = refl

same_place : (found : Option VariablePlace) (place another : VariablePlace) → found ≡ Some place → found ≡ Some another → KeepsItsEntry place another
same_place found place another there there' = let same : Some place ≡ Some another = sym there ∙ there' in let one : place ≡ another = cc in record { bits = ap (λ (p : VariablePlace). p.bits) (sym one); dir = ap (λ (p : VariablePlace). p.dir) (sym one) }

same_keep : (old new : List Member) → new ≡ old → KeepEntries (table_of old) (table_of new)
same_keep old new same =
    subst (λ (one : List Member). KeepEntries (table_of old) (table_of one)) (sym same) (λ variable place another there there'. same_place (place_in (table_of old) variable) place another there there')

pub edit-keeps_entries : (state : State) (edit : Edit) → lowest_fault (groups_of state.groups) ≡ None → KeepEntries (table_of (line state)) (table_of (line (state_after state edit)))
edit-keeps_entries state (Connect alias) none = changes_keep state (Connect alias) refl none
edit-keeps_entries state (Disconnect alias) none = changes_keep state (Disconnect alias) refl none
edit-keeps_entries state (Remap station area pdos) none = changes_keep state (Remap station area pdos) refl none
edit-keeps_entries state (Move station area task) none = changes_keep state (Move station area task) refl none
edit-keeps_entries state (Declare group) none =
    same_keep (line state) (line (state_after state (Declare group)))
    (either_line (lowest (edit_faults state (Declare group))) state (changed state (Declare group)) (line-absent 1 state.groups group))
