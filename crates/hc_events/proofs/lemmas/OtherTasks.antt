-- An edit that leaves the areas of a task doesn't change the task.
use Rattle.std.proofs.Common.{◌≡◌, ℕ, suc, ◌+◌, ◌*◌, ◌<◌, ◌==◌, ◌&&◌, ◌||◌, nat_lt, not, length, ◌∙◌, Bool, true, false, cond, List, [], ◌∷◌, ◌++◌, filter, map, refl, sym, ap, ap₂, subst, arith, Option, Some, None}
use Rattle.std.specs.Prelude.{All, Contains, find, option_and_then, option_map, slice_get, slice_index_or}
use Rattle.std.specs.Option.{option_map_or}
use Rattle.std.specs.List.{enumerate_from, flat_map, list_any, zip}
use Rattle.std.proofs.lemmas.Bool.{eqb-true, and_parts}
use Rattle.std.proofs.lemmas.Grind.{flat_map-append}
use Rattle.std.proofs.lemmas.List.{map-append}
use Rattle.std.proofs.lemmas.List.Elements.{filter-append, All-map, All-contains_itself, All-head, All-tail}
use Rattle.hc_records.specs.declared.edit.Edit.{Edit}
use Rattle.hc_records.specs.declared.keys.Key.{Key}
use Rattle.hc_records.specs.declared.limits.TheConstants.{TASKS}
use Rattle.hc_records.specs.declared.records.Area.{Area}
use Rattle.hc_records.specs.declared.records.Dir.{Dir}
use Rattle.hc_records.specs.declared.records.Dir.TheVariants.{Out, In}
use Rattle.hc_records.specs.Area.{width}
use Rattle.hc_records.specs.Edits.{area_at}
use Rattle.hc_records.specs.Image.{VariablePlace, area_variables, task_places, task_variables, tasks, variable_place}
use Rattle.hc_records.specs.Keys.{same_dir, same_key}
use Rattle.hc_records.specs.Line.{Member, State, groups_of, line}
use Rattle.hc_records.specs.Packing.{Placed, empty_front, packed}
use Rattle.hc_records.specs.Project.{lowest_fault}
use Rattle.hc_records.specs.TaskList.{Listed, belongs, keyed, slave_areas, task_areas, task_list}
use Rattle.hc_records.proofs.lemmas.Choices.{by_bool}
use Rattle.hc_records.proofs.lemmas.Finds.{all-tasks, mapped-some}
use Rattle.hc_records.proofs.lemmas.Lists.{All-flat_map, All-passing}
use Rattle.hc_registers.specs.Blocks.{LineBlock, area_blocks, fmmu_block, mapping_at, mapping_of, member_blocks, numbered, sync_manager_block}
use Rattle.hc_places.specs.Swap.{changed_variables, numbers_of, same_found}
use Rattle.hc_places.specs.Table.{Table, VariableRow, place_in, table_of, task_table}
use Rattle.hc_places.proofs.lemmas.Found.{find-holds}
use Rattle.hc_places.proofs.lemmas.Lines.{same-table}
use Rattle.hc_places.proofs.lemmas.Same.{found-same}
use Rattle.hc_places.proofs.lemmas.Sorted.{find-by_number}
use Rattle.hc_events.specs.Entries.{History, Edited}
use Rattle.hc_events.specs.Points.{line_of, state_of}
use Rattle.hc_events.specs.Ready.{area_index, is_in_task, serves_task}
use Rattle.hc_events.specs.Steady.{changes_task, lies_in_task, moves_variable, same_line_block, same_lists, same_task, task_blocks}
use Rattle.hc_events.specs.SteadyLaws.{areas_in_task, member_areas}
use Rattle.hc_events.proofs.lemmas.LineBlocks.{slave-found}
use Rattle.hc_events.proofs.lemmas.SentValues.{IsPlaced, of-task, task-placed}
use Rattle.hc_events.proofs.lemmas.Unchanged.{block-alike, lists-alike, task-alike}

abbrev Own : Type 0
Own = ℕ × (ℕ × (ℕ × Area))

-- lists

filter_pieces : {X Y : Type 0} (test : Y → Bool) (f : X → List Y) (xs : List X) → filter test (flat_map f xs) ≡ flat_map (λ x. filter test (f x)) xs
filter_pieces test f [] = refl
filter_pieces test f (x ∷ xs) = filter-append test (f x) (flat_map f xs) ∙ ap (λ rest. filter test (f x) ++ rest) (filter_pieces test f xs)

-- the list of a task follows from its areas

abbrev listed_of : Dir → Own → Listed
listed_of dir own = record { key = record { dir = dir; rank = own.1.0; area = own.1.1.0 }; area = own.1.1.1 }

abbrev of_dir : Dir → Own → Bool
of_dir dir own = same_dir own.1.1.1.dir dir

turned : (a b c : Bool) → ((a && b) && c) ≡ ((a && c) && b)
turned true true c = and-yes c
  where
    and-yes : (c : Bool) → c ≡ (c && true)
    and-yes true = refl
    and-yes false = refl
turned true false true = refl
turned true false false = refl
turned false b c = refl

one_listed : (task : ℕ) (dir : Dir) (station rank : ℕ) (es : List (ℕ × Area))
    → map (λ (e : ℕ × Area). record { key = record { dir = dir; rank = rank; area = e.0 }; area = e.1 }) (filter (λ (e : ℕ × Area). belongs task dir e.1) es)
    ≡ map (listed_of dir) (filter (of_dir dir) (map (λ (e : ℕ × Area). (station, (rank, e))) (filter (λ (e : ℕ × Area). is_in_task task e.1) es)))
one_listed task dir station rank [] = refl
one_listed task dir station rank (e ∷ es) =
    let rest = one_listed task dir station rank es in
    let same : belongs task dir e.1 ≡ (is_in_task task e.1 && same_dir e.1.dir dir) = turned (e.1.task == task) (same_dir e.1.dir dir) (nat_lt 0 (width e.1)) in
    by_bool (is_in_task task e.1)
    (λ t. by_bool (same_dir e.1.dir dir)
    (λ u. rw (same, t, u) (ap (λ (list : List Listed). record { key = record { dir = dir; rank = rank; area = e.0 }; area = e.1 } ∷ list) rest))
    (λ u. rw (same, t, u) rest))
    (λ t. rw (same, t) rest)

dir_listed : (task : ℕ) (dir : Dir) (members : List Member) → flat_map (slave_areas task dir) members ≡ map (listed_of dir) (filter (of_dir dir) (areas_in_task task members))
dir_listed task dir [] = refl
dir_listed task dir (member ∷ members) =
    ap₂ (λ (a b : List Listed). a ++ b) (one_listed task dir member.slave.station member.rank (enumerate_from 0 member.slave.areas)) (dir_listed task dir members)
    ∙ sym (map-append (listed_of dir) (filter (of_dir dir) (member_areas task member)) (filter (of_dir dir) (areas_in_task task members)))
    ∙ ap (map (listed_of dir)) (sym (filter-append (of_dir dir) (member_areas task member) (areas_in_task task members)))

areas_listed : (task : ℕ) (old new : List Member) → areas_in_task task new ≡ areas_in_task task old → task_areas task old ≡ task_areas task new
areas_listed task old new same =
    let listed = λ (own : List Own). map (listed_of Out) (filter (of_dir Out) own) ++ map (listed_of In) (filter (of_dir In) own) in
    ap₂ (λ (a b : List Listed). a ++ b) (dir_listed task Out old) (dir_listed task In old)
    ∙ ap listed (sym same)
    ∙ sym (ap₂ (λ (a b : List Listed). a ++ b) (dir_listed task Out new) (dir_listed task In new))

-- the blocks of a task follow from its areas

abbrev blocks_at : List Member → Own → List LineBlock
blocks_at members own =
    record { station = own.0; number = 2 * own.1.1.0; block = sync_manager_block own.1.1.1 }
    ∷ record { station = own.0; number = 2 * own.1.1.0 + 1; block = fmmu_block own.1.1.0 own.1.1.1 (mapping_of members own.1.1.1.task (record { dir = own.1.1.1.dir; rank = own.1.0; area = own.1.1.0 })) }
    ∷ []

serves_as : (state : State) (task : ℕ) (member : Member) (k number : ℕ) (area : Area) (block : LineBlock) → lowest_fault (groups_of state.groups) ≡ None → Contains (line state) member → slice_get member.slave.areas k ≡ Some area
    → block.station ≡ member.slave.station → area_index block.number ≡ k → serves_task state task block ≡ is_in_task task area
serves_as state task member k number area block project inside found station index =
    ap (λ one. option_map_or (is_in_task task) one false)
    (ap₂ (area_at state) station index ∙ ap (option_and_then (λ (m : Member). slice_get m.slave.areas k)) (slave-found state member project inside) ∙ found)

two_blocks : (test : LineBlock → Bool) (own : Bool) (a b : LineBlock) (rest : List LineBlock) → test a ≡ own → test b ≡ own → filter test (a ∷ b ∷ rest) ≡ cond own (a ∷ b ∷ filter test rest) (filter test rest)
two_blocks test true a b rest x y = rw (x, y) refl
two_blocks test false a b rest x y = rw (x, y) refl

own_step : (own : Bool) (members : List Member) (station rank k : ℕ) (area : Area) (later : List (ℕ × Area))
    → cond own (blocks_at members (station, (rank, (k, area))) ++ flat_map (blocks_at members) (map (λ (e : ℕ × Area). (station, (rank, e))) later)) (flat_map (blocks_at members) (map (λ (e : ℕ × Area). (station, (rank, e))) later))
    ≡ flat_map (blocks_at members) (map (λ (e : ℕ × Area). (station, (rank, e))) (cond own ((k, area) ∷ later) later))
own_step true members station rank k area later = refl
own_step false members station rank k area later = refl

own_blocks : (state : State) (task : ℕ) (member : Member) (first k : ℕ) (areas : List Area) → lowest_fault (groups_of state.groups) ≡ None → Contains (line state) member → first ≡ 2 * k
    → ((i : ℕ) → slice_get areas i ≡ slice_get member.slave.areas (k + i))
    → filter (serves_task state task) (numbered member.slave.station first (flat_map (area_blocks (line state) member.rank) (enumerate_from k areas)))
    ≡ flat_map (blocks_at (line state)) (map (λ (e : ℕ × Area). (member.slave.station, (member.rank, e))) (filter (λ (e : ℕ × Area). is_in_task task e.1) (enumerate_from k areas)))
own_blocks state task member first k [] project inside even same = refl
own_blocks state task member first k (area ∷ areas) project inside even same =
    let members = line state in
    let station = member.slave.station in
    let none : k + 0 ≡ k = omega arith in
    let found : slice_get member.slave.areas k ≡ Some area = sym (same 0 ∙ ap (slice_get member.slave.areas) none) in
    let mapped = mapping_of members area.task (record { dir = area.dir; rank = member.rank; area = k }) in
    let sync : LineBlock = record { station = station; number = first; block = sync_manager_block area } in
    let fmmu : LineBlock = record { station = station; number = first + 1; block = fmmu_block k area mapped } in
    let later = numbered station (first + 1 + 1) (flat_map (area_blocks members member.rank) (enumerate_from (k + 1) areas)) in
    let at : area_index first ≡ k = omega arith in
    let at' : area_index (first + 1) ≡ k = omega arith in
    let rest = own_blocks state task member (first + 1 + 1) (k + 1) areas project inside (omega arith) (λ i. let next : k + suc i ≡ k + 1 + i = omega arith in same (suc i) ∙ ap (slice_get member.slave.areas) next) in
    two_blocks (serves_task state task) (is_in_task task area) sync fmmu later
    (serves_as state task member k first area sync project inside found refl at) (serves_as state task member k (first + 1) area fmmu project inside found refl at')
    ∙ ap (λ (list : List LineBlock). cond (is_in_task task area) (sync ∷ fmmu ∷ list) list) rest
    ∙ ap₂ (λ (m n : ℕ). cond (is_in_task task area)
    (record { station = station; number = m; block = sync_manager_block area } ∷ record { station = station; number = n; block = fmmu_block k area mapped }
    ∷ flat_map (blocks_at members) (map (λ (e : ℕ × Area). (station, (member.rank, e))) (filter (λ (e : ℕ × Area). is_in_task task e.1) (enumerate_from (k + 1) areas))))
    (flat_map (blocks_at members) (map (λ (e : ℕ × Area). (station, (member.rank, e))) (filter (λ (e : ℕ × Area). is_in_task task e.1) (enumerate_from (k + 1) areas)))))
    even (ap (λ n. n + 1) even)
    ∙ own_step (is_in_task task area) members station member.rank k area (filter (λ (e : ℕ × Area). is_in_task task e.1) (enumerate_from (k + 1) areas))

from_first : {X : Type 0} (xs : List X) (i : ℕ) → slice_get xs i ≡ slice_get xs (0 + i)
from_first xs i = let same : i ≡ 0 + i = omega arith in ap (slice_get xs) same

line_step : (state : State) (task : ℕ) (members : List Member) → lowest_fault (groups_of state.groups) ≡ None → All (Contains (line state)) members
    → flat_map (λ (member : Member). filter (serves_task state task) (member_blocks (line state) member)) members ≡ flat_map (blocks_at (line state)) (areas_in_task task members)
line_step state task [] project inside = refl
line_step state task (member ∷ members) project inside =
    ap₂ (λ (a b : List LineBlock). a ++ b)
    (own_blocks state task member 0 0 member.slave.areas project (All-head (Contains (line state)) member members inside) refl (from_first member.slave.areas))
    (line_step state task members project (All-tail (Contains (line state)) member members inside))
    ∙ sym (flat_map-append (blocks_at (line state)) (member_areas task member) (areas_in_task task members))

blocks_from : (state : State) (task : ℕ) → lowest_fault (groups_of state.groups) ≡ None → task_blocks state task ≡ flat_map (blocks_at (line state)) (areas_in_task task (line state))
blocks_from state task project =
    filter_pieces (serves_task state task) (member_blocks (line state)) (line state) ∙ line_step state task (line state) project (All-contains_itself (line state))

-- two for each area

two_each : (members : List Member) (owns : List Own) → length (flat_map (blocks_at members) owns) ≡ 2 * length owns
two_each members [] = refl
two_each members (own ∷ owns) = let later = two_each members owns in omega (arith, later)

pub blocks_counted : (state : State) (task : ℕ) → lowest_fault (groups_of state.groups) ≡ None → length (task_blocks state task) ≡ 2 * length (areas_in_task task (line state))
blocks_counted state task project = ap length (blocks_from state task project) ∙ two_each (line state) (areas_in_task task (line state))

-- an area of the task is mapped as its places say

mapped_alike : (old new : List Member) (task : ℕ) (own : Own) → own.1.1.1.task ≡ task → task_places task old ≡ task_places task new → blocks_at old own ≡ blocks_at new own
mapped_alike old new task own same places =
    let key : Key = record { dir = own.1.1.1.dir; rank = own.1.0; area = own.1.1.0 } in
    let own_places : task_places own.1.1.1.task old ≡ task_places own.1.1.1.task new = ap (λ t. task_places t old) same ∙ places ∙ sym (ap (λ t. task_places t new) same) in
    ap (λ (list : List Placed). record { station = own.0; number = 2 * own.1.1.0; block = sync_manager_block own.1.1.1 }
    ∷ record { station = own.0; number = 2 * own.1.1.0 + 1; block = fmmu_block own.1.1.0 own.1.1.1 (option_map (mapping_at own.1.1.1.task) (find (λ placed. same_key placed.key key) list)) } ∷ []) own_places

all_alike : (old new : List Member) (task : ℕ) (owns : List Own) → All (λ (own : Own). own.1.1.1.task ≡ task) owns → task_places task old ≡ task_places task new → flat_map (blocks_at old) owns ≡ flat_map (blocks_at new) owns
all_alike old new task [] all places = refl
all_alike old new task (own ∷ owns) all places =
    ap₂ (λ (a b : List LineBlock). a ++ b) (mapped_alike old new task own (All-head (λ (o : Own). o.1.1.1.task ≡ task) own owns all) places)
    (all_alike old new task owns (All-tail (λ (o : Own). o.1.1.1.task ≡ task) own owns all) places)

in_task : (task : ℕ) (members : List Member) → All (λ (own : Own). own.1.1.1.task ≡ task) (areas_in_task task members)
in_task task members =
    All-flat_map (λ (own : Own). own.1.1.1.task ≡ task) (member_areas task) members
    (λ k d low. let member = slice_index_or members k d in
    All-map (λ (own : Own). own.1.1.1.task ≡ task) (λ (e : ℕ × Area). (member.slave.station, (member.rank, e))) (filter (λ (e : ℕ × Area). is_in_task task e.1) (enumerate_from 0 member.slave.areas))
    (All-passing (λ (e : ℕ × Area). e.1.task ≡ task) (λ (e : ℕ × Area). is_in_task task e.1) (enumerate_from 0 member.slave.areas)
    (λ j e within passes. let one = slice_index_or (enumerate_from 0 member.slave.areas) j e in eqb-true one.1.task task (and_parts (one.1.task == task) (nat_lt 0 (width one.1)) passes).0)))

same_places : (old new : List Member) (task : ℕ) → task_areas task old ≡ task_areas task new → task_places task old ≡ task_places task new
same_places old new task same = ap (λ (areas : List Listed). packed empty_front (map keyed areas)) same

same_blocks : (old new : State) (task : ℕ) → lowest_fault (groups_of old.groups) ≡ None → lowest_fault (groups_of new.groups) ≡ None → areas_in_task task (line new) ≡ areas_in_task task (line old) → task_blocks old task ≡ task_blocks new task
same_blocks old new task project project' same =
    blocks_from old task project
    ∙ all_alike (line old) (line new) task (areas_in_task task (line old)) (in_task task (line old)) (same_places (line old) (line new) task (areas_listed task (line old) (line new) same))
    ∙ ap (flat_map (blocks_at (line new))) (sym same)
    ∙ sym (blocks_from new task project')

-- the variables of the task have the places that they had

has_place : (members : List Member) (variable : ℕ) → place_in (table_of members) variable ≡ variable_place variable members
has_place members variable = ap (option_map (λ (row : VariableRow). row.1)) (find-by_number variable (flat_map (task_variables members) tasks))

abbrev PlacedThere : History → ℕ → VariableRow → Type 0
PlacedThere b task row = row.1.task ≡ task → IsPlaced (line_of b) row

rows_there : (a b : History) (task : ℕ) → task < TASKS → lowest_fault (groups_of (state_of b).groups) ≡ None → task_variables (line_of a) task ≡ task_variables (line_of b) task
    → All (PlacedThere b task) (flat_map (task_variables (line_of a)) tasks)
rows_there a b task low project same =
    All-flat_map (PlacedThere b task) (task_variables (line_of a)) tasks
    (all-tasks (λ t. All (PlacedThere b task) (task_variables (line_of a) t))
    (λ t few i e within own.
    let row = slice_index_or (task_variables (line_of a) t) i e in
    let there : t ≡ task = sym (of-task (line_of a) t i e within) ∙ own in
    let placed : All (IsPlaced (line_of b)) (task_variables (line_of a) task) = subst (All (IsPlaced (line_of b))) (sym same) (task-placed b project task low) in
    let moved : All (IsPlaced (line_of b)) (task_variables (line_of a) t) = subst (λ n. All (IsPlaced (line_of b)) (task_variables (line_of a) n)) (sym there) placed in
    moved i e within))

place_there : (a b : History) (task variable : ℕ) (found : Option VariablePlace) → task < TASKS → lowest_fault (groups_of (state_of b).groups) ≡ None → task_variables (line_of a) task ≡ task_variables (line_of b) task
    → variable_place variable (line_of a) ≡ found → lies_in_task task found ≡ true → variable_place variable (line_of b) ≡ found
place_there a b task variable None low project same is lies = cc
place_there a b task variable (Some place) low project same is lies =
    let rows = flat_map (task_variables (line_of a)) tasks in
    let row = mapped-some (λ (r : VariableRow). r.1) (find (λ r. r.0 == variable) rows) place is in
    let holds = find-holds (PlacedThere b task) (λ r. r.0 == variable) rows row.0 row.1 (rows_there a b task low project same) in
    let own : row.0.1.task ≡ task = ap (λ (p : VariablePlace). p.task) row.2 ∙ eqb-true place.task task lies in
    ap (λ n. variable_place n (line_of b)) (sym (eqb-true row.0.0 variable holds.1)) ∙ holds.0 own ∙ ap (λ (p : VariablePlace). Some p) row.2

abbrev Test : Table → Table → ℕ → ℕ → Bool
Test old new task variable = lies_in_task task (place_in old variable) || lies_in_task task (place_in new variable)

test_same : (a b : History) (task variable : ℕ) → task < TASKS → lowest_fault (groups_of (state_of a).groups) ≡ None → lowest_fault (groups_of (state_of b).groups) ≡ None
    → task_variables (line_of a) task ≡ task_variables (line_of b) task → Test (table_of (line_of a)) (table_of (line_of b)) task variable ≡ true
    → place_in (table_of (line_of a)) variable ≡ place_in (table_of (line_of b)) variable
test_same a b task variable low project project' same test =
    by_bool (lies_in_task task (place_in (table_of (line_of a)) variable))
    (λ t. has_place (line_of a) variable
    ∙ sym (place_there a b task variable (variable_place variable (line_of a)) low project' same refl (sym (ap (lies_in_task task) (has_place (line_of a) variable)) ∙ t))
    ∙ sym (has_place (line_of b) variable))
    (λ t. let here : lies_in_task task (place_in (table_of (line_of b)) variable) ≡ true = sym (ap (λ c. c || lies_in_task task (place_in (table_of (line_of b)) variable)) t) ∙ test in
    has_place (line_of a) variable
    ∙ place_there b a task variable (variable_place variable (line_of b)) low project (sym same) refl (sym (ap (lies_in_task task) (has_place (line_of b) variable)) ∙ here)
    ∙ sym (has_place (line_of b) variable))

none_any : (test : ℕ → Bool) (numbers : List ℕ) → All (λ (n : ℕ). test n ≡ false) numbers → list_any test numbers ≡ false
none_any test [] all = refl
none_any test (n ∷ numbers) all = ap (λ b. b || list_any test numbers) (All-head (λ (m : ℕ). test m ≡ false) n numbers all) ∙ none_any test numbers (All-tail (λ (m : ℕ). test m ≡ false) n numbers all)

moves_none : (a b : History) (task : ℕ) → task < TASKS → lowest_fault (groups_of (state_of a).groups) ≡ None → lowest_fault (groups_of (state_of b).groups) ≡ None
    → task_variables (line_of a) task ≡ task_variables (line_of b) task → moves_variable (table_of (line_of a)) (table_of (line_of b)) task ≡ false
moves_none a b task low project project' same =
    let old = table_of (line_of a) in
    let new = table_of (line_of b) in
    none_any (Test old new task) (changed_variables old new)
    (All-passing (λ (v : ℕ). Test old new task v ≡ false) (λ v. not (same_found (place_in old v) (place_in new v))) (numbers_of old ++ filter (λ v. not (option_map_or (λ place. true) (place_in old v) false)) (numbers_of new))
    (λ k d within passes.
    let variable = slice_index_or (numbers_of old ++ filter (λ v. not (option_map_or (λ place. true) (place_in old v) false)) (numbers_of new)) k d in
    by_bool (Test old new task variable)
    (λ t. let place = test_same a b task variable low project project' same t in
    let never : true ≡ false = sym passes ∙ ap not (found-same (place_in old variable) (place_in new variable) place) in cc)
    (λ t. t)))

-- so nothing of the task changes

pub others-change : (history : History) (edit : Edit) (task : ℕ) → task < TASKS → lowest_fault (groups_of (state_of history).groups) ≡ None → lowest_fault (groups_of (state_of (Edited edit ∷ history)).groups) ≡ None
    → areas_in_task task (line_of (Edited edit ∷ history)) ≡ areas_in_task task (line_of history) → changes_task (state_of history) (state_of (Edited edit ∷ history)) task ≡ false
others-change history edit task low project project' same =
    let old = state_of history in
    let new = state_of (Edited edit ∷ history) in
    let areas = areas_listed task (line old) (line new) same in
    let list : task_list task (line old) ≡ task_list task (line new) = ap (map keyed) areas in
    let table : task_table (line old) task ≡ task_table (line new) task = same-table old.groups new.groups task project project' list in
    let variables : task_variables (line old) task ≡ task_variables (line new) task = ap₂ (λ (a : List Listed) (b : List Placed). flat_map (area_variables task) (zip a b)) areas (same_places (line old) (line new) task areas) in
    let moves = moves_none history (Edited edit ∷ history) task low project project' variables in
    let blocks = same_blocks old new task project project' same in
    let one : same_task (task_table (line old) task) (task_table (line new) task) ≡ true = ap (same_task (task_table (line old) task)) (sym table) ∙ task-alike (task_table (line old) task) in
    let two : same_lists same_line_block (task_blocks old task) (task_blocks new task) ≡ true =
    ap (same_lists same_line_block (task_blocks old task)) (sym blocks) ∙ lists-alike same_line_block block-alike (task_blocks old task) in
    ap (λ b. not b || moves_variable (table_of (line old)) (table_of (line new)) task || not (same_lists same_line_block (task_blocks old task) (task_blocks new task))) one
    ∙ ap (λ b. b || not (same_lists same_line_block (task_blocks old task) (task_blocks new task))) moves
    ∙ ap not two
