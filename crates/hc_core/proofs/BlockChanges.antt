-- An edit other than a remap changes just the tasks whose register blocks it changes, and a remap no other task if it changes a block.
use Rattle.std.proofs.Common.{◌≡◌, ℕ, zero, suc, ◌+◌, ◌<◌, ◌≤◌, ◌==◌, ◌&&◌, ◌||◌, Bool, true, false, cond, Contains, List, [], ◌∷◌, ◌++◌, length, map, refl, sym, ap, ap₂, subst, length-append, ◌∙◌, arith, ◌⊎◌, inl, inr, Option, Some, None}
use Rattle.std.specs.Prelude.{All, Ok, filter, nat_lt, not, option_and_then, slice_get}
use Rattle.std.specs.List.{enumerate_from}
use Rattle.std.proofs.lemmas.Bool.{and_parts, eqb-true, or_right}
use Rattle.std.proofs.lemmas.Grind.{flat_map-append}
use Rattle.std.proofs.lemmas.List.{length-map, map-id}
use Rattle.std.proofs.lemmas.List.Elements.{All-contains_itself, All-head, All-tail, All-weaker}
use Rattle.std.proofs.lemmas.Option.{same_Some}
use Rattle.hc_records.specs.declared.edit.Edit.{Edit}
use Rattle.hc_records.specs.declared.edit.Edit.TheVariants.{Connect, Declare, Disconnect, Move, Remap}
use Rattle.hc_records.specs.declared.records.Area.{Area}
use Rattle.hc_records.specs.declared.records.Declared.{Declared}
use Rattle.hc_records.specs.declared.records.Slave.{Slave}
use Rattle.hc_records.specs.Area.{width}
use Rattle.hc_records.specs.Edits.{area_at, edited, groups_after, with_area, with_presence, with_slaves}
use Rattle.hc_records.specs.Line.{Member, State, groups_of, line, line_from, members_from, present_slaves}
use Rattle.hc_records.specs.Lists.{changed_at}
use Rattle.hc_records.specs.Project.{lowest_fault}
use Rattle.hc_records.proofs.lemmas.Declaring.{line-absent}
use Rattle.hc_records.proofs.lemmas.Lists.{All-append_left, All-append_right}
use Rattle.hc_groups.proofs.lemmas.Accepted.{accepted-groups, accepted-project}
use Rattle.hc_places.specs.Table.{table_of, task_table}
use Rattle.hc_events.specs.Entries.{History, Edited}
use Rattle.hc_events.specs.Points.{state_of}
use Rattle.hc_events.specs.Ready.{is_in_task}
use Rattle.hc_events.specs.Steady.{changes_task, moves_variable, same_line_block, same_lists, same_task, task_blocks}
use Rattle.hc_events.specs.SteadyLaws.{areas_in_task, member_areas}
use Rattle.hc_events.proofs.lemmas.LineBlocks.{slave-found}
use Rattle.hc_events.proofs.lemmas.OtherTasks.{blocks_counted, others-change}
use Rattle.hc_owed.specs.declared.task_set.TaskSet.{TaskSet}
use Rattle.hc_owed.specs.ChangedTasks.{changes_blocks}
use Rattle.hc_owed.specs.TaskSets.{has_task}
use Rattle.hc_core.specs.Changed.{remaps}
use Rattle.hc_core.proofs.ChangedTasks.{both-ways}
use Rattle.hc_core.proofs.Edits.{after-is}

-- a list is another one, or is shorter

abbrev Shrinks : {X : Type 0} → List X → List X → Type 0
Shrinks less more = (length less ≤ length more) × (length less ≡ length more → less ≡ more)

itself : {X : Type 0} (xs : List X) → Shrinks xs xs
itself xs = (omega arith, λ same. refl)

nothing-of : {X : Type 0} (xs : List X) → Shrinks [] xs
nothing-of [] = itself []
nothing-of (x ∷ xs) = (omega arith, λ same. absurd (omega (arith, same)))

both-shrink : {X : Type 0} (a b c d : List X) → Shrinks a b → Shrinks c d → Shrinks (a ++ c) (b ++ d)
both-shrink {X} a b c d first later =
    let less = length-append a c in
    let more = length-append b d in
    let low = first.0 in
    let low' = later.0 in (
      omega (arith, less, more, low, low'),
      λ same. ap₂ (λ (x y : List X). x ++ y) (first.1 (omega (arith, same, less, more, low, low'))) (later.1 (omega (arith, same, less, more, low, low'))),
    )

mapped-shrink : {X Y : Type 0} (f : X → Y) (a b : List X) → Shrinks a b → Shrinks (map f a) (map f b)
mapped-shrink f a b (low, whole) =
    let less = length-map a f in
    let more = length-map b f in
    (omega (arith, less, more, low), λ same. ap (map f) (whole (omega (arith, same, less, more))))

-- the areas in a task, if one of them changes

abbrev own : ℕ → List (ℕ × Area) → List (ℕ × Area)
own t = filter (λ (e : ℕ × Area). is_in_task t e.1)

one-shrinks : {X : Type 0} (x y : X) (here there : Bool) (a b : List X) → (here ≡ true → (there ≡ true) × (x ≡ y)) → Shrinks a b → Shrinks (cond here (x ∷ a) a) (cond there (y ∷ b) b)
one-shrinks {X} x y true there a b stays (low, whole) =
    let holds = stays refl in
    subst (λ (t : Bool). Shrinks (x ∷ a) (cond t (y ∷ b) b)) (sym holds.0)
    (omega (arith, low), λ same. ap₂ (λ (z : X) (rest : List X). z ∷ rest) holds.1 (whole (omega (arith, same))))
one-shrinks x y false true a b stays (low, whole) = (omega (arith, low), λ same. absurd (omega (arith, same, low)))
one-shrinks x y false false a b stays shrinks = shrinks

abbrev StaysIn : ℕ → (Area → Area) → (Area → Area) → Type 0
StaysIn t f g = (area : Area) → is_in_task t (f area) ≡ true → (is_in_task t (g area) ≡ true) × (f area ≡ g area)

areas-shrink : (t k n : ℕ) (f g : Area → Area) (areas : List Area) → StaysIn t f g → Shrinks (own t (enumerate_from k (changed_at n f areas))) (own t (enumerate_from k (changed_at n g areas)))
areas-shrink t k n f g [] stays = itself []
areas-shrink t k zero f g (area ∷ areas) stays =
    one-shrinks (k, f area) (k, g area) (is_in_task t (f area)) (is_in_task t (g area)) (own t (enumerate_from (k + 1) areas)) (own t (enumerate_from (k + 1) areas))
    (λ here. let holds = stays area here in (holds.0, ap (λ (a : Area). (k, a)) holds.1)) (itself (own t (enumerate_from (k + 1) areas)))
areas-shrink t k (suc n) f g (area ∷ areas) stays =
    one-shrinks (k, area) (k, area) (is_in_task t area) (is_in_task t area) (own t (enumerate_from (k + 1) (changed_at n f areas))) (own t (enumerate_from (k + 1) (changed_at n g areas)))
    (λ here. (here, refl)) (areas-shrink t (k + 1) n f g areas stays)

abbrev seen : ℕ → ℕ → Slave → List (ℕ × (ℕ × (ℕ × Area)))
seen t rank slave = member_areas t (record { rank = rank; slave = slave })

slave-shrinks : (t s n rank : ℕ) (f g : Area → Area) (slave : Slave) → StaysIn t f g → Shrinks (seen t rank (with_area s n f slave)) (seen t rank (with_area s n g slave))
slave-shrinks t s n rank f g slave stays = by (slave.station == s)
  where
    by : (here : Bool) → Shrinks (seen t rank (cond here (record slave { areas = changed_at n f slave.areas }) slave)) (seen t rank (cond here (record slave { areas = changed_at n g slave.areas }) slave))
    by true =
        mapped-shrink (λ (e : ℕ × Area). (slave.station, (rank, e))) (own t (enumerate_from 0 (changed_at n f slave.areas))) (own t (enumerate_from 0 (changed_at n g slave.areas)))
        (areas-shrink t 0 n f g slave.areas stays)
    by false = itself (seen t rank slave)

slaves-shrink : (t s n rank : ℕ) (f g : Area → Area) (slaves : List Slave) → StaysIn t f g
    → Shrinks (areas_in_task t (members_from rank (map (with_area s n f) slaves))) (areas_in_task t (members_from rank (map (with_area s n g) slaves)))
slaves-shrink t s n rank f g [] stays = itself []
slaves-shrink t s n rank f g (slave ∷ slaves) stays =
    both-shrink (seen t rank (with_area s n f slave)) (seen t rank (with_area s n g slave))
    (areas_in_task t (members_from (rank + 1) (map (with_area s n f) slaves))) (areas_in_task t (members_from (rank + 1) (map (with_area s n g) slaves)))
    (slave-shrinks t s n rank f g slave stays) (slaves-shrink t s n (rank + 1) f g slaves stays)

-- the line, if each declared group changes

abbrev of-group : ℕ → ℕ → Declared → List (ℕ × (ℕ × (ℕ × Area)))
of-group t rank declared = areas_in_task t (members_from rank (present_slaves declared))

line-shrinks : (t rank : ℕ) (f g : Declared → Declared) (groups : List Declared) → ((declared : Declared) → length (f declared).group.slaves ≡ length (g declared).group.slaves)
    → ((first : ℕ) (declared : Declared) → Shrinks (of-group t first (f declared)) (of-group t first (g declared)))
    → Shrinks (areas_in_task t (line_from rank (map f groups))) (areas_in_task t (line_from rank (map g groups)))
line-shrinks t rank f g [] alike each = itself []
line-shrinks t rank f g (declared ∷ groups) alike each =
    let a = members_from rank (present_slaves (f declared)) in
    let b = members_from rank (present_slaves (g declared)) in
    let c = line_from (rank + length (f declared).group.slaves) (map f groups) in
    let d = line_from (rank + length (g declared).group.slaves) (map g groups) in
    let later = line-shrinks t (rank + length (f declared).group.slaves) f g groups alike each in
    subst (λ (less : List (ℕ × (ℕ × (ℕ × Area)))). Shrinks less (areas_in_task t (b ++ d))) (sym (flat_map-append (member_areas t) a c))
    (subst (λ (more : List (ℕ × (ℕ × (ℕ × Area)))). Shrinks (areas_in_task t a ++ areas_in_task t c) more) (sym (flat_map-append (member_areas t) b d))
    (both-shrink (areas_in_task t a) (areas_in_task t b) (areas_in_task t c) (areas_in_task t d) (each rank declared)
    (subst (λ (n : ℕ). Shrinks (areas_in_task t c) (areas_in_task t (line_from (rank + n) (map g groups)))) (alike declared) later)))

-- a group that comes or goes

as-many : (alias : ℕ) (present : Bool) (declared : Declared) → length declared.group.slaves ≡ length (with_presence alias present declared).group.slaves
as-many alias present declared = by (declared.group.alias == alias)
  where
    by : (here : Bool) → length declared.group.slaves ≡ length (cond here (record declared { present = present }) declared).group.slaves
    by true = refl
    by false = refl

comes : (t alias first : ℕ) (declared : Declared) → Shrinks (of-group t first declared) (of-group t first (with_presence alias true declared))
comes t alias first declared = by (declared.group.alias == alias)
  where
    one : (present : Bool) → Shrinks (areas_in_task t (members_from first (cond present declared.group.slaves []))) (areas_in_task t (members_from first declared.group.slaves))
    one true = itself (areas_in_task t (members_from first declared.group.slaves))
    one false = nothing-of (areas_in_task t (members_from first declared.group.slaves))

    by : (here : Bool) → Shrinks (of-group t first declared) (of-group t first (cond here (record declared { present = true }) declared))
    by true = one declared.present
    by false = itself (of-group t first declared)

goes : (t alias first : ℕ) (declared : Declared) → Shrinks (of-group t first (with_presence alias false declared)) (of-group t first declared)
goes t alias first declared = by (declared.group.alias == alias)
  where
    by : (here : Bool) → Shrinks (of-group t first (cond here (record declared { present = false }) declared)) (of-group t first declared)
    by true = nothing-of (of-group t first declared)
    by false = itself (of-group t first declared)

-- an area of each group's slaves that changes

group-shrinks : (t s n first : ℕ) (f g : Area → Area) (declared : Declared) → StaysIn t f g → Shrinks (of-group t first (with_slaves (with_area s n f) declared)) (of-group t first (with_slaves (with_area s n g) declared))
group-shrinks t s n first f g declared stays = by declared.present
  where
    by : (present : Bool) → Shrinks (areas_in_task t (members_from first (cond present (map (with_area s n f) declared.group.slaves) []))) (areas_in_task t (members_from first (cond present (map (with_area s n g) declared.group.slaves) [])))
    by true = slaves-shrink t s n first f g declared.group.slaves stays
    by false = itself []

changes-many : (f g : Slave → Slave) (declared : Declared) → length (with_slaves f declared).group.slaves ≡ length (with_slaves g declared).group.slaves
changes-many f g declared = length-map declared.group.slaves f ∙ sym (length-map declared.group.slaves g)

-- a change that changes nothing

mapped-same : {X : Type 0} (f : X → X) → ((x : X) → f x ≡ x) → (xs : List X) → map f xs ≡ xs
mapped-same f same [] = refl
mapped-same {X} f same (x ∷ xs) = ap₂ (λ (y : X) (rest : List X). y ∷ rest) (same x) (mapped-same f same xs)

area-same : (n : ℕ) (areas : List Area) → changed_at n (λ area. area) areas ≡ areas
area-same n [] = refl
area-same zero (area ∷ areas) = refl
area-same (suc n) (area ∷ areas) = ap (λ (rest : List Area). area ∷ rest) (area-same n areas)

slave-same : (s n : ℕ) (slave : Slave) → with_area s n (λ area. area) slave ≡ slave
slave-same s n slave = by (slave.station == s)
  where
    by : (here : Bool) → cond here (record slave { areas = changed_at n (λ area. area) slave.areas }) slave ≡ slave
    by true = ap (λ (areas : List Area). record slave { areas = areas }) (area-same n slave.areas)
    by false = refl

groups-same : (s n : ℕ) (groups : List Declared) → map (with_slaves (with_area s n (λ area. area))) groups ≡ groups
groups-same s n = mapped-same (with_slaves (with_area s n (λ area. area))) (λ declared.
    ap (λ (slaves : List Slave). record declared { group = record declared.group { slaves = slaves } }) (mapped-same (with_area s n (λ area. area)) (slave-same s n) declared.group.slaves))

-- a moved area is in its new task alone

abbrev to_task : ℕ → Area → Area
to_task to area = record area { task = to }

moves-out : (t to : ℕ) → (to == t) ≡ false → StaysIn t (to_task to) (λ area. area)
moves-out t to other area inside = let never : true ≡ false = sym inside ∙ ap (λ (b : Bool). b && nat_lt 0 (width (to_task to area))) other in cc

moves-in : (t to : ℕ) → (to == t) ≡ true → StaysIn t (λ area. area) (to_task to)
moves-in t to here area inside =
    let own : area.task ≡ t = eqb-true area.task t (and_parts (area.task == t) (nat_lt 0 (width area)) inside).0 in
    let same : area ≡ to_task to area = ap (λ (task : ℕ). record area { task = task }) (own ∙ sym (eqb-true to t here)) in
    (sym (ap (is_in_task t) same) ∙ inside, same)

-- a task that has as many areas as before has the same

pub same-areas : (t : ℕ) (groups : List Declared) (edit : Edit) → remaps edit ≡ false → length (areas_in_task t (line_from 1 (groups_after groups edit))) ≡ length (areas_in_task t (line_from 1 groups))
    → areas_in_task t (line_from 1 (groups_after groups edit)) ≡ areas_in_task t (line_from 1 groups)
same-areas t groups (Connect alias) other many =
    let shrinks = line-shrinks t 1 (λ declared. declared) (with_presence alias true) groups (as-many alias true) (comes t alias) in
    let whole = subst (λ (l : List Declared). Shrinks (areas_in_task t (line_from 1 l)) (areas_in_task t (line_from 1 (map (with_presence alias true) groups)))) (map-id groups) shrinks in
    sym (whole.1 (sym many))
same-areas t groups (Disconnect alias) other many =
    let shrinks = line-shrinks t 1 (with_presence alias false) (λ declared. declared) groups (λ declared. sym (as-many alias false declared)) (goes t alias) in
    let whole = subst (λ (l : List Declared). Shrinks (areas_in_task t (line_from 1 (map (with_presence alias false) groups))) (areas_in_task t (line_from 1 l))) (map-id groups) shrinks in
    whole.1 many
same-areas t groups (Remap station area pdos) other many = cc
same-areas t groups (Move station n to) other many = by (to == t) refl
  where
    moved : List Declared
    moved = map (with_slaves (with_area station n (to_task to))) groups

    by : (here : Bool) → (to == t) ≡ here → areas_in_task t (line_from 1 moved) ≡ areas_in_task t (line_from 1 groups)
    by true here =
        let shrinks = line-shrinks t 1 (with_slaves (with_area station n (λ area. area))) (with_slaves (with_area station n (to_task to))) groups (changes-many (with_area station n (λ area. area)) (with_area station n (to_task to)))
        (λ first declared. group-shrinks t station n first (λ area. area) (to_task to) declared (moves-in t to here)) in
        let whole = subst (λ (l : List Declared). Shrinks (areas_in_task t (line_from 1 l)) (areas_in_task t (line_from 1 moved))) (groups-same station n groups) shrinks in
        sym (whole.1 (sym many))
    by false here =
        let shrinks = line-shrinks t 1 (with_slaves (with_area station n (to_task to))) (with_slaves (with_area station n (λ area. area))) groups (changes-many (with_area station n (to_task to)) (with_area station n (λ area. area)))
        (λ first declared. group-shrinks t station n first (to_task to) (λ area. area) declared (moves-out t to here)) in
        let whole = subst (λ (l : List Declared). Shrinks (areas_in_task t (line_from 1 moved)) (areas_in_task t (line_from 1 l))) (groups-same station n groups) shrinks in
        whole.1 many
same-areas t groups (Declare group) other many = ap (areas_in_task t) (line-absent 1 groups group)

-- a remapped area leaves each other task

abbrev IsOut : ℕ → ℕ → ℕ → (Area → Area) → Slave → Type 0
IsOut t s n change slave = slave.station ≡ s → (area : Area) → slice_get slave.areas n ≡ Some area → (is_in_task t area ≡ false) × (is_in_task t (change area) ≡ false)

areas-out : (t k n : ℕ) (change : Area → Area) (areas : List Area) → ((area : Area) → slice_get areas n ≡ Some area → (is_in_task t area ≡ false) × (is_in_task t (change area) ≡ false))
    → own t (enumerate_from k (changed_at n change areas)) ≡ own t (enumerate_from k areas)
areas-out t k n change [] out = refl
areas-out t k zero change (area ∷ areas) out =
    let both = out area refl in
    let rest = own t (enumerate_from (k + 1) areas) in
    ap (λ (b : Bool). cond b ((k, change area) ∷ rest) rest) both.1 ∙ sym (ap (λ (b : Bool). cond b ((k, area) ∷ rest) rest) both.0)
areas-out t k (suc n) change (area ∷ areas) out = ap (λ (rest : List (ℕ × Area)). cond (is_in_task t area) ((k, area) ∷ rest) rest) (areas-out t (k + 1) n change areas out)

slave-out : (t s n rank : ℕ) (change : Area → Area) (slave : Slave) → IsOut t s n change slave → seen t rank (with_area s n change slave) ≡ seen t rank slave
slave-out t s n rank change slave out = by (slave.station == s) refl
  where
    changed-slave : Slave
    changed-slave = record slave { areas = changed_at n change slave.areas }

    by : (here : Bool) → (slave.station == s) ≡ here → seen t rank (cond (slave.station == s) changed-slave slave) ≡ seen t rank slave
    by true here = ap (λ (b : Bool). seen t rank (cond b changed-slave slave)) here ∙ ap (map (λ (e : ℕ × Area). (slave.station, (rank, e)))) (areas-out t 0 n change slave.areas (out (eqb-true slave.station s here)))
    by false here = ap (λ (b : Bool). seen t rank (cond b changed-slave slave)) here

slaves-out : (t s n rank : ℕ) (change : Area → Area) (slaves : List Slave) → All (λ (m : Member). IsOut t s n change m.slave) (members_from rank slaves)
    → areas_in_task t (members_from rank (map (with_area s n change) slaves)) ≡ areas_in_task t (members_from rank slaves)
slaves-out t s n rank change [] out = refl
slaves-out t s n rank change (slave ∷ slaves) out =
    let member : Member = record { rank = rank; slave = slave } in
    ap₂ (λ (a b : List (ℕ × (ℕ × (ℕ × Area)))). a ++ b)
    (slave-out t s n rank change slave (All-head (λ (m : Member). IsOut t s n change m.slave) member (members_from (rank + 1) slaves) out))
    (slaves-out t s n (rank + 1) change slaves (All-tail (λ (m : Member). IsOut t s n change m.slave) member (members_from (rank + 1) slaves) out))

group-out : (t s n rank : ℕ) (change : Area → Area) (declared : Declared) → All (λ (m : Member). IsOut t s n change m.slave) (members_from rank (present_slaves declared))
    → of-group t rank (with_slaves (with_area s n change) declared) ≡ of-group t rank declared
group-out t s n rank change declared = by declared.present
  where
    by : (present : Bool) → All (λ (m : Member). IsOut t s n change m.slave) (members_from rank (cond present declared.group.slaves []))
        → areas_in_task t (members_from rank (cond present (map (with_area s n change) declared.group.slaves) [])) ≡ areas_in_task t (members_from rank (cond present declared.group.slaves []))
    by true out = slaves-out t s n rank change declared.group.slaves out
    by false out = refl

line-out : (t s n rank : ℕ) (change : Area → Area) (groups : List Declared) → All (λ (m : Member). IsOut t s n change m.slave) (line_from rank groups)
    → areas_in_task t (line_from rank (map (with_slaves (with_area s n change)) groups)) ≡ areas_in_task t (line_from rank groups)
line-out t s n rank change [] out = refl
line-out t s n rank change (declared ∷ groups) out =
    let here = members_from rank (present_slaves declared) in
    let later = line_from (rank + length declared.group.slaves) groups in
    let others = map (with_slaves (with_area s n change)) groups in
    flat_map-append (member_areas t) (members_from rank (present_slaves (with_slaves (with_area s n change) declared))) (line_from (rank + length (map (with_area s n change) declared.group.slaves)) others)
    ∙ ap₂ (λ (a b : List (ℕ × (ℕ × (ℕ × Area)))). a ++ b)
    (group-out t s n rank change declared (All-append_left (λ (m : Member). IsOut t s n change m.slave) here later out))
    (ap (λ (k : ℕ). areas_in_task t (line_from (rank + k) others)) (length-map declared.group.slaves (with_area s n change))
    ∙ line-out t s n (rank + length declared.group.slaves) change groups (All-append_right (λ (m : Member). IsOut t s n change m.slave) here later out))
    ∙ sym (flat_map-append (member_areas t) here later)

abbrev remapped : List ℕ → Area → Area
remapped pdos area = record area { assigned = pdos }

-- the area that is remapped
area-is : (state : State) (s n : ℕ) (m : Member) → lowest_fault (groups_of state.groups) ≡ None → Contains (line state) m → m.slave.station ≡ s → area_at state s n ≡ slice_get m.slave.areas n
area-is state s n m project inside at =
    ap (λ (station : ℕ). area_at state station n) (sym at) ∙ ap (option_and_then (λ (member : Member). slice_get member.slave.areas n)) (slave-found state m project inside)

stays-out : (state : State) (s n t : ℕ) (pdos : List ℕ) → lowest_fault (groups_of state.groups) ≡ None → ((area : Area) → area_at state s n ≡ Some area → (area.task == t) ≡ false)
    → areas_in_task t (line_from 1 (groups_after state.groups (Remap s n pdos))) ≡ areas_in_task t (line state)
stays-out state s n t pdos project out =
    line-out t s n 1 (remapped pdos) state.groups (All-weaker (Contains (line state)) (λ (m : Member). IsOut t s n (remapped pdos) m.slave) (λ m inside at area found.
    let other = out area (area-is state s n m project inside at ∙ found) in
    (ap (λ (b : Bool). b && nat_lt 0 (width area)) other, ap (λ (b : Bool). b && nat_lt 0 (width (remapped pdos area))) other)) (line state) (All-contains_itself (line state)))

-- the laws

not-true : (b : Bool) → not b ≡ false → b ≡ true
not-true true e = refl
not-true false e = cc

as-long : {X : Type 0} (same : X → X → Bool) (xs ys : List X) → same_lists same xs ys ≡ true → length xs ≡ length ys
as-long same [] [] e = refl
as-long same [] (y ∷ ys) e = cc
as-long same (x ∷ xs) [] e = cc
as-long same (x ∷ xs) (y ∷ ys) e = ap suc (as-long same xs ys (and_parts (same x y) (same_lists same xs ys) e).1)

module _ (history : History) (edit : Edit) (new : State) (project : lowest_fault (groups_of (state_of history).groups) ≡ None) (accepted : edited (state_of history) edit ≡ Ok new) where
  project' : lowest_fault (groups_of new.groups) ≡ None
  project' = accepted-project (state_of history) new edit project accepted

  after : state_of (Edited edit ∷ history) ≡ new
  after = after-is (state_of history) edit new accepted

  after-groups : new.groups ≡ groups_after (state_of history).groups edit
  after-groups = accepted-groups (state_of history) new edit accepted

  unchanged : (t : ℕ) → t < 8 → areas_in_task t (line_from 1 (groups_after (state_of history).groups edit)) ≡ areas_in_task t (line (state_of history)) → changes_task (state_of history) new t ≡ false
  unchanged t low same =
      ap (λ (state : State). changes_task (state_of history) state t) (sym after)
      ∙ others-change history edit t low project (subst (λ (state : State). lowest_fault (groups_of state.groups) ≡ None) (sym after) project')
      (ap (λ (state : State). areas_in_task t (line state)) after ∙ ap (λ (groups : List Declared). areas_in_task t (line_from 1 groups)) after-groups ∙ same)

  -- without a remap a task without a changed block is unchanged
  pub by-blocks : (t : ℕ) → t < 8 → remaps edit ≡ false → changes_blocks (state_of history) new t ≡ false → changes_task (state_of history) new t ≡ false
  by-blocks t low other stays =
      let old = state_of history in
      let long = as-long same_line_block (task_blocks old t) (task_blocks new t) (not-true (same_lists same_line_block (task_blocks old t) (task_blocks new t)) stays) in
      let before = blocks_counted old t project in
      let now = blocks_counted new t project' in
      let groups = ap (λ (g : List Declared). length (areas_in_task t (line_from 1 g))) after-groups in
      unchanged t low (same-areas t old.groups edit other (sym groups ∙ omega (arith, long, before, now)))

  -- the task of a remapped area
  pub remaps-task : (t : ℕ) → t < 8 → remaps edit ≡ true → changes_task (state_of history) new t ≡ true → (u : ℕ) → u < 8 → changes_task (state_of history) new u ≡ true → t ≡ u
  remaps-task = by edit refl
    where
      by : (asked : Edit) → edit ≡ asked → (t : ℕ) → t < 8 → remaps edit ≡ true → changes_task (state_of history) new t ≡ true → (u : ℕ) → u < 8 → changes_task (state_of history) new u ≡ true → t ≡ u
      by (Connect alias) is t low remap changed u low' changed' = let never : true ≡ false = sym remap ∙ ap remaps is in cc
      by (Disconnect alias) is t low remap changed u low' changed' = let never : true ≡ false = sym remap ∙ ap remaps is in cc
      by (Move s n to) is t low remap changed u low' changed' = let never : true ≡ false = sym remap ∙ ap remaps is in cc
      by (Declare group) is t low remap changed u low' changed' = let never : true ≡ false = sym remap ∙ ap remaps is in cc
      by (Remap s n pdos) is t low remap changed u low' changed' = choose (area_at (state_of history) s n) refl
        where
          never-out : (v : ℕ) → v < 8 → changes_task (state_of history) new v ≡ true → ((area : Area) → area_at (state_of history) s n ≡ Some area → (area.task == v) ≡ false) → ⊥
          never-out v small differs out =
              let same = ap (λ (e : Edit). areas_in_task v (line_from 1 (groups_after (state_of history).groups e))) is ∙ stays-out (state_of history) s n v pdos project out in
              let never : true ≡ false = sym differs ∙ unchanged v small same in cc

          its-task : (area : Area) → area_at (state_of history) s n ≡ Some area → (v : ℕ) → v < 8 → changes_task (state_of history) new v ≡ true → area.task ≡ v
          its-task area at v small differs = one (area.task == v) refl
            where
              one : (here : Bool) → (area.task == v) ≡ here → area.task ≡ v
              one true here = eqb-true area.task v here
              one false here = absurd (never-out v small differs (λ other found. ap (λ (a : Area). a.task == v) (same_Some other area (sym found ∙ at)) ∙ here))

          choose : (found : Option Area) → area_at (state_of history) s n ≡ found → t ≡ u
          choose None none = absurd (never-out t low changed (λ area found. let never : None ≡ Some area = sym none ∙ found in cc))
          choose (Some area) at = sym (its-task area at t low changed) ∙ its-task area at u low' changed'

  -- the tasks of the changed blocks are all changed tasks, unless there is none and the edit is a remap
  pub by-set : (blocks : TaskSet) → ((t : ℕ) → t < 8 → has_task t blocks ≡ changes_blocks (state_of history) new t) → (remaps edit ≡ false) ⊎ (((t : ℕ) → t < 8 → has_task t blocks ≡ false) → ⊥)
      → (t : ℕ) → t < 8 → has_task t blocks ≡ changes_task (state_of history) new t
  by-set blocks has which t low = both-ways (has_task t blocks) (changes_task (state_of history) new t) (changes t low) (back which)
    where
      changes : (u : ℕ) → u < 8 → has_task u blocks ≡ true → changes_task (state_of history) new u ≡ true
      changes u small is =
          or_right (not (same_task (task_table (line (state_of history)) u) (task_table (line new) u)) || moves_variable (table_of (line (state_of history))) (table_of (line new)) u) (changes_blocks (state_of history) new u)
          (sym (has u small) ∙ is)

      no-remap : remaps edit ≡ false → changes_task (state_of history) new t ≡ true → has_task t blocks ≡ true
      no-remap other changed = one (has_task t blocks) refl
        where
          one : (here : Bool) → has_task t blocks ≡ here → has_task t blocks ≡ true
          one true here = here
          one false here = let never : true ≡ false = sym changed ∙ by-blocks t low other (sym (has t low) ∙ here) in cc

      remap : remaps edit ≡ true → (((u : ℕ) → u < 8 → has_task u blocks ≡ false) → ⊥) → changes_task (state_of history) new t ≡ true → has_task t blocks ≡ true
      remap is some changed = one (has_task t blocks) refl
        where
          other : has_task t blocks ≡ false → (u : ℕ) → u < 8 → (there : Bool) → has_task u blocks ≡ there → has_task u blocks ≡ false
          other out u small true there =
              let same = remaps-task t low is changed u small (changes u small there) in
              let never : true ≡ false = sym there ∙ ap (λ (v : ℕ). has_task v blocks) (sym same) ∙ out in cc
          other out u small false there = there

          one : (here : Bool) → has_task t blocks ≡ here → has_task t blocks ≡ true
          one true here = here
          one false here = absurd (some (λ u small. other here u small (has_task u blocks) refl))

      back : (remaps edit ≡ false) ⊎ (((u : ℕ) → u < 8 → has_task u blocks ≡ false) → ⊥) → changes_task (state_of history) new t ≡ true → has_task t blocks ≡ true
      back (inl other) = no-remap other
      back (inr some) = by (remaps edit) refl
        where
          by : (is : Bool) → remaps edit ≡ is → changes_task (state_of history) new t ≡ true → has_task t blocks ≡ true
          by true is = remap is some
          by false is = no-remap is
