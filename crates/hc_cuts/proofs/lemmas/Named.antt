-- The key of an area of a task names it among the areas of the slaves.
use Rattle.std.specs.Prelude.{All, Some, map, slice_get, slice_index_or}
use Rattle.std.specs.List.{enumerate_from, flat_map}
use Rattle.std.proofs.Common.{◌≡◌, ℕ, suc, ◌+◌, Bool, true, false, List, [], ◌∷◌, ◌++◌, length, refl, ap, subst, ◌∙◌, arith, if◌then◌else◌, append_assoc, length-append}
use Rattle.std.proofs.lemmas.List.Elements.{All-append, All-cons, All-nil, All-weaker}
use Rattle.hc_records.specs.declared.records.Dir.{Dir}
use Rattle.hc_records.specs.declared.records.Dir.TheVariants.{Out, In}
use Rattle.hc_records.specs.declared.records.Area.{Area}
use Rattle.hc_records.specs.declared.records.Slave.{Slave}
use Rattle.hc_records.specs.declared.records.Declared.{Declared}
use Rattle.hc_records.specs.Line.{Member, line_from, members_from, present_slaves}
use Rattle.hc_records.specs.TaskList.{Listed, belongs, slave_areas, task_areas}
use Rattle.hc_records.proofs.lemmas.Lists.{All-flat_map}
use Rattle.hc_records.proofs.lemmas.Tasks.{listed, slave-areas-all}
use Rattle.hc_cuts.specs.Areas.{area_in, areas_of_rank, areas_by_rank, present_areas}
use Rattle.hc_cuts.proofs.lemmas.AnswerGiven.{length-present}

-- the areas of a slave are at its rank
abbrev IsPlacedAt : List (List Area) → Member → Type 0
IsPlacedAt slaves member = areas_of_rank slaves member.rank ≡ member.slave.areas

at-front : (before after_it : List (List Area)) (areas : List Area) → slice_index_or (before ++ areas ∷ after_it) (length before) [] ≡ areas
at-front [] after_it areas = refl
at-front (x ∷ before) after_it areas = at-front before after_it areas

length-one : (before : List (List Area)) (areas : List Area) → length (before ++ areas ∷ []) ≡ length before + 1
length-one before areas = length-append before (areas ∷ [])

members-are_placed : (before after_it : List (List Area)) (slaves : List Slave)
    → All (IsPlacedAt (before ++ (map (λ slave. slave.areas) slaves ++ after_it))) (members_from (suc (length before)) slaves)
members-are_placed before after_it [] = All-nil (IsPlacedAt (before ++ after_it))
members-are_placed before after_it (slave ∷ slaves) =
    let rest = map (λ s. s.areas) slaves ++ after_it in
    let whole = before ++ slave.areas ∷ rest in
    let longer = before ++ slave.areas ∷ [] in
    let same : longer ++ rest ≡ whole = append_assoc before (slave.areas ∷ []) rest in
    let rank : suc (length longer) ≡ suc (length before) + 1 = (let long = length-one before slave.areas in omega arith) in
    All-cons (IsPlacedAt whole) (record { rank = suc (length before); slave = slave }) (members_from (suc (length before) + 1) slaves) (at-front before rest slave.areas)
    (subst (λ (n : ℕ). All (IsPlacedAt whole) (members_from n slaves)) rank
    (subst (λ (all : List (List Area)). All (IsPlacedAt all) (members_from (suc (length longer)) slaves)) same (members-are_placed longer after_it slaves)))

group-is_placed : (present : Bool) (before after_it : List (List Area)) (slaves : List Slave)
    → All (IsPlacedAt (before ++ (map (λ slave. if present then slave.areas else []) slaves ++ after_it))) (members_from (suc (length before)) (if present then slaves else []))
group-is_placed true before after_it slaves = members-are_placed before after_it slaves
group-is_placed false before after_it slaves = All-nil (IsPlacedAt (before ++ (map (λ slave. []) slaves ++ after_it)))

line-is_placed : (before : List (List Area)) (groups : List Declared) → All (IsPlacedAt (before ++ areas_by_rank groups)) (line_from (suc (length before)) groups)
line-is_placed before [] = All-nil (IsPlacedAt (before ++ []))
line-is_placed before (declared ∷ groups) =
    let slaves = declared.group.slaves in
    let own = present_areas declared in
    let rest = areas_by_rank groups in
    let whole = before ++ (own ++ rest) in
    let longer = before ++ own in
    let same : longer ++ rest ≡ whole = append_assoc before own rest in
    let rank : suc (length longer) ≡ suc (length before) + length slaves =
    (let both = length-append before own in let many = length-present declared.present slaves in omega arith) in
    All-append (IsPlacedAt whole) (members_from (suc (length before)) (present_slaves declared)) (line_from (suc (length before) + length slaves) groups)
    (group-is_placed declared.present before rest slaves)
    (subst (λ (n : ℕ). All (IsPlacedAt whole) (line_from n groups)) rank
    (subst (λ (all : List (List Area)). All (IsPlacedAt all) (line_from (suc (length longer)) groups)) same (line-is_placed longer groups)))

-- an area is at its place in the record
get-front : (before after_it : List Area) (area : Area) → slice_get (before ++ area ∷ after_it) (length before) ≡ Some area
get-front [] after_it area = refl
get-front (x ∷ before) after_it area = get-front before after_it area

areas-are_placed : (before areas : List Area) → All (λ e. slice_get (before ++ areas) e.0 ≡ Some e.1) (enumerate_from (length before) areas)
areas-are_placed before [] = All-nil (λ e. slice_get (before ++ []) e.0 ≡ Some e.1)
areas-are_placed before (area ∷ areas) =
    let whole = before ++ area ∷ areas in
    let longer = before ++ area ∷ [] in
    let same : longer ++ areas ≡ whole = append_assoc before (area ∷ []) areas in
    let next : length longer ≡ length before + 1 = length-append before (area ∷ []) in
    All-cons (λ (e : ℕ × Area). slice_get whole e.0 ≡ Some e.1) (length before, area) (enumerate_from (length before + 1) areas) (get-front before areas area)
    (subst (λ (n : ℕ). All (λ (e : ℕ × Area). slice_get whole e.0 ≡ Some e.1) (enumerate_from n areas)) next
    (subst (λ (all : List Area). All (λ (e : ℕ × Area). slice_get all e.0 ≡ Some e.1) (enumerate_from (length longer) areas)) same (areas-are_placed longer areas)))

-- so a key names its area
abbrev pub NamesIn : List (List Area) → Listed → Type 0
NamesIn slaves found = area_in slaves found.key ≡ Some found.area

member-names : (slaves : List (List Area)) (task : ℕ) (dir : Dir) (member : Member) → IsPlacedAt slaves member → All (NamesIn slaves) (slave_areas task dir member)
member-names slaves task dir member is_placed =
    slave-areas-all (NamesIn slaves) task dir member
    (All-weaker (λ (e : ℕ × Area). slice_get member.slave.areas e.0 ≡ Some e.1) (λ e. belongs task dir e.1 ≡ true → NamesIn slaves (listed dir member.rank e))
    (λ e there own. ap (λ (areas : List Area). slice_get areas e.0) is_placed ∙ there) (enumerate_from 0 member.slave.areas) (areas-are_placed [] member.slave.areas))

direction-names : (slaves : List (List Area)) (task : ℕ) (dir : Dir) (line : List Member) → All (IsPlacedAt slaves) line → All (NamesIn slaves) (flat_map (slave_areas task dir) line)
direction-names slaves task dir line are_placed =
    All-flat_map (NamesIn slaves) (slave_areas task dir) line
    (All-weaker (IsPlacedAt slaves) (λ member. All (NamesIn slaves) (slave_areas task dir member)) (λ member. member-names slaves task dir member) line are_placed)

pub keys-name : (groups : List Declared) (task : ℕ) → All (λ found. area_in (areas_by_rank groups) found.key ≡ Some found.area) (task_areas task (line_from 1 groups))
keys-name groups task =
    let line = line_from 1 groups in
    let slaves = areas_by_rank groups in
    let are_placed : All (IsPlacedAt slaves) line = line-is_placed [] groups in
    All-append (NamesIn slaves) (flat_map (slave_areas task Out) line) (flat_map (slave_areas task In) line)
    (direction-names slaves task Out line are_placed) (direction-names slaves task In line are_placed)
