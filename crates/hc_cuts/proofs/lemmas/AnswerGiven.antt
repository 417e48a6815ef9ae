-- The width of a key in a task's list, given by the area of its slave; and its place, given by the areas of
-- all.
use Rattle.std.specs.Prelude.{filter, find, map, nat_lt, slice_get, slice_index_or, ◌&&◌}
use Rattle.std.specs.List.{enumerate_from, flat_map}
use Rattle.std.proofs.Common.{◌≡◌, ◌≢◌, ℕ, zero, suc, ◌+◌, ◌≤◌, ◌==◌, Bool, true, false, List, [], ◌∷◌, ◌++◌, length, refl, sym, ap, ◌∙◌, arith, if◌then◌else◌, append_assoc}
use Rattle.std.proofs.lemmas.Bool.Decides.{nat_tests}
use Rattle.std.proofs.lemmas.List.{map-append}
use Rattle.std.proofs.lemmas.List.Elements.{All-append, All-cons, All-nil}
use Rattle.std.proofs.lemmas.Grind.{flat_map-append}
use Rattle.hc_records.specs.declared.records.Dir.{Dir}
use Rattle.hc_records.specs.declared.records.Dir.TheVariants.{Out, In}
use Rattle.hc_records.specs.declared.records.Area.{Area}
use Rattle.hc_records.specs.declared.records.Slave.{Slave}
use Rattle.hc_records.specs.declared.records.Declared.{Declared}
use Rattle.hc_records.specs.declared.keys.Key.{Key}
use Rattle.hc_records.specs.Keys.{same_dir, same_key}
use Rattle.hc_records.specs.Area.{width}
use Rattle.hc_records.specs.Boundaries.{width_in}
use Rattle.hc_records.specs.Image.{task_places}
use Rattle.hc_records.specs.Line.{line_from, members_from, present_slaves}
use Rattle.hc_records.specs.TaskList.{Keyed, Listed, belongs, keyed, slave_areas, task_list}
use Rattle.hc_records.proofs.lemmas.KeyOrder.{same_key-refl}
use Rattle.hc_records.proofs.lemmas.Spans.{width-absent, width-here, width-skip}
use Rattle.hc_bitsum.proofs.lemmas.Lacking.{LacksKey, lacks-before, lacks-after_it}
use Rattle.hc_cuts.specs.Place.{place_of}
use Rattle.hc_cuts.specs.Areas.{area_list, areas_by_rank, list_by, own_width, present_areas, rank_list, width_at}

abbrev key_of : Dir → ℕ → ℕ → Key
key_of dir rank area = record { dir = dir; rank = rank; area = area }

-- a task's list is made of them

own-by : (own : Bool) (listed : Listed) (rest : List (ℕ × Area)) (dir : Dir) (rank : ℕ) (e : ℕ × Area) (areas : List Keyed)
    → map keyed (map (λ x. record { key = key_of dir rank x.0; area = x.1 }) rest) ≡ areas
    → map keyed (map (λ x. record { key = key_of dir rank x.0; area = x.1 }) (if own then e ∷ rest else rest))
    ≡ (if own then (key_of dir rank e.0, width e.1) ∷ areas else areas)
own-by own listed rest dir rank e areas same = grind arith

areas-listed : (task : ℕ) (dir : Dir) (rank index : ℕ) (areas : List Area)
    → map keyed (map (λ e. record { key = key_of dir rank e.0; area = e.1 }) (filter (λ e. belongs task dir e.1) (enumerate_from index areas)))
    ≡ area_list task dir rank index areas
areas-listed task dir rank index [] = refl
areas-listed task dir rank index (area ∷ areas) =
    grind (arith, own-by, areas-listed task dir rank (index + 1) areas)

members-listed : (task : ℕ) (dir : Dir) (rank : ℕ) (slaves : List Slave)
    → map keyed (flat_map (slave_areas task dir) (members_from rank slaves)) ≡ rank_list task dir rank (map (λ slave. slave.areas) slaves)
members-listed task dir rank [] = refl
members-listed task dir rank (slave ∷ slaves) =
    map-append keyed (slave_areas task dir (record { rank = rank; slave = slave })) (flat_map (slave_areas task dir) (members_from (rank + 1) slaves))
    ∙ ap (λ (xs : List Keyed). xs ++ map keyed (flat_map (slave_areas task dir) (members_from (rank + 1) slaves))) (areas-listed task dir rank 0 slave.areas)
    ∙ ap (λ (xs : List Keyed). area_list task dir rank 0 slave.areas ++ xs) (members-listed task dir (rank + 1) slaves)

absent-listed : (task : ℕ) (dir : Dir) (rank : ℕ) (slaves : List Slave) → [] ≡ rank_list task dir rank (map (λ slave. []) slaves)
absent-listed task dir rank [] = refl
absent-listed task dir rank (slave ∷ slaves) = absent-listed task dir (rank + 1) slaves

group-listed : (present : Bool) (task : ℕ) (dir : Dir) (rank : ℕ) (slaves : List Slave)
    → map keyed (flat_map (slave_areas task dir) (members_from rank (if present then slaves else [])))
    ≡ rank_list task dir rank (map (λ slave. if present then slave.areas else []) slaves)
group-listed true task dir rank slaves = members-listed task dir rank slaves
group-listed false task dir rank slaves = absent-listed task dir rank slaves

pub rank_list-append : (task : ℕ) (dir : Dir) (rank : ℕ) (xs ys : List (List Area))
    → rank_list task dir rank (xs ++ ys) ≡ rank_list task dir rank xs ++ rank_list task dir (rank + length xs) ys
rank_list-append task dir rank [] ys = ap (λ (n : ℕ). rank_list task dir n ys) (omega arith)
rank_list-append task dir rank (x ∷ xs) ys =
    grind (arith, append_assoc, rank_list-append task dir (rank + 1) xs ys)

pub length-present : (present : Bool) (slaves : List Slave) → length (map (λ slave. if present then slave.areas else []) slaves) ≡ length slaves
length-present present [] = refl
length-present present (slave ∷ slaves) = ap suc (length-present present slaves)

line-listed : (task : ℕ) (dir : Dir) (rank : ℕ) (groups : List Declared)
    → map keyed (flat_map (slave_areas task dir) (line_from rank groups)) ≡ rank_list task dir rank (areas_by_rank groups)
line-listed task dir rank [] = refl
line-listed task dir rank (declared ∷ groups) =
    let own = members_from rank (present_slaves declared) in
    let next = rank + length declared.group.slaves in
    let many = length-present declared.present declared.group.slaves in
    ap (map keyed) (flat_map-append (slave_areas task dir) own (line_from next groups))
    ∙ map-append keyed (flat_map (slave_areas task dir) own) (flat_map (slave_areas task dir) (line_from next groups))
    ∙ ap (λ (xs : List Keyed). xs ++ map keyed (flat_map (slave_areas task dir) (line_from next groups))) (group-listed declared.present task dir rank declared.group.slaves)
    ∙ ap (λ (xs : List Keyed). rank_list task dir rank (present_areas declared) ++ xs)
    (line-listed task dir next groups ∙ ap (λ (n : ℕ). rank_list task dir (rank + n) (areas_by_rank groups)) (sym many))
    ∙ sym (rank_list-append task dir rank (present_areas declared) (areas_by_rank groups))

pub task-listed : (task : ℕ) (groups : List Declared)
    → task_list task (line_from 1 groups) ≡ list_by task (areas_by_rank groups)
task-listed task groups = grind (arith, map-append, line-listed)

-- so it gives the places of a task's areas
pub place-answer_given : (groups : List Declared) (task : ℕ) (key : Key)
    → place_of key (list_by task (areas_by_rank groups)) ≡ find (λ placed. same_key placed.key key) (task_places task (line_from 1 groups))
place-answer_given groups task key = ap (place_of key) (sym (task-listed task groups))

-- keys that differ

other-area : (dir : Dir) (rank i j : ℕ) → i ≢ j → same_key (key_of dir rank i) (key_of dir rank j) ≡ false
other-area dir rank i j other = grind (arith, nat_tests)

other-rank : (dir : Dir) (r s i j : ℕ) → r ≢ s → same_key (key_of dir r i) (key_of dir s j) ≡ false
other-rank dir r s i j other = grind (arith, nat_tests)

lacks-by : (own : Bool) (area : Keyed) (areas : List Keyed) (key : Key) → same_key area.0 key ≡ false → LacksKey key areas → LacksKey key (if own then area ∷ areas else areas)
lacks-by own area areas key other lacks = grind (arith, All-cons)

area-lacks : (task : ℕ) (dir : Dir) (rank index : ℕ) (areas : List Area) (key : Key)
    → ((i : ℕ) → index ≤ i → same_key (key_of dir rank i) key ≡ false) → LacksKey key (area_list task dir rank index areas)
area-lacks task dir rank index [] key other = All-nil (λ a. same_key a.0 key ≡ false)
area-lacks task dir rank index (area ∷ areas) key other =
    grind (arith, lacks-by, area-lacks task dir rank (index + 1) areas key (λ i high. other i (omega arith)))

rank-lacks : (task : ℕ) (dir : Dir) (rank : ℕ) (slaves : List (List Area)) (key : Key)
    → ((r i : ℕ) → rank ≤ r → same_key (key_of dir r i) key ≡ false) → LacksKey key (rank_list task dir rank slaves)
rank-lacks task dir rank [] key other = All-nil (λ a. same_key a.0 key ≡ false)
rank-lacks task dir rank (areas ∷ slaves) key other =
    All-append (λ a. same_key a.0 key ≡ false) (area_list task dir rank 0 areas) (rank_list task dir (rank + 1) slaves)
    (area-lacks task dir rank 0 areas key (λ i high. other rank i (omega arith)))
    (rank-lacks task dir (rank + 1) slaves key (λ r i high. other r i (omega arith)))

-- the width of an area of a slave

no-bits : (bits : ℕ) → nat_lt 0 bits ≡ false → 0 ≡ bits
no-bits bits none = grind (arith, nat_tests)

here-by : (task' dir' wide : Bool) (bits : ℕ) (key : Key) (rest : List Keyed) → nat_lt 0 bits ≡ wide → LacksKey key rest
    → width_in (if task' && dir' && wide then (key, bits) ∷ rest else rest) key ≡ (if task' && dir' then bits else 0)
here-by task' dir' wide bits key rest test lacks =
    grind (arith, width-here, same_key-refl, width-absent, no-bits)

there-by : (own : Bool) (area : Keyed) (rest : List Keyed) (key : Key) → same_key area.0 key ≡ false → width_in (if own then area ∷ rest else rest) key ≡ width_in rest key
there-by own area rest key other = grind (arith, width-skip)

area-answer_given : (task : ℕ) (dir : Dir) (rank index at : ℕ) (areas : List Area)
    → width_in (area_list task dir rank index areas) (key_of dir rank (index + at)) ≡ own_width task dir (slice_get areas at)
area-answer_given task dir rank index at [] = refl
area-answer_given task dir rank index zero (area ∷ areas) =
    let here : index + 0 ≡ index = omega arith in
    rw here (here-by (area.task == task) (same_dir area.dir dir) (nat_lt 0 (width area)) (width area) (key_of dir rank index) (area_list task dir rank (index + 1) areas) refl
    (area-lacks task dir rank (index + 1) areas (key_of dir rank index) (λ i high. other-area dir rank i index (omega arith))))
area-answer_given task dir rank index (suc at) (area ∷ areas) =
    grind (arith, there-by, other-area, area-answer_given task dir rank (index + 1) at areas)

-- and of slaves in a row
rank-answer_given : (task : ℕ) (dir : Dir) (rank at area : ℕ) (slaves : List (List Area))
    → width_in (rank_list task dir rank slaves) (key_of dir (rank + at) area) ≡ own_width task dir (slice_get (slice_index_or slaves at []) area)
rank-answer_given task dir rank at area [] = refl
rank-answer_given task dir rank zero area (areas ∷ slaves) =
    let here : rank + 0 ≡ rank = omega arith in
    let own : area ≡ 0 + area = omega arith in
    rw here (lacks-after_it (area_list task dir rank 0 areas) (rank_list task dir (rank + 1) slaves) (key_of dir rank area)
    (rank-lacks task dir (rank + 1) slaves (key_of dir rank area) (λ r i high. other-rank dir r rank i area (omega arith)))
    ∙ ap (λ (n : ℕ). width_in (area_list task dir rank 0 areas) (key_of dir rank n)) own
    ∙ area-answer_given task dir rank 0 area areas)
rank-answer_given task dir rank (suc at) area (areas ∷ slaves) =
    grind (arith, lacks-before, area-lacks, other-rank, rank-answer_given task dir (rank + 1) at area slaves)

direction-answer_given : (task : ℕ) (dir : Dir) (rank area : ℕ) (slaves : List (List Area))
    → width_in (rank_list task dir 1 slaves) (key_of dir rank area) ≡ width_at task slaves (key_of dir rank area)
direction-answer_given task dir zero area slaves =
    width-absent (rank_list task dir 1 slaves) (key_of dir 0 area)
    (rank-lacks task dir 1 slaves (key_of dir 0 area) (λ r i high. other-rank dir r 0 i area (omega arith)))
direction-answer_given task dir (suc rank) area slaves =
    let first : suc rank ≡ 1 + rank = omega arith in
    ap (λ (n : ℕ). width_in (rank_list task dir 1 slaves) (key_of dir n area)) first ∙ rank-answer_given task dir 1 rank area slaves

both-answer_given : (task : ℕ) (dir : Dir) (rank area : ℕ) (slaves : List (List Area))
    → width_in (rank_list task Out 1 slaves ++ rank_list task In 1 slaves) (key_of dir rank area) ≡ width_at task slaves (key_of dir rank area)
both-answer_given task Out rank area slaves =
    lacks-after_it (rank_list task Out 1 slaves) (rank_list task In 1 slaves) (key_of Out rank area)
    (rank-lacks task In 1 slaves (key_of Out rank area) (λ r i high. refl))
    ∙ direction-answer_given task Out rank area slaves
both-answer_given task In rank area slaves =
    lacks-before (rank_list task Out 1 slaves) (rank_list task In 1 slaves) (key_of In rank area)
    (rank-lacks task Out 1 slaves (key_of In rank area) (λ r i high. refl))
    ∙ direction-answer_given task In rank area slaves

pub width-answer_given : (groups : List Declared) (task : ℕ) (key : Key) → width_in (task_list task (line_from 1 groups)) key ≡ width_at task (areas_by_rank groups) key
width-answer_given groups task key =
    ap (λ (list : List Keyed). width_in list key) (task-listed task groups) ∙ both-answer_given task key.dir key.rank key.area (areas_by_rank groups)

-- the width of a key in the list that slaves' areas make
pub width-by : (slaves : List (List Area)) (task : ℕ) (key : Key) → width_in (list_by task slaves) key ≡ width_at task slaves key
width-by slaves task key = both-answer_given task key.dir key.rank key.area slaves
