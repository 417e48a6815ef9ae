-- Lines of a project whose tasks carry the same areas are configured alike, and so are they before and after a move of an area without bits.
use Rattle.std.proofs.Common.{◌≡◌, ◌∙◌, ◌==◌, ℕ, zero, suc, ◌+◌, ◌<◌, Bool, true, false, List, [], ◌∷◌, ◌++◌, length, length-append, map, Option, Some, None, refl, sym, ap, subst, arith, rules, if◌then◌else◌}
use Rattle.std.specs.Prelude.{All, ◌≢◌, filter, find, nat_lt, slice_index_or, sum_by}
use Rattle.std.specs.List.{enumerate_from, flat_map, zip}
use Rattle.std.proofs.lemmas.Bool.{eqb-true}
use Rattle.std.proofs.lemmas.List.{length-map}
use Rattle.std.proofs.lemmas.List.Sums.{sum_by-cons}
use Rattle.std.proofs.lemmas.List.Elements.{Contains-get_or}
use Rattle.std.proofs.lemmas.Option.{same_Some}
use Rattle.hc_records.specs.declared.keys.TheConstants.Key.{START}
use Rattle.hc_records.specs.declared.limits.TheConstants.{MOST_DATAGRAMS}
use Rattle.hc_records.specs.declared.records.Area.{Area}
use Rattle.hc_records.specs.declared.records.Declared.{Declared}
use Rattle.hc_records.specs.declared.records.Slave.{Slave}
use Rattle.hc_records.specs.Area.{width}
use Rattle.hc_records.specs.Boundaries.{is_touched_task, later_keys, touched, unsettled_spans}
use Rattle.hc_records.specs.declared.edit.Edit.{Edit}
use Rattle.hc_records.specs.declared.edit.Edit.TheVariants.{Connect, Disconnect, Remap, Move, Declare}
use Rattle.hc_records.specs.Edits.{groups_after, over_limit_task, with_area, with_slaves}
use Rattle.hc_groups.specs.declared.prepared.Prepared.{Prepared}
use Rattle.hc_groups.specs.Changes.{changed_groups}
use Rattle.hc_records.specs.Image.{area_variables, datagram_count, task_places, task_variables, tasks}
use Rattle.hc_records.specs.Line.{Member, groups_of, is_at, line_from}
use Rattle.hc_records.specs.Lists.{changed_at}
use Rattle.hc_records.specs.Packing.{Placed, empty_front, packed}
use Rattle.hc_records.specs.Project.{lowest_fault}
use Rattle.hc_records.specs.TaskList.{Keyed, Listed, keyed, task_areas, task_list}
use Rattle.hc_records.proofs.lemmas.Lists.{All-unmap, AllPairs-from_once, AllPairs-unmap, AllPairs-weaker}
use Rattle.hc_records.proofs.lemmas.Declaring.{same-recut}
use Rattle.hc_records.proofs.lemmas.Stations.{project-distinct}
use Rattle.hc_registers.specs.declared.fmmu.Mapping.{Mapping}
use Rattle.hc_registers.specs.Blocks.{RegisterBlock, fmmu_block, line_blocks, member_blocks, numbered, slave_blocks, sync_manager_block}
use Rattle.hc_places.specs.Layout.{layout_of, placed_in}
use Rattle.hc_places.specs.Table.{TaskTable, VariableRow, by_number, task_table}
use Rattle.hc_places.proofs.lemmas.Lines.{same-table}
use Rattle.hc_cuts.specs.Areas.{AreaLine, areas_by_rank, list_by, present_areas}
use Rattle.hc_cuts.specs.Starts.{TaskCuts}
use Rattle.hc_cuts.specs.TaskCuts.{both_task_cuts, task_cuts_from}
use Rattle.hc_cuts.proofs.lemmas.AnswerGiven.{task-listed}
use Rattle.hc_changes.proofs.lemmas.Compared.{flat_map-among}
use Rattle.hc_changes.proofs.lemmas.Lists.{find-only}
use Rattle.hc_plan.specs.inner.Blocks.{IsLayoutOf, IsMappedSlave, IsWritable, area_blocks_in, mapping_by, mapping_in, slave_blocks_in}
use Rattle.hc_plan.specs.inner.Prepared.{AreConfiguredAlike, HasNoBits, MovesNoBits}
use Rattle.hc_plan.proofs.NoBits.{HaveNoBits, areas-same, flat-on, line-on, on_slave, to_task}
use Rattle.hc_plan.proofs.LineBlocks.{layout-slaves, slave_blocks-line}
use Rattle.hc_plan.proofs.Numbered.{numbered-get}

-- what is the same at each task is so over all

map-same : {X : Type 0} (f g : ℕ → X) → ((task : ℕ) → f task ≡ g task) → (list : List ℕ) → map f list ≡ map g list
map-same f g same [] = refl
map-same {X} f g same (task ∷ list) = ap (λ (x : X). x ∷ map f list) (same task) ∙ ap (λ (rest : List X). g task ∷ rest) (map-same f g same list)

joined-same : {X : Type 0} (f g : ℕ → List X) → ((task : ℕ) → f task ≡ g task) → (list : List ℕ) → flat_map f list ≡ flat_map g list
joined-same f g same [] = refl
joined-same {X} f g same (task ∷ list) = ap (λ (x : List X). x ++ flat_map f list) (same task) ∙ ap (λ (rest : List X). g task ++ rest) (joined-same f g same list)

find-same : (p q : ℕ → Bool) → ((task : ℕ) → p task ≡ q task) → (list : List ℕ) → find p list ≡ find q list
find-same p q same [] = refl
find-same p q same (task ∷ list) =
    ap (λ (b : Bool). if b then Some task else find p list) (same task) ∙ ap (λ (o : Option ℕ). if q task then Some task else o) (find-same p q same list)

filter-same : (p q : ℕ → Bool) → ((task : ℕ) → p task ≡ q task) → (list : List ℕ) → filter p list ≡ filter q list
filter-same p q same [] = refl
filter-same p q same (task ∷ list) =
    ap (λ (b : Bool). if b then task ∷ filter p list else filter p list) (same task)
    ∙ ap (λ (o : List ℕ). if q task then task ∷ o else o) (filter-same p q same list)

sum-same : (f g : ℕ → ℕ) → ((task : ℕ) → f task ≡ g task) → (list : List ℕ) → sum_by f list ≡ sum_by g list
sum-same f g same [] = refl
sum-same f g same (task ∷ list) = search (rules, sum_by-cons, sum-same f g same list)

-- the cuts by the lists of the tasks

cuts-same : (count task : ℕ) (a b : AreaLine) → length a ≡ length b → ((t : ℕ) → list_by t a ≡ list_by t b) → task_cuts_from count task a ≡ task_cuts_from count task b
cuts-same zero task a b many lists = refl
cuts-same (suc count) task a b many lists =
    let rest = task_cuts_from count (task + 1) a in
    ap (λ (n : ℕ). record { tree = record { slaves = n; list = list_by task a }; starts = START ∷ later_keys (list_by task a) } ∷ rest) many
    ∙ ap (λ (list : List Keyed). record { tree = record { slaves = length b; list = list }; starts = START ∷ later_keys list } ∷ rest) (lists task)
    ∙ ap (λ (others : List TaskCuts). both_task_cuts task b ∷ others) (cuts-same count (task + 1) a b many lists)

ranks-same : (change : Slave → Slave) (groups : List Declared) → length (areas_by_rank (map (with_slaves change) groups)) ≡ length (areas_by_rank groups)
ranks-same change [] = refl
ranks-same change (declared ∷ groups) =
    let own = λ (slave : Slave). if declared.present then slave.areas else [] in
    let slaves = declared.group.slaves in
    let rest = ranks-same change groups in
    let new = length-append (present_areas (with_slaves change declared)) (areas_by_rank (map (with_slaves change) groups)) in
    let old = length-append (present_areas declared) (areas_by_rank groups) in
    let changed = length-map (map change slaves) own in
    let many = length-map slaves change in
    let were = length-map slaves own in
    omega (arith, rest, new, old, changed, many, were)

-- the slaves of a station address have no bits at an index if the first one has none, since no other has the address

found-bitless : (groups : List Declared) (station index : ℕ) (member : Member) → lowest_fault (groups_of groups) ≡ None → find (is_at station) (line_from 1 groups) ≡ Some member
    → HasNoBits index member.slave.areas → HaveNoBits station index (line_from 1 groups)
found-bitless groups station index member project found none k d inside here =
    let line = line_from 1 groups in
    let other = slice_index_or line k d in
    let apart = AllPairs-unmap (λ x y. x ≢ y) (λ (m : Member). m.slave.station) line (AllPairs-from_once (map (λ (m : Member). m.slave.station) line) (project-distinct groups project)) in
    let once = AllPairs-weaker (λ (a b : Member). a.slave.station ≢ b.slave.station) (λ a b. is_at station a ≡ true → is_at station b ≡ true → ⊥)
    (λ a b differ one two. differ (eqb-true a.slave.station station one ∙ sym (eqb-true b.slave.station station two))) line apart in
    let only = find-only (is_at station) line other once (Contains-get_or line k d inside) here in
    subst (λ (m : Member). HasNoBits index m.slave.areas) (same_Some member other (sym found ∙ only)) none

-- an area without bits isn't mapped, so its blocks don't tell its task

abbrev mapped_if : ℕ → Option Mapping → Option Mapping
mapped_if zero mapping = None
mapped_if (suc bits) mapping = mapping

mapped-by : (bits : ℕ) (found : Option Mapping) → ((mapping : Mapping) → found ≡ Some mapping → 0 < bits) → found ≡ mapped_if bits found
mapped-by zero None some = refl
mapped-by zero (Some mapping) some = let low = some mapping refl in absurd (omega (arith, low))
mapped-by (suc bits) found some = refl

abbrev blocks_if : List (List Placed) → ℕ → ℕ × Area → List RegisterBlock
blocks_if layout rank e = sync_manager_block e.1 ∷ fmmu_block e.0 e.1 (mapped_if (width e.1) (mapping_in layout rank e.0 e.1)) ∷ []

wide-mapped : (index : ℕ) (area : Area) (place : Option Placed) → IsWritable index area place → (mapping : Mapping) → mapping_by area place ≡ Some mapping → 0 < width area
wide-mapped index area None own mapping is = cc
wide-mapped index area (Some placed) own mapping is = let some = own.some placed refl in let bits = own.bits in omega (arith, some, bits)

by-bits : (layout : List (List Placed)) (member : Member) → IsMappedSlave layout member
    → slave_blocks_in layout member ≡ flat_map (blocks_if layout member.rank) (enumerate_from 0 member.slave.areas)
by-bits layout member mapped =
    let areas = member.slave.areas in
    flat_map-among (area_blocks_in layout member.rank) (blocks_if layout member.rank) (enumerate_from 0 areas)
    (λ k d inside.
    let e = slice_index_or (enumerate_from 0 areas) k d in
    let own = mapped.areas e.0 e.1 (numbered-get areas k d inside) in
    ap (λ (m : Option Mapping). sync_manager_block e.1 ∷ fmmu_block e.0 e.1 m ∷ [])
    (mapped-by (width e.1) (mapping_in layout member.rank e.0 e.1) (wide-mapped e.0 e.1 (placed_in layout e.1.task (record { dir = e.1.dir; rank = member.rank; area = e.0 })) own)))

area-by : (layout : List (List Placed)) (rank n to : ℕ) (area : Area) → width area ≡ 0 → blocks_if layout rank (n, to_task to area) ≡ blocks_if layout rank (n, area)
area-by layout rank n to area none =
    ap (λ (bits : ℕ). sync_manager_block area ∷ fmmu_block n (to_task to area) (mapped_if bits (mapping_in layout rank n (to_task to area))) ∷ []) none
    ∙ sym (ap (λ (bits : ℕ). sync_manager_block area ∷ fmmu_block n area (mapped_if bits (mapping_in layout rank n area)) ∷ []) none)

areas-by : (layout : List (List Placed)) (rank to index first : ℕ) (areas : List Area) → HasNoBits index areas
    → flat_map (blocks_if layout rank) (enumerate_from first (changed_at index (to_task to) areas)) ≡ flat_map (blocks_if layout rank) (enumerate_from first areas)
areas-by layout rank to index first [] none = refl
areas-by layout rank to zero first (area ∷ areas) none =
    ap (λ (own : List RegisterBlock). own ++ flat_map (blocks_if layout rank) (enumerate_from (first + 1) areas)) (area-by layout rank first to area (none area refl))
areas-by layout rank to (suc index) first (area ∷ areas) none =
    ap (λ (rest : List RegisterBlock). blocks_if layout rank (first, area) ++ rest) (areas-by layout rank to index (first + 1) areas none)

slave-by : (here : Bool) (layout : List (List Placed)) (rank to index : ℕ) (slave : Slave) → (here ≡ true → HasNoBits index slave.areas)
    → flat_map (blocks_if layout rank) (enumerate_from 0 (if here then record slave { areas = changed_at index (to_task to) slave.areas } else slave).areas)
    ≡ flat_map (blocks_if layout rank) (enumerate_from 0 slave.areas)
slave-by true layout rank to index slave none = areas-by layout rank to index 0 slave.areas (none refl)
slave-by false layout rank to index slave none = refl

station-by : (here : Bool) (slave : Slave) (areas : List Area) → (if here then record slave { areas = areas } else slave).station ≡ slave.station
station-by true slave areas = refl
station-by false slave areas = refl

-- what leads from the blocks of one line to those of the other
record AreMapped (old new : List Declared) (layout : List (List Placed)) (change : Slave → Slave) : Type 0 where
  was : IsLayoutOf old layout
  is : IsLayoutOf new layout
  line : line_from 1 new ≡ map (on_slave change) (line_from 1 old)

member-same : (old new : List Declared) (layout : List (List Placed)) (station index to : ℕ) (member : Member) → AreMapped old new layout (with_area station index (to_task to))
    → IsMappedSlave layout member → IsMappedSlave layout (on_slave (with_area station index (to_task to)) member)
    → ((member.slave.station == station) ≡ true → HasNoBits index member.slave.areas)
    → member_blocks (line_from 1 new) (on_slave (with_area station index (to_task to)) member) ≡ member_blocks (line_from 1 old) member
member-same old new layout station index to member both mapped mapped' none =
    let here = member.slave.station == station in
    let moved = on_slave (with_area station index (to_task to)) member in
    let blocks : slave_blocks (line_from 1 new) moved ≡ slave_blocks (line_from 1 old) member =
    sym (slave_blocks-line new layout moved both.is mapped') ∙ by-bits layout moved mapped' ∙ slave-by here layout member.rank to index member.slave none
    ∙ sym (by-bits layout member mapped) ∙ slave_blocks-line old layout member both.was mapped in
    ap (λ (n : ℕ). numbered n 0 (slave_blocks (line_from 1 new) moved)) (station-by here member.slave (changed_at index (to_task to) member.slave.areas))
    ∙ ap (numbered member.slave.station 0) blocks

blocks-same : (old new : List Declared) (layout : List (List Placed)) (station index to : ℕ) → AreMapped old new layout (with_area station index (to_task to))
    → HaveNoBits station index (line_from 1 old) → line_blocks (line_from 1 new) ≡ line_blocks (line_from 1 old)
blocks-same old new layout station index to both none =
    let change = with_area station index (to_task to) in
    let mapped = layout-slaves old layout both.was in
    let moved = All-unmap (IsMappedSlave layout) (on_slave change) (line_from 1 old) (subst (All (IsMappedSlave layout)) both.line (layout-slaves new layout both.is)) in
    ap (flat_map (member_blocks (line_from 1 new))) both.line
    ∙ flat-on (member_blocks (line_from 1 new)) (member_blocks (line_from 1 old)) change (line_from 1 old)
    (λ k d inside. member-same old new layout station index to (slice_index_or (line_from 1 old) k d) both (mapped k d inside) (moved k d inside) (none k d inside))

-- nothing of the configuration differs
pub moved-alike : (groups : List Declared) (station index to : ℕ) (member : Member) → lowest_fault (groups_of groups) ≡ None → over_limit_task (line_from 1 groups) ≡ None
    → lowest_fault (groups_of (map (with_slaves (with_area station index (to_task to))) groups)) ≡ None
    → find (is_at station) (line_from 1 groups) ≡ Some member → HasNoBits index member.slave.areas
    → AreConfiguredAlike groups (map (with_slaves (with_area station index (to_task to))) groups)
moved-alike groups station index to member project uncrowded project' found bare =
    let change = with_area station index (to_task to) in
    let moved = map (with_slaves change) groups in
    let old = line_from 1 groups in
    let new = line_from 1 moved in
    let line = line-on change 1 groups in
    let none = found-bitless groups station index member project found bare in
    let areas : (task : ℕ) → task_areas task new ≡ task_areas task old = λ task. ap (task_areas task) line ∙ areas-same task station index to old none in
    let lists : (task : ℕ) → task_list task new ≡ task_list task old = λ task. ap (map keyed) (areas task) in
    let tables = map-same (task_table new) (task_table old) (λ task. same-table moved groups task project' project (lists task)) tasks in
    let rows = joined-same (task_variables new) (task_variables old)
    (λ task. ap (λ (listed : List Listed). flat_map (area_variables task) (zip listed (packed empty_front (map keyed listed)))) (areas task)) tasks in
    let crowds = find-same (λ task. nat_lt MOST_DATAGRAMS (datagram_count (task_places task new))) (λ task. nat_lt MOST_DATAGRAMS (datagram_count (task_places task old)))
    (λ task. ap (λ (list : List Keyed). nat_lt MOST_DATAGRAMS (datagram_count (packed empty_front list))) (lists task)) tasks in
    let spans = λ (task : ℕ). unsettled_spans (task_list task old) (task_list task new) in
    let recut_none = ap (sum_by spans) (filter-same (is_touched_task old new) (is_touched_task old old)
    (λ task. ap (λ (list : List Keyed). nat_lt 0 (length (touched (task_list task old) list))) (lists task)) tasks)
    ∙ sum-same spans (λ task. unsettled_spans (task_list task old) (task_list task old)) (λ task. ap (unsettled_spans (task_list task old)) (lists task)) (filter (is_touched_task old old) tasks)
    ∙ same-recut old in
    let layout = map-same (λ task. task_places task new) (λ task. task_places task old) (λ task. ap (packed empty_front) (lists task)) tasks in
    record {
      alike = record {
        table = ap (λ (ts : List TaskTable). record { tasks = ts; variables = by_number (flat_map (task_variables new) tasks) }) tables
            ∙ ap (λ (vs : List VariableRow). record { tasks = map (task_table old) tasks; variables = by_number vs }) rows;
        recut = recut_none;
        blocks = blocks-same groups moved (layout_of old) station index to (record {
          was = record { project = project; uncrowded = uncrowded; of_line = refl };
          is = record { project = project'; uncrowded = crowds ∙ uncrowded; of_line = sym layout };
          line = line;
        }) none;
      };
      cuts = cuts-same 8 0 (areas_by_rank moved) (areas_by_rank groups) (ranks-same change groups) (λ task. sym (task-listed task moved) ∙ lists task ∙ task-listed task groups);
      crowds = crowds;
    }

-- nothing of the configuration differs after an edit that moves such an area
pub change-alike : (groups : List Declared) (change : Prepared) (edit : Edit) → lowest_fault (groups_of groups) ≡ None → over_limit_task (line_from 1 groups) ≡ None
    → changed_groups change groups ≡ groups_after groups edit → lowest_fault (groups_of (changed_groups change groups)) ≡ None → MovesNoBits groups edit
    → AreConfiguredAlike groups (changed_groups change groups)
change-alike groups change edit project uncrowded leads is moves =
    subst (AreConfiguredAlike groups) (sym leads) (edit-alike groups edit project uncrowded (subst (λ (g : List Declared). lowest_fault (groups_of g) ≡ None) leads is) moves)
  where
    edit-alike : (groups : List Declared) (edit : Edit) → lowest_fault (groups_of groups) ≡ None → over_limit_task (line_from 1 groups) ≡ None
        → lowest_fault (groups_of (groups_after groups edit)) ≡ None → MovesNoBits groups edit → AreConfiguredAlike groups (groups_after groups edit)
    edit-alike groups (Connect alias) project uncrowded is moves = absurd moves
    edit-alike groups (Disconnect alias) project uncrowded is moves = absurd moves
    edit-alike groups (Remap station area pdos) project uncrowded is moves = absurd moves
    edit-alike groups (Move station area task) project uncrowded is moves = moved-alike groups station area task moves.0 project uncrowded is moves.1 moves.2
    edit-alike groups (Declare group) project uncrowded is moves = absurd moves
