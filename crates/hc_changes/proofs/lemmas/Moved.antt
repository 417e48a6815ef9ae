-- The moved blocks are those of candidates.
use Rattle.std.proofs.Common.{◌≡◌, ℕ, ◌*◌, Bool, true, false, cond, List, [], ◌∷◌, Contains, Option, Some, None, refl, sym, ap, subst, ◌∙◌, rules}
use Rattle.std.specs.Prelude.{All, AllPairs, filter, map, not, option_map}
use Rattle.std.specs.Option.{option_map_or}
use Rattle.std.specs.List.{flat_map, list_any}
use Rattle.std.proofs.lemmas.Bool.{and_from, eq-eqb, not-false, not_from_true, or_parts}
use Rattle.std.proofs.lemmas.List.Elements.{All-contains, All-weaker, All-contains_itself}
use Rattle.std.proofs.lemmas.List.Folds.{list_any_at}
use Rattle.std.proofs.lemmas.Slice.Eq.{bytes_eq-Decides}
use Rattle.hc_records.specs.declared.keys.Key.{Key}
use Rattle.hc_records.specs.Keys.{same_key}
use Rattle.hc_records.specs.Line.{Member, State, groups_of, line}
use Rattle.hc_records.specs.TaskList.{Keyed, task_list}
use Rattle.hc_records.specs.Packing.{Placed, empty_front, packed}
use Rattle.hc_records.specs.Project.{lowest_fault}
use Rattle.hc_records.specs.SpanLaws.{IsTaskList}
use Rattle.hc_records.proofs.lemmas.Finds.{found-none}
use Rattle.hc_records.proofs.lemmas.KeyOrder.{same_key-refl, same_key-same}
use Rattle.hc_records.proofs.lemmas.Lines.{RanksBelow, line-ascends}
use Rattle.hc_records.proofs.lemmas.Packed.{area_of, packed-areas}
use Rattle.hc_records.proofs.lemmas.TaskLists.{project-list}
use Rattle.hc_registers.specs.Blocks.{LineBlock, RegisterBlock, fmmu_block, line_blocks, mapping_at, numbered, same_block, same_bytes, sync_manager_block}
use Rattle.hc_cuts.specs.Keeping.{is_unchanged_up_to}
use Rattle.hc_registers.specs.Ranked.{RankedBlock, moved_ranked, ranked}
use Rattle.hc_changes.specs.MaybeMovedAreas.{DifferAt, LineArea, line_area_blocks, maybe_moved_areas, is_maybe_moved, is_recut, line_area_key, line_areas, moved_of, line_area_place}
use Rattle.hc_changes.proofs.lemmas.Blocks.{blocks-of-areas, flat_map-alike, ranked-of-areas, ranked_by}
use Rattle.hc_changes.proofs.lemmas.Lists.{contains-flat_map, filter-flat_map, flat_map-unchanged, found-among}
use Rattle.hc_changes.proofs.lemmas.Others.{IsAreaOf, area-is_placed, contains-mapped, line-area, map-piece, others-are_placed}
use Rattle.hc_changes.proofs.lemmas.Placing.{unchanged-place}
use Rattle.hc_changes.proofs.lemmas.Widths.{listed-wide, wide-listed}
use Rattle.hc_records.specs.Area.{width}
use Rattle.hc_records.proofs.lemmas.Spans.{filter-drops}

-- an area that is nowhere was nowhere

none-twice : (found : LineArea) (old new : List Member) → AllPairs RanksBelow old → IsAreaOf old found → IsAreaOf new found → line_area_place new found ≡ None
    → (was : Option Placed) → line_area_place old found ≡ was → was ≡ None
none-twice found old new ranks of of' none None is = refl
none-twice found old new ranks of of' none (Some placed) is =
    let key = line_area_key found in
    let task = found.area.task in
    let stood = found-among (λ (p : Placed). same_key p.key key) (packed empty_front (task_list task old)) placed is in
    let listed : Contains (task_list task old) (placed.key, placed.bits) =
    subst (λ (l : List Keyed). Contains l (placed.key, placed.bits)) (packed-areas empty_front (task_list task old))
    (contains-mapped area_of (packed empty_front (task_list task old)) placed stood.among) in
    let wide = listed-wide old found task (placed.key, placed.bits) ranks of listed (same_key-same placed.key key stood.passes) in
    let again : Contains (map area_of (packed empty_front (task_list task new))) (key, width found.area) =
    subst (λ (l : List Keyed). Contains l (key, width found.area)) (sym (packed-areas empty_front (task_list task new))) (wide-listed new found of' wide) in
    let here = map-piece area_of (packed empty_front (task_list task new)) (key, width found.area) again in
    let same : here.0.key ≡ key = ap (λ (a : Keyed). a.0) here.2 in
    let never : same_key here.0.key key ≡ false = search (rules, All-contains, found-none) in
    let own : same_key here.0.key key ≡ true = subst (λ (k : Key). same_key here.0.key k ≡ true) same (same_key-refl here.0.key) in
    cc

-- an area that is not recut has the place that it had

place-by : (found : LineArea) (old new : List Member) → AllPairs RanksBelow old → IsTaskList (task_list found.area.task old) → IsTaskList (task_list found.area.task new)
    → IsAreaOf old found → IsAreaOf new found → (place : Option Placed) → line_area_place new found ≡ place
    → option_map_or (λ placed. not (is_unchanged_up_to (task_list found.area.task old) (task_list found.area.task new) placed.datagram placed.key)) place false ≡ false
    → line_area_place old found ≡ place
place-by found old new ranks list list' of of' None is still = none-twice found old new ranks of of' is (line_area_place old found) refl
place-by found old new ranks list list' of of' (Some placed) is still =
    unchanged-place (task_list found.area.task old) (task_list found.area.task new) (line_area_key found) placed list list' is
    (not-false (is_unchanged_up_to (task_list found.area.task old) (task_list found.area.task new) placed.datagram placed.key) still)

pub same-place : (found : LineArea) (old new : List Member) → AllPairs RanksBelow old → IsTaskList (task_list found.area.task old) → IsTaskList (task_list found.area.task new)
    → IsAreaOf old found → IsAreaOf new found → is_recut old new found ≡ false → line_area_place old found ≡ line_area_place new found
same-place found old new ranks list list' of of' still = place-by found old new ranks list list' of of' (line_area_place new found) refl still

-- so its blocks were blocks of the old line

abbrev blocks_at : LineArea → Option Placed → List LineBlock
blocks_at found place =
    numbered found.member.slave.station (2 * found.index)
    (sync_manager_block found.area ∷ fmmu_block found.index found.area (option_map (mapping_at found.area.task) place) ∷ [])

same-blocks : (found : LineArea) (old new : List Member) → line_area_place old found ≡ line_area_place new found → line_area_blocks old found ≡ line_area_blocks new found
same-blocks found old new same = ap (blocks_at found) same

pub same_bytes-refl : (block : RegisterBlock) → same_bytes block block ≡ true
same_bytes-refl block = search (rules, and_from, eq-eqb, bytes_eq-Decides)

same_block-refl : (block : LineBlock) → same_block block block ≡ true
same_block-refl found = search (rules, and_from, eq-eqb, same_bytes-refl)

pub had : (blocks : List LineBlock) (block : LineBlock) → Contains blocks block → list_any (same_block block) blocks ≡ true
had blocks block at = search (rules, list_any_at, same_block-refl)

stood-all : (found : LineArea) (old : List Member) → Contains (line_areas old) found
    → All (λ block. not (list_any (same_block block) (line_blocks old)) ≡ false) (line_area_blocks old found)
stood-all found old at = search (rules, All-weaker, not_from_true, had, blocks-of-areas, contains-flat_map, All-contains_itself)

-- an area that is not a candidate had the place that it has
unchanged-are_placed : (changed : ℕ → Bool) (old new : State) → lowest_fault (groups_of old.groups) ≡ None → lowest_fault (groups_of new.groups) ≡ None → DifferAt changed (line old) (line new)
    → (found : LineArea) → Contains (line_areas (line new)) found → is_maybe_moved changed (line old) (line new) found ≡ false
    → IsAreaOf (line old) found × (line_area_place (line old) found ≡ line_area_place (line new) found)
unchanged-are_placed changed old new was is differ found at other =
    let parts = or_parts (changed found.member.rank) (is_recut (line old) (line new) found) other in
    search (rules, line-area, others-are_placed, line-ascends, same-place, project-list)

unmoved : (changed : ℕ → Bool) (old new : State) → lowest_fault (groups_of old.groups) ≡ None → lowest_fault (groups_of new.groups) ≡ None → DifferAt changed (line old) (line new)
    → (found : LineArea) → Contains (line_areas (line new)) found → is_maybe_moved changed (line old) (line new) found ≡ false → moved_of (line old) (line new) found ≡ []
unmoved changed old new was is differ found at other =
    let stood = unchanged-are_placed changed old new was is differ found at other in
    filter-drops (λ block. not (list_any (same_block block) (line_blocks (line old)))) (line_area_blocks (line new) found)
    (subst (λ (blocks : List LineBlock). All (λ block. not (list_any (same_block block) (line_blocks (line old))) ≡ false) blocks)
    (same-blocks found (line old) (line new) stood.1) (stood-all found (line old) (area-is_placed (line old) found stood.0)))

ranked-unchanged : (passes : Bool) (rank : ℕ) (block : LineBlock) (unchanged : List LineBlock) (rest : List RankedBlock) → rest ≡ map (ranked rank) unchanged
    → cond passes (ranked rank block ∷ rest) rest ≡ map (ranked rank) (cond passes (block ∷ unchanged) unchanged)
ranked-unchanged passes rank block unchanged rest is = search rules

filter-ranked : (test : LineBlock → Bool) (rank : ℕ) (blocks : List LineBlock) → filter (λ block. test block.found) (map (ranked rank) blocks) ≡ map (ranked rank) (filter test blocks)
filter-ranked test rank [] = refl
filter-ranked test rank (block ∷ blocks) = search (rules, ranked-unchanged, filter-ranked test rank blocks)

pub moved-answer_given : (changed : ℕ → Bool) (old new : State) → lowest_fault (groups_of old.groups) ≡ None → lowest_fault (groups_of new.groups) ≡ None → DifferAt changed (line old) (line new)
    → moved_ranked (line old) (line new) ≡ flat_map (ranked_by (moved_of (line old) (line new))) (maybe_moved_areas changed (line old) (line new))
moved-answer_given changed old new was is differ =
    let test : LineBlock → Bool = λ block. not (list_any (same_block block) (line_blocks (line old))) in
    let ranked_test : RankedBlock → Bool = λ block. test block.found in
    let moved = ranked_by (moved_of (line old) (line new)) in
    ap (filter ranked_test) (ranked-of-areas (line new))
    ∙ filter-flat_map ranked_test (ranked_by (line_area_blocks (line new))) (line_areas (line new))
    ∙ flat_map-alike (λ (found : LineArea). filter ranked_test (ranked_by (line_area_blocks (line new)) found)) moved
    (λ found. filter-ranked test found.member.rank (line_area_blocks (line new) found)) (line_areas (line new))
    ∙ flat_map-unchanged moved (is_maybe_moved changed (line old) (line new)) (line_areas (line new))
    (All-weaker (Contains (line_areas (line new))) (λ found. is_maybe_moved changed (line old) (line new) found ≡ false → moved found ≡ [])
    (λ found at other. ap (map (ranked found.member.rank)) (unmoved changed old new was is differ found at other)) (line_areas (line new)) (All-contains_itself (line_areas (line new))))
