-- The candidates by ranks are the line's: an area, a slave and a group at a time.
use Rattle.std.proofs.Common.{◌≡◌, ℕ, zero, suc, ◌+◌, ◌-◌, ◌<◌, ◌≤◌, ◌⊎◌, inl, inr, List, [], ◌∷◌, ◌++◌, Contains, None, append-nil, length, length-append, drop, drop-cons, take, refl, sym, ap, subst, ◌∙◌, append_assoc, arith, rules}
use Rattle.std.specs.Prelude.{if◌then◌else◌, map, slice_index_or, sum_by}
use Rattle.std.proofs.lemmas.Grind.{flat_map-append, common_steps}
use Rattle.std.proofs.lemmas.List.{length-map, take_more}
use Rattle.std.proofs.lemmas.List.Sums.{sum_by-cons}
use Rattle.hc_records.specs.declared.limits.TheConstants.{MOST_SLAVES, TASKS}
use Rattle.hc_records.specs.declared.records.Area.{Area}
use Rattle.hc_records.specs.declared.records.Declared.{Declared}
use Rattle.hc_records.specs.declared.records.Slave.{Slave}
use Rattle.hc_records.specs.Line.{groups_of}
use Rattle.hc_records.specs.Project.{lowest_fault}
use Rattle.hc_groups.specs.Index.{declared_count}
use Rattle.hc_cuts.specs.Areas.{areas_of_rank, areas_by_rank, present_areas}
use Rattle.hc_cuts.proofs.lemmas.AnswerGiven.{length-present}
use Rattle.hc_changes.specs.MaybeMovedAreas.{MaybeMoved}
use Rattle.hc_changes.specs.inner.Found.{IsGroupAt, LieWithin, area_found, areas_found, found_below, rank_found, ranked_station, declared_stations}
use Rattle.hc_changes.specs.EditedLine.{EditedLine, IsEditedLine}
use Rattle.hc_changes.proofs.lemmas.ByRank.{area-of-rank}
use Rattle.hc_changes.proofs.lemmas.InARow.{areas-in-row, index-front}
use Rattle.hc_changes.proofs.lemmas.Places.{area-inside}
use Rattle.hc_changes.proofs.lemmas.Tables.{state_of}

-- the areas of a slave, one by one

areas-next : (it : EditedLine) (station rank i : ℕ) (areas : List Area) (area : Area) → i < length areas → area ≡ slice_index_or areas i area
    → areas_found it station rank i (drop i areas) ≡ area_found it station rank i area ++ areas_found it station rank (i + 1) (drop (i + 1) areas)
unfolding areas_found
areas-next it station rank i areas area within is = search (rules, drop-cons)

pub areas-added : (it : EditedLine) (station rank i : ℕ) (areas : List Area) (area : Area) (own found all : List MaybeMoved) → i < length areas → area ≡ slice_index_or areas i area
    → own ≡ area_found it station rank i area → found ++ areas_found it station rank i (drop i areas) ≡ all
    → (found ++ own) ++ areas_found it station rank (i + 1) (drop (i + 1) areas) ≡ all
areas-added it station rank i areas area own found all within is made so_far = search (rules, append_assoc, areas-next)

history-all : {X : Type 0} (xs : List X) (n : ℕ) → length xs ≤ n → drop n xs ≡ []
history-all xs n history = grind (arith, common_steps)

pub areas-end : (it : EditedLine) (station rank i : ℕ) (areas : List Area) (found all : List MaybeMoved) → length areas ≤ i
    → found ++ areas_found it station rank i (drop i areas) ≡ all → found ≡ all
unfolding areas_found
areas-end it station rank i areas found all history so_far = search (rules, append-nil, history-all)

pub rank-is : (it : EditedLine) (rank station : ℕ) (areas : List Area) → ranked_station it.old rank ≡ station → areas ≡ areas_of_rank (areas_by_rank it.new) rank
    → areas_found it station rank 0 areas ≡ rank_found it rank
unfolding rank_found
rank-is it rank station areas named are_placed = search rules

pub task-below : (groups : List Declared) (rank i : ℕ) (areas : List Area) (area : Area) → lowest_fault (groups_of groups) ≡ None → areas ≡ areas_of_rank (areas_by_rank groups) rank → i < length areas
    → area ≡ slice_index_or areas i area → area.task < TASKS
task-below groups rank i areas area project are_placed within is =
    let ranked = area-of-rank groups rank area (subst (λ (own : List Area). Contains own area) are_placed (i, within, sym is)) in
    let inside = area-inside (state_of groups) project ranked.found ranked.of in
    subst (λ (a : Area). a.task < TASKS) ranked.is inside.task

-- slaves without candidates are passed over

passed-over : (it : EditedLine) (first count : ℕ) → ((rank : ℕ) → first ≤ rank → rank < first + count → rank_found it rank ≡ []) → found_below it (first + count) ≡ found_below it first
unfolding found_below
passed-over it first zero none = search rules
passed-over it first (suc count) none =
    let next : first + suc count ≡ suc (first + count) = omega arith in
    search (rules, append-nil, passed-over it first count (λ rank low high. none rank low (omega arith)))

pub rank-added : (it : EditedLine) (rank next : ℕ) → next ≡ suc rank → found_below it rank ++ rank_found it rank ≡ found_below it next
unfolding found_below
rank-added it rank next is = sym (ap (found_below it) is)

-- a group among the declared ones

at-mapped : {X Y : Type 0} (f : X → Y) (xs : List X) (i : ℕ) (x : X) (none : Y) → i < length xs → x ≡ slice_index_or xs i x → slice_index_or (map f xs) i none ≡ f x
at-mapped f xs i x none within is = grind (arith, common_steps)

pub many-stations : (groups : List Declared) → length (declared_stations groups) ≡ length (areas_by_rank groups)
many-stations [] = refl
many-stations (declared ∷ groups) = search (rules, length-map, length-present, length-append, many-stations groups)

pub group-areas : (groups : List Declared) (first : ℕ) (declared : Declared) (i : ℕ) (slave : Slave) → IsGroupAt groups first declared → i < length declared.group.slaves
    → slave ≡ slice_index_or declared.group.slaves i slave → areas_of_rank (areas_by_rank groups) (first + i) ≡ (if declared.present then slave.areas else [])
group-areas groups first declared i slave at within is =
    let slaves = declared.group.slaves in
    let next : first + i ≡ suc (length (areas_by_rank at.front) + i) = omega arith in
    let many = length-present declared.present slaves in
    ap (areas_of_rank (areas_by_rank groups)) next
    ∙ areas-in-row (areas_by_rank groups) (areas_by_rank at.front) (present_areas declared) (areas_by_rank at.after_it) i
    (ap areas_by_rank at.split ∙ flat_map-append present_areas at.front (declared ∷ at.after_it)) (omega (arith, many, within))
    ∙ at-mapped (λ (s : Slave). if declared.present then s.areas else []) slaves i slave [] within is

pub group-station : (groups : List Declared) (first : ℕ) (declared : Declared) (i : ℕ) (slave : Slave) → IsGroupAt groups first declared → i < length declared.group.slaves
    → slave ≡ slice_index_or declared.group.slaves i slave → ranked_station groups (first + i) ≡ slave.station
group-station groups first declared i slave at within is =
    let slaves = declared.group.slaves in
    let own = map (λ (s : Slave). s.station) slaves in
    let rank = at.rank in
    let front = many-stations at.front in
    let next : first + i ≡ suc (length (declared_stations at.front) + i) = omega (arith, rank, front) in
    let many = length-map {B = ℕ} slaves (λ s. s.station) in
    search (rules, flat_map-append, index-front, at-mapped)

pub group-few : (groups : List Declared) (first : ℕ) (declared : Declared) → IsGroupAt groups first declared → first + length declared.group.slaves ≤ length (areas_by_rank groups) + 1
group-few groups first declared at =
    let slaves = declared.group.slaves in
    let many = length-present declared.present slaves in
    let all = ap length (ap areas_by_rank at.split ∙ flat_map-append present_areas at.front (declared ∷ at.after_it)) in
    let parts = length-append (areas_by_rank at.front) (present_areas declared ++ areas_by_rank at.after_it) in
    let own = length-append (present_areas declared) (areas_by_rank at.after_it) in
    omega (arith, many, all, parts, own)

pub group-low : (it : EditedLine) (first : ℕ) (declared : Declared) → IsEditedLine it → IsGroupAt it.old first declared → first + length declared.group.slaves ≤ MOST_SLAVES + 1
group-low it first declared is at = search (rules, group-few)

-- slaves outside the ranks within which all candidates lie add no candidate

pub front-passed : (it : EditedLine) (low high first from : ℕ) → LieWithin it low high → ((i : ℕ) → i < from → low ≤ first + i → ⊥) → found_below it first ≡ found_below it (first + from)
front-passed it low high first from within out = search (rules, passed-over)

pub after_it-passed : (it : EditedLine) (low high first to end : ℕ) → LieWithin it low high → to ≤ end → ((i : ℕ) → to ≤ i → i < end → first + i ≤ high → ⊥)
    → found_below it (first + to) ≡ found_below it (first + end)
after_it-passed it low high first to end within order out =
    let all : first + to + (end - to) ≡ first + end = omega (arith, order) in
    search (rules, passed-over)

pub none-yet : (it : EditedLine) → found_below it 1 ≡ []
unfolding found_below rank_found areas_found
none-yet it = refl

-- what is found before a group that is no lower, and after one that is higher

pub ranks-counted : (groups : List Declared) → length (areas_by_rank groups) ≡ sum_by declared_count groups
ranks-counted [] = refl
ranks-counted (declared ∷ groups) =
    let many = length-present declared.present declared.group.slaves in
    let parts = length-append (present_areas declared) (areas_by_rank groups) in
    let rest = ranks-counted groups in
    let sum = sum_by-cons declared_count declared groups in
    omega (arith, many, parts, rest, sum)

pub start-found : (it : EditedLine) (low high first : ℕ) → LieWithin it low high → 1 ≤ first → (first ≡ 1) ⊎ (first ≤ low) → [] ≡ found_below it first
start-found it low high first within some (inl one) = sym (ap (found_below it) one ∙ none-yet it)
start-found it low high first within some (inr below) =
    sym (none-yet it) ∙ front-passed it low high 1 (first - 1) within (λ i less out. omega (arith, less, out, below)) ∙ ap (found_below it) (omega (arith, some))

pub end-found : (it : EditedLine) (low high first : ℕ) (declared : Declared) → LieWithin it low high → high < first → IsGroupAt it.old first declared
    → found_below it first ≡ found_below it (length (areas_by_rank it.old) + 1)
end-found it low high first declared within above at =
    let few = group-few it.old first declared at in
    let end = length (areas_by_rank it.old) + 1 - first in
    ap (found_below it) (omega arith)
    ∙ after_it-passed it low high first 0 end within (omega arith) (λ i some less out. omega (arith, above, out))
    ∙ ap (found_below it) (omega (arith, few))

-- the groups one by one

split-at : {X : Type 0} (xs : List X) (i : ℕ) (x : X) → i < length xs → x ≡ slice_index_or xs i x → xs ≡ take i xs ++ (x ∷ drop (i + 1) xs)
split-at xs i x within is = grind (arith, common_steps)

pub group-at : (groups : List Declared) (first i : ℕ) (declared : Declared) → first ≡ length (areas_by_rank (take i groups)) + 1 → i < length groups
    → declared ≡ slice_index_or groups i declared → IsGroupAt groups first declared
group-at groups first i declared rank within is =
    record { front = take i groups; after_it = drop (i + 1) groups; split = split-at groups i declared within is; rank = rank }

-- the rank of the first slave of the next one
pub group-next : (groups : List Declared) (first i : ℕ) (declared : Declared) → first ≡ length (areas_by_rank (take i groups)) + 1 → i < length groups
    → declared ≡ slice_index_or groups i declared → first + length declared.group.slaves ≡ length (areas_by_rank (take (i + 1) groups)) + 1
group-next groups first i declared rank within is =
    let cut : take (i + 1) groups ≡ take i groups ++ declared ∷ [] = take_more groups i declared within ∙ ap (λ (d : Declared). take i groups ++ d ∷ []) (sym is) in
    let long = ap (λ (all : List Declared). length (areas_by_rank all)) cut ∙ ap length (flat_map-append present_areas (take i groups) (declared ∷ [])) in
    let parts = length-append (areas_by_rank (take i groups)) (areas_by_rank (declared ∷ [])) in
    let own = ap length (append-nil (present_areas declared)) ∙ length-present declared.present declared.group.slaves in
    omega (arith, rank, long, parts, own)

pub taken-all : {X : Type 0} (xs : List X) (n : ℕ) → length xs ≤ n → take n xs ≡ xs
taken-all xs n history = grind (arith, common_steps)

-- no slave has a rank above all of them

history-none : {X : Type 0} (xs : List (List X)) (n : ℕ) → length xs ≤ n → slice_index_or xs n [] ≡ []
history-none xs n history = grind (arith, common_steps)

pub above-none : (it : EditedLine) (rank : ℕ) → length (areas_by_rank it.new) < rank → rank_found it rank ≡ []
unfolding rank_found areas_found
above-none it rank above = search (rules, history-none)
