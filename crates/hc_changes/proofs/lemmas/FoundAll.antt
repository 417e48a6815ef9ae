-- The candidates of all ranks are the line's.
use Rattle.std.proofs.Common.{◌≡◌, ℕ, zero, suc, ◌+◌, Bool, true, false, cond, List, [], ◌∷◌, ◌++◌, append-nil, append_assoc, length, refl, sym, ap, ◌∙◌, arith, if◌then◌else◌, rules}
use Rattle.std.specs.Prelude.{map, slice_index_or}
use Rattle.std.specs.List.{enumerate_from, flat_map}
use Rattle.std.proofs.lemmas.Grind.{flat_map-append}
use Rattle.std.proofs.lemmas.List.{length-map, map-append}
use Rattle.std.proofs.lemmas.List.Elements.{filter-append}
use Rattle.hc_records.specs.declared.records.Area.{Area}
use Rattle.hc_records.specs.declared.records.Declared.{Declared}
use Rattle.hc_records.specs.declared.records.Slave.{Slave}
use Rattle.hc_records.specs.Line.{Member, line_from, members_from, present_slaves}
use Rattle.hc_records.proofs.lemmas.Lines.{declared_slaves}
use Rattle.hc_records.proofs.lemmas.Stations.{slave_stations}
use Rattle.hc_cuts.specs.Areas.{areas_by_rank}
use Rattle.hc_cuts.proofs.lemmas.AnswerGiven.{length-present}
use Rattle.hc_changes.specs.MaybeMovedAreas.{MaybeMoved, LineArea, areas_of, maybe_moved_of, maybe_moved_areas, line_areas}
use Rattle.hc_changes.specs.Edited.{HasEdit}
use Rattle.hc_changes.specs.inner.Found.{area_found, areas_found, found_among, found_below, rank_found, declared_stations}
use Rattle.hc_cuts.specs.LineChange.{changes}
use Rattle.hc_changes.specs.EditedLine.{EditedLine, IsEditedLine}
use Rattle.hc_changes.proofs.lemmas.Bare.{bare_slave, edit-stays}
use Rattle.hc_changes.proofs.lemmas.FoundRanks.{many-stations}

-- lists by index, one after another

abbrev gather : {X : Type 0} → (ℕ → List X) → ℕ → List X
gather f zero = []
gather f (suc n) = gather f n ++ f n

gather-front : {X : Type 0} (f : ℕ → List X) (n : ℕ) → gather f (suc n) ≡ f 0 ++ gather (λ i. f (suc i)) n
gather-front f zero = sym (append-nil (f 0))
gather-front f (suc n) = ap (λ (first : List _). first ++ f (suc n)) (gather-front f n) ∙ append_assoc (f 0) (gather (λ i. f (suc i)) n) (f (suc n))

below-gather : (it : EditedLine) (n : ℕ) → found_below it n ≡ gather (rank_found it) n
unfolding found_below
below-gather it zero = refl
below-gather it (suc n) = ap (λ (first : List MaybeMoved). first ++ rank_found it n) (below-gather it n)

-- the candidates among the areas of slaves in a row, by their station addresses

abbrev row_found : EditedLine → ℕ → List ℕ → List (List Area) → List MaybeMoved
row_found it first [] slaves = []
row_found it first (station ∷ named) [] = []
row_found it first (station ∷ named) (areas ∷ slaves) = areas_found it station first 0 areas ++ row_found it (first + 1) named slaves

gather-row : (it : EditedLine) (first : ℕ) (named : List ℕ) (slaves : List (List Area)) (f : ℕ → List MaybeMoved) → length named ≡ length slaves
    → ((i : ℕ) → f i ≡ areas_found it (slice_index_or named i 0) (first + i) 0 (slice_index_or slaves i [])) → gather f (length slaves) ≡ row_found it first named slaves
gather-row it first [] [] f many each = refl
gather-row it first [] (areas ∷ slaves) f many each = absurd (omega (arith, many))
gather-row it first (station ∷ named) [] f many each = refl
gather-row it first (station ∷ named) (areas ∷ slaves) f many each =
    search (rules, gather-front, gather-row it (first + 1) named slaves (λ i. f (suc i)) (omega (arith, many)))

no-rank : (it : EditedLine) → rank_found it 0 ≡ []
unfolding rank_found areas_found
no-rank it = refl

rank-each : (it : EditedLine) (i : ℕ) → rank_found it (suc i) ≡ areas_found it (slice_index_or (declared_stations it.old) i 0) (1 + i) 0 (slice_index_or (areas_by_rank it.new) i [])
unfolding rank_found
rank-each it i = search rules

below-row : (it : EditedLine) → length (declared_stations it.old) ≡ length (areas_by_rank it.new)
    → found_below it (suc (length (areas_by_rank it.new))) ≡ row_found it 1 (declared_stations it.old) (areas_by_rank it.new)
below-row it many = search (rules, below-gather, gather-front, no-rank, gather-row, rank-each)

-- these are the candidates among the line's areas

among-append : (it : EditedLine) (xs ys : List LineArea) → found_among it (xs ++ ys) ≡ found_among it xs ++ found_among it ys
unfolding found_among
among-append it xs ys = search (rules, filter-append, map-append)

among-none : (it : EditedLine) → found_among it [] ≡ []
unfolding found_among
among-none it = refl

made-alike : {X Y : Type 0} (make : X → Y) (here : Bool) (x y : X) → make x ≡ make y → map make (cond here (x ∷ []) []) ≡ map make (cond here (y ∷ []) [])
made-alike make here x y same = search rules

area-alike : (it : EditedLine) (member : Member) (index : ℕ) (area : Area)
    → area_found it member.slave.station member.rank index area ≡ found_among it (record { member = member; index = index; area = area } ∷ [])
unfolding found_among
area-alike it member index area = search (rules, made-alike)

slave-among : (it : EditedLine) (member : Member) (index : ℕ) (areas : List Area)
    → areas_found it member.slave.station member.rank index areas ≡ found_among it (map (λ e. record { member = member; index = e.0; area = e.1 }) (enumerate_from index areas))
unfolding areas_found
slave-among it member index [] = sym (among-none it)
slave-among it member index (area ∷ areas) =
    let rest = map (λ (e : ℕ × Area). record { member = member; index = e.0; area = e.1 }) (enumerate_from (index + 1) areas) in
    let own : LineArea = record { member = member; index = index; area = area } in
    ap (λ (first : List MaybeMoved). first ++ areas_found it member.slave.station member.rank (index + 1) areas) (area-alike it member index area)
    ∙ ap (λ (after_it : List MaybeMoved). found_among it (own ∷ []) ++ after_it) (slave-among it member (index + 1) areas)
    ∙ sym (among-append it (own ∷ []) rest)

-- slave by slave, and group by group

present-among : (it : EditedLine) (first : ℕ) (slaves : List Slave)
    → row_found it first (slave_stations slaves) (map (λ slave. slave.areas) slaves) ≡ found_among it (flat_map areas_of (members_from first slaves))
present-among it first [] = sym (among-none it)
present-among it first (slave ∷ slaves) =
    let member : Member = record { rank = first; slave = slave } in
    ap (λ (own : List MaybeMoved). own ++ row_found it (first + 1) (slave_stations slaves) (map (λ s. s.areas) slaves)) (slave-among it member 0 slave.areas)
    ∙ ap (λ (rest : List MaybeMoved). found_among it (areas_of member) ++ rest) (present-among it (first + 1) slaves)
    ∙ sym (among-append it (areas_of member) (flat_map areas_of (members_from (first + 1) slaves)))

absent-among : (it : EditedLine) (first : ℕ) (slaves : List Slave) → row_found it first (slave_stations slaves) (map (λ slave. []) slaves) ≡ []
unfolding areas_found
absent-among it first [] = refl
absent-among it first (slave ∷ slaves) = absent-among it (first + 1) slaves

group-among : (it : EditedLine) (present : Bool) (first : ℕ) (slaves : List Slave)
    → row_found it first (slave_stations slaves) (map (λ slave. if present then slave.areas else []) slaves) ≡ found_among it (flat_map areas_of (members_from first (if present then slaves else [])))
group-among it true first slaves = present-among it first slaves
group-among it false first slaves = absent-among it first slaves ∙ sym (among-none it)

row-append : (it : EditedLine) (first : ℕ) (named more : List ℕ) (slaves rest : List (List Area)) → length named ≡ length slaves
    → row_found it first (named ++ more) (slaves ++ rest) ≡ row_found it first named slaves ++ row_found it (first + length slaves) more rest
row-append it first [] more [] rest many = search rules
row-append it first [] more (areas ∷ slaves) rest many = absurd (omega (arith, many))
row-append it first (station ∷ named) more [] rest many = absurd (omega (arith, many))
row-append it first (station ∷ named) more (areas ∷ slaves) rest many =
    search (rules, append_assoc, row-append it (first + 1) named more slaves rest (omega (arith, many)))

line-among : (it : EditedLine) (first : ℕ) (groups : List Declared) → row_found it first (declared_stations groups) (areas_by_rank groups) ≡ found_among it (line_areas (line_from first groups))
line-among it first [] = sym (among-none it)
line-among it first (declared ∷ groups) =
    let slaves = declared.group.slaves in
    let own = members_from first (present_slaves declared) in
    let many = length-present declared.present slaves in
    let named = length-map {B = ℕ} slaves (λ s. s.station) in
    search (rules, row-append, group-among, among-append, flat_map-append, line-among it (first + length slaves) groups)

-- an edit leaves the slaves their station addresses

map-twice : {X Y Z : Type 0} (g : Y → Z) (f : X → Y) (xs : List X) → map g (map f xs) ≡ map (λ x. g (f x)) xs
map-twice g f [] = refl
map-twice g f (x ∷ xs) = ap (λ (ys : List _). g (f x) ∷ ys) (map-twice g f xs)

stations-bare : (groups : List Declared) → declared_stations groups ≡ map (λ (bare : ℕ × List Area). bare.0) (map bare_slave (declared_slaves groups))
stations-bare groups = named groups ∙ sym (map-twice (λ (bare : ℕ × List Area). bare.0) bare_slave (declared_slaves groups))
  where
    named : (groups : List Declared) → declared_stations groups ≡ slave_stations (declared_slaves groups)
    named [] = refl
    named (declared ∷ groups) =
        ap (λ (rest : List ℕ). slave_stations declared.group.slaves ++ rest) (named groups) ∙ sym (map-append (λ (s : Slave). s.station) declared.group.slaves (declared_slaves groups))

same-stations : (old new : List Declared) → HasEdit old new → declared_stations new ≡ declared_stations old
same-stations old new edited = search (rules, stations-bare, edit-stays)

-- so all candidates are found

pub found-all : (it : EditedLine) (end : ℕ) → IsEditedLine it → end ≡ length (areas_by_rank it.old) + 1
    → found_below it end ≡ map (maybe_moved_of (line_from 1 it.new)) (maybe_moved_areas (changes it.change) (line_from 1 it.old) (line_from 1 it.new))
unfolding found_among
found-all it end is all =
    let same = same-stations it.old it.new is.edited in
    let named = many-stations it.new in
    let was = many-stations it.old in
    let many : length (declared_stations it.old) ≡ length (areas_by_rank it.new) = ap length (sym same) ∙ named in
    let last : end ≡ suc (length (areas_by_rank it.new)) = omega (arith, all, was, many) in
    search (rules, below-row, line-among)
