-- The places of a line by the ranks of the declared slaves, and what an accepted edit leaves of these.
use Rattle.std.proofs.Common.{◌≡◌, ℕ, zero, suc, ◌+◌, ◌-◌, ◌*◌, ◌<◌, ◌≤◌, Bool, cond, List, [], ◌∷◌, ◌++◌, length, map, ◌⊎◌, refl, sym, ap, subst, ◌∙◌, arith, rules}
use Rattle.std.specs.Prelude.{All, Some, Option, option_map, slice_get}
use Rattle.std.specs.Option.{option_map_or}
use Rattle.std.specs.List.{enumerate_from, flat_map}
use Rattle.std.proofs.lemmas.List.{append_assoc, length-map, map-append}
use Rattle.std.proofs.lemmas.List.Elements.{All-cons, All-nil}
use Rattle.std.proofs.lemmas.Option.{get_or_from_slice_get, same_Some, slice_get-map, slice_get_within}
use Rattle.hc_records.specs.declared.records.Area.{Area}
use Rattle.hc_records.specs.declared.records.Declared.{Declared}
use Rattle.hc_records.specs.declared.records.Slave.{Slave}
use Rattle.hc_records.specs.Line.{Member, members_from}
use Rattle.hc_records.specs.Lists.{changed_at}
use Rattle.hc_records.proofs.lemmas.Lines.{declared_slaves}
use Rattle.hc_records.proofs.lemmas.Lists.{get-back, get-front}
use Rattle.hc_registers.specs.Blocks.{LineBlock, member_blocks}
use Rattle.hc_registers.specs.RankPlaces.{places_from, slave_places}
use Rattle.hc_registers.proofs.lemmas.RanksStanding.{at-number, length-slave}
use Rattle.hc_groups.specs.declared.changes.AreasChange.{AreasChange}
use Rattle.hc_groups.specs.declared.changes.PresenceChange.{PresenceChange}
use Rattle.hc_groups.specs.declared.prepared.Prepared.{Prepared}
use Rattle.hc_groups.specs.declared.prepared.Prepared.TheVariants.{Presence, Areas}
use Rattle.hc_groups.specs.Changes.{changed_groups, with_areas, with_slave}
use Rattle.hc_groups.specs.Rows.{ChangesRow, Ranked, by_rank, prepared_count, first_rank_of, present_ranked, row}
use Rattle.hc_groups.proofs.lemmas.Concerned.{presence-row}

-- the blocks that a declared slave with a rank has in a line

abbrev pub member_at : ℕ → Ranked → Member
member_at rank slave = record { rank = rank; slave = slave.slave }

abbrev pub own_blocks : List Member → ℕ → Ranked → List LineBlock
own_blocks line rank slave = cond slave.present (member_blocks line (member_at rank slave)) []

abbrev one_places : List Member → ℕ × Ranked → List (Option LineBlock)
one_places line e = slave_places line e.1.present (member_at e.0 e.1)

abbrev all_places : List Member → ℕ → List Ranked → List (Option LineBlock)
all_places line rank slaves = flat_map (one_places line) (enumerate_from rank slaves)

-- the places are those of the declared slaves one after another

all-append : (line : List Member) (rank : ℕ) (xs ys : List Ranked) → all_places line rank (xs ++ ys) ≡ all_places line rank xs ++ all_places line (rank + length xs) ys
all-append line rank [] ys = ap (λ (n : ℕ). all_places line n ys) (omega arith)
all-append line rank (x ∷ xs) ys = search (rules, append_assoc, all-append line (rank + 1) xs ys)

slaves-all : (line : List Member) (present : Bool) (rank : ℕ) (slaves : List Slave) → flat_map (slave_places line present) (members_from rank slaves) ≡ all_places line rank (present_ranked present slaves)
slaves-all line present rank [] = refl
slaves-all line present rank (slave ∷ slaves) = search (rules, slaves-all line present (rank + 1) slaves)

length-ranked : (present : Bool) (slaves : List Slave) → length (present_ranked present slaves) ≡ length slaves
length-ranked present slaves = length-map slaves (λ slave. let one : Ranked = record { present = present; slave = slave } in one)

groups-all : (line : List Member) (rank : ℕ) (groups : List Declared) → places_from line rank groups ≡ all_places line rank (by_rank groups)
groups-all line rank [] = refl
groups-all line rank (d ∷ groups) =
    let slaves = d.group.slaves in
    search (rules, slaves-all, length-ranked, all-append, groups-all line (rank + length slaves) groups)

at-index : (line : List Member) (rank : ℕ) (slaves : List Ranked) (i number : ℕ) (slave : Ranked) → slice_get slaves i ≡ Some slave → number < 16
    → slice_get (all_places line rank slaves) (16 * i + number) ≡ Some (slice_get (own_blocks line (rank + i) slave) number)
at-index line rank [] i number slave at low = cc
at-index line rank (s ∷ slaves) zero number slave at low =
    let is : s ≡ slave = cc in
    let size = length-slave line s.present (member_at rank s) in
    ap (slice_get (all_places line rank (s ∷ slaves))) (omega arith)
    ∙ get-front (one_places line (rank, s)) (all_places line (rank + 1) slaves) number (omega (arith, low, size))
    ∙ at-number line s.present (member_at rank s) number low
    ∙ ap (λ (r : Ranked). Some (slice_get (own_blocks line rank r) number)) is
    ∙ ap (λ (n : ℕ). Some (slice_get (own_blocks line n slave) number)) (omega arith)
at-index line rank (s ∷ slaves) (suc i) number slave at low =
    let own = one_places line (rank, s) in
    let rest = all_places line (rank + 1) slaves in
    let size = length-slave line s.present (member_at rank s) in
    search (rules, get-back, at-index line (rank + 1) slaves i number slave at low)

-- what is at a place is the block of the slave with that rank
pub at-rank : (line : List Member) (groups : List Declared) (i number : ℕ) (slave : Ranked) → slice_get (by_rank groups) i ≡ Some slave → number < 16
    → slice_get (places_from line 1 groups) (16 * i + number) ≡ Some (slice_get (own_blocks line (1 + i) slave) number)
at-rank line groups i number slave at low = ap (λ (all : List (Option LineBlock)). slice_get all (16 * i + number)) (groups-all line 1 groups) ∙ at-index line 1 (by_rank groups) i number slave at low

-- the declared slaves by rank are all of them
abbrev pub slaves_by_rank : List Ranked → List Slave
slaves_by_rank slaves = map (λ one. one.slave) slaves

one-group : (present : Bool) (slaves : List Slave) → slaves_by_rank (present_ranked present slaves) ≡ slaves
one-group present [] = refl
one-group present (slave ∷ slaves) = ap (λ (rest : List Slave). slave ∷ rest) (one-group present slaves)

pub all-slaves : (groups : List Declared) → slaves_by_rank (by_rank groups) ≡ declared_slaves groups
all-slaves [] = refl
all-slaves (d ∷ groups) = search (rules, map-append, one-group, all-slaves groups)

-- outside the row of a change each declared slave stays as it was

abbrev pub InRow : Prepared → ℕ → Type 0
InRow change i = (first_rank_of change ≤ i + 1) × (i + 1 < first_rank_of change + prepared_count change)

abbrev pub BesideRow : Prepared → ℕ → Type 0
BesideRow change i = (i + 1 < first_rank_of change) ⊎ (first_rank_of change + prepared_count change ≤ i + 1)

around-before : {X : Type 0} (front own after_it : List X) (i : ℕ) → i < length front → slice_get (front ++ (own ++ after_it)) i ≡ slice_get front i
around-before front own after_it i low = get-front front (own ++ after_it) i low

around-within : {X : Type 0} (front own after_it : List X) (i : ℕ) → length front ≤ i → i < length front + length own → slice_get (front ++ (own ++ after_it)) i ≡ slice_get own (i - length front)
around-within front own after_it i from low = get-back front (own ++ after_it) i from ∙ get-front own after_it (i - length front) (omega (arith, from, low))

around-after_it : {X : Type 0} (front own after_it : List X) (i : ℕ) → length front + length own ≤ i → slice_get (front ++ (own ++ after_it)) i ≡ slice_get after_it (i - length front - length own)
around-after_it front own after_it i from = search (rules, get-back)

pub beside-same : (change : Prepared) (groups : List Declared) (i : ℕ) → ChangesRow change groups → BesideRow change i → slice_get (by_rank (changed_groups change groups)) i ≡ slice_get (by_rank groups) i
beside-same change groups i changes beside = search (rules, around-before, around-after_it)

-- a group that comes or goes is present or not

all-present : (present : Bool) (slaves : List Slave) → All (λ one. one.present ≡ present) (present_ranked present slaves)
all-present present [] = All-nil (λ one. one.present ≡ present)
all-present present (slave ∷ slaves) = All-cons (λ one. one.present ≡ present) (record { present = present; slave = slave }) (present_ranked present slaves) refl (all-present present slaves)

row-present : (present : Bool) (found : Option Declared) → All (λ one. one.present ≡ present) (option_map_or (λ (d : Declared). present_ranked present d.group.slaves) found [])
row-present present found = search (rules, All-nil, all-present)

pub presence-in-row : (change : PresenceChange) (groups : List Declared) (i : ℕ) (slave : Ranked) → ChangesRow (Presence change) groups → InRow (Presence change) i
    → slice_get (by_rank (changed_groups (Presence change) groups)) i ≡ Some slave → slave.present ≡ change.present
presence-in-row change groups i slave changes inside at =
    let front = changes.front in
    let own = row (Presence change) (changed_groups (Presence change) groups) in
    let all = subst (λ (list : List Ranked). All (λ one. one.present ≡ change.present) list) (sym (presence-row change groups)) (row-present change.present (slice_get groups change.group)) in
    let here : slice_get own (i - length front) ≡ Some slave = search (rules, around-within) in
    search (rules, get_or_from_slice_get, slice_get_within)

-- a slave that gets other areas is present as it was

abbrev presents : List Ranked → List Bool
presents slaves = map (λ one. one.present) slaves

given-presents : (present : Bool) (n : ℕ) (areas : List Area) (slaves : List Slave) → presents (present_ranked present (changed_at n (with_areas areas) slaves)) ≡ presents (present_ranked present slaves)
given-presents present n areas [] = refl
given-presents present zero areas (slave ∷ slaves) = refl
given-presents present (suc n) areas (slave ∷ slaves) = ap (λ (rest : List Bool). present ∷ rest) (given-presents present n areas slaves)

groups-presents : (group n : ℕ) (areas : List Area) (groups : List Declared) → presents (by_rank (changed_at group (with_slave n areas) groups)) ≡ presents (by_rank groups)
groups-presents group n areas [] = refl
groups-presents zero n areas (d ∷ groups) = search (rules, map-append, given-presents)
groups-presents (suc group) n areas (d ∷ groups) = search (rules, map-append, groups-presents group n areas groups)

pub areas-presence : (change : AreasChange) (groups : List Declared) (i : ℕ) (was is : Ranked) → slice_get (by_rank groups) i ≡ Some was → slice_get (by_rank (changed_groups (Areas change) groups)) i ≡ Some is → is.present ≡ was.present
areas-presence change groups i was is before after =
    let present : Ranked → Bool = λ one. one.present in
    let same : Some is.present ≡ Some was.present =
    ap (option_map present) (sym after)
    ∙ sym (slice_get-map present (by_rank (changed_groups (Areas change) groups)) i)
    ∙ ap (λ (all : List Bool). slice_get all i) (groups-presents change.place.group change.place.slave change.areas groups)
    ∙ slice_get-map present (by_rank groups) i
    ∙ ap (option_map present) before in
    same_Some is.present was.present same
