-- The blocks at the places of a line are its blocks, in line and block order.
use Rattle.std.proofs.Common.{◌≡◌, ℕ, zero, suc, ◌+◌, ◌*◌, ◌≤◌, true, false, Bool, cond, List, [], ◌∷◌, length, map, refl, ap, ◌∙◌, arith, rules}
use Rattle.std.specs.Prelude.{All, None, Option, slice_get}
use Rattle.std.specs.List.{enumerate_from, flat_map, range_with_len}
use Rattle.std.proofs.lemmas.List.{length-map}
use Rattle.std.proofs.lemmas.List.FromFn.{length-enumerate_from}
use Rattle.std.proofs.lemmas.List.Elements.{All-head, All-tail, All-weaker}
use Rattle.std.proofs.lemmas.Grind.{flat_map-append}
use Rattle.hc_records.specs.declared.limits.TheConstants.{MOST_AREAS}
use Rattle.hc_records.specs.declared.records.Area.{Area}
use Rattle.hc_records.specs.declared.records.Declared.{Declared}
use Rattle.hc_records.specs.declared.records.Slave.{Slave}
use Rattle.hc_records.specs.Limits.{IsSlaveInside}
use Rattle.hc_records.specs.Line.{Member, groups_of, line_from, members_from}
use Rattle.hc_records.specs.Project.{lowest_fault}
use Rattle.hc_records.proofs.lemmas.Limits.{project-inside}
use Rattle.hc_records.proofs.lemmas.Lines.{declared_slaves, each-group}
use Rattle.hc_registers.specs.Blocks.{LineBlock, area_blocks, member_blocks}
use Rattle.hc_registers.specs.RankLaws.{PlacesHoldTheLine, standing}
use Rattle.hc_registers.specs.RankPlaces.{numbers, places_from, slave_places}

-- a slave has at most 16 blocks

abbrev pub Few : Slave → Type 0
Few slave = length slave.areas ≤ MOST_AREAS

abbrev pub HaveFewAreas : List Declared → Type 0
HaveFewAreas groups = All (λ declared. All Few declared.group.slaves) groups

pub few-areas : (groups : List Declared) → lowest_fault (groups_of groups) ≡ None → HaveFewAreas groups
few-areas groups none =
    each-group Few groups (All-weaker IsSlaveInside Few (λ slave inside. inside.few) (declared_slaves groups) (project-inside (groups_of groups) none).slaves)

length-areas : (line : List Member) (rank first : ℕ) (areas : List Area) → length (flat_map (area_blocks line rank) (enumerate_from first areas)) ≡ 2 * length areas
length-areas line rank first [] = refl
length-areas line rank first (area ∷ areas) = let rest = length-areas line rank (first + 1) areas in omega (arith, rest)

pub length-member : (line : List Member) (member : Member) → length (member_blocks line member) ≡ 2 * length member.slave.areas
length-member line member = search (rules, length-map, length-enumerate_from, length-areas)

-- the places of one slave

shifted : (x : LineBlock) (xs : List LineBlock) (a n : ℕ) → map (slice_get (x ∷ xs)) (range_with_len (a + 1) n) ≡ map (slice_get xs) (range_with_len a n)
shifted x xs a zero = refl
shifted x xs a (suc n) = search (rules, shifted x xs (a + 1) n)

none-is_placed : (a n : ℕ) → standing (map (slice_get []) (range_with_len a n)) ≡ []
none-is_placed a zero = refl
none-is_placed a (suc n) = none-is_placed (a + 1) n

all-are_placed : (xs : List LineBlock) (n : ℕ) → length xs ≤ n → standing (map (slice_get xs) (range_with_len 0 n)) ≡ xs
all-are_placed [] n few = none-is_placed 0 n
all-are_placed (x ∷ xs) zero few = absurd (omega (arith, few))
all-are_placed (x ∷ xs) (suc n) few =
    ap (λ (rest : List (Option LineBlock)). x ∷ standing rest) (shifted x xs 0 n) ∙ ap (λ (rest : List LineBlock). x ∷ rest) (all-are_placed xs n (omega (arith, few)))

slave-is_placed : (line : List Member) (member : Member) → Few member.slave → standing (slave_places line true member) ≡ member_blocks line member
unfolding numbers
slave-is_placed line member few = let size = length-member line member in all-are_placed (member_blocks line member) 16 (omega (arith, size, few))

absent-is_placed : (line : List Member) (member : Member) → standing (slave_places line false member) ≡ []
unfolding numbers
absent-is_placed line member = none-is_placed 0 16

-- those of slaves in a row, and of groups

members-are_placed : (line : List Member) (rank : ℕ) (present : Bool) (slaves : List Slave) → All Few slaves
    → standing (flat_map (slave_places line present) (members_from rank slaves)) ≡ flat_map (member_blocks line) (members_from rank (cond present slaves []))
members-are_placed line rank true [] few = refl
members-are_placed line rank false [] few = refl
members-are_placed line rank true (slave ∷ slaves) few =
    search (rules, flat_map-append, slave-is_placed, All-head, members-are_placed line (rank + 1) true slaves (All-tail Few slave slaves few))
members-are_placed line rank false (slave ∷ slaves) few =
    search (rules, flat_map-append, absent-is_placed, members-are_placed line (rank + 1) false slaves (All-tail Few slave slaves few))

groups-are_placed : (line : List Member) (rank : ℕ) (groups : List Declared) → HaveFewAreas groups → standing (places_from line rank groups) ≡ flat_map (member_blocks line) (line_from rank groups)
groups-are_placed line rank [] few = refl
groups-are_placed line rank (declared ∷ groups) few =
    let slaves = declared.group.slaves in
    let next = rank + length slaves in
    let all = λ (d : Declared). All Few d.group.slaves in
    search (rules, flat_map-append, members-are_placed, All-head, groups-are_placed line next groups (All-tail all declared groups few))

pub places-hold : PlacesHoldTheLine
places-hold state none = groups-are_placed (line_from 1 state.groups) 1 state.groups (few-areas state.groups none)
