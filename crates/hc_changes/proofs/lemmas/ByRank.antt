-- The areas by rank are those of the line's slaves, and the variables that they carry are offered by rank.
use Rattle.std.proofs.Common.{◌≡◌, ℕ, zero, suc, ◌+◌, ◌-◌, ◌≤◌, ◌==◌, Bool, true, false, List, [], ◌∷◌, ◌++◌, Contains, Option, Some, None, refl, sym, ap, subst, ◌∙◌, arith, if◌then◌else◌, rules}
use Rattle.std.specs.Prelude.{All, find, map, option_map, slice_get, slice_index_or}
use Rattle.std.specs.List.{enumerate_from}
use Rattle.std.specs.Option.{option_map_or}
use Rattle.std.proofs.lemmas.List.Elements.{All-contains, All-contains_itself, All-cons, All-nil, All-weaker}
use Rattle.hc_records.specs.declared.records.Area.{Area}
use Rattle.hc_records.specs.declared.records.Declared.{Declared}
use Rattle.hc_records.specs.declared.records.Slave.{Slave}
use Rattle.hc_records.specs.Line.{Member, line_from}
use Rattle.hc_records.specs.Project.{area_names, pdo_names}
use Rattle.hc_records.proofs.lemmas.Finds.{mapped-some}
use Rattle.hc_records.proofs.lemmas.Lines.{line-ascends}
use Rattle.hc_records.proofs.lemmas.Lists.{All-enumerate_from}
use Rattle.hc_cuts.specs.Areas.{area_in, areas_of_rank, areas_by_rank}
use Rattle.hc_changes.specs.MaybeMovedAreas.{LineArea, line_area_key, slave_of}
use Rattle.hc_changes.specs.Rows.{area_variables_of, variables_by_rank}
use Rattle.hc_changes.proofs.lemmas.Lists.{contains-after_it, contains-flat_map, found-among}
use Rattle.hc_changes.proofs.lemmas.Names.{carried-offered}
use Rattle.hc_changes.proofs.lemmas.Others.{IsAreaOf, member-found}
use Rattle.hc_changes.proofs.lemmas.Ranks.{line-slots, none-below, slot, slots}

-- the areas of a slave that is present, if it is
abbrev pub carried : Option Slave → List Area
carried slave = option_map_or (λ s. s.areas) slave []

present-areas : (present : Bool) (slave : Slave) → (if present then slave.areas else []) ≡ carried (slot present slave)
present-areas present slave = search rules

slaves-areas : (present : Bool) (slaves : List Slave) (areas : List (List Area)) (after_it : List (Option Slave))
    → ((i : ℕ) → slice_index_or areas i [] ≡ carried (slice_index_or after_it i None))
    → (i : ℕ) → slice_index_or (map (λ slave. if present then slave.areas else []) slaves ++ areas) i [] ≡ carried (slice_index_or (map (slot present) slaves ++ after_it) i None)
slaves-areas present [] areas after_it same i = same i
slaves-areas present (slave ∷ slaves) areas after_it same zero = present-areas present slave
slaves-areas present (slave ∷ slaves) areas after_it same (suc i) = slaves-areas present slaves areas after_it same i

slots-areas : (groups : List Declared) (i : ℕ) → slice_index_or (areas_by_rank groups) i [] ≡ carried (slice_index_or (slots groups) i None)
slots-areas [] i = refl
slots-areas (declared ∷ groups) i = slaves-areas declared.present declared.group.slaves (areas_by_rank groups) (slots groups) (slots-areas groups) i

pub areas-of-rank : (groups : List Declared) (rank : ℕ) → areas_of_rank (areas_by_rank groups) rank ≡ carried (slave_of (line_from 1 groups) rank)
areas-of-rank groups zero = sym (ap carried (none-below 1 groups 0 (omega arith)))
areas-of-rank groups (suc i) =
    let rank : suc i ≡ 1 + i = omega arith in
    slots-areas groups i ∙ sym (ap carried (ap (slave_of (line_from 1 groups)) rank ∙ line-slots 1 groups i))

-- an area of the line is there
area-ranked : (groups : List Declared) (found : LineArea) → IsAreaOf (line_from 1 groups) found → areas_of_rank (areas_by_rank groups) found.member.rank ≡ found.member.slave.areas
area-ranked groups found of =
    areas-of-rank groups found.member.rank
    ∙ ap carried (ap (option_map (λ (m : Member). m.slave)) (member-found (line_from 1 groups) found.member (line-ascends 1 groups) of.member))

pub area-at-rank : (groups : List Declared) (found : LineArea) → IsAreaOf (line_from 1 groups) found → Contains (areas_of_rank (areas_by_rank groups) found.member.rank) found.area
area-at-rank groups found of =
    let areas = found.member.slave.areas in
    let own : Contains areas found.area =
    All-contains (λ (e : ℕ × Area). Contains areas e.1) (enumerate_from 0 areas) (found.index, found.area) (All-enumerate_from (Contains areas) 0 areas (All-contains_itself areas)) of.own in
    subst (λ (all : List Area). Contains all found.area) (sym (area-ranked groups found of)) own

-- under its key
numbered-get : {X : Type 0} (first : ℕ) (xs : List X) → All (λ e. (first ≤ e.0) × (slice_get xs (e.0 - first) ≡ Some e.1)) (enumerate_from first xs)
numbered-get first [] = All-nil (λ e. (first ≤ e.0) × (slice_get [] (e.0 - first) ≡ Some e.1))
numbered-get first (x ∷ xs) =
    let none : first - first ≡ 0 = omega arith in
    All-cons (λ e. (first ≤ e.0) × (slice_get (x ∷ xs) (e.0 - first) ≡ Some e.1)) (first, x) (enumerate_from (first + 1) xs)
    (omega arith, ap (slice_get (x ∷ xs)) none)
    (All-weaker (λ e. (first + 1 ≤ e.0) × (slice_get xs (e.0 - (first + 1)) ≡ Some e.1)) (λ e. (first ≤ e.0) × (slice_get (x ∷ xs) (e.0 - first) ≡ Some e.1))
    (λ e rest. later e rest) (enumerate_from (first + 1) xs) (numbered-get (first + 1) xs))
  where
    later : (e : ℕ × _) → (first + 1 ≤ e.0) × (slice_get xs (e.0 - (first + 1)) ≡ Some e.1) → (first ≤ e.0) × (slice_get (x ∷ xs) (e.0 - first) ≡ Some e.1)
    later e rest =
        let next : e.0 - first ≡ suc (e.0 - (first + 1)) = omega arith in
        (omega arith, ap (slice_get (x ∷ xs)) next ∙ rest.1)

pub area-named : (groups : List Declared) (found : LineArea) → IsAreaOf (line_from 1 groups) found → area_in (areas_by_rank groups) (line_area_key found) ≡ Some found.area
area-named groups found of = search (rules, All-contains, numbered-get, area-ranked)

-- and an area that is at a rank is one of the line
pub record IsRanked (groups : List Declared) (rank : ℕ) (area : Area) : Type 0 where
  pub found : LineArea
  pub of : IsAreaOf (line_from 1 groups) found
  pub is : found.area ≡ area

numbered-at : {X : Type 0} (first : ℕ) (xs : List X) (x : X) → Contains xs x → (k : ℕ) × Contains (enumerate_from first xs) (k, x)
numbered-at first [] x (k, within, is) = absurd (omega arith)
numbered-at first (y ∷ ys) x (zero, within, is) = (first, (0, omega arith, ap (λ (z : _). (first, z)) is))
numbered-at first (y ∷ ys) x (suc k, within, is) = search (rules, contains-after_it, numbered-at (first + 1) ys x (k, omega arith, is))

ranked-by : (groups : List Declared) (rank : ℕ) (area : Area) (slave : Option Slave) → slave_of (line_from 1 groups) rank ≡ slave → Contains (carried slave) area → IsRanked groups rank area
ranked-by groups rank area None is (k, within, same) = absurd (omega arith)
ranked-by groups rank area (Some slave) is at =
    let line = line_from 1 groups in
    let stood = mapped-some (λ (m : Member). m.slave) (find (λ (m : Member). m.rank == rank) line) slave is in
    let here = found-among (λ (m : Member). m.rank == rank) line stood.0 stood.1 in
    let own : Contains stood.0.slave.areas area = subst (λ (s : Slave). Contains s.areas area) (sym stood.2) at in
    let numbered = numbered-at 0 stood.0.slave.areas area own in
    record { found = record { member = stood.0; index = numbered.0; area = area }; of = record { member = here.among; own = numbered.1 }; is = refl }

pub area-of-rank : (groups : List Declared) (rank : ℕ) (area : Area) → Contains (areas_of_rank (areas_by_rank groups) rank) area → IsRanked groups rank area
area-of-rank groups rank area at = search (rules, ranked-by, areas-of-rank)

-- a variable that an area carries is offered at its slave's rank

abbrev pub Offers : List Area → List ℕ → Type 0
Offers areas names = (area : Area) (variable : ℕ) → Contains areas area → Contains (area_variables_of area) variable → Contains names variable

present-offers : (present : Bool) (slave : Slave) → Offers (if present then slave.areas else []) (area_names slave.areas)
present-offers true slave area variable at own = contains-flat_map (λ (a : Area). pdo_names a.offered) slave.areas area variable at (carried-offered area variable own)
present-offers false slave area variable (k, within, is) own = absurd (omega arith)

slaves-offer : (present : Bool) (slaves : List Slave) (areas : List (List Area)) (names : List (List ℕ))
    → ((i : ℕ) → Offers (slice_index_or areas i []) (slice_index_or names i []))
    → (i : ℕ) → Offers (slice_index_or (map (λ slave. if present then slave.areas else []) slaves ++ areas) i []) (slice_index_or (map (λ slave. area_names slave.areas) slaves ++ names) i [])
slaves-offer present [] areas names after_it i = after_it i
slaves-offer present (slave ∷ slaves) areas names after_it zero = present-offers present slave
slaves-offer present (slave ∷ slaves) areas names after_it (suc i) = slaves-offer present slaves areas names after_it i

slots-offer : (groups : List Declared) (i : ℕ) → Offers (slice_index_or (areas_by_rank groups) i []) (slice_index_or (variables_by_rank groups) i [])
slots-offer [] i area variable (k, within, is) own = absurd (omega arith)
slots-offer (declared ∷ groups) i area variable at own =
    slaves-offer declared.present declared.group.slaves (areas_by_rank groups) (variables_by_rank groups) (slots-offer groups) i area variable at own

pub rank-offers : (groups : List Declared) (rank : ℕ) → Offers (areas_of_rank (areas_by_rank groups) rank) (slice_index_or ([] ∷ variables_by_rank groups) rank [])
rank-offers groups zero area variable (k, within, is) own = absurd (omega arith)
rank-offers groups (suc i) area variable at own = slots-offer groups i area variable at own
