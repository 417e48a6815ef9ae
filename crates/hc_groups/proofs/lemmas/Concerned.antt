-- The slaves that a change concerns have ranks that follow one another, and the others stay as they were.
use Rattle.std.proofs.Common.{◌≡◌, subst, ℕ, zero, suc, Bool, List, [], ◌∷◌, ◌++◌, Option, Some, drop, length, take, refl, sym, ap, ◌∙◌, arith, length-append, rules}
use Rattle.std.specs.Prelude.{option_map, option_to_list, position, slice_get, sum_by}
use Rattle.std.specs.Option.{option_map_or}
use Rattle.std.proofs.lemmas.Grind.{flat_map-append}
use Rattle.std.proofs.lemmas.List.{append_assoc, length-map, length-take-le, map-append}
use Rattle.std.proofs.lemmas.Option.{slice_get_within}
use Rattle.std.proofs.lemmas.List.Sums.{sum_by-cons}
use Rattle.hc_records.specs.declared.records.Area.{Area}
use Rattle.hc_records.specs.declared.records.Slave.{Slave}
use Rattle.hc_records.specs.declared.records.Declared.{Declared}
use Rattle.hc_records.specs.declared.edit.Edit.{Edit}
use Rattle.hc_records.specs.Line.{has_address}
use Rattle.hc_records.specs.Lists.{changed_at}
use Rattle.hc_records.proofs.lemmas.Finds.{mapped-some}
use Rattle.hc_groups.specs.declared.changes.AreasChange.{AreasChange}
use Rattle.hc_groups.specs.declared.changes.PresenceChange.{PresenceChange}
use Rattle.hc_groups.specs.declared.prepared.Prepared.{Prepared}
use Rattle.hc_groups.specs.declared.prepared.Prepared.TheVariants.{Presence, Areas}
use Rattle.hc_groups.specs.Changes.{areas_change, areas_changed, change_by, changed_groups, has_alias, has_slave, place_at, station_place, presence_at, presence_change, slave_place, slaves_at, with_areas, with_present, with_slave}
use Rattle.hc_groups.specs.Rows.{ChangesRow, Ranked, by_rank, given_row, present_ranked, row}
use Rattle.hc_groups.proofs.lemmas.CarriedOut.{joined-some}
use Rattle.hc_groups.proofs.Found.{first-at, there}

-- a list is what is before an element, the element, and what is after it
split-at : {X : Type 0} (i : ℕ) (xs : List X) (x : X) → slice_get xs i ≡ Some x → xs ≡ take i xs ++ x ∷ drop (suc i) xs
split-at i [] x at = cc
split-at zero (first ∷ xs) x at = search rules
split-at (suc i) (first ∷ xs) x at = ap (λ rest. first ∷ rest) (split-at i xs x at)

-- a change of the element leaves the others
changed-split : {X : Type 0} (i : ℕ) (change : X → X) (xs : List X) (x : X) → slice_get xs i ≡ Some x → changed_at i change xs ≡ take i xs ++ change x ∷ drop (suc i) xs
changed-split i change [] x at = cc
changed-split zero change (first ∷ xs) x at = search rules
changed-split (suc i) change (first ∷ xs) x at = ap (λ rest. first ∷ rest) (changed-split i change xs x at)

get-changed : {X : Type 0} (i : ℕ) (change : X → X) (xs : List X) → slice_get (changed_at i change xs) i ≡ option_map change (slice_get xs i)
get-changed i change [] = refl
get-changed zero change (x ∷ xs) = refl
get-changed (suc i) change (x ∷ xs) = get-changed i change xs

-- what becomes of the slaves that a change concerns

or-mapped : {X Y Z : Type 0} (f : X → Y) (g : Y → Z) (found : Option X) (z : Z) → option_map_or g (option_map f found) z ≡ option_map_or (λ x. g (f x)) found z
or-mapped f g found z = search rules

pub presence-row : (change : PresenceChange) (groups : List Declared) →
    row (Presence change) (changed_groups (Presence change) groups) ≡ option_map_or (λ (d : Declared). present_ranked change.present d.group.slaves) (slice_get groups change.group) []
presence-row change groups = search (rules, get-changed, or-mapped)

given-alike : (change : AreasChange) (found : Option Declared) →
    option_map_or (λ (d : Declared). present_ranked d.present (option_to_list (slice_get d.group.slaves change.place.slave))) (option_map (with_slave change.place.slave change.areas) found) []
    ≡ option_map_or (given_row change) found []
given-alike change found = search (rules, get-changed)

pub areas-row : (change : AreasChange) (groups : List Declared) →
    row (Areas change) (changed_groups (Areas change) groups) ≡ option_map_or (given_row change) (slice_get groups change.place.group) []
areas-row change groups = search (rules, get-changed, given-alike)

-- where they are

abbrev rank_all : Declared → List Ranked
rank_all declared = present_ranked declared.present declared.group.slaves

by_rank-around : (front after_it : List Declared) (declared : Declared) → by_rank (front ++ declared ∷ after_it) ≡ by_rank front ++ (rank_all declared ++ by_rank after_it)
by_rank-around front after_it declared = flat_map-append rank_all front (declared ∷ after_it)

rank-count : (groups : List Declared) → length (by_rank groups) ≡ sum_by (λ declared. length declared.group.slaves) groups
rank-count [] = refl
rank-count (declared ∷ groups) = search (rules, length-append, length-map, sum_by-cons, rank-count groups)

presence-concerned : (groups : List Declared) (group : ℕ) (present : Bool) (found : Declared) → slice_get groups group ≡ Some found →
    ChangesRow (Presence (presence_at groups present group)) groups
presence-concerned groups group present found at =
    let change = presence_at groups present group in
    let front = take group groups in
    let after_it = drop (suc group) groups in
    let slaves = found.group.slaves in
    let as_declared = ap (λ (found : Option Declared). option_map_or (λ (d : Declared). d.group.slaves) found []) at in
    let was : row (Presence change) groups ≡ present_ranked found.present slaves = ap (λ (found : Option Declared). option_map_or rank_all found []) at in
    let is : row (Presence change) (changed_groups (Presence change) groups) ≡ present_ranked present slaves =
    presence-row change groups ∙ ap (λ (found : Option Declared). option_map_or (λ (d : Declared). present_ranked present d.group.slaves) found []) at in
    let counted = rank-count front in
    record {
      front = by_rank front;
      after_it = by_rank after_it;
      first = omega (arith, counted);
      many_before = ap length was ∙ length-map slaves (λ slave. record { present = found.present; slave = slave }) ∙ sym (ap length as_declared);
      many_after = ap length is ∙ length-map slaves (λ slave. record { present = present; slave = slave }) ∙ sym (ap length as_declared);
      before = ap by_rank (split-at group groups found at) ∙ by_rank-around front after_it found
          ∙ sym (ap (λ (row : List Ranked). by_rank front ++ (row ++ by_rank after_it)) was);
      after = ap by_rank (changed-split group (with_present present) groups found at) ∙ by_rank-around front after_it (with_present present found)
          ∙ sym (ap (λ (row : List Ranked). by_rank front ++ (row ++ by_rank after_it)) is);
    }

among : (before front after_it after : List Ranked) (one : Ranked) → before ++ ((front ++ one ∷ after_it) ++ after) ≡ (before ++ front) ++ one ∷ (after_it ++ after)
among before front after_it after one = search (rules, append_assoc)

-- a group's slaves around one of them
ranked-around : (present : Bool) (front after_it : List Slave) (slave : Slave) →
    present_ranked present (front ++ slave ∷ after_it) ≡ present_ranked present front ++ record { present = present; slave = slave } ∷ present_ranked present after_it
ranked-around present front after_it slave = map-append (λ slave. record { present = present; slave = slave }) front (slave ∷ after_it)

areas-concerned : (groups : List Declared) (group slave : ℕ) (areas : List Area) (found : Declared) (one : Slave) → slice_get groups group ≡ Some found → slice_get found.group.slaves slave ≡ Some one →
    ChangesRow (Areas (record { place = place_at groups group slave; areas = areas })) groups
areas-concerned groups group slave areas found one at is_placed =
    let change : AreasChange = record { place = place_at groups group slave; areas = areas } in
    let present = found.present in
    let front = take group groups in
    let after_it = drop (suc group) groups in
    let slaves = found.group.slaves in
    let before = take slave slaves in
    let after = drop (suc slave) slaves in
    let was : row (Areas change) groups ≡ record { present = present; slave = one } ∷ [] = search rules in
    let is : row (Areas change) (changed_groups (Areas change) groups) ≡ record { present = present; slave = with_areas areas one } ∷ [] =
    areas-row change groups
    ∙ ap (λ (found : Option Declared). option_map_or (given_row change) found []) at
    ∙ ap (λ (found : Option Slave). present_ranked present (option_to_list (option_map (with_areas areas) found))) is_placed in
    let counted = rank-count front in
    let both = length-append (by_rank front) (present_ranked present before) in
    let as_many = length-map {B = Ranked} before (λ slave. record { present = present; slave = slave }) in
    let within = slice_get_within slaves slave one is_placed in
    let taken = length-take-le slave slaves (omega (arith, within)) in
    record {
      front = by_rank front ++ present_ranked present before;
      after_it = present_ranked present after ++ by_rank after_it;
      first = omega (arith, counted, both, as_many, taken);
      many_before = ap length was;
      many_after = ap length is;
      before = ap by_rank (split-at group groups found at)
          ∙ by_rank-around front after_it found
          ∙ ap (λ (own : List Ranked). by_rank front ++ (own ++ by_rank after_it)) (ap (present_ranked present) (split-at slave slaves one is_placed) ∙ ranked-around present before after one)
          ∙ among (by_rank front) (present_ranked present before) (present_ranked present after) (by_rank after_it) (record { present = present; slave = one })
          ∙ sym (ap (λ (row : List Ranked). (by_rank front ++ present_ranked present before) ++ (row ++ (present_ranked present after ++ by_rank after_it))) was);
      after = ap by_rank (changed-split group (with_slave slave areas) groups found at)
          ∙ by_rank-around front after_it (with_slave slave areas found)
          ∙ ap (λ (own : List Ranked). by_rank front ++ (own ++ by_rank after_it)) (ap (present_ranked present) (changed-split slave (with_areas areas) slaves one is_placed) ∙ ranked-around present before after (with_areas areas one))
          ∙ among (by_rank front) (present_ranked present before) (present_ranked present after) (by_rank after_it) (record { present = present; slave = with_areas areas one })
          ∙ sym (ap (λ (row : List Ranked). (by_rank front ++ present_ranked present before) ++ (row ++ (present_ranked present after ++ by_rank after_it))) is);
    }

-- what an edit changes is a change of such slaves

presence-changes : (groups : List Declared) (alias : ℕ) (present : Bool) (change : PresenceChange) → presence_change groups alias present ≡ Some change → ChangesRow (Presence change) groups
presence-changes groups alias present change is =
    let at = mapped-some (presence_at groups present) (position (has_alias alias) groups) change is in
    let it = there (λ d. d ≡ d) (has_alias alias) at.0 groups (λ i d within. refl) (first-at (has_alias alias) at.0 groups at.1) in
    subst (λ (c : PresenceChange). ChangesRow (Presence c) groups) at.2 (presence-concerned groups at.0 present it.found it.at)

areas-changes : (groups : List Declared) (station area : ℕ) (change : Area → Area) (made : AreasChange) → areas_change groups station area change ≡ Some made → ChangesRow (Areas made) groups
areas-changes groups station area change made is =
    let at = mapped-some (areas_changed groups area change) (slave_place groups station) made is in
    let among = joined-some (station_place groups station) (position (has_slave station) groups) at.0 at.1 in
    let own = mapped-some (place_at groups among.0) (position (has_address station) (slaves_at groups among.0)) at.0 among.2 in
    let group = there (λ d. d ≡ d) (has_slave station) among.0 groups (λ i d within. refl) (first-at (has_slave station) among.0 groups among.1) in
    let slaves : slaves_at groups among.0 ≡ group.found.group.slaves = ap (λ (found : Option Declared). option_map_or (λ (d : Declared). d.group.slaves) found []) group.at in
    let slave = there (λ s. s ≡ s) (has_address station) own.0 (slaves_at groups among.0) (λ i s within. refl) (first-at (has_address station) own.0 (slaves_at groups among.0) own.1) in
    let place = place_at groups among.0 own.0 in
    search (rules, areas-concerned)

pub change-of-row : (groups : List Declared) (edit : Edit) (change : Prepared) → change_by groups edit ≡ Some change → ChangesRow change groups
change-of-row groups edit change is = search (rules, mapped-some, presence-changes, areas-changes)
