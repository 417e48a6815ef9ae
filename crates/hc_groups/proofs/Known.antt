-- A declared group or slave that an edit names is found, and what becomes of it.
use Rattle.std.proofs.Common.{◌≡◌, ◌≢◌, ℕ, Bool, true, List, [], Option, Some, None, Result, refl, ap, ◌∙◌, rules}
use Rattle.std.specs.Prelude.{IfOk, option_and_then, option_map, position}
use Rattle.std.specs.Option.{option_map_or}
use Rattle.std.specs.List.{list_any}
use Rattle.hc_records.specs.declared.records.Area.{Area}
use Rattle.hc_records.specs.declared.records.Declared.{Declared}
use Rattle.hc_records.specs.Line.{has_address}
use Rattle.hc_groups.specs.declared.changes.AreasChange.{AreasChange}
use Rattle.hc_groups.specs.declared.changes.SlavePlace.{SlavePlace}
use Rattle.hc_groups.specs.Changes.{areas_change, areas_changed, has_alias, has_slave, station_place, presence_change, slave_place, slaves_at}
use Rattle.hc_groups.proofs.Found.{first-at, some-found, there}

mapped-none : {X Y : Type 0} (f : X → Y) (found : Option X) → option_map f found ≡ None → found ≡ None
mapped-none f found is = search rules

pub known-group : (groups : List Declared) (alias : ℕ) (present : Bool) → list_any (has_alias alias) groups ≡ true → presence_change groups alias present ≢ None
known-group groups alias present some none = search (rules, some-found, mapped-none)

known-by : (found : Option ℕ) (groups : List Declared) (station : ℕ) → list_any (has_slave station) groups ≡ true → position (has_slave station) groups ≡ found →
    option_and_then (station_place groups station) found ≢ None
known-by None groups station some at none = some-found (has_slave station) groups some at
known-by (Some group) groups station some at none =
    let it = there (λ d. d ≡ d) (has_slave station) group groups (λ i d within. refl) (first-at (has_slave station) group groups at) in
    let slaves : slaves_at groups group ≡ it.found.group.slaves = ap (λ (o : Option Declared). option_map_or (λ d. d.group.slaves) o []) it.at in
    let has : list_any (has_address station) (slaves_at groups group) ≡ true = ap (list_any (has_address station)) slaves ∙ it.passes in
    search (rules, some-found, mapped-none)

pub known-slave : (groups : List Declared) (station : ℕ) → list_any (has_slave station) groups ≡ true → slave_place groups station ≢ None
known-slave groups station some = known-by (position (has_slave station) groups) groups station some refl

pub areas-known : {E : Type 0} (result : Result AreasChange E) (groups : List Declared) (station area : ℕ) (change : Area → Area) (place : SlavePlace) → slave_place groups station ≡ Some place →
    IfOk result (λ found. found ≡ areas_changed groups area change place) → IfOk result (λ found. areas_change groups station area change ≡ Some found)
areas-known result groups station area change place at is = search rules
