-- The index by rank of a declared slave.
use Rattle.std.proofs.Common.{◌≡◌, ℕ, ◌==◌, true, ◌||◌, List, [], ◌∷◌, map, get_or, refl, ap, ◌∙◌, Option, Some}
use Rattle.std.specs.Prelude.{is_some, position, slice_get}
use Rattle.std.specs.List.{list_any}
use Rattle.std.proofs.lemmas.Bool.{eqb-true}
use Rattle.std.proofs.lemmas.Iterator.Adapters.{position_from-zero}
use Rattle.std.proofs.lemmas.List.{map-append}
use Rattle.std.proofs.lemmas.List.Folds.{list_any-append}
use Rattle.std.proofs.lemmas.List.Quantifiers.{position-Some}
use Rattle.std.proofs.lemmas.Option.{slice_get-get_or}
use Rattle.hc_records.specs.declared.records.Declared.{Declared}
use Rattle.hc_records.specs.declared.records.Slave.{Slave}
use Rattle.hc_records.specs.Edits.{has_station, is_declared_station}
use Rattle.hc_records.specs.Line.{State, groups_of}
use Rattle.hc_records.specs.Project.{slaves_of}
use Rattle.hc_registers.specs.RankPlaces.{stations}
use Rattle.hc_core.proofs.Forgotten.{position-any}

slaves_any : (station : ℕ) (slaves : List Slave) → list_any (λ (other : ℕ). other == station) (map (λ (slave : Slave). slave.station) slaves) ≡ has_station station slaves
slaves_any station [] = refl
slaves_any station (slave ∷ slaves) = ap (λ b. (slave.station == station) || b) (slaves_any station slaves)

declared_any : (station : ℕ) (groups : List Declared)
    → list_any (λ (other : ℕ). other == station) (map (λ (slave : Slave). slave.station) (slaves_of (groups_of groups))) ≡ list_any (λ (declared : Declared). has_station station declared.group.slaves) groups
declared_any station [] = refl
declared_any station (declared ∷ groups) =
    let own = declared.group.slaves in
    let rest = slaves_of (groups_of groups) in
    ap (list_any (λ (other : ℕ). other == station)) (map-append (λ (slave : Slave). slave.station) own rest)
    ∙ list_any-append (λ (other : ℕ). other == station) (map (λ (slave : Slave). slave.station) own) (map (λ (slave : Slave). slave.station) rest)
    ∙ ap (λ b. b || list_any (λ (other : ℕ). other == station) (map (λ (slave : Slave). slave.station) rest)) (slaves_any station own)
    ∙ ap (λ b. has_station station own || b) (declared_any station groups)

pub index-some : (state : State) (station : ℕ) → is_declared_station state station ≡ true → is_some (position (λ other. other == station) (stations state)) ≡ true
index-some state station declared =
    ap (λ (found : Option ℕ). is_some found) (position_from-zero (λ (other : ℕ). other == station) (stations state)) ∙ position-any (λ (other : ℕ). other == station) 0 (stations state)
    ∙ declared_any station state.groups ∙ declared

pub index-at : (ranked : List ℕ) (station n : ℕ) → position (λ other. other == station) ranked ≡ Some n → slice_get ranked n ≡ Some station
index-at ranked station n found =
    let is = position-Some (λ (other : ℕ). other == station) ranked n 0 found in
    slice_get-get_or ranked n 0 is.0 ∙ ap (λ (x : ℕ). Some x) (eqb-true (get_or ranked n 0) station is.1)
