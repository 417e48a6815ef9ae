-- What holds of no area, or of no slave, holds of none where the area of one slave is changed without harm.
use Rattle.std.proofs.Common.{◌≡◌, ℕ, zero, suc, Bool, true, false, List, [], ◌∷◌, Some, length, refl, ap, ◌∙◌, if◌then◌else◌}
use Rattle.std.specs.Prelude.{All, ◌==◌, ◌||◌, map, nat_lt, slice_get}
use Rattle.std.specs.List.{list_any}
use Rattle.std.proofs.lemmas.Bool.{eqb-true, or_from, or_parts}
use Rattle.std.proofs.lemmas.List.Elements.{All-head, All-tail}
use Rattle.hc_records.specs.declared.limits.TheConstants.{MOST_AREAS}
use Rattle.hc_records.specs.declared.records.Area.{Area}
use Rattle.hc_records.specs.declared.records.Slave.{Slave}
use Rattle.hc_records.specs.Lists.{changed_at}
use Rattle.hc_records.specs.Edits.{with_area}
use Rattle.hc_records.specs.Project.{area_outside, slave_outside}
use Rattle.hc_groups.proofs.Changed.{length-changed_at}
use Rattle.hc_groups.proofs.Same.{with_areas}
use Rattle.hc_groups.proofs.Stations.{HasArea}

-- a change of a value brings no condition about
abbrev pub Spares : {X : Type 0} → (X → Bool) → (X → X) → X → Type 0
Spares test change x = test x ≡ false → test (change x) ≡ false

pub none-after : {X : Type 0} (test : X → Bool) (change : X → X) (xs : List X) → list_any test xs ≡ false → All (Spares test change) xs → list_any test (map change xs) ≡ false
none-after test change [] none spares = refl
none-after test change (x ∷ xs) none spares =
    let parts = or_parts (test x) (list_any test xs) none in
    or_from (test (change x)) (list_any test (map change xs))
    (All-head (Spares test change) x xs spares parts.0)
    (none-after test change xs parts.1 (All-tail (Spares test change) x xs spares))

none-changed : {X : Type 0} (test : X → Bool) (index : ℕ) (change : X → X) (xs : List X) (x : X) → list_any test xs ≡ false → slice_get xs index ≡ Some x → Spares test change x →
    list_any test (changed_at index change xs) ≡ false
none-changed test index change [] x none at spares = refl
none-changed test zero change (first ∷ xs) x none at spares =
    let parts = or_parts (test first) (list_any test xs) none in
    let same : x ≡ first = cc in
    or_from (test (change first)) (list_any test xs) (rw same at spares parts.0) parts.1
none-changed test (suc index) change (first ∷ xs) x none at spares =
    let parts = or_parts (test first) (list_any test xs) none in
    or_from (test first) (list_any test (changed_at index change xs)) parts.0 (none-changed test index change xs x parts.1 at spares)

with-after : (here : Bool) (test : Slave → Bool) (slave after : Slave) → (here ≡ true → test after ≡ false) → test slave ≡ false → test (if here then after else slave) ≡ false
with-after true test slave after changed unchanged = changed refl
with-after false test slave after changed unchanged = unchanged

-- a slave whose areas meet no test
pub areas-spared : (test : Area → Bool) (station index : ℕ) (change : Area → Area) (area : Area) (slave : Slave) → Spares test change area → HasArea station index area slave →
    Spares (λ (s : Slave). list_any test s.areas) (with_area station index change) slave
areas-spared test station index change area slave spares has none =
    with-after (slave.station == station) (λ (s : Slave). list_any test s.areas) slave (with_areas slave (changed_at index change slave.areas))
    (λ here. none-changed test index change slave.areas area none (has (eqb-true slave.station station here)) spares)
    none

-- a slave in its ranges
pub slave-spared : (station index : ℕ) (change : Area → Area) (area : Area) (slave : Slave) → Spares area_outside change area → HasArea station index area slave →
    Spares slave_outside (with_area station index change) slave
slave-spared station index change area slave spares has inside =
    let most = nat_lt MOST_AREAS (length slave.areas) in
    let parts = or_parts ((slave.station == 0) || most) (list_any area_outside slave.areas) inside in
    let first = or_parts (slave.station == 0) most parts.0 in
    let after = changed_at index change slave.areas in
    let few : nat_lt MOST_AREAS (length after) ≡ false = ap (λ (n : ℕ). nat_lt MOST_AREAS n) (length-changed_at index change slave.areas) ∙ first.1 in
    with-after (slave.station == station) slave_outside slave (with_areas slave after)
    (λ here. or_from ((slave.station == 0) || nat_lt MOST_AREAS (length after)) (list_any area_outside after)
    (or_from (slave.station == 0) (nat_lt MOST_AREAS (length after)) first.0 few)
    (none-changed area_outside index change slave.areas area parts.1 (has (eqb-true slave.station station here)) spares))
    inside
