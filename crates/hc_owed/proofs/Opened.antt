-- The register state at the opening: its lists grow with the declared slaves, and they are right.
use Rattle.std.proofs.Common.{◌≡◌, Bool, ℕ, zero, suc, ◌+◌, ◌*◌, ◌/◌, true, false, cond, List, [], ◌∷◌, length, map, refl, ap, arith, length-append, rules}
use Rattle.std.specs.Prelude.{None, Option, Some, nat_lt, option_map, replicate, slice_get}
use Rattle.std.specs.List.{flat_map, range_with_len}
use Rattle.std.proofs.lemmas.Bool.{ltb-false, ltb-true}
use Rattle.std.proofs.lemmas.List.{map-append}
use Rattle.std.proofs.lemmas.List.FromFn.{length-map-range_with_len}
use Rattle.std.proofs.lemmas.Option.{slice_get_past}
use Rattle.hc_records.specs.declared.records.Declared.{Declared}
use Rattle.hc_records.specs.declared.records.Slave.{Slave}
use Rattle.hc_records.specs.Line.{Member, State, groups_of, line, members_from}
use Rattle.hc_records.specs.Project.{slaves_of}
use Rattle.hc_registers.specs.Blocks.{LineBlock, RegisterBlock, member_blocks}
use Rattle.hc_registers.specs.RankPlaces.{numbers, places, places_from, slave_places, stations}
use Rattle.hc_registers.proofs.lemmas.RanksGapless.{length-member}
use Rattle.hc_plan.proofs.lemmas.Differing.{there}
use Rattle.hc_owed.specs.RegisterState.{RegisterState, register_state_of, known_in, nothing_known, owed_in}
use Rattle.hc_owed.specs.Opening.{declared_flags, slave_has_block, slave_flags, slaves_flags}

pub length-flags_of_slave : (present : Bool) (slave : Slave) → length (slave_flags present slave) ≡ 16
unfolding numbers
length-flags_of_slave present slave = length-map-range_with_len (slave_has_block present slave) 0 16

pub length-slaves_flags : (present : Bool) (slaves : List Slave) → length (slaves_flags present slaves) ≡ 16 * length slaves
length-slaves_flags present [] = refl
length-slaves_flags present (slave ∷ slaves) = search (rules, length-flags_of_slave, length-append, length-slaves_flags present slaves)

pub length-declared : (groups : List Declared) → length (declared_flags groups) ≡ 16 * length (slaves_of (groups_of groups))
length-declared [] = refl
length-declared (d ∷ groups) = search (rules, length-slaves_flags, length-append, length-declared groups)

pub all-numbers : (present : Bool) (slave : Slave) (n : ℕ) → n ≡ 16 → map (slave_has_block present slave) (range_with_len 0 n) ≡ slave_flags present slave
unfolding numbers
all-numbers present slave n is = ap (λ (k : ℕ). map (slave_has_block present slave) (range_with_len 0 k)) is

-- a block of a slave of the line is owed while nothing is known

owed-below : (xs : List LineBlock) (n areas : ℕ) → length xs ≡ 2 * areas → owed_in nothing_known (slice_get xs n) ≡ nat_lt (n / 2) areas
owed-below xs n areas size = by (nat_lt (n / 2) areas) refl
  where
    by : (below : Bool) → nat_lt (n / 2) areas ≡ below → owed_in nothing_known (slice_get xs n) ≡ below
    by true is =
        let low = ltb-true (n / 2) areas is in
        let one = there xs n (omega (arith, low, size)) in
        ap (owed_in nothing_known) one.1
    by false is =
        let high = ltb-false (n / 2) areas is in
        ap (owed_in nothing_known) (slice_get_past xs n (omega (arith, high, size)))

numbers-owed : (line : List Member) (present : Bool) (member : Member) (ns : List ℕ) → map (owed_in nothing_known) (map (slice_get (cond present (member_blocks line member) [])) ns) ≡ map (slave_has_block present member.slave) ns
numbers-owed line present member [] = refl
numbers-owed line true member (n ∷ ns) = search (rules, owed-below, length-member, numbers-owed line true member ns)
numbers-owed line false member (n ∷ ns) = ap (λ (rest : List Bool). false ∷ rest) (numbers-owed line false member ns)

slaves-owed : (line : List Member) (present : Bool) (rank : ℕ) (slaves : List Slave) → map (owed_in nothing_known) (flat_map (slave_places line present) (members_from rank slaves)) ≡ slaves_flags present slaves
slaves-owed line present rank [] = refl
slaves-owed line present rank (slave ∷ slaves) = search (rules, map-append, numbers-owed, slaves-owed line present (rank + 1) slaves)

groups-owed : (line : List Member) (rank : ℕ) (groups : List Declared) → map (owed_in nothing_known) (places_from line rank groups) ≡ declared_flags groups
groups-owed line rank [] = refl
groups-owed line rank (d ∷ groups) = search (rules, map-append, slaves-owed, groups-owed line (rank + length d.group.slaves) groups)

none-known : (blocks : List (Option LineBlock)) → map (known_in nothing_known) blocks ≡ replicate (length blocks) None
none-known [] = refl
none-known (None ∷ blocks) = ap (λ (rest : List (Option (List ℕ))). None ∷ rest) (none-known blocks)
none-known (Some block ∷ blocks) = ap (λ (rest : List (Option (List ℕ))). None ∷ rest) (none-known blocks)

pub length-copies : {X : Type 0} (n : ℕ) (x : X) → length (replicate n x) ≡ n
length-copies zero x = refl
length-copies (suc n) x = ap suc (length-copies n x)

pub none-bytes : (n : ℕ) → map (λ known. option_map (λ (block : RegisterBlock). block.bytes) known) (replicate n None) ≡ replicate n None
none-bytes zero = refl
none-bytes (suc n) = ap (λ (rest : List (Option (List ℕ))). None ∷ rest) (none-bytes n)

abbrev pub register_state_from : List (Option (List ℕ)) → List Bool → List ℕ → RegisterState
register_state_from known owed stations = record { known = known; owed = owed; stations = stations }

-- the register state at the opening has nothing known, the places with a block, and the station addresses
pub opened-right : (state : State) (n : ℕ) → n ≡ length (places state) → register_state_from (replicate n None) (declared_flags state.groups) (stations state) ≡ register_state_of nothing_known state
opened-right state n size = search (rules, none-known, groups-owed)
