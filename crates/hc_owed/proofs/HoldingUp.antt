-- The slaves that hold a task up, by the state of their areas.
use Rattle.std.proofs.Common.{◌≡◌, ℕ, zero, suc, ◌+◌, ◌-◌, ◌*◌, ◌/◌, ◌%◌, ◌<◌, ◌≤◌, ◌==◌, ◌&&◌, ◌||◌, Bool, true, false, cond, AllPairs, Contains, List, [], ◌∷◌, ◌++◌, drop, length, map, take, refl, sym, ap, ap₂, subst, ◌⊎◌, inl, inr, ◌∙◌, arith, length-append, get_or}
use Rattle.std.specs.Prelude.{◌≢◌, None, Some, Option, filter, find, is_some, nat_lt, not, option_map, slice_get, slice_range}
use Rattle.std.specs.List.{flat_map, list_any, range_with_len}
use Rattle.std.proofs.lemmas.Bool.{and_parts, eqb-true, eqb-false, eq-eqb, ltb-true, ltb-false}
use Rattle.std.proofs.lemmas.List.{length-map, length-take, map-append}
use Rattle.std.proofs.lemmas.List.FromFn.{get_or-range_with_len, length-range_with_len}
use Rattle.std.proofs.lemmas.List.Elements.{All-contains, Contains-append_cases, Contains-append_left, Contains-append_right}
use Rattle.std.proofs.lemmas.Option.{same_Some, slice_get-get_or, slice_get-map, slice_get_within}
use Rattle.hc_records.specs.declared.records.Declared.{Declared}
use Rattle.hc_records.specs.declared.records.Slave.{Slave}
use Rattle.hc_records.specs.Edits.{over_limit_task, slave_at}
use Rattle.hc_records.specs.Limits.{IsSlaveInside}
use Rattle.hc_records.specs.Line.{Member, State, groups_of, is_at, line, line_from, members_from}
use Rattle.hc_records.specs.Project.{lowest_fault}
use Rattle.hc_records.proofs.lemmas.Limits.{project-inside}
use Rattle.hc_records.proofs.lemmas.Lines.{declared_slaves}
use Rattle.hc_records.proofs.lemmas.Lists.{AllPairs-unmap, get-back, get-front}
use Rattle.hc_registers.specs.Blocks.{LineBlock, line_blocks}
use Rattle.hc_registers.specs.RankLaws.{standing}
use Rattle.hc_registers.specs.RankPlaces.{places, stations}
use Rattle.hc_registers.proofs.lemmas.RanksGapless.{places-hold}
use Rattle.hc_changes.proofs.lemmas.Lists.{contains-flat_map, flat_map-piece, found-among}
use Rattle.hc_changes.proofs.lemmas.OneProject.{one-index}
use Rattle.hc_plan.proofs.lemmas.Configured.{at-contained}
use Rattle.hc_plan.proofs.lemmas.Differing.{there}
use Rattle.hc_plan.proofs.lemmas.Elements.{contains-mapped, contains-order, contains-unchanged, contains-unkept, contains-unmapped, some-passes, which-passes}
use Rattle.hc_plan.proofs.lemmas.PlaceNames.{is_placed-on}
use Rattle.hc_events.specs.Ready.{absent_slaves, fmmu_registers, names_among, registers_outside, slaves_outside}
use Rattle.hc_owed.specs.declared.area.JudgedArea.{JudgedArea}
use Rattle.hc_owed.specs.Areas.{fmmu_concerns, sync_manager_concerns}
use Rattle.hc_owed.specs.Flags.{nth_set}
use Rattle.hc_owed.specs.Holders.{IsHolder, area_holds, area_holds_outside, flag_at, flags_of, holding_slaves, holds_task, holds_task_outside, own_areas}
use Rattle.hc_owed.specs.Readiness.{Holdings, area_slave, block_concerns, counts_outside, fmmu_at, judged_at, readiness_of, slot, blocks_waited_for, registers_waited_for}
use Rattle.hc_owed.specs.ReadinessSteps.{IsReadinessFor}
use Rattle.hc_owed.specs.RegisterState.{Knowledge, lacks, owed_in}
use Rattle.hc_owed.specs.TaskSets.{has_task}
use Rattle.hc_owed.proofs.AreaPlaces.{area-is, area-of, get-range, in-line, is-range, length-range, of-area, slot-at, slot-is}
use Rattle.hc_owed.proofs.JudgedAreas.{judged-none, judged-some}
use Rattle.hc_owed.proofs.Picked.{at_flag, picked, picked-at}
use Rattle.hc_owed.proofs.ReadyTurns.{out-of-line}
use Rattle.hc_owed.proofs.TaskLists.{has-where}
use Rattle.hc_owed.proofs.Waits.{flagged, one-area-flags}
use Rattle.hc_owed.proofs.WaitsOutside.{area-flag}

-- two tests are the same if each follows from the other
same-test : (a b : Bool) → (a ≡ true → b ≡ true) → (b ≡ true → a ≡ true) → a ≡ b
same-test true b there back = sym (there refl)
same-test false true there back = back refl
same-test false false there back = refl

some-false : (b : Bool) → (b ≡ true → ⊥) → b ≡ false
some-false true never = absurd (never refl)
some-false false never = refl

-- a block that is at some place
record IsSomewhere (all : List (Option LineBlock)) (block : LineBlock) : Type 0 where
  place : ℕ
  at : slice_get all place ≡ Some (Some block)

standing-somewhere : (all : List (Option LineBlock)) (block : LineBlock) → Contains (standing all) block → IsSomewhere all block
standing-somewhere [] block (k, within, is) = absurd (omega (arith, within))
standing-somewhere (None ∷ all) block has = let rest = standing-somewhere all block has in record { place = suc rest.place; at = rest.at }
standing-somewhere (Some b ∷ all) block (zero, within, is) = record { place = 0; at = ap (λ (x : LineBlock). Some (Some x)) is }
standing-somewhere (Some b ∷ all) block (suc k, within, is) =
    let rest = standing-somewhere all block (k, omega (arith, within), is) in
    record { place = suc rest.place; at = rest.at }

somewhere-standing : (all : List (Option LineBlock)) (n : ℕ) (block : LineBlock) → slice_get all n ≡ Some (Some block) → Contains (standing all) block
somewhere-standing [] n block at = cc
somewhere-standing (None ∷ all) zero block at = let never : Some None ≡ Some (Some block) = at in cc
somewhere-standing (None ∷ all) (suc n) block at = somewhere-standing all n block at
somewhere-standing (Some b ∷ all) zero block at = (0, omega arith, let same : Some b ≡ Some block = same_Some (Some b) (Some block) at in same_Some b block same)
somewhere-standing (Some b ∷ all) (suc n) block at =
    let rest = somewhere-standing all n block at in
    let within = rest.1 in
    (suc rest.0, omega (arith, within), rest.2)

-- the eight areas of a slave

get-part : {X : Type 0} (xs : List X) (from j : ℕ) → j < 8 → slice_get (slice_range xs from (from + 8)) j ≡ slice_get xs (from + j)
get-part xs from j low =
    let eight : from + 8 - from ≡ 8 = omega arith in
    ap (λ (n : ℕ). slice_get (take n (drop from xs)) j) eight ∙ taken 8 (drop from xs) j low ∙ dropped from xs j
  where
    taken : {Y : Type 0} (n : ℕ) (ys : List Y) (j : ℕ) → j < n → slice_get (take n ys) j ≡ slice_get ys j
    taken zero ys j low = absurd (omega (arith, low))
    taken (suc n) [] j low = refl
    taken (suc n) (y ∷ ys) zero low = refl
    taken (suc n) (y ∷ ys) (suc j) low = taken n ys j (omega (arith, low))

    dropped : {Y : Type 0} (n : ℕ) (ys : List Y) (j : ℕ) → slice_get (drop n ys) j ≡ slice_get ys (n + j)
    dropped zero ys j = ap (slice_get ys) (omega arith)
    dropped (suc n) [] j = refl
    dropped (suc n) (y ∷ ys) j = let shift : suc n + j ≡ suc (n + j) = omega arith in dropped n ys j ∙ ap (slice_get (y ∷ ys)) (sym shift)

part-within : {X : Type 0} (xs : List X) (from k : ℕ) → k < length (slice_range xs from (from + 8)) → k < 8
part-within xs from k low =
    let eight : from + 8 - from ≡ 8 = omega arith in
    let most = length-take (from + 8 - from) (drop from xs) in
    omega (arith, low, eight, most)

-- the slaves with their presence

abbrev pair : Bool → Slave → Bool × Slave
pair present slave = (present, slave)

abbrev pairs : List Declared → List (Bool × Slave)
pairs groups = flat_map (λ (d : Declared). map (λ (s : Slave). (pair d.present s)) d.group.slaves) groups

pairs-slaves : (groups : List Declared) → map (λ (p : Bool × Slave). p.1) (pairs groups) ≡ declared_slaves groups
pairs-slaves [] = refl
pairs-slaves (d ∷ groups) =
    map-append (λ (p : Bool × Slave). p.1) (map (λ (s : Slave). (pair d.present s)) d.group.slaves) (pairs groups)
    ∙ ap₂ (λ (a b : List Slave). a ++ b) (plain d.group.slaves) (pairs-slaves groups)
  where
    plain : (slaves : List Slave) → map (λ (p : Bool × Slave). p.1) (map (λ (s : Slave). (pair d.present s)) slaves) ≡ slaves
    plain [] = refl
    plain (s ∷ slaves) = ap (λ (l : List Slave). s ∷ l) (plain slaves)

members-pairs : (present : Bool) (rank : ℕ) (slaves : List Slave) (member : Member) → Contains (members_from rank (cond present slaves [])) member → Contains (map (λ (s : Slave). (pair present s)) slaves) (pair true member.slave)
members-pairs false rank slaves member (k, within, is) = absurd (omega (arith, within))
members-pairs true rank [] member (k, within, is) = absurd (omega (arith, within))
members-pairs true rank (slave ∷ slaves) member (zero, within, is) = (0, omega arith, ap (λ (m : Member). (pair true m.slave)) is)
members-pairs true rank (slave ∷ slaves) member (suc k, within, is) =
    let rest = members-pairs true (rank + 1) slaves member (k, omega (arith, within), is) in
    let inside = rest.1 in
    (suc rest.0, omega (arith, inside), rest.2)

line-pairs : (rank : ℕ) (groups : List Declared) (member : Member) → Contains (line_from rank groups) member → Contains (pairs groups) (pair true member.slave)
line-pairs rank [] member (k, within, is) = absurd (omega (arith, within))
line-pairs rank (d ∷ groups) member has =
    elim (Contains-append_cases (members_from rank (cond d.present d.group.slaves [])) (line_from (rank + length d.group.slaves) groups) member has) [
      | inl own ↦ Contains-append_left (map (λ (s : Slave). (pair d.present s)) d.group.slaves) (pairs groups) (pair true member.slave) (by d.present own)
      | inr rest ↦ Contains-append_right (map (λ (s : Slave). (pair d.present s)) d.group.slaves) (pairs groups) (pair true member.slave) (line-pairs (rank + length d.group.slaves) groups member rest)
    ]
  where
    by : (present : Bool) → Contains (members_from rank (cond present d.group.slaves [])) member → Contains (map (λ (s : Slave). (pair present s)) d.group.slaves) (pair true member.slave)
    by present own = members-pairs present rank d.group.slaves member own

absent-pairs : (groups : List Declared) (slave : Slave) → Contains (flat_map absent_slaves groups) slave → Contains (pairs groups) (pair false slave)
absent-pairs [] slave (k, within, is) = absurd (omega (arith, within))
absent-pairs (d ∷ groups) slave has =
    elim (Contains-append_cases (absent_slaves d) (flat_map absent_slaves groups) slave has) [
      | inl own ↦ Contains-append_left (map (λ (s : Slave). (pair d.present s)) d.group.slaves) (pairs groups) (pair false slave) (by d.present own)
      | inr rest ↦ Contains-append_right (map (λ (s : Slave). (pair d.present s)) d.group.slaves) (pairs groups) (pair false slave) (absent-pairs groups slave rest)
    ]
  where
    by : (present : Bool) → Contains (cond present [] d.group.slaves) slave → Contains (map (λ (s : Slave). (pair present s)) d.group.slaves) (pair false slave)
    by true (k, within, is) = absurd (omega (arith, within))
    by false own = contains-mapped (λ (s : Slave). (pair false s)) d.group.slaves slave own

pairs-absent : (groups : List Declared) (slave : Slave) → Contains (pairs groups) (pair false slave) → Contains (flat_map absent_slaves groups) slave
pairs-absent [] slave (k, within, is) = absurd (omega (arith, within))
pairs-absent (d ∷ groups) slave has =
    elim (Contains-append_cases (map (λ (s : Slave). (pair d.present s)) d.group.slaves) (pairs groups) (pair false slave) has) [
      | inl own ↦ Contains-append_left (absent_slaves d) (flat_map absent_slaves groups) slave (by d.present own)
      | inr rest ↦ Contains-append_right (absent_slaves d) (flat_map absent_slaves groups) slave (pairs-absent groups slave rest)
    ]
  where
    by : (present : Bool) → Contains (map (λ (s : Slave). (pair present s)) d.group.slaves) (pair false slave) → Contains (cond present [] d.group.slaves) slave
    by true own =
        let one = contains-unmapped (λ (s : Slave). (pair true s)) d.group.slaves (pair false slave) own in
        let never : true ≡ false = ap (λ (p : Bool × Slave). p.0) one.2 in cc
    by false own =
        let one = contains-unmapped (λ (s : Slave). (pair false s)) d.group.slaves (pair false slave) own in
        subst (λ (s : Slave). Contains d.group.slaves s) (ap (λ (p : Bool × Slave). p.1) one.2) one.1

members-of : (present : Bool) (rank : ℕ) (slaves : List Slave) (slave : Slave) → Contains (map (λ (s : Slave). (pair present s)) slaves) (pair true slave) → (m : Member) × Contains (members_from rank (cond present slaves [])) m × (m.slave ≡ slave)
members-of false rank slaves slave own =
    let one = contains-unmapped (λ (s : Slave). (pair false s)) slaves (pair true slave) own in
    let never : false ≡ true = ap (λ (p : Bool × Slave). p.0) one.2 in cc
members-of true rank [] slave (k, within, is) = absurd (omega (arith, within))
members-of true rank (s ∷ slaves) slave (zero, within, is) = (record { rank = rank; slave = s }, (0, omega arith, refl), ap (λ (p : Bool × Slave). p.1) is)
members-of true rank (s ∷ slaves) slave (suc k, within, is) =
    let rest = members-of true (rank + 1) slaves slave (k, omega (arith, within), is) in
    let inside = rest.1.1 in
    (rest.0, (suc rest.1.0, omega (arith, inside), rest.1.2), rest.2)

pairs-line : (rank : ℕ) (groups : List Declared) (slave : Slave) → Contains (pairs groups) (pair true slave) → (m : Member) × Contains (line_from rank groups) m × (m.slave ≡ slave)
pairs-line rank [] slave (k, within, is) = absurd (omega (arith, within))
pairs-line rank (d ∷ groups) slave has =
    let next = rank + length d.group.slaves in
    elim (Contains-append_cases (map (λ (s : Slave). (pair d.present s)) d.group.slaves) (pairs groups) (pair true slave) has) [
      | inl own ↦
          let one = members-of d.present rank d.group.slaves slave own in
          (one.0, Contains-append_left (members_from rank (cond d.present d.group.slaves [])) (line_from next groups) one.0 one.1, one.2)
      | inr rest ↦
          let one = pairs-line next groups slave rest in
          (one.0, Contains-append_right (members_from rank (cond d.present d.group.slaves [])) (line_from next groups) one.0 one.1, one.2)
    ]

-- the declared slaves that pass a test of their station addresses: those of the line that pass it if none outside it does, and
-- those outside the line that pass it if none of the line does

filter-joined : {X : Type 0} (p : X → Bool) (xs ys : List X) → filter p (xs ++ ys) ≡ filter p xs ++ filter p ys
filter-joined p [] ys = refl
filter-joined {X} p (x ∷ xs) ys = by (p x) (filter-joined p xs ys)
  where
    by : (b : Bool) → filter p (xs ++ ys) ≡ filter p xs ++ filter p ys → cond b (x ∷ filter p (xs ++ ys)) (filter p (xs ++ ys)) ≡ cond b (x ∷ filter p xs) (filter p xs) ++ filter p ys
    by true same = ap (λ (l : List X). x ∷ l) same
    by false same = same

group-same : (test : ℕ → Bool) (present : Bool) (rank : ℕ) (slaves : List Slave) → ((slave : Slave) → present ≡ false → Contains slaves slave → test slave.station ≡ false)
    → map (λ (m : Member). m.slave.station) (filter (λ (m : Member). test m.slave.station) (members_from rank (cond present slaves []))) ≡ filter test (map (λ (s : Slave). s.station) slaves)
group-same test false rank [] none = refl
group-same test false rank (s ∷ slaves) none =
    group-same test false (rank + 1) slaves (λ slave absent has. let within = has.1 in none slave absent (suc has.0, omega (arith, within), has.2))
    ∙ ap (λ (b : Bool). cond b (s.station ∷ filter test (map (λ (s : Slave). s.station) slaves)) (filter test (map (λ (s : Slave). s.station) slaves))) (sym (none s refl (0, omega arith, refl)))
group-same test true rank [] none = refl
group-same test true rank (s ∷ slaves) none = by (test s.station) (group-same test true (rank + 1) slaves (λ slave absent has. let never : true ≡ false = absent in cc))
  where
    by : (b : Bool) → map (λ (m : Member). m.slave.station) (filter (λ (m : Member). test m.slave.station) (members_from (rank + 1) slaves)) ≡ filter test (map (λ (s : Slave). s.station) slaves)
        → map (λ (m : Member). m.slave.station) (cond b (record { rank = rank; slave = s } ∷ filter (λ (m : Member). test m.slave.station) (members_from (rank + 1) slaves)) (filter (λ (m : Member). test m.slave.station) (members_from (rank + 1) slaves)))
        ≡ cond b (s.station ∷ filter test (map (λ (s : Slave). s.station) slaves)) (filter test (map (λ (s : Slave). s.station) slaves))
    by true rest = ap (λ (l : List ℕ). s.station ∷ l) rest
    by false rest = rest

filter-same : (test : ℕ → Bool) (rank : ℕ) (groups : List Declared) → ((slave : Slave) → Contains (pairs groups) (pair false slave) → test slave.station ≡ false)
    → map (λ (m : Member). m.slave.station) (filter (λ (m : Member). test m.slave.station) (line_from rank groups)) ≡ filter test (map (λ (s : Slave). s.station) (declared_slaves groups))
filter-same test rank [] none = refl
filter-same test rank (d ∷ groups) none =
    let next = rank + length d.group.slaves in
    let own = members_from rank (cond d.present d.group.slaves []) in
    ap (map (λ (m : Member). m.slave.station)) (filter-joined (λ (m : Member). test m.slave.station) own (line_from next groups))
    ∙ map-append (λ (m : Member). m.slave.station) (filter (λ (m : Member). test m.slave.station) own) (filter (λ (m : Member). test m.slave.station) (line_from next groups))
    ∙ ap₂ (λ (a b : List ℕ). a ++ b)
    (group-same test d.present rank d.group.slaves (λ slave absent has. none slave (Contains-append_left (map (λ (s : Slave). (pair d.present s)) d.group.slaves) (pairs groups) (pair false slave)
    (subst (λ (b : Bool). Contains (map (λ (s : Slave). (pair d.present s)) d.group.slaves) (pair b slave)) absent (contains-mapped (λ (s : Slave). (pair d.present s)) d.group.slaves slave has)))))
    (filter-same test next groups (λ slave has. none slave (Contains-append_right (map (λ (s : Slave). (pair d.present s)) d.group.slaves) (pairs groups) (pair false slave) has)))
    ∙ sym (filter-joined test (map (λ (s : Slave). s.station) d.group.slaves) (map (λ (s : Slave). s.station) (declared_slaves groups)))
    ∙ ap (filter test) (sym (map-append (λ (s : Slave). s.station) d.group.slaves (declared_slaves groups)))

absent-same : (test : ℕ → Bool) (present : Bool) (slaves : List Slave) → ((slave : Slave) → present ≡ true → Contains slaves slave → test slave.station ≡ false)
    → map (λ (s : Slave). s.station) (filter (λ (s : Slave). test s.station) (cond present [] slaves)) ≡ filter test (map (λ (s : Slave). s.station) slaves)
absent-same test true [] none = refl
absent-same test true (s ∷ slaves) none =
    absent-same test true slaves (λ slave absent has. let within = has.1 in none slave absent (suc has.0, omega (arith, within), has.2))
    ∙ ap (λ (b : Bool). cond b (s.station ∷ filter test (map (λ (s : Slave). s.station) slaves)) (filter test (map (λ (s : Slave). s.station) slaves))) (sym (none s refl (0, omega arith, refl)))
absent-same test false [] none = refl
absent-same test false (s ∷ slaves) none = by (test s.station) (absent-same test false slaves (λ slave absent has. let never : false ≡ true = absent in cc))
  where
    by : (b : Bool) → map (λ (s : Slave). s.station) (filter (λ (s : Slave). test s.station) slaves) ≡ filter test (map (λ (s : Slave). s.station) slaves)
        → map (λ (s : Slave). s.station) (cond b (s ∷ filter (λ (s : Slave). test s.station) slaves) (filter (λ (s : Slave). test s.station) slaves))
        ≡ cond b (s.station ∷ filter test (map (λ (s : Slave). s.station) slaves)) (filter test (map (λ (s : Slave). s.station) slaves))
    by true rest = ap (λ (l : List ℕ). s.station ∷ l) rest
    by false rest = rest

outside-same : (test : ℕ → Bool) (groups : List Declared) → ((slave : Slave) → Contains (pairs groups) (pair true slave) → test slave.station ≡ false)
    → map (λ (s : Slave). s.station) (filter (λ (s : Slave). test s.station) (flat_map absent_slaves groups)) ≡ filter test (map (λ (s : Slave). s.station) (declared_slaves groups))
outside-same test [] none = refl
outside-same test (d ∷ groups) none =
    ap (map (λ (s : Slave). s.station)) (filter-joined (λ (s : Slave). test s.station) (absent_slaves d) (flat_map absent_slaves groups))
    ∙ map-append (λ (s : Slave). s.station) (filter (λ (s : Slave). test s.station) (absent_slaves d)) (filter (λ (s : Slave). test s.station) (flat_map absent_slaves groups))
    ∙ ap₂ (λ (a b : List ℕ). a ++ b)
    (absent-same test d.present d.group.slaves (λ slave present has. none slave (Contains-append_left (map (λ (s : Slave). (pair d.present s)) d.group.slaves) (pairs groups) (pair true slave)
    (subst (λ (b : Bool). Contains (map (λ (s : Slave). (pair d.present s)) d.group.slaves) (pair b slave)) present (contains-mapped (λ (s : Slave). (pair d.present s)) d.group.slaves slave has)))))
    (outside-same test groups (λ slave has. none slave (Contains-append_right (map (λ (s : Slave). (pair d.present s)) d.group.slaves) (pairs groups) (pair true slave) has)))
    ∙ sym (filter-joined test (map (λ (s : Slave). s.station) d.group.slaves) (map (λ (s : Slave). s.station) (declared_slaves groups)))
    ∙ ap (filter test) (sym (map-append (λ (s : Slave). s.station) d.group.slaves (declared_slaves groups)))

picked-filter : (test : ℕ → Bool) (xs : List ℕ) → filter test xs ≡ picked (map test xs) xs
picked-filter test [] = refl
picked-filter test (x ∷ xs) = ap (λ (l : List ℕ). cond (test x) (x ∷ l) l) (picked-filter test xs)

picked-joined : {X : Type 0} (flags more : List Bool) (xs ys : List X) → length flags ≡ length xs → picked (flags ++ more) (xs ++ ys) ≡ picked flags xs ++ picked more ys
picked-joined [] more [] ys size = refl
picked-joined [] more (x ∷ xs) ys size = absurd (omega (arith, size))
picked-joined (flag ∷ flags) more [] ys size = absurd (omega (arith, size))
picked-joined {X} (true ∷ flags) more (x ∷ xs) ys size = ap (λ (l : List X). x ∷ l) (picked-joined flags more xs ys (omega (arith, size)))
picked-joined (false ∷ flags) more (x ∷ xs) ys size = picked-joined flags more xs ys (omega (arith, size))

module _ (known : Knowledge) (held : Holdings) (unplugged : ℕ → Bool) (state : State) (t : ℕ) (low : t < 8) (project : lowest_fault (groups_of state.groups) ≡ None) (uncrowded : over_limit_task (line state) ≡ None) where
  -- two declared slaves with one station address are one
  one-presence : (a b : Bool) (s s' : Slave) → Contains (pairs state.groups) (pair a s) → Contains (pairs state.groups) (pair b s') → s.station ≡ s'.station → a ≡ b
  one-presence a b s s' has has' same =
      let apart = (project-inside (groups_of state.groups) project).stations in
      let paired = AllPairs-unmap (λ (x y : Slave). x.station ≢ y.station) (λ (p : Bool × Slave). p.1) (pairs state.groups)
      (subst (AllPairs (λ (x y : Slave). x.station ≢ y.station)) (sym (pairs-slaves state.groups)) apart) in
      elim (contains-order (λ (x y : Bool × Slave). x.1.station ≢ y.1.station) (pairs state.groups) (pair a s) (pair b s') paired has has') [
        | inl equal ↦ ap (λ (p : Bool × Slave). p.0) equal
        | inr (inl differ) ↦ absurd (differ same)
        | inr (inr differ) ↦ absurd (differ (sym same))
      ]

  in-line-pair : (station : ℕ) → is_some (slave_at state station) ≡ true → (s : Slave) × Contains (pairs state.groups) (pair true s) × (s.station ≡ station)
  in-line-pair station some = by (slave_at state station) refl some
    where
      by : (found : Option Member) → slave_at state station ≡ found → is_some found ≡ true → (s : Slave) × Contains (pairs state.groups) (pair true s) × (s.station ≡ station)
      by None is none = let never : false ≡ true = none in cc
      by (Some m) is none =
          let found = found-among (is_at station) (line state) m is in
          (m.slave, line-pairs 1 state.groups m found.among, eqb-true m.slave.station station found.passes)

  -- a block that a task waits for is at a place
  record IsWaited (station : ℕ) : Type 0 where
    block : LineBlock
    place : ℕ
    at : slice_get (places state) place ≡ Some (Some block)
    named : block.station ≡ station
    flag : flagged known held state t (Some block) ≡ true

  waited : (station : ℕ) → holds_task known held state t station ≡ true → IsWaited station
  waited station holds =
      let one = which-passes (λ (block : LineBlock). block.station == station) (blocks_waited_for known held state t) holds in
      let first = contains-unkept (block_concerns held state t) (filter (lacks known) (line_blocks (line state))) one.0 one.1 in
      let second = contains-unkept (lacks known) (line_blocks (line state)) one.0 first.0 in
      let somewhere = standing-somewhere (places state) one.0 (subst (λ (l : List LineBlock). Contains l one.0) (sym (places-hold state project)) second.0) in
      record {
        block = one.0;
        place = somewhere.place;
        at = somewhere.at;
        named = eqb-true one.0.station station one.2;
        flag = and-both (lacks known one.0) (block_concerns held state t one.0) second.1 first.1;
      }
    where
      and-both : (a b : Bool) → a ≡ true → b ≡ true → (a && b) ≡ true
      and-both true true is is' = refl
      and-both true false is is' = cc
      and-both false b is is' = cc

  -- and a block at a place that counts is waited for
  waits-so : (p : ℕ) (block : LineBlock) → slice_get (places state) p ≡ Some (Some block) → flagged known held state t (Some block) ≡ true → holds_task known held state t block.station ≡ true
  waits-so p block at flag =
      let parts = and_parts (lacks known block) (block_concerns held state t block) flag in
      let among = subst (λ (l : List LineBlock). Contains l block) (places-hold state project) (somewhere-standing (places state) p block at) in
      some-passes (λ (b : LineBlock). b.station == block.station) (blocks_waited_for known held state t) block
      (contains-unchanged (block_concerns held state t) (filter (lacks known) (line_blocks (line state))) block (contains-unchanged (lacks known) (line_blocks (line state)) block among parts.0) parts.1)
      (eq-eqb block.station block.station refl)

  abbrev areas : List JudgedArea
  areas = readiness_of known held unplugged state

  abbrev count : ℕ
  count = length (stations state)

  own-get : (k j : ℕ) → k < length (stations state) → j < 8 → slice_get (own_areas (readiness_of known held unplugged state) k) j ≡ Some (judged_at known held unplugged state (8 * k + j))
  own-get k j small inside =
      get-part (readiness_of known held unplugged state) (8 * k) j inside ∙ get-range (judged_at known held unplugged state) (8 * length (stations state)) (8 * k + j) (omega (arith, small, inside))

  own-any : (test : JudgedArea → Bool) (k j : ℕ) → k < length (stations state) → j < 8 → test (judged_at known held unplugged state (8 * k + j)) ≡ true → list_any test (own_areas (readiness_of known held unplugged state) k) ≡ true
  own-any test k j small inside passes =
      some-passes test (own_areas (readiness_of known held unplugged state) k) (judged_at known held unplugged state (8 * k + j))
      (at-contained (own_areas (readiness_of known held unplugged state) k) j (judged_at known held unplugged state (8 * k + j)) (own-get k j small inside)) passes

  own-some : (test : JudgedArea → Bool) (k : ℕ) → k < length (stations state) → list_any test (own_areas (readiness_of known held unplugged state) k) ≡ true → (j : ℕ) × (j < 8) × (test (judged_at known held unplugged state (8 * k + j)) ≡ true)
  own-some test k small passes =
      let own = own_areas (readiness_of known held unplugged state) k in
      let one = which-passes test own passes in
      let j = one.1.0 in
      let inside = part-within (readiness_of known held unplugged state) (8 * k) j one.1.1 in
      let same : Some (judged_at known held unplugged state (8 * k + j)) ≡ Some (get_or own j one.0) = sym (own-get k j small inside) ∙ slice_get-get_or own j one.0 one.1.1 in
      (j, inside, ap test (same_Some (judged_at known held unplugged state (8 * k + j)) (get_or own j one.0) same ∙ one.1.2) ∙ one.2)

  -- the slave with an index
  module _ (k : ℕ) (slave : Slave) (declared : slice_get (declared_slaves state.groups) k ≡ Some slave) where
    small : k < length (stations state)
    small =
        let within = slice_get_within (declared_slaves state.groups) k slave declared in
        let size = length-map (declared_slaves state.groups) (λ (s : Slave). s.station) in
        omega (arith, within, size)

    -- an area with its station address is one of its eight
    own-index : (n : ℕ) (other : Slave) → area_slave state n ≡ Some other → other.station ≡ slave.station → n / 8 ≡ k
    own-index n other area named =
        let here = area-of state n other area in
        one-index (λ (s : Slave). s.station) (declared_slaves state.groups) (n / 8) k other slave (project-inside (groups_of state.groups) project).stations here.declared declared named

    own-slave : (n : ℕ) (other : Slave) → area_slave state n ≡ Some other → n / 8 ≡ k → other ≡ slave
    own-slave n other area index =
        let here = area-of state n other area in
        same_Some other slave (sym here.declared ∙ ap (slice_get (declared_slaves state.groups)) index ∙ declared)

    inside-right : list_any (area_holds t) (own_areas (readiness_of known held unplugged state) k) ≡ holds_task known held state t slave.station
    inside-right = same-test (list_any (area_holds t) (own_areas (readiness_of known held unplugged state) k)) (holds_task known held state t slave.station) there back
      where
        or-from : (a b : Bool) → (a || b) ≡ true → (a ≡ true) ⊎ (b ≡ true)
        or-from true b is = inl refl
        or-from false b is = inr is

        here : (p n : ℕ) (found : Option LineBlock) → p / 2 ≡ n → n / 8 ≡ k → slot state p ≡ found → flagged known held state t found ≡ true → holds_task known held state t slave.station ≡ true
        here p n None half index is flag = let never : false ≡ true = flag in cc
        here p n (Some block) half index is flag =
            let at = slot-at state p block is in
            let own = of-area state p block at in
            let same = own-slave (p / 2) own.slave own.area (ap (λ (m : ℕ). m / 8) half ∙ index) in
            ap (holds_task known held state t) (ap (λ (s : Slave). s.station) (sym same) ∙ own.station) ∙ waits-so p block at flag

        there : list_any (area_holds t) (own_areas (readiness_of known held unplugged state) k) ≡ true → holds_task known held state t slave.station ≡ true
        there any =
            let one = own-some (area_holds t) k small any in
            let n = 8 * k + one.0 in
            let inside = one.1 in
            let index : (8 * k + one.0) / 8 ≡ k = omega (arith, inside) in
            let flags = one-area-flags known held unplugged state t low project uncrowded n (area_slave state n) refl in
            elim (or-from (has_task t (sync_manager_concerns (judged_at known held unplugged state n))) (has_task t (fmmu_concerns (judged_at known held unplugged state n))) one.2) [
              | inl first ↦ here (2 * n) n (slot state (2 * n)) (omega arith) index refl (sym flags.0 ∙ first)
              | inr second ↦ here (2 * n + 1) n (slot state (2 * n + 1)) (omega arith) index refl (sym flags.1 ∙ second)
            ]

        holds-by : (n p : ℕ) (block : LineBlock) → p / 2 ≡ n → slot state p ≡ Some block → flagged known held state t (Some block) ≡ true → area_holds t (judged_at known held unplugged state n) ≡ true
        holds-by n p block half is flag = by (p % 2 == 0) refl
          where
            flags : (has_task t (sync_manager_concerns (judged_at known held unplugged state n)) ≡ flagged known held state t (slot state (2 * n)))
                × (has_task t (fmmu_concerns (judged_at known held unplugged state n)) ≡ flagged known held state t (slot state (2 * n + 1)))
            flags = one-area-flags known held unplugged state t low project uncrowded n (area_slave state n) refl

            first-or : (a b : Bool) → a ≡ true → (a || b) ≡ true
            first-or true b is' = refl
            first-or false b is' = cc

            second-or : (a b : Bool) → b ≡ true → (a || b) ≡ true
            second-or true b is' = refl
            second-or false b is' = is'

            by : (even : Bool) → (p % 2 == 0) ≡ even → area_holds t (judged_at known held unplugged state n) ≡ true
            by true even =
                let zero-rest = eqb-true (p % 2) 0 even in
                let place : 2 * n ≡ p = omega (arith, zero-rest, half) in
                first-or (has_task t (sync_manager_concerns (judged_at known held unplugged state n))) (has_task t (fmmu_concerns (judged_at known held unplugged state n)))
                (flags.0 ∙ ap (flagged known held state t) (ap (slot state) place ∙ is) ∙ flag)
            by false odd =
                let some-rest = eqb-false (p % 2) 0 odd in
                let place : 2 * n + 1 ≡ p = omega (arith, some-rest, half) in
                second-or (has_task t (sync_manager_concerns (judged_at known held unplugged state n))) (has_task t (fmmu_concerns (judged_at known held unplugged state n)))
                (flags.1 ∙ ap (flagged known held state t) (ap (slot state) place ∙ is) ∙ flag)

        back : holds_task known held state t slave.station ≡ true → list_any (area_holds t) (own_areas (readiness_of known held unplugged state) k) ≡ true
        back holds =
            let one = waited slave.station holds in
            let own = of-area state one.place one.block one.at in
            let index = own-index (one.place / 2) own.slave own.area (own.station ∙ one.named) in
            let split : 8 * k + one.place / 2 % 8 ≡ one.place / 2 = omega (arith, index) in
            own-any (area_holds t) k (one.place / 2 % 8) small (omega arith)
            (ap (λ (n : ℕ). area_holds t (judged_at known held unplugged state n)) split
            ∙ holds-by (one.place / 2) one.place one.block refl (slot-is state one.place (Some one.block) one.at) one.flag)

    -- outside the line

    declared-pair : (s : Slave) (b : Bool) → Contains (pairs state.groups) (pair b s) → Contains (declared_slaves state.groups) s
    declared-pair s b has = subst (λ (l : List Slave). Contains l s) (pairs-slaves state.groups) (contains-mapped (λ (p : Bool × Slave). p.1) (pairs state.groups) (pair b s) has)

    -- a slave with its station address is itself
    same-slave : (s : Slave) → Contains (declared_slaves state.groups) s → s.station ≡ slave.station → s ≡ slave
    same-slave s has named =
        let at : slice_get (declared_slaves state.groups) has.0 ≡ Some s = slice_get-get_or (declared_slaves state.groups) has.0 s has.1 ∙ ap (λ (y : Slave). Some y) has.2 in
        let index = one-index (λ (s : Slave). s.station) (declared_slaves state.groups) has.0 k s slave (project-inside (groups_of state.groups) project).stations at declared named in
        same_Some s slave (sym at ∙ ap (slice_get (declared_slaves state.groups)) index ∙ declared)

    find-some : (xs : List Member) (m : Member) (station : ℕ) → Contains xs m → m.slave.station ≡ station → is_some (find (is_at station) xs) ≡ true
    find-some [] m station (i, within, is) named = absurd (omega (arith, within))
    find-some (y ∷ xs) m station (zero, within, is) named =
        ap (λ (b : Bool). is_some (cond b (Some y) (find (is_at station) xs))) (eq-eqb y.slave.station station (ap (λ (z : Member). z.slave.station) is ∙ named))
    find-some (y ∷ xs) m station (suc i, within, is) named = by (y.slave.station == station) (find-some xs m station (i, omega (arith, within), is) named)
      where
        by : (b : Bool) → is_some (find (is_at station) xs) ≡ true → is_some (cond b (Some y) (find (is_at station) xs)) ≡ true
        by true rest = refl
        by false rest = rest

    -- it is in the line or outside it
    presence : (b : Bool) × Contains (pairs state.groups) (pair b slave)
    presence =
        let has = at-contained (declared_slaves state.groups) k slave declared in
        let one = contains-unmapped (λ (p : Bool × Slave). p.1) (pairs state.groups) slave (subst (λ (l : List Slave). Contains l slave) (sym (pairs-slaves state.groups)) has) in
        (one.0.0, subst (λ (s : Slave). Contains (pairs state.groups) (pair one.0.0 s)) one.2 one.1)

    -- a slave is outside the line if its slot is empty
    outside-of : (n : ℕ) → area_slave state n ≡ Some slave → is_some (slot state (2 * n + 1)) ≡ false → Contains (flat_map absent_slaves state.groups) slave
    outside-of n area none = by presence.0 presence.1
      where
        by : (b : Bool) → Contains (pairs state.groups) (pair b slave) → Contains (flat_map absent_slaves state.groups) slave
        by false has = pairs-absent state.groups slave has
        by true has =
            let m = pairs-line 1 state.groups slave has in
            let some = find-some (line state) m.0 slave.station m.1 (ap (λ (s : Slave). s.station) m.2) in
            let never : true ≡ false = sym (in-line state n slave project area some).1 ∙ none in cc

    few-areas : length slave.areas ≤ 8
    few-areas = (All-contains IsSlaveInside (declared_slaves state.groups) slave (project-inside (groups_of state.groups) project).slaves (at-contained (declared_slaves state.groups) k slave declared)).few

    outside-right : list_any (area_holds_outside t) (own_areas (readiness_of known held unplugged state) k) ≡ holds_task_outside held unplugged state t slave.station
    outside-right = same-test (list_any (area_holds_outside t) (own_areas (readiness_of known held unplugged state) k)) (holds_task_outside held unplugged state t slave.station) there back
      where
        cond-true : (b c : Bool) → cond b false c ≡ true → (b ≡ false) × (c ≡ true)
        cond-true false c is = (refl, is)
        cond-true true c is = cc

        register-in : (j : ℕ) → j < length slave.areas → Contains (fmmu_registers slave) (slave.station, 2 * j + 1)
        register-in j inside =
            let size = length-range_with_len 0 (length slave.areas) in
            let at = get_or-range_with_len 0 (length slave.areas) j 0 inside in
            contains-mapped (λ (index : ℕ). (slave.station, 2 * index + 1)) (range_with_len 0 (length slave.areas)) j (j, omega (arith, inside, size), get_or-range_with_len 0 (length slave.areas) j j inside ∙ omega arith)

        by-area : (n j : ℕ) → n ≡ 8 * k + j → j < 8 → (found : Option Slave) → area_slave state n ≡ found → area_holds_outside t (judged_at known held unplugged state n) ≡ true → holds_task_outside held unplugged state t slave.station ≡ true
        by-area n j place inside None area holds =
            let never : false ≡ true = sym (ap (λ (a : JudgedArea). area_holds_outside t a) (judged-none known held unplugged state n area) ∙ has-where (λ (s : ℕ). false) t low) ∙ holds in cc
        by-area n j place inside (Some other) area holds =
            let same = own-slave n other area (omega (arith, place, inside)) in
            let own = subst (λ (s : Slave). area_slave state n ≡ Some s) same area in
            let flag = area-flag known held unplugged state t low (owed_in known (slot state (2 * n))) (owed_in known (slot state (2 * n + 1))) (slot state (2 * n + 1)) (held slave.station (fmmu_at n)) (unplugged slave.station) in
            let parts = cond-true (is_some (slot state (2 * n + 1))) (not (unplugged slave.station) && names_among t (held slave.station (fmmu_at n)))
            (sym flag ∙ ap (area_holds_outside t) (sym (judged-some known held unplugged state n slave own)) ∙ holds) in
            let out = outside-of n own parts.0 in
            let index = (area-of state n slave own).low in
            let among = contains-flat_map fmmu_registers (slaves_outside state) slave (slave.station, 2 * (n % 8) + 1) out (register-in (n % 8) index) in
            some-passes (λ (register : ℕ × ℕ). register.0 == slave.station) (registers_waited_for held unplugged state t) (slave.station, 2 * (n % 8) + 1)
            (contains-unchanged (counts_outside held unplugged t) (registers_outside state) (slave.station, 2 * (n % 8) + 1) among parts.1) (eq-eqb slave.station slave.station refl)

        there : list_any (area_holds_outside t) (own_areas (readiness_of known held unplugged state) k) ≡ true → holds_task_outside held unplugged state t slave.station ≡ true
        there any =
            let one = own-some (area_holds_outside t) k small any in
            by-area (8 * k + one.0) one.0 refl one.1 (area_slave state (8 * k + one.0)) refl one.2

        back : holds_task_outside held unplugged state t slave.station ≡ true → list_any (area_holds_outside t) (own_areas (readiness_of known held unplugged state) k) ≡ true
        back holds =
            let one = which-passes (λ (register : ℕ × ℕ). register.0 == slave.station) (registers_waited_for held unplugged state t) holds in
            let unkept = contains-unkept (counts_outside held unplugged t) (registers_outside state) one.0 one.1 in
            let piece = flat_map-piece fmmu_registers (slaves_outside state) one.0 unkept.0 in
            let o = piece.element in
            let register = contains-unmapped (λ (index : ℕ). (o.station, 2 * index + 1)) (range_with_len 0 (length o.areas)) one.0 piece.own in
            let named : o.station ≡ slave.station = ap (λ (r : ℕ × ℕ). r.0) register.2 ∙ eqb-true one.0.0 slave.station one.2 in
            let has = absent-pairs state.groups o piece.among in
            let same = same-slave o (declared-pair o false has) named in
            finish o register.0 one.0 same has (in-range register.0 (length o.areas) register.1) register.2 unkept.1
          where
            in-range : (j n : ℕ) → Contains (range_with_len 0 n) j → j < n
            in-range j n (i, within, is) =
                let size = length-range_with_len 0 n in
                let at = get_or-range_with_len 0 n i j (omega (arith, within, size)) in
                omega (arith, within, size, at, is)

            finish : (o : Slave) (j : ℕ) (register : ℕ × ℕ) → o ≡ slave → Contains (pairs state.groups) (pair false o) → j < length o.areas → (o.station, 2 * j + 1) ≡ register → counts_outside held unplugged t register ≡ true
                → list_any (area_holds_outside t) (own_areas (readiness_of known held unplugged state) k) ≡ true
            finish o j register same has inside is holds =
                let low-j : j < length slave.areas = subst (λ (s : Slave). j < length s.areas) same inside in
                let few = few-areas in
                let n = 8 * k + j in
                let index : (8 * k + j) / 8 ≡ k = omega (arith, low-j, few) in
                let part : (8 * k + j) % 8 ≡ j = omega (arith, low-j, few) in
                let area = area-is state n slave (ap (slice_get (declared_slaves state.groups)) index ∙ declared) (omega (arith, part, low-j)) in
                let none : is_some (slave_at state slave.station) ≡ false = some-false (is_some (slave_at state slave.station)) (λ some.
                let inside-pair = in-line-pair slave.station some in
                let never : true ≡ false = one-presence true false inside-pair.0 slave inside-pair.1 (subst (λ (s : Slave). Contains (pairs state.groups) (pair false s)) same has) inside-pair.2 in cc) in
                let empty = out-of-line state n slave area none in
                let flag = area-flag known held unplugged state t low (owed_in known (slot state (2 * n))) (owed_in known (slot state (2 * n + 1))) (slot state (2 * n + 1)) (held slave.station (fmmu_at n)) (unplugged slave.station) in
                own-any (area_holds_outside t) k j small (omega (arith, low-j, few))
                (ap (area_holds_outside t) (judged-some known held unplugged state n slave area) ∙ flag
                ∙ ap (λ (b : Bool). cond b false (not (unplugged slave.station) && names_among t (held slave.station (fmmu_at n)))) empty
                ∙ ap₂ (λ (st m : ℕ). not (unplugged st) && names_among t (held st m)) (ap (λ (s : Slave). s.station) (sym same)) (ap (λ (m : ℕ). 2 * m + 1) part)
                ∙ ap (counts_outside held unplugged t) is ∙ holds)

  some-none-inside : (slave : Slave) → Contains (pairs state.groups) (pair false slave) → holds_task known held state t slave.station ≡ false
  some-none-inside slave has = some-false (holds_task known held state t slave.station) (λ holds.
      let one = waited slave.station holds in
      let some = ap (λ (s : ℕ). is_some (slave_at state s)) (sym one.named) ∙ is_placed-on state one.place one.block one.at in
      let inside-pair = in-line-pair slave.station some in
      let never : true ≡ false = one-presence true false inside-pair.0 slave inside-pair.1 has inside-pair.2 in cc)

  some-none-outside : (slave : Slave) → Contains (pairs state.groups) (pair true slave) → holds_task_outside held unplugged state t slave.station ≡ false
  some-none-outside slave has = some-false (holds_task_outside held unplugged state t slave.station) (λ holds.
      let one = which-passes (λ (register : ℕ × ℕ). register.0 == slave.station) (registers_waited_for held unplugged state t) holds in
      let unkept = contains-unkept (counts_outside held unplugged t) (registers_outside state) one.0 one.1 in
      let piece = flat_map-piece fmmu_registers (slaves_outside state) one.0 unkept.0 in
      let register = contains-unmapped (λ (index : ℕ). (piece.element.station, 2 * index + 1)) (range_with_len 0 (length piece.element.areas)) one.0 piece.own in
      let named : piece.element.station ≡ slave.station = ap (λ (r : ℕ × ℕ). r.0) register.2 ∙ eqb-true one.0.0 slave.station one.2 in
      let never : false ≡ true = one-presence false true piece.element slave (absent-pairs state.groups piece.element piece.among) has named in cc)

  -- the flags pick the holders out of the stations, twice in a row

  abbrev first-test : ℕ → Bool
  first-test = holds_task known held state t

  abbrev second-test : ℕ → Bool
  second-test = holds_task_outside held unplugged state t

  flags-are : flags_of t (readiness_of known held unplugged state) ≡ map (holds_task known held state t) (stations state) ++ map (holds_task_outside held unplugged state t) (stations state)
  flags-are =
      let eighth : length (readiness_of known held unplugged state) / 8 ≡ length (stations state) = (let size = length-range (judged_at known held unplugged state) (8 * length (stations state)) in omega (arith, size)) in
      ap (λ (n : ℕ). map (flag_at t (readiness_of known held unplugged state) n) (range_with_len 0 (2 * n))) eighth ∙ sym (is-range flags (flag_at t (readiness_of known held unplugged state) (length (stations state))) (2 * length (stations state)) whole each)
    where
      flags : List Bool
      flags = map (holds_task known held state t) (stations state) ++ map (holds_task_outside held unplugged state t) (stations state)

      whole : length (map (holds_task known held state t) (stations state) ++ map (holds_task_outside held unplugged state t) (stations state)) ≡ 2 * length (stations state)
      whole =
          let all = length-append (map (holds_task known held state t) (stations state)) (map (holds_task_outside held unplugged state t) (stations state)) in
          let first = length-map (stations state) (holds_task known held state t) in
          let second = length-map (stations state) (holds_task_outside held unplugged state t) in
          omega (arith, all, first, second)

      station-at : (k : ℕ) (slave : Slave) → slice_get (declared_slaves state.groups) k ≡ Some slave → slice_get (stations state) k ≡ Some slave.station
      station-at k slave at = slice_get-map (λ (s : Slave). s.station) (declared_slaves state.groups) k ∙ ap (option_map (λ (s : Slave). s.station)) at

      slave-at : (k : ℕ) → k < length (stations state) → (slave : Slave) × (slice_get (declared_slaves state.groups) k ≡ Some slave)
      slave-at k low-k =
          let size = length-map (declared_slaves state.groups) (λ (s : Slave). s.station) in
          there (declared_slaves state.groups) k (omega (arith, low-k, size))

      each : (i : ℕ) → i < 2 * length (stations state) → slice_get (map (holds_task known held state t) (stations state) ++ map (holds_task_outside held unplugged state t) (stations state)) i ≡ Some (flag_at t (readiness_of known held unplugged state) (length (stations state)) i)
      each i inside = by (nat_lt i (length (stations state))) refl
        where
          first-size : length (map (holds_task known held state t) (stations state)) ≡ length (stations state)
          first-size = length-map (stations state) (holds_task known held state t)

          by : (front : Bool) → nat_lt i (length (stations state)) ≡ front
              → slice_get (map (holds_task known held state t) (stations state) ++ map (holds_task_outside held unplugged state t) (stations state)) i ≡ Some (flag_at t (readiness_of known held unplugged state) (length (stations state)) i)
          by true front =
              let low-i = ltb-true i (length (stations state)) front in
              let size = first-size in
              let one = slave-at i low-i in
              get-front (map (holds_task known held state t) (stations state)) (map (holds_task_outside held unplugged state t) (stations state)) i (omega (arith, low-i, size))
              ∙ slice_get-map (holds_task known held state t) (stations state) i ∙ ap (option_map (holds_task known held state t)) (station-at i one.0 one.1)
              ∙ ap (λ (b : Bool). Some b) (sym (inside-right i one.0 one.1)
              ∙ ap (λ (b : Bool). cond b (list_any (area_holds t) (own_areas (readiness_of known held unplugged state) i)) (list_any (area_holds_outside t) (own_areas (readiness_of known held unplugged state) (i - length (stations state))))) (sym front))
          by false front =
              let high-i = ltb-false i (length (stations state)) front in
              let size = first-size in
              let j = i - length (stations state) in
              let shift : i - length (map (holds_task known held state t) (stations state)) ≡ j = omega (arith, size) in
              let one = slave-at j (omega (arith, high-i, inside)) in
              get-back (map (holds_task known held state t) (stations state)) (map (holds_task_outside held unplugged state t) (stations state)) i (omega (arith, high-i, size))
              ∙ ap (slice_get (map (holds_task_outside held unplugged state t) (stations state))) shift
              ∙ slice_get-map (holds_task_outside held unplugged state t) (stations state) j ∙ ap (option_map (holds_task_outside held unplugged state t)) (station-at j one.0 one.1)
              ∙ ap (λ (b : Bool). Some b) (sym (outside-right j one.0 one.1)
              ∙ ap (λ (b : Bool). cond b (list_any (area_holds t) (own_areas (readiness_of known held unplugged state) i)) (list_any (area_holds_outside t) (own_areas (readiness_of known held unplugged state) j))) (sym front))

  pub holders-at : (n : ℕ) → slice_get (holding_slaves known held unplugged state t) n ≡ at_flag 0 (stations state ++ stations state) (nth_set n 0 (flags_of t (readiness_of known held unplugged state)))
  holders-at n =
      let first = map (holds_task known held state t) (stations state) in
      let second = map (holds_task_outside held unplugged state t) (stations state) in
      let first-size = length-map (stations state) (holds_task known held state t) in
      let second-size = length-map (stations state) (holds_task_outside held unplugged state t) in
      let all = length-append first second in
      let both = length-append (stations state) (stations state) in
      ap (λ (l : List ℕ). slice_get l n)
      (ap₂ (λ (a b : List ℕ). a ++ b)
      (filter-same (holds_task known held state t) 1 state.groups some-none-inside ∙ picked-filter (holds_task known held state t) (stations state))
      (outside-same (holds_task_outside held unplugged state t) state.groups some-none-outside ∙ picked-filter (holds_task_outside held unplugged state t) (stations state))
      ∙ sym (picked-joined first second (stations state) (stations state) first-size))
      ∙ picked-at (first ++ second) (stations state ++ stations state) n 0 (omega (arith, first-size, second-size, all, both))
      ∙ ap (λ (f : List Bool). at_flag 0 (stations state ++ stations state) (nth_set n 0 f)) (sym flags-are)

-- the holder beside a flag is a declared slave, by its index

module _ (known : Knowledge) (held : Holdings) (unplugged : ℕ → Bool) (state : State) (areas : List JudgedArea) (t : ℕ) (low : t < 8) (is : IsReadinessFor known held unplugged state areas) (n : ℕ) where
  found-at : (found : Option ℕ) → found ≡ nth_set n 0 (flags_of t areas) → slice_get (holding_slaves known held unplugged state t) n ≡ at_flag 0 (stations state ++ stations state) found
  found-at found same =
      holders-at known held unplugged state t low is.project is.uncrowded n
      ∙ ap (λ (l : List JudgedArea). at_flag 0 (stations state ++ stations state) (nth_set n 0 (flags_of t l))) (sym is.right) ∙ ap (at_flag 0 (stations state ++ stations state)) (sym same)

  eighth : length areas / 8 ≡ length (stations state)
  eighth = let size = ap length is.right ∙ length-range (judged_at known held unplugged state) (8 * length (stations state)) in omega (arith, size)

  pub no-holder : None ≡ nth_set n 0 (flags_of t areas) → slice_get (holding_slaves known held unplugged state t) n ≡ None
  no-holder same = found-at None same

  pub front-holder : (found : ℕ) → Some found ≡ nth_set n 0 (flags_of t areas) → found < length areas / 8 → IsHolder known held unplugged state t n found
  front-holder found same inside =
      let size = eighth in
      let none : found - 0 ≡ found = omega arith in
      record {
        low = omega (arith, inside, size);
        is = found-at (Some found) same ∙ ap (slice_get (stations state ++ stations state)) none ∙ get-front (stations state) (stations state) found (omega (arith, inside, size));
      }

  pub back-holder : (found : ℕ) → Some found ≡ nth_set n 0 (flags_of t areas) → length areas / 8 ≤ found → found < 2 * (length areas / 8) → IsHolder known held unplugged state t n (found - length areas / 8)
  back-holder found same high inside =
      let size = eighth in
      let none : found - 0 ≡ found = omega arith in
      let shift : found - length (stations state) ≡ found - length areas / 8 = omega (arith, size) in
      record {
        low = omega (arith, high, inside, size);
        is = found-at (Some found) same ∙ ap (slice_get (stations state ++ stations state)) none ∙ get-back (stations state) (stations state) found (omega (arith, high, size)) ∙ ap (slice_get (stations state)) shift;
      }
