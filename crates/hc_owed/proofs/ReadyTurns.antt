-- The state of the areas stays right if a slave is forgotten, cleared or unplugged.
use Rattle.std.proofs.Common.{◌≡◌, ℕ, ◌+◌, ◌*◌, ◌/◌, ◌<◌, ◌≤◌, ◌==◌, ◌&&◌, ◌||◌, Bool, true, false, cond, length, map, refl, sym, ap, ap₂, ◌⊎◌, inl, inr, ◌∙◌, arith}
use Rattle.std.specs.Prelude.{None, Some, Option, is_some, option_map, slice_get}
use Rattle.std.specs.List.{range_with_len}
use Rattle.std.proofs.lemmas.Bool.{eqb-true, eq-eqb}
use Rattle.std.proofs.lemmas.Option.{same_Some, slice_get-map}
use Rattle.hc_records.specs.declared.records.Slave.{Slave}
use Rattle.hc_records.specs.Edits.{slave_at}
use Rattle.hc_records.specs.Line.{State, groups_of}
use Rattle.hc_records.specs.Project.{lowest_fault}
use Rattle.hc_records.proofs.lemmas.Limits.{project-inside}
use Rattle.hc_records.proofs.lemmas.Lines.{declared_slaves}
use Rattle.hc_registers.specs.Blocks.{LineBlock}
use Rattle.hc_registers.specs.RankPlaces.{stations}
use Rattle.hc_changes.proofs.lemmas.OneProject.{one-index}
use Rattle.hc_plan.proofs.lemmas.PlaceNames.{is_placed-on}
use Rattle.hc_bits.specs.Bits.{number_of}
use Rattle.hc_events.specs.Holding.{MayHold, cleared_register}
use Rattle.hc_owed.specs.declared.area.JudgedArea.{JudgedArea}
use Rattle.hc_owed.specs.declared.area.OwedPair.{OwedPair}
use Rattle.hc_owed.specs.declared.area.OwedPair.TheVariants.{Neither}
use Rattle.hc_owed.specs.declared.area.RegisterStatus.{RegisterStatus}
use Rattle.hc_owed.specs.declared.area.RegisterStatus.TheVariants.{Outside}
use Rattle.hc_owed.specs.declared.area.Turn.{Turn}
use Rattle.hc_owed.specs.declared.area.Turn.TheVariants.{Forgotten, Cleared, Unplugs}
use Rattle.hc_owed.specs.declared.task_set.TaskSet.{TaskSet}
use Rattle.hc_owed.specs.Areas.{area_after, pair_forgotten, pair_of, standing_cleared, standing_unplugged}
use Rattle.hc_owed.specs.Laws.{known_without}
use Rattle.hc_owed.specs.Readiness.{Holdings, area_slave, fmmu_at, held_set, judged_at, no_area, own_set, readiness_of, slot, standing_of}
use Rattle.hc_owed.specs.ReadinessSteps.{changed_from, held_without, unplugged_with}
use Rattle.hc_owed.specs.RegisterState.{Knowledge, differs, owed_in}
use Rattle.hc_owed.specs.TaskSets.{no_task, some_task, tasks_where}
use Rattle.hc_owed.proofs.AreaChanges.{get-inside, get-outside, length-changed-from}
use Rattle.hc_owed.proofs.AreaPlaces.{area-of, get-range, in-line, is-range, length-range, of-area, slot-at}
use Rattle.hc_plan.proofs.lemmas.Replaced.{in-or-out}
use Rattle.hc_owed.proofs.JudgedAreas.{area_from, area_of, held-none, judged-none, judged-some, same-area}

-- the areas in a row are turned, and the others are as they were
pub turned : (f g : ℕ → JudgedArea) (turn : Turn) (from count all : ℕ) → ((i : ℕ) → i < all → from ≤ i → i < from + count → area_after turn (f i) ≡ g i)
    → ((i : ℕ) → i < all → ((from ≤ i) × (i < from + count) → ⊥) → f i ≡ g i) → changed_from (area_after turn) from count (map f (range_with_len 0 all)) ≡ map g (range_with_len 0 all)
turned f g turn from count all own others =
    is-range (changed_from (area_after turn) from count (map f (range_with_len 0 all))) g all (length-changed-from (area_after turn) from count (map f (range_with_len 0 all)) ∙ length-range f all)
    (λ i low. by i low (in-or-out from count i))
  where
    by : (i : ℕ) → i < all → (((from ≤ i) × (i < from + count)) ⊎ ((from ≤ i) × (i < from + count) → ⊥)) → slice_get (changed_from (area_after turn) from count (map f (range_with_len 0 all))) i ≡ Some (g i)
    by i low (inl inside) =
        get-inside (area_after turn) from count (map f (range_with_len 0 all)) i (f i) inside.0 inside.1 (get-range f all i low) ∙ ap (λ (a : JudgedArea). Some a) (own i low inside.0 inside.1)
    by i low (inr out) =
        get-outside (area_after turn) from count (map f (range_with_len 0 all)) i out ∙ get-range f all i low ∙ ap (λ (a : JudgedArea). Some a) (others i low out)

-- the line has both blocks of an area or none

pub both-blocks : (state : State) (n : ℕ) (slave : Slave) → lowest_fault (groups_of state.groups) ≡ None → area_slave state n ≡ Some slave → is_some (slot state (2 * n)) ≡ is_some (slot state (2 * n + 1))
both-blocks state n slave project area = by (slot state (2 * n)) (slot state (2 * n + 1)) refl refl
  where
    inside : (p : ℕ) (block : LineBlock) → p / 2 ≡ n → slot state p ≡ Some block → is_some (slave_at state slave.station) ≡ true
    inside p block half is =
        let at = slot-at state p block is in
        let own = of-area state p block at in
        let one : Some own.slave ≡ Some slave = sym own.area ∙ ap (area_slave state) half ∙ area in
        ap (λ (s : ℕ). is_some (slave_at state s)) (ap (λ (s : Slave). s.station) (sym (same_Some own.slave slave one)) ∙ own.station) ∙ is_placed-on state p block at

    by : (first second : Option LineBlock) → slot state (2 * n) ≡ first → slot state (2 * n + 1) ≡ second → is_some (slot state (2 * n)) ≡ is_some (slot state (2 * n + 1))
    by None None is is' = ap (λ (o : Option LineBlock). is_some o) is ∙ ap (λ (o : Option LineBlock). is_some o) (sym is')
    by (Some a) (Some b) is is' = ap (λ (o : Option LineBlock). is_some o) is ∙ ap (λ (o : Option LineBlock). is_some o) (sym is')
    by (Some a) None is is' = let both = in-line state n slave project area (inside (2 * n) a (omega arith) is) in both.0 ∙ sym both.1
    by None (Some b) is is' = let both = in-line state n slave project area (inside (2 * n + 1) b (omega arith) is') in both.0 ∙ sym both.1

-- a block of an area has the station address of the area's slave
pub block-station : (state : State) (n p : ℕ) (slave : Slave) (block : LineBlock) → area_slave state n ≡ Some slave → p / 2 ≡ n → slot state p ≡ Some block → block.station ≡ slave.station
block-station state n p slave block area half is =
    let own = of-area state p block (slot-at state p block is) in
    let one : Some own.slave ≡ Some slave = sym own.area ∙ ap (area_slave state) half ∙ area in
    sym own.station ∙ ap (λ (s : Slave). s.station) (same_Some own.slave slave one)

-- if the slave of an area is outside the line, the line has no block of the area
pub out-of-line : (state : State) (n : ℕ) (slave : Slave) → area_slave state n ≡ Some slave → is_some (slave_at state slave.station) ≡ false → is_some (slot state (2 * n + 1)) ≡ false
out-of-line state n slave area outside = by (slot state (2 * n + 1)) refl
  where
    by : (found : Option LineBlock) → slot state (2 * n + 1) ≡ found → is_some (slot state (2 * n + 1)) ≡ false
    by None is = ap (λ (o : Option LineBlock). is_some o) is
    by (Some block) is =
        let at = slot-at state (2 * n + 1) block is in
        let station = block-station state n (2 * n + 1) slave block area (omega arith) is in
        let inside = is_placed-on state (2 * n + 1) block at in
        let no : true ≡ false = sym inside ∙ ap (λ (s : ℕ). is_some (slave_at state s)) station ∙ outside in cc

-- one slave of the declared ones

module _ (state : State) (index station : ℕ) (project : lowest_fault (groups_of state.groups) ≡ None) (at : slice_get (stations state) index ≡ Some station) where
  of-station : (declared : Option Slave) → slice_get (declared_slaves state.groups) index ≡ declared → option_map (λ (s : Slave). s.station) declared ≡ Some station → (s : Slave) × (slice_get (declared_slaves state.groups) index ≡ Some s) × (s.station ≡ station)
  of-station None is named = cc
  of-station (Some s) is named = (s, is, same_Some s.station station named)

  abbrev found : (s : Slave) × (slice_get (declared_slaves state.groups) index ≡ Some s) × (s.station ≡ station)
  found = of-station (slice_get (declared_slaves state.groups) index) refl (sym (slice_get-map (λ (s : Slave). s.station) (declared_slaves state.groups) index) ∙ at)

  -- its areas are the eight of its rank
  pub is-own : (i : ℕ) (slave : Slave) → area_slave state i ≡ Some slave → 8 * index ≤ i → i < 8 * index + 8 → slave.station ≡ station
  is-own i slave area low high =
      let here = area-of state i slave area in
      let rank : i / 8 ≡ index = omega (arith, low, high) in
      let one : Some slave ≡ Some found.0 = sym here.declared ∙ ap (slice_get (declared_slaves state.groups)) rank ∙ found.1 in
      ap (λ (s : Slave). s.station) (same_Some slave found.0 one) ∙ found.2

  pub is-other : (i : ℕ) (slave : Slave) → area_slave state i ≡ Some slave → ((8 * index ≤ i) × (i < 8 * index + 8) → ⊥) → (slave.station == station) ≡ false
  is-other i slave area out = by (slave.station == station) refl
    where
      by : (same : Bool) → (slave.station == station) ≡ same → (slave.station == station) ≡ false
      by false is = is
      by true is =
          let here = area-of state i slave area in
          let one = one-index (λ (s : Slave). s.station) (declared_slaves state.groups) (i / 8) index slave found.0 (project-inside (groups_of state.groups) project).stations here.declared found.1
          (eqb-true slave.station station is ∙ sym found.2) in
          absurd (out (omega (arith, one), omega (arith, one)))

-- forgotten

forgotten-owed : (known : Knowledge) (station : ℕ) (found : Option LineBlock) → ((block : LineBlock) → found ≡ Some block → block.station ≡ station) → owed_in (known_without station known) found ≡ is_some found
forgotten-owed known station None own = refl
forgotten-owed known station (Some block) own =
    ap (λ (t : Bool). differs block.block.bytes (cond t None (known block.station block.number))) (eq-eqb block.station station (own block refl))

other-owed : (known : Knowledge) (station : ℕ) (found : Option LineBlock) → ((block : LineBlock) → found ≡ Some block → (block.station == station) ≡ false) → owed_in known found ≡ owed_in (known_without station known) found
other-owed known station None own = refl
other-owed known station (Some block) own =
    ap (λ (t : Bool). differs block.block.bytes (cond t None (known block.station block.number))) (sym (own block refl))

forgotten-pair : (inside unknown apart a b : Bool) → (inside ≡ false → (a ≡ false) × (b ≡ false)) → pair_forgotten (standing_of inside unknown apart) (pair_of a b) ≡ pair_of inside inside
forgotten-pair true true apart a b none = refl
forgotten-pair true false apart a b none = refl
forgotten-pair false unknown true a b none = ap₂ pair_of (none refl).0 (none refl).1
forgotten-pair false unknown false a b none = ap₂ pair_of (none refl).0 (none refl).1

unowed : (known : Knowledge) (found : Option LineBlock) → is_some found ≡ false → owed_in known found ≡ false
unowed known None none = refl
unowed known (Some block) none = cc

forgotten-area : (known : Knowledge) (station : ℕ) (first second : Option LineBlock) (held : MayHold) (unplugged : Bool) → is_some first ≡ is_some second
    → ((block : LineBlock) → first ≡ Some block → block.station ≡ station) → ((block : LineBlock) → second ≡ Some block → block.station ≡ station)
    → area_after Forgotten (area_of (owed_in known first) (owed_in known second) second held unplugged)
    ≡ area_of (owed_in (known_without station known) first) (owed_in (known_without station known) second) second held unplugged
forgotten-area known station first second held unplugged same own own' =
    ap (λ (o : OwedPair). area_from (own_set second) (held_set held) o (standing_of (is_some second) held.unknown (unplugged && some_task (held_set held))))
    (forgotten-pair (is_some second) held.unknown (unplugged && some_task (held_set held)) (owed_in known first) (owed_in known second)
    (λ none. (unowed known first (same ∙ none), unowed known second none))
    ∙ ap₂ pair_of (sym (forgotten-owed known station first own ∙ same)) (sym (forgotten-owed known station second own')))

pub forgotten-right : (known : Knowledge) (held : Holdings) (unplugged : ℕ → Bool) (state : State) (index station : ℕ) → lowest_fault (groups_of state.groups) ≡ None → slice_get (stations state) index ≡ Some station
    → changed_from (area_after Forgotten) (8 * index) 8 (readiness_of known held unplugged state) ≡ readiness_of (known_without station known) held unplugged state
forgotten-right known held unplugged state index station project at =
    turned (judged_at known held unplugged state) (judged_at (known_without station known) held unplugged state) Forgotten (8 * index) 8 (8 * length (stations state))
    (λ i low from end. own i from end (area_slave state i) refl) (λ i low out. other i out (area_slave state i) refl)
  where
    after : Knowledge
    after = known_without station known

    own : (i : ℕ) → 8 * index ≤ i → i < 8 * index + 8 → (found : Option Slave) → area_slave state i ≡ found → area_after Forgotten (judged_at known held unplugged state i) ≡ judged_at (known_without station known) held unplugged state i
    own i from end None is =
        ap (area_after Forgotten) (judged-none known held unplugged state i is) ∙ sym (judged-none (known_without station known) held unplugged state i is)
    own i from end (Some slave) is =
        let named = is-own state index station project at i slave is from end in
        ap (area_after Forgotten) (judged-some known held unplugged state i slave is)
        ∙ forgotten-area known station (slot state (2 * i)) (slot state (2 * i + 1)) (held slave.station (fmmu_at i)) (unplugged slave.station) (both-blocks state i slave project is)
        (λ block found. block-station state i (2 * i) slave block is (omega arith) found ∙ named) (λ block found. block-station state i (2 * i + 1) slave block is (omega arith) found ∙ named)
        ∙ sym (judged-some (known_without station known) held unplugged state i slave is)

    other : (i : ℕ) → ((8 * index ≤ i) × (i < 8 * index + 8) → ⊥) → (found : Option Slave) → area_slave state i ≡ found → judged_at known held unplugged state i ≡ judged_at (known_without station known) held unplugged state i
    other i out None is = judged-none known held unplugged state i is ∙ sym (judged-none (known_without station known) held unplugged state i is)
    other i out (Some slave) is =
        let apart = is-other state index station project at i slave is out in
        judged-some known held unplugged state i slave is
        ∙ same-area (owed_in known (slot state (2 * i))) (owed_in known (slot state (2 * i + 1))) (owed_in (known_without station known) (slot state (2 * i))) (owed_in (known_without station known) (slot state (2 * i + 1)))
        (slot state (2 * i + 1)) (slot state (2 * i + 1)) (held slave.station (fmmu_at i)) (held slave.station (fmmu_at i)) (unplugged slave.station) (unplugged slave.station)
        (other-owed known station (slot state (2 * i)) (λ block found. ap (λ (s : ℕ). s == station) (block-station state i (2 * i) slave block is (omega arith) found) ∙ apart))
        (other-owed known station (slot state (2 * i + 1)) (λ block found. ap (λ (s : ℕ). s == station) (block-station state i (2 * i + 1) slave block is (omega arith) found) ∙ apart))
        refl refl refl
        ∙ sym (judged-some (known_without station known) held unplugged state i slave is)

-- cleared

pub some-none : some_task no_task ≡ false
unfolding some_task tasks_where number_of
some-none = refl

cleared-standing : (inside unknown apart : Bool) (apart' : Bool) → apart' ≡ false → standing_cleared (standing_of inside unknown apart) ≡ standing_of inside false apart'
cleared-standing true true apart apart' none = refl
cleared-standing true false apart apart' none = refl
cleared-standing false unknown true apart' none = ap (standing_of false false) (sym none)
cleared-standing false unknown false apart' none = ap (standing_of false false) (sym none)

none-named : (unplugged : Bool) → (unplugged && some_task (held_set cleared_register)) ≡ false
none-named true = ap some_task held-none ∙ some-none
none-named false = refl

cleared-area : (a b : Bool) (block : Option LineBlock) (held : MayHold) (unplugged : Bool) → area_after Cleared (area_of a b block held unplugged) ≡ area_of a b block cleared_register unplugged
cleared-area a b block held unplugged =
    ap₂ (λ (s : TaskSet) (t : RegisterStatus). area_from (own_set block) s (pair_of a b) t) (sym held-none)
    (cleared-standing (is_some block) held.unknown (unplugged && some_task (held_set held)) (unplugged && some_task (held_set cleared_register)) (none-named unplugged))

pub cleared-right : (known : Knowledge) (held : Holdings) (unplugged : ℕ → Bool) (state : State) (index station : ℕ) → lowest_fault (groups_of state.groups) ≡ None → slice_get (stations state) index ≡ Some station
    → changed_from (area_after Cleared) (8 * index) 8 (readiness_of known held unplugged state) ≡ readiness_of known (held_without station held) unplugged state
cleared-right known held unplugged state index station project at =
    turned (judged_at known held unplugged state) (judged_at known (held_without station held) unplugged state) Cleared (8 * index) 8 (8 * length (stations state))
    (λ i low from end. own i from end (area_slave state i) refl) (λ i low out. other i out (area_slave state i) refl)
  where
    own : (i : ℕ) → 8 * index ≤ i → i < 8 * index + 8 → (found : Option Slave) → area_slave state i ≡ found → area_after Cleared (judged_at known held unplugged state i) ≡ judged_at known (held_without station held) unplugged state i
    own i from end None is = ap (area_after Cleared) (judged-none known held unplugged state i is) ∙ sym (judged-none known (held_without station held) unplugged state i is)
    own i from end (Some slave) is =
        let named = is-own state index station project at i slave is from end in
        let first = owed_in known (slot state (2 * i)) in
        let second = owed_in known (slot state (2 * i + 1)) in
        ap (area_after Cleared) (judged-some known held unplugged state i slave is)
        ∙ cleared-area first second (slot state (2 * i + 1)) (held slave.station (fmmu_at i)) (unplugged slave.station)
        ∙ ap (λ (t : Bool). area_of first second (slot state (2 * i + 1)) (cond t cleared_register (held slave.station (fmmu_at i))) (unplugged slave.station)) (sym (eq-eqb slave.station station named))
        ∙ sym (judged-some known (held_without station held) unplugged state i slave is)

    other : (i : ℕ) → ((8 * index ≤ i) × (i < 8 * index + 8) → ⊥) → (found : Option Slave) → area_slave state i ≡ found → judged_at known held unplugged state i ≡ judged_at known (held_without station held) unplugged state i
    other i out None is = judged-none known held unplugged state i is ∙ sym (judged-none known (held_without station held) unplugged state i is)
    other i out (Some slave) is =
        let apart = is-other state index station project at i slave is out in
        judged-some known held unplugged state i slave is
        ∙ ap (λ (t : Bool). area_of (owed_in known (slot state (2 * i))) (owed_in known (slot state (2 * i + 1))) (slot state (2 * i + 1)) (cond t cleared_register (held slave.station (fmmu_at i))) (unplugged slave.station)) (sym apart)
        ∙ sym (judged-some known (held_without station held) unplugged state i slave is)

-- unplugged

unplugged-standing : (inside unknown unplugged names : Bool) → inside ≡ false → standing_unplugged names (standing_of inside unknown (unplugged && names)) ≡ standing_of inside unknown (true && names)
unplugged-standing true unknown unplugged names outside = cc
unplugged-standing false unknown true true outside = refl
unplugged-standing false unknown true false outside = refl
unplugged-standing false unknown false true outside = refl
unplugged-standing false unknown false false outside = refl

unplugged-area : (a b : Bool) (block : Option LineBlock) (held : MayHold) (unplugged : Bool) → is_some block ≡ false → area_after Unplugs (area_of a b block held unplugged) ≡ area_of a b block held true
unplugged-area a b block held unplugged outside =
    ap (λ (t : RegisterStatus). area_from (own_set block) (held_set held) (pair_of a b) t) (unplugged-standing (is_some block) held.unknown unplugged (some_task (held_set held)) outside)

unplugged-none : area_after Unplugs no_area ≡ no_area
unplugged-none = ap (λ (t : Bool). area_from no_task no_task Neither (standing_unplugged t Outside)) some-none

pub unplugged-right : (known : Knowledge) (held : Holdings) (unplugged : ℕ → Bool) (state : State) (index station : ℕ) → lowest_fault (groups_of state.groups) ≡ None → slice_get (stations state) index ≡ Some station
    → is_some (slave_at state station) ≡ false
    → changed_from (area_after Unplugs) (8 * index) 8 (readiness_of known held unplugged state) ≡ readiness_of known held (unplugged_with station unplugged) state
unplugged-right known held unplugged state index station project at outside =
    turned (judged_at known held unplugged state) (judged_at known held (unplugged_with station unplugged) state) Unplugs (8 * index) 8 (8 * length (stations state))
    (λ i low from end. own i from end (area_slave state i) refl) (λ i low out. other i out (area_slave state i) refl)
  where
    own : (i : ℕ) → 8 * index ≤ i → i < 8 * index + 8 → (found : Option Slave) → area_slave state i ≡ found → area_after Unplugs (judged_at known held unplugged state i) ≡ judged_at known held (unplugged_with station unplugged) state i
    own i from end None is = ap (area_after Unplugs) (judged-none known held unplugged state i is) ∙ unplugged-none ∙ sym (judged-none known held (unplugged_with station unplugged) state i is)
    own i from end (Some slave) is =
        let named = is-own state index station project at i slave is from end in
        let first = owed_in known (slot state (2 * i)) in
        let second = owed_in known (slot state (2 * i + 1)) in
        ap (area_after Unplugs) (judged-some known held unplugged state i slave is)
        ∙ unplugged-area first second (slot state (2 * i + 1)) (held slave.station (fmmu_at i)) (unplugged slave.station)
        (out-of-line state i slave is (ap (λ (s : ℕ). is_some (slave_at state s)) named ∙ outside))
        ∙ ap (λ (t : Bool). area_of first second (slot state (2 * i + 1)) (held slave.station (fmmu_at i)) (t || unplugged slave.station)) (sym (eq-eqb slave.station station named))
        ∙ sym (judged-some known held (unplugged_with station unplugged) state i slave is)

    other : (i : ℕ) → ((8 * index ≤ i) × (i < 8 * index + 8) → ⊥) → (found : Option Slave) → area_slave state i ≡ found → judged_at known held unplugged state i ≡ judged_at known held (unplugged_with station unplugged) state i
    other i out None is = judged-none known held unplugged state i is ∙ sym (judged-none known held (unplugged_with station unplugged) state i is)
    other i out (Some slave) is =
        let apart = is-other state index station project at i slave is out in
        judged-some known held unplugged state i slave is
        ∙ ap (λ (t : Bool). area_of (owed_in known (slot state (2 * i))) (owed_in known (slot state (2 * i + 1))) (slot state (2 * i + 1)) (held slave.station (fmmu_at i)) (t || unplugged slave.station)) (sym apart)
        ∙ sym (judged-some known held (unplugged_with station unplugged) state i slave is)
