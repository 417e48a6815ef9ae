-- The state of the areas stays right after the sending of a write, and after a good answer to it.
use Rattle.std.proofs.Common.{◌≡◌, ℕ, ◌+◌, ◌*◌, ◌/◌, ◌%◌, ◌<◌, ◌==◌, ◌&&◌, Bool, true, false, cond, List, length, refl, sym, ap, ap₂, ◌∙◌, arith}
use Rattle.std.specs.Prelude.{◌≢◌, None, Some, Option, not, slice_get}
use Rattle.std.proofs.lemmas.Bool.{and_parts, eqb-true}
use Rattle.std.proofs.lemmas.List.{length-map}
use Rattle.std.proofs.lemmas.Option.{same_Some, slice_get_within}
use Rattle.std.proofs.lemmas.Slice.Eq.{bytes_eq-Decides}
use Rattle.hc_records.specs.declared.records.Slave.{Slave}
use Rattle.hc_records.specs.Lists.{changed_at}
use Rattle.hc_records.specs.Line.{State, groups_of}
use Rattle.hc_records.specs.Project.{lowest_fault}
use Rattle.hc_records.proofs.lemmas.Lines.{declared_slaves}
use Rattle.hc_registers.specs.Blocks.{LineBlock}
use Rattle.hc_registers.specs.RankPlaces.{places, stations}
use Rattle.hc_registers.proofs.lemmas.RanksStanding.{length-places}
use Rattle.hc_plan.specs.Reports.{found_name}
use Rattle.hc_events.specs.Holding.{MayHold}
use Rattle.hc_owed.specs.declared.area.JudgedArea.{JudgedArea}
use Rattle.hc_owed.specs.Areas.{area_written, fmmu_confirmed, sync_manager_confirmed}
use Rattle.hc_owed.specs.Laws.{known_with, same_name}
use Rattle.hc_owed.specs.Readiness.{Holdings, area_slave, fmmu_at, judged_at, readiness_of, slot}
use Rattle.hc_owed.specs.ReadinessSteps.{held_with, only_contents, with_contents}
use Rattle.hc_owed.specs.RegisterState.{Knowledge, differs, lacks, owed_in}
use Rattle.hc_owed.proofs.AreaPlaces.{IsOfArea, changed-range, get-range, of-area, one-area, slot-at, slot-is}
use Rattle.hc_plan.proofs.lemmas.Replaced.{changed-same}
use Rattle.hc_owed.proofs.JudgedAreas.{area_of, confirmed-fmmu, confirmed-sync_manager, judged-same, judged-some, same-area, written-area}
use Rattle.hc_owed.proofs.Writing.{elsewhere, here, same-itself}

module _ (known : Knowledge) (held : Holdings) (unplugged : ℕ → Bool) (state : State) (p : ℕ) (block : LineBlock) (bytes : Option (List ℕ)) (change : MayHold → MayHold)
    (project : lowest_fault (groups_of state.groups) ≡ None) (at : slice_get (places state) p ≡ Some (Some block)) where
  abbrev pub known' : Knowledge
  known' = known_with (found_name block) bytes known

  abbrev pub held' : Holdings
  held' = held_with (found_name block) change held

  abbrev own : IsOfArea state p block
  own = of-area state p block at

  -- the other blocks are owed or not as they were
  owed-else : (j : ℕ) → p ≢ j → owed_in known (slot state j) ≡ owed_in known' (slot state j)
  owed-else j apart = by (slot state j) refl
    where
      by : (found : Option LineBlock) → slot state j ≡ found → owed_in known found ≡ owed_in known' found
      by None is = refl
      by (Some other) is = ap (differs other.block.bytes) (elsewhere known state p block bytes project at j other apart (slot-at state j other is))

  -- other registers hold what they held
  held-else : (i : ℕ) (slave : Slave) → area_slave state i ≡ Some slave → (p ≢ 2 * i + 1) → held slave.station (fmmu_at i) ≡ held' slave.station (fmmu_at i)
  held-else i slave area apart = by (same_name (found_name block) (slave.station, fmmu_at i)) refl
    where
      by : (same : Bool) → same_name (found_name block) (slave.station, fmmu_at i) ≡ same → held slave.station (fmmu_at i) ≡ cond same (change (held slave.station (fmmu_at i))) (held slave.station (fmmu_at i))
      by false is = refl
      by true is =
          let parts = and_parts (block.station == slave.station) (block.number == fmmu_at i) is in
          let station = eqb-true block.station slave.station parts.0 in
          let number = eqb-true block.number (fmmu_at i) parts.1 in
          let own-number = own.number in
          let one = one-area state i (p / 2) slave own.slave project area own.area (sym station ∙ sym own.station) (omega (arith, number, own-number)) in
          absurd (apart (omega (arith, one, number, own-number)))

  -- an area of another block is as it was
  kept-else : (i : ℕ) → p / 2 ≢ i → judged_at known held unplugged state i ≡ judged_at known' held' unplugged state i
  kept-else i apart =
      judged-same known known' held held' unplugged state i (owed-else (2 * i) (λ same. apart (omega (arith, same)))) (owed-else (2 * i + 1) (λ same. apart (omega (arith, same))))
      (λ slave area. held-else i slave area (λ same. apart (omega (arith, same))))

  size : p / 2 < 8 * length (stations state)
  size =
      let within = slice_get_within (places state) p (Some block) at in
      let all = length-places state in
      let count = length-map (declared_slaves state.groups) (λ (slave : Slave). slave.station) in
      omega (arith, within, all, count)

  -- one area is changed
  pub one-changes : (area : JudgedArea) → judged_at known' held' unplugged state (p / 2) ≡ area → changed_at (p / 2) (λ _. area) (readiness_of known held unplugged state) ≡ readiness_of known' held' unplugged state
  one-changes area is = changed-range (judged_at known held unplugged state) (judged_at known' held' unplugged state) (8 * length (stations state)) (p / 2) area size is (λ i low apart. kept-else i apart)

  pub read-area : (area : JudgedArea) → slice_get (readiness_of known held unplugged state) (p / 2) ≡ Some area → area ≡ judged_at known held unplugged state (p / 2)
  read-area area found = same_Some area (judged_at known held unplugged state (p / 2)) (sym found ∙ get-range (judged_at known held unplugged state) (8 * length (stations state)) (p / 2) size)

  -- the area of the block, before and after

  abbrev n : ℕ
  n = p / 2

  abbrev slave : Slave
  slave = own.slave

  before : judged_at known held unplugged state n
      ≡ area_of (owed_in known (slot state (2 * n))) (owed_in known (slot state (2 * n + 1))) (slot state (2 * n + 1)) (held slave.station (fmmu_at n)) (unplugged slave.station)
  before = judged-some known held unplugged state n slave own.area

  after : judged_at known' held' unplugged state n
      ≡ area_of (owed_in known' (slot state (2 * n))) (owed_in known' (slot state (2 * n + 1))) (slot state (2 * n + 1)) (held' slave.station (fmmu_at n)) (unplugged slave.station)
  after = judged-some known' held' unplugged state n slave own.area

  slot-own : slot state p ≡ Some block
  slot-own = slot-is state p (Some block) at

  owed-own : owed_in known' (Some block) ≡ differs block.block.bytes bytes
  owed-own = ap (differs block.block.bytes) (here known state p block bytes project at)

  held-own : p ≡ 2 * n + 1 → held' slave.station (fmmu_at n) ≡ change (held slave.station (fmmu_at n))
  held-own odd =
      let number = own.number in
      let same : fmmu_at n ≡ block.number = omega (arith, number, odd) in
      ap (λ (t : Bool). cond t (change (held slave.station (fmmu_at n))) (held slave.station (fmmu_at n)))
      (ap₂ (λ (s m : ℕ). (block.station == s) && (block.number == m)) own.station same ∙ same-itself block.station block.number)

  -- the block is an FMMU's
  pub fmmu-after : p ≡ 2 * n + 1 → judged_at known' held' unplugged state n
      ≡ area_of (owed_in known (slot state (2 * n))) (differs block.block.bytes bytes) (Some block) (change (held slave.station (fmmu_at n))) (unplugged slave.station)
  fmmu-after odd =
      let found : slot state (2 * n + 1) ≡ Some block = ap (slot state) (sym odd) ∙ slot-own in
      after
      ∙ same-area (owed_in known' (slot state (2 * n))) (owed_in known' (slot state (2 * n + 1))) (owed_in known (slot state (2 * n))) (differs block.block.bytes bytes)
      (slot state (2 * n + 1)) (Some block) (held' slave.station (fmmu_at n)) (change (held slave.station (fmmu_at n))) (unplugged slave.station) (unplugged slave.station)
      (sym (owed-else (2 * n) (λ same. omega (arith, same, odd)))) (ap (owed_in known') found ∙ owed-own) found (held-own odd) refl

  pub fmmu-before : p ≡ 2 * n + 1 → judged_at known held unplugged state n
      ≡ area_of (owed_in known (slot state (2 * n))) (lacks known block) (Some block) (held slave.station (fmmu_at n)) (unplugged slave.station)
  fmmu-before odd =
      let found : slot state (2 * n + 1) ≡ Some block = ap (slot state) (sym odd) ∙ slot-own in
      before
      ∙ same-area (owed_in known (slot state (2 * n))) (owed_in known (slot state (2 * n + 1))) (owed_in known (slot state (2 * n))) (lacks known block)
      (slot state (2 * n + 1)) (Some block) (held slave.station (fmmu_at n)) (held slave.station (fmmu_at n)) (unplugged slave.station) (unplugged slave.station)
      refl (ap (owed_in known) found) found refl refl

  -- the block is a sync manager's
  pub sync_manager-after : p ≡ 2 * n → judged_at known' held' unplugged state n
      ≡ area_of (differs block.block.bytes bytes) (owed_in known (slot state (2 * n + 1))) (slot state (2 * n + 1)) (held slave.station (fmmu_at n)) (unplugged slave.station)
  sync_manager-after even =
      let found : slot state (2 * n) ≡ Some block = ap (slot state) (sym even) ∙ slot-own in
      after
      ∙ same-area (owed_in known' (slot state (2 * n))) (owed_in known' (slot state (2 * n + 1))) (differs block.block.bytes bytes) (owed_in known (slot state (2 * n + 1)))
      (slot state (2 * n + 1)) (slot state (2 * n + 1)) (held' slave.station (fmmu_at n)) (held slave.station (fmmu_at n)) (unplugged slave.station) (unplugged slave.station)
      (ap (owed_in known') found ∙ owed-own) (sym (owed-else (2 * n + 1) (λ same. omega (arith, same, even)))) refl (sym (held-else n slave own.area (λ same. omega (arith, same, even)))) refl

  -- the state of the areas is as it was if the block is a sync manager's and is owed as it was
  pub unchanged : p ≡ 2 * n → lacks known block ≡ differs block.block.bytes bytes → readiness_of known held unplugged state ≡ readiness_of known' held' unplugged state
  unchanged even same =
      let found : slot state (2 * n) ≡ Some block = ap (slot state) (sym even) ∙ slot-own in
      let stays = judged-same known known' held held' unplugged state n (ap (owed_in known) found ∙ same ∙ sym (ap (owed_in known') found ∙ owed-own))
      (owed-else (2 * n + 1) (λ one. omega (arith, one, even))) (λ s area. held-else n s area (λ one. omega (arith, one, even))) in
      sym (changed-same n (judged_at known held unplugged state n) (readiness_of known held unplugged state) (get-range (judged_at known held unplugged state) (8 * length (stations state)) n size))
      ∙ one-changes (judged_at known held unplugged state n) (sym stays)

-- a block has its own bytes
own-bytes : (block : LineBlock) → differs block.block.bytes (Some block.block.bytes) ≡ false
own-bytes block = ap not ((bytes_eq-Decides block.block.bytes block.block.bytes).1 refl)

pub sent-fmmu : (known : Knowledge) (held : Holdings) (unplugged : ℕ → Bool) (state : State) (p : ℕ) (block : LineBlock) (area : JudgedArea) → lowest_fault (groups_of state.groups) ≡ None → slice_get (places state) p ≡ Some (Some block)
    → lacks known block ≡ true → p % 2 ≡ 1 → slice_get (readiness_of known held unplugged state) (p / 2) ≡ Some area
    → changed_at (p / 2) (λ _. area_written area) (readiness_of known held unplugged state)
    ≡ readiness_of (known_with (found_name block) None known) (held_with (found_name block) (with_contents block.block.bytes) held) unplugged state
sent-fmmu known held unplugged state p block area project at lacking odd found =
    let change = with_contents block.block.bytes in
    let place : p ≡ 2 * (p / 2) + 1 = omega (arith, odd) in
    let is = read-area known held unplugged state p block None change project at area found in
    let slave = (of-area state p block at).slave in
    one-changes known held unplugged state p block None change project at (area_written area)
    (fmmu-after known held unplugged state p block None change project at place
    ∙ sym (written-area (owed_in known (slot state (2 * (p / 2)))) true block (held slave.station (fmmu_at (p / 2))) (unplugged slave.station))
    ∙ ap area_written
    (ap (λ (t : Bool). area_of (owed_in known (slot state (2 * (p / 2)))) t (Some block) (held slave.station (fmmu_at (p / 2))) (unplugged slave.station)) (sym lacking)
    ∙ sym (fmmu-before known held unplugged state p block None change project at place) ∙ sym is))

pub sent-sync_manager : (known : Knowledge) (held : Holdings) (unplugged : ℕ → Bool) (state : State) (p : ℕ) (block : LineBlock) → lowest_fault (groups_of state.groups) ≡ None → slice_get (places state) p ≡ Some (Some block)
    → lacks known block ≡ true → (p % 2 ≡ 1 → ⊥)
    → readiness_of known held unplugged state ≡ readiness_of (known_with (found_name block) None known) (held_with (found_name block) (with_contents block.block.bytes) held) unplugged state
sent-sync_manager known held unplugged state p block project at lacking even =
    unchanged known held unplugged state p block None (with_contents block.block.bytes) project at (omega (arith, even)) lacking

pub confirmed-fmmu-right : (known : Knowledge) (held : Holdings) (unplugged : ℕ → Bool) (state : State) (p : ℕ) (block : LineBlock) (area : JudgedArea) → lowest_fault (groups_of state.groups) ≡ None → slice_get (places state) p ≡ Some (Some block)
    → p % 2 ≡ 1 → slice_get (readiness_of known held unplugged state) (p / 2) ≡ Some area
    → changed_at (p / 2) (λ _. fmmu_confirmed area) (readiness_of known held unplugged state)
    ≡ readiness_of (known_with (found_name block) (Some block.block.bytes) known) (held_with (found_name block) (only_contents block.block.bytes) held) unplugged state
confirmed-fmmu-right known held unplugged state p block area project at odd found =
    let change = only_contents block.block.bytes in
    let bytes = Some block.block.bytes in
    let place : p ≡ 2 * (p / 2) + 1 = omega (arith, odd) in
    let is = read-area known held unplugged state p block bytes change project at area found in
    let slave = (of-area state p block at).slave in
    let first = owed_in known (slot state (2 * (p / 2))) in
    let holds = held slave.station (fmmu_at (p / 2)) in
    one-changes known held unplugged state p block bytes change project at (fmmu_confirmed area)
    (fmmu-after known held unplugged state p block bytes change project at place
    ∙ ap (λ (t : Bool). area_of first t (Some block) (change holds) (unplugged slave.station)) (own-bytes block)
    ∙ sym (confirmed-fmmu first (lacks known block) block holds (unplugged slave.station))
    ∙ ap fmmu_confirmed (sym (fmmu-before known held unplugged state p block bytes change project at place) ∙ sym is))

pub confirmed-sync_manager-right : (known : Knowledge) (held : Holdings) (unplugged : ℕ → Bool) (state : State) (p : ℕ) (block : LineBlock) (area : JudgedArea) → lowest_fault (groups_of state.groups) ≡ None → slice_get (places state) p ≡ Some (Some block)
    → (p % 2 ≡ 1 → ⊥) → slice_get (readiness_of known held unplugged state) (p / 2) ≡ Some area
    → changed_at (p / 2) (λ _. sync_manager_confirmed area) (readiness_of known held unplugged state)
    ≡ readiness_of (known_with (found_name block) (Some block.block.bytes) known) (held_with (found_name block) (only_contents block.block.bytes) held) unplugged state
confirmed-sync_manager-right known held unplugged state p block area project at even found =
    let change = only_contents block.block.bytes in
    let bytes = Some block.block.bytes in
    let place : p ≡ 2 * (p / 2) = omega (arith, even) in
    let is = read-area known held unplugged state p block bytes change project at area found in
    let slave = (of-area state p block at).slave in
    let second = owed_in known (slot state (2 * (p / 2) + 1)) in
    let fmmu = slot state (2 * (p / 2) + 1) in
    let holds = held slave.station (fmmu_at (p / 2)) in
    one-changes known held unplugged state p block bytes change project at (sync_manager_confirmed area)
    (sync_manager-after known held unplugged state p block bytes change project at place
    ∙ ap (λ (t : Bool). area_of t second fmmu holds (unplugged slave.station)) (own-bytes block)
    ∙ sym (confirmed-sync_manager (owed_in known (slot state (2 * (p / 2)))) second fmmu holds (unplugged slave.station))
    ∙ ap sync_manager_confirmed (sym (judged-some known held unplugged state (p / 2) slave (of-area state p block at).area) ∙ sym is))
