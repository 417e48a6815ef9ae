-- The state of the areas once an edit is carried out and each slave that came with it is cleared.
use Rattle.std.proofs.Common.{◌≡◌, ℕ, ◌+◌, ◌-◌, ◌*◌, ◌/◌, ◌<◌, ◌≤◌, ◌==◌, ◌&&◌, Bool, true, false, cond, List, [], ◌∷◌, ◌++◌, length, replicate, refl, sym, ap, subst, ◌∙◌, arith}
use Rattle.std.specs.Prelude.{All, None, Some, Option, is_some, not, option_map, slice_get, unwrap_or}
use Rattle.std.specs.Option.{option_map_or}
use Rattle.std.proofs.lemmas.Bool.{eqb-false, eqb-true}
use Rattle.std.proofs.lemmas.List.{length-map}
use Rattle.std.proofs.lemmas.List.Elements.{All-head, All-tail, All-weaker}
use Rattle.std.proofs.lemmas.Option.{same_Some, slice_get-map}
use Rattle.hc_records.specs.declared.edit.Edit.TheVariants.{Declare}
use Rattle.hc_records.specs.declared.records.Slave.{Slave}
use Rattle.hc_records.specs.Lists.{changed_at}
use Rattle.hc_records.specs.Edits.{changed, slave_at}
use Rattle.hc_records.specs.Line.{Member}
use Rattle.hc_records.proofs.lemmas.Lines.{declared_slaves}
use Rattle.hc_registers.specs.Blocks.{LineBlock}
use Rattle.hc_registers.specs.declared.ranked.Gone.{Gone}
use Rattle.hc_registers.specs.Ranked.{RankedBlock}
use Rattle.hc_registers.specs.RankDifferences.{IsAtItsPlace, IsGone, block_place}
use Rattle.hc_registers.specs.RankPlaces.{places, stations}
use Rattle.hc_registers.proofs.lemmas.RanksStanding.{length-places}
use Rattle.hc_plan.proofs.lemmas.Differing.{there}
use Rattle.hc_events.specs.Holding.{MayHold, cleared_register, held_after_coming}
use Rattle.hc_events.specs.Ready.{is_fmmu}
use Rattle.hc_owed.specs.declared.area.JudgedArea.{JudgedArea}
use Rattle.hc_owed.specs.declared.area.OwedPair.{OwedPair}
use Rattle.hc_owed.specs.declared.area.RegisterStatus.{RegisterStatus}
use Rattle.hc_owed.specs.declared.area.RegisterStatus.TheVariants.{Outside, Unplugged, Unknown, Sure}
use Rattle.hc_owed.specs.declared.area.Turn.TheVariants.{Cleared, Left}
use Rattle.hc_owed.specs.declared.readiness_room.ReadinessRoom.{ReadinessRoom}
use Rattle.hc_owed.specs.declared.tally.Tally.{Tally}
use Rattle.hc_owed.specs.declared.task_set.TaskSet.{TaskSet}
use Rattle.hc_owed.specs.Areas.{area_after, area_entered, fmmu_moved, is_inside, pair_of, sync_manager_moved}
use Rattle.hc_owed.specs.EditWaits.{CanTallyMoved, ReadinessWillBeEdited, area_coming, areas_cleared, areas_coming, held_cleared}
use Rattle.hc_owed.specs.Laws.{RegistersAreEdited, known_over}
use Rattle.hc_owed.specs.Readiness.{Holdings, area_slave, fmmu_at, held_set, judged_at, no_area, own_set, readiness_of, slot, standing_of}
use Rattle.hc_owed.specs.ReadinessLaws.{AreWaiting}
use Rattle.hc_owed.specs.ReadinessRoom.{ReadinessCanAdmit}
use Rattle.hc_owed.specs.ReadinessSteps.{ReadinessIsEdited, area_moved, areas_left, areas_moved, block_moved, changed_from, held_over, unplugged_over}
use Rattle.hc_owed.specs.RegisterState.{Knowledge, RegisterState, differs, known_in, owed_in, register_state_of}
use Rattle.hc_owed.specs.Steps.{owed_where_moved}
use Rattle.hc_owed.specs.Tally.{Tallies, counts_none}
use Rattle.hc_owed.specs.TaskSets.{has_task, some_task, tasks_where}
use Rattle.hc_owed.proofs.lemmas.Alike.{HoldAlike, readiness-alike}
use Rattle.hc_owed.proofs.AreaChanges.{get-applied, get-outside, get-unapplied, length-changed-from}
use Rattle.hc_owed.proofs.AreaPlaces.{get-range, is-range}
use Rattle.hc_owed.proofs.Changing.{known-stays}
use Rattle.hc_owed.proofs.Counting.{areas-more}
use Rattle.hc_owed.proofs.JudgedAreas.{area_from, area_of, held-none, judged-none, judged-some}
use Rattle.hc_plan.proofs.lemmas.Replaced.{length-changed}
use Rattle.hc_owed.proofs.ReadyChanging.{area-before, areas-size, change-right, flag-is, gone-low, in-new, in-old, left-size, moved-low, out-new, out-old, place-old, same-count, went}
use Rattle.hc_owed.proofs.ReadyEntering.{entered, never-comes, same-line}
use Rattle.hc_owed.proofs.Tallies.{are-waiting}

-- an area after an edit, cleared if its slave came: if it was not in the line before, and is after
abbrev came : Bool → JudgedArea → JudgedArea
came before now = cond (not before && is_inside now.standing) (area_after Cleared now) now

came-stays : (before : Bool) (now : JudgedArea) → is_inside now.standing ≡ before → came before now ≡ now
came-stays true now is = refl
came-stays false now is = ap (λ (t : Bool). cond t (area_after Cleared now) now) is

came-outside : (before : Bool) (now : JudgedArea) → is_inside now.standing ≡ false → came before now ≡ now
came-outside true now is = refl
came-outside false now is = ap (λ (t : Bool). cond t (area_after Cleared now) now) is

-- one of its blocks moves

abbrev moved_by : Bool → Bool → TaskSet → JudgedArea → JudgedArea
moved_by odd owes own area = cond odd (fmmu_moved own owes area) (sync_manager_moved owes area)

moved-comes : (odd owes : Bool) (next : TaskSet) (before : Bool) (own held : TaskSet) (owed : OwedPair) (s : RegisterStatus) → (before ≡ true → is_inside s ≡ true)
    → moved_by odd owes next (area_entered (came before (area_from own held owed s))) ≡ came before (moved_by odd owes next (area_from own held owed s))
moved-comes true owes next true own held owed Outside inside = let no : false ≡ true = inside refl in cc
moved-comes true owes next true own held owed Unplugged inside = let no : false ≡ true = inside refl in cc
moved-comes true owes next true own held owed Unknown inside = refl
moved-comes true owes next true own held owed Sure inside = refl
moved-comes true owes next false own held owed Outside inside = refl
moved-comes true owes next false own held owed Unplugged inside = refl
moved-comes true owes next false own held owed Unknown inside = refl
moved-comes true owes next false own held owed Sure inside = refl
moved-comes false owes next true own held owed Outside inside = let no : false ≡ true = inside refl in cc
moved-comes false owes next true own held owed Unplugged inside = let no : false ≡ true = inside refl in cc
moved-comes false owes next true own held owed Unknown inside = refl
moved-comes false owes next true own held owed Sure inside = refl
moved-comes false owes next false own held owed Outside inside = refl
moved-comes false owes next false own held owed Unplugged inside = refl
moved-comes false owes next false own held owed Unknown inside = refl
moved-comes false owes next false own held owed Sure inside = refl

moved-inside : (odd owes : Bool) (next own held : TaskSet) (owed : OwedPair) (s : RegisterStatus) → is_inside (moved_by odd owes next (area_from own held owed s)).standing ≡ true
moved-inside true owes next own held owed Outside = refl
moved-inside true owes next own held owed Unplugged = refl
moved-inside true owes next own held owed Unknown = refl
moved-inside true owes next own held owed Sure = refl
moved-inside false owes next own held owed Outside = refl
moved-inside false owes next own held owed Unplugged = refl
moved-inside false owes next own held owed Unknown = refl
moved-inside false owes next own held owed Sure = refl

block-comes : (owes : Bool) (m : RankedBlock) (before : Bool) (now : JudgedArea) → (before ≡ true → is_inside now.standing ≡ true) → block_moved owes m (area_entered (came before now)) ≡ came before (block_moved owes m now)
block-comes owes m before now inside = moved-comes (is_fmmu (block_place m)) owes (own_set (Some m.found)) before now.own now.held now.owed now.standing inside

block-inside : (owes : Bool) (m : RankedBlock) (now : JudgedArea) → is_inside (block_moved owes m now).standing ≡ true
block-inside owes m now = moved-inside (is_fmmu (block_place m)) owes (own_set (Some m.found)) now.own now.held now.owed now.standing

length-coming : (owed : RegisterState) (moved : List RankedBlock) (areas : List JudgedArea) → length (areas_coming owed moved areas) ≡ length areas
length-coming owed [] areas = refl
length-coming owed (m ∷ moved) areas = length-coming owed moved (changed_at (block_place m / 2) (area_coming owed m) areas) ∙ length-changed (block_place m / 2) (area_coming owed m) areas

inside-line : (unknown apart : Bool) → is_inside (standing_of true unknown apart) ≡ true
inside-line true apart = refl
inside-line false apart = refl

outside-line : (unknown apart : Bool) → is_inside (standing_of false unknown apart) ≡ false
outside-line unknown true = refl
outside-line unknown false = refl

-- a register of a slave that came is cleared, any other holds what it held
cleared-or-held : (comes : Bool) (a b : Bool) (block : Option LineBlock) (held : MayHold) (unplugged : Bool) → comes ≡ false → area_of a b block (held_after_coming comes held) unplugged ≡ area_of a b block (cond comes cleared_register held) unplugged
cleared-or-held true a b block held unplugged stays = cc
cleared-or-held false a b block held unplugged stays = refl

cleared-comer : (comes : Bool) (a b : Bool) (block : LineBlock) (held : MayHold) (unplugged : Bool) → comes ≡ true
    → came false (area_of a b (Some block) (held_after_coming comes held) unplugged) ≡ area_of a b (Some block) (cond comes cleared_register held) unplugged
cleared-comer false a b block held unplugged coming = cc
cleared-comer true a b block held unplugged coming = ap (λ (s : TaskSet). area_from (own_set (Some block)) s (pair_of a b) Sure) (sym held-none)

module _ (areas : List JudgedArea) (owed : RegisterState) (gone : Gone) (moved : List RankedBlock) (is : ReadinessWillBeEdited areas owed gone moved) where
  abbrev known' : Knowledge
  known' = known_over is.old is.known

  abbrev held' : Holdings
  held' = held_over is.old is.new is.held

  abbrev unplugged' : ℕ → Bool
  unplugged' = unplugged_over is.new is.unplugged

  -- the blocks after the edit
  abbrev after : RegisterState
  after = register_state_of (known_over is.old is.known) is.new

  abbrev edited : ReadinessIsEdited areas (register_state_of (known_over is.old is.known) is.new) gone moved
  edited = record { known = is.known; held = is.held; unplugged = is.unplugged; old = is.old; edit = is.edit; new = is.new; right = is.right; accepted = is.accepted; same = is.same; differ = is.differ; flags = refl }

  abbrev registers : RegistersAreEdited owed gone moved
  registers = record { known = is.known; old = is.old; edit = is.edit; new = is.new; right = is.blocks; project = is.right.project; accepted = is.accepted; same = is.same; differ = is.differ }

  abbrev all : ℕ
  all = 8 * length (stations is.old)

  abbrev target : ℕ → JudgedArea
  target = judged_at (known_over is.old is.known) (held_over is.old is.new is.held) (unplugged_over is.new is.unplugged) is.new

  abbrev left : List JudgedArea
  left = areas_left gone (readiness_of is.known is.held is.unplugged is.old)

  -- a moved block is owed after the edit if the known bytes before it say so

  pub not-gone : (m : RankedBlock) → IsAtItsPlace (places is.new) m → IsGone gone (block_place m) → ⊥
  not-gone m at inside = let no : Some None ≡ Some (Some m.found) = sym (is.differ.went (block_place m) inside) ∙ at in let never : None ≡ Some m.found = same_Some None (Some m.found) no in cc

  owes-is : (m : RankedBlock) → block_place m < 16 * length (stations is.old) → IsAtItsPlace (places is.new) m → owed_where_moved m owed ≡ unwrap_or (slice_get after.owed (block_place m)) false
  owes-is m low at =
      let place = block_place m in
      let was = slot is.old place in
      let stood = place-old areas after gone moved edited place (omega (arith, low)) in
      ap (λ (r : RegisterState). differs m.found.block.bytes (unwrap_or (slice_get r.known place) None)) is.blocks
      ∙ ap (λ (o : Option (Option (List ℕ))). differs m.found.block.bytes (unwrap_or o None)) (slice_get-map (known_in is.known) (places is.old) place ∙ ap (option_map (known_in is.known)) stood)
      ∙ ap (differs m.found.block.bytes) (known-stays owed gone moved registers place was (Some m.found) stood at (not-gone m at))
      ∙ sym (flag-is areas after gone moved edited m at)

  -- the areas as they are after the edit, and as they are once the slaves that came are cleared

  abbrev was_inside : ℕ → Bool
  was_inside i = option_map_or (λ (a : JudgedArea). is_inside a.standing) (slice_get left i) false

  AreCome : List JudgedArea → List JudgedArea → Type 0
  AreCome list coming =
      (i : ℕ) → i < all
      → (now : JudgedArea) × (slice_get list i ≡ Some now) × (slice_get coming i ≡ Some (came (was_inside i) now)) × (was_inside i ≡ true → is_inside now.standing ≡ true)

  one-comes : (m : RankedBlock) (before : Bool) (now : JudgedArea) → block_place m < 16 * length (stations is.old) → IsAtItsPlace (places is.new) m → (before ≡ true → is_inside now.standing ≡ true)
      → area_coming owed m (came before now) ≡ came before (area_moved after.owed m now)
  one-comes m before now low at inside =
      ap (λ (t : Bool). block_moved t m (area_entered (came before now))) (owes-is m low at) ∙ block-comes (unwrap_or (slice_get after.owed (block_place m)) false) m before now inside

  all-come : (rest : List RankedBlock) (list coming : List JudgedArea) → All (λ m. block_place m < 16 * length (stations is.old)) rest → All (IsAtItsPlace (places is.new)) rest → AreCome list coming
      → AreCome (areas_moved after.owed rest list) (areas_coming owed rest coming)
  unfolding AreCome
  all-come [] list coming low placed come = come
  all-come (m ∷ rest) list coming low placed come =
      all-come rest (changed_at (block_place m / 2) (area_moved after.owed m) list) (changed_at (block_place m / 2) (area_coming owed m) coming)
      (All-tail (λ o. block_place o < 16 * length (stations is.old)) m rest low) (All-tail (IsAtItsPlace (places is.new)) m rest placed)
      (λ i inside. by i inside (block_place m / 2 == i) refl)
    where
      here : IsAtItsPlace (places is.new) m
      here = All-head (IsAtItsPlace (places is.new)) m rest placed

      below : block_place m < 16 * length (stations is.old)
      below = All-head (λ o. block_place o < 16 * length (stations is.old)) m rest low

      by : (i : ℕ) → i < all → (same : Bool) → (block_place m / 2 == i) ≡ same
          → (now : JudgedArea) × (slice_get (changed_at (block_place m / 2) (area_moved after.owed m) list) i ≡ Some now)
          × (slice_get (changed_at (block_place m / 2) (area_coming owed m) coming) i ≡ Some (came (was_inside i) now)) × (was_inside i ≡ true → is_inside now.standing ≡ true)
      by i inside true same =
          let half = eqb-true (block_place m / 2) i same in
          let one = come i inside in (
            area_moved after.owed m one.0,
            ap (slice_get (changed_at (block_place m / 2) (area_moved after.owed m) list)) (sym half) ∙ get-applied (block_place m / 2) (area_moved after.owed m) one.0 list (ap (slice_get list) half ∙ one.1),
            ap (slice_get (changed_at (block_place m / 2) (area_coming owed m) coming)) (sym half)
                ∙ get-applied (block_place m / 2) (area_coming owed m) (came (was_inside i) one.0) coming (ap (slice_get coming) half ∙ one.2)
                ∙ ap (λ (a : JudgedArea). Some a) (one-comes m (was_inside i) one.0 below here one.3),
            λ before. block-inside (unwrap_or (slice_get after.owed (block_place m)) false) m one.0,
          )
      by i inside false other =
          let apart = eqb-false (block_place m / 2) i other in
          let one = come i inside in (
            one.0,
            get-unapplied (block_place m / 2) i (area_moved after.owed m) list apart ∙ one.1,
            get-unapplied (block_place m / 2) i (area_coming owed m) coming apart ∙ one.2,
            one.3,
          )

  left-come : AreCome left left
  unfolding AreCome
  left-come i low =
      let size = left-size areas after gone moved edited in
      let one = there left i (omega (arith, low, size)) in
      let before = ap (λ (o : Option JudgedArea). option_map_or (λ (a : JudgedArea). is_inside a.standing) o false) one.1 in (
        one.0,
        one.1,
        one.1 ∙ ap (λ (a : JudgedArea). Some a) (sym (came-stays (was_inside i) one.0 (sym before))),
        λ inside. sym before ∙ inside,
      )

  -- an area whose slave did not leave is in the line before the edit if the line has its FMMU's block
  was-in : (i : ℕ) (slave : Slave) → i < all → (IsGone gone (2 * i + 1) → ⊥) → area_slave is.old i ≡ Some slave → (there' : Bool) → is_some (slot is.old (2 * i + 1)) ≡ there' → was_inside i ≡ there'
  was-in i slave low stays area there' found =
      let rank = is.differ.rank in
      let own = get-outside (area_after Left) (8 * (gone.rank - 1)) (8 * gone.slaves) (readiness_of is.known is.held is.unplugged is.old) i (λ inside. let a = inside.0 in let b = inside.1 in stays (omega (arith, a, rank), omega (arith, b, rank)))
      ∙ get-range (judged_at is.known is.held is.unplugged is.old) all i low in
      let holds = is.held slave.station (fmmu_at i) in
      let apart = is.unplugged slave.station && some_task (held_set holds) in
      ap (λ (o : Option JudgedArea). option_map_or (λ (a : JudgedArea). is_inside a.standing) o false) own
      ∙ ap (λ (a : JudgedArea). is_inside a.standing) (judged-some is.known is.held is.unplugged is.old i slave area)
      ∙ ap (λ (t : Bool). is_inside (standing_of t holds.unknown apart)) found
      ∙ by there' holds.unknown apart
    where
      by : (t unknown apart : Bool) → is_inside (standing_of t unknown apart) ≡ t
      by true unknown apart = inside-line unknown apart
      by false unknown apart = outside-line unknown apart

  abbrev comes : Slave → Bool
  comes slave = not (is_some (slave_at is.old slave.station)) && is_some (slave_at is.new slave.station)

  abbrev cleared_target : ℕ → JudgedArea
  cleared_target = judged_at (known_over is.old is.known) (held_cleared is.old is.new is.held) (unplugged_over is.new is.unplugged) is.new

  abbrev area_with : ℕ → Slave → Option LineBlock → MayHold → JudgedArea
  area_with i slave block held = area_of (owed_in known' (slot is.new (2 * i))) (owed_in known' (slot is.new (2 * i + 1))) block held (unplugged' slave.station)

  no-comer : (a b : Bool) → b ≡ false → (not a && b) ≡ false
  no-comer true b none = refl
  no-comer false b none = none

  old-member : (a b : Bool) → a ≡ true → (not a && b) ≡ false
  old-member true b in' = refl
  old-member false b in' = cc

  a-comer : (a b : Bool) → a ≡ false → b ≡ true → (not a && b) ≡ true
  a-comer false true out in' = refl
  a-comer false false out in' = cc
  a-comer true b out in' = cc

  both-lines : (i : ℕ) (old' slave : Slave) (w : Option LineBlock) (block : LineBlock) → i < all → area_slave is.old i ≡ Some old' → area_slave is.new i ≡ Some slave → old'.station ≡ slave.station
      → slot is.old (2 * i + 1) ≡ w → slot is.new (2 * i + 1) ≡ Some block
      → came (was_inside i) (area_with i slave (Some block) (held_after_coming (comes slave) (is.held slave.station (fmmu_at i)))) ≡ area_with i slave (Some block) (cond (comes slave) cleared_register (is.held slave.station (fmmu_at i)))
  both-lines i old' slave (Some was) block low area area' station stood now =
      let holds = is.held slave.station (fmmu_at i) in
      let before = was-in i old' low (λ inside. let no : None ≡ Some block = sym (went areas after gone moved edited (2 * i + 1) inside) ∙ now in cc) area true (ap (λ (o : Option LineBlock). is_some o) stood) in
      let inside = in-old areas after gone moved edited i old' was area stood in
      let stays : comes slave ≡ false = old-member (is_some (slave_at is.old slave.station)) (is_some (slave_at is.new slave.station)) (ap (λ (s : ℕ). is_some (slave_at is.old s)) (sym station) ∙ inside) in
      ap (λ (t : Bool). came t (area_with i slave (Some block) (held_after_coming (comes slave) holds))) before
      ∙ cleared-or-held (comes slave) (owed_in known' (slot is.new (2 * i))) (owed_in known' (slot is.new (2 * i + 1))) (Some block) holds (unplugged' slave.station) stays
  both-lines i old' slave None block low area area' station stood now =
      let holds = is.held slave.station (fmmu_at i) in
      let before = was-in i old' low (λ inside. let no : None ≡ Some block = sym (went areas after gone moved edited (2 * i + 1) inside) ∙ now in cc) area false (ap (λ (o : Option LineBlock). is_some o) stood) in
      let outside = out-old areas after gone moved edited i old' area (ap (λ (o : Option LineBlock). is_some o) stood) in
      let inside = in-new areas after gone moved edited i slave block area' now in
      let coming : comes slave ≡ true = a-comer (is_some (slave_at is.old slave.station)) (is_some (slave_at is.new slave.station)) (ap (λ (s : ℕ). is_some (slave_at is.old s)) (sym station) ∙ outside) inside in
      ap (λ (t : Bool). came t (area_with i slave (Some block) (held_after_coming (comes slave) holds))) before
      ∙ cleared-comer (comes slave) (owed_in known' (slot is.new (2 * i))) (owed_in known' (slot is.new (2 * i + 1))) block holds (unplugged' slave.station) coming

  cleared-some : (i : ℕ) (slave : Slave) (z : Option LineBlock) → i < all → area_slave is.new i ≡ Some slave → slot is.new (2 * i + 1) ≡ z
      → came (was_inside i) (area_with i slave z (held_after_coming (comes slave) (is.held slave.station (fmmu_at i)))) ≡ area_with i slave z (cond (comes slave) cleared_register (is.held slave.station (fmmu_at i)))
  cleared-some i slave None low area now =
      let holds = held_after_coming (comes slave) (is.held slave.station (fmmu_at i)) in
      let out = out-new areas after gone moved edited i slave area (ap (λ (o : Option LineBlock). is_some o) now) in
      came-outside (was_inside i) (area_with i slave None holds) (outside-line holds.unknown (unplugged' slave.station && some_task (held_set holds)))
      ∙ cleared-or-held (comes slave) (owed_in known' (slot is.new (2 * i))) (owed_in known' (slot is.new (2 * i + 1))) None (is.held slave.station (fmmu_at i)) (unplugged' slave.station)
      (no-comer (is_some (slave_at is.old slave.station)) (is_some (slave_at is.new slave.station)) out)
  cleared-some i slave (Some block) low area now =
      let before = area-before areas after gone moved edited i slave area in
      both-lines i before.0 slave (slot is.old (2 * i + 1)) block low before.1 area before.2 refl now

  cleared-area : (i : ℕ) → i < all → (found : Option Slave) → area_slave is.new i ≡ found → came (was_inside i) (target i) ≡ cleared_target i
  cleared-area i low None area =
      ap (came (was_inside i)) (judged-none known' held' unplugged' is.new i area) ∙ came-outside (was_inside i) no_area refl ∙ sym (judged-none known' (held_cleared is.old is.new is.held) unplugged' is.new i area)
  cleared-area i low (Some slave) area =
      ap (came (was_inside i)) (judged-some known' held' unplugged' is.new i slave area) ∙ cleared-some i slave (slot is.new (2 * i + 1)) low area refl
      ∙ sym (judged-some known' (held_cleared is.old is.new is.held) unplugged' is.new i slave area)

  pub coming-right : areas_coming owed moved (areas_left gone areas) ≡ areas_cleared is.known is.held is.unplugged is.old is.new
  unfolding AreCome
  coming-right =
      ap (λ (l : List JudgedArea). areas_coming owed moved (areas_left gone l)) is.right.right
      ∙ is-range (areas_coming owed moved left) cleared_target (8 * length (stations is.new)) (length-coming owed moved left ∙ left-size areas after gone moved edited ∙ ap (λ (n : ℕ). 8 * n) count)
      (λ i low.
      let below : i < all = omega (arith, low, count) in
      let one = all-come moved left left (moved-low areas after gone moved edited) is.differ.names.are_placed left-come i below in
      let is-target : one.0 ≡ target i = same_Some one.0 (target i) (sym one.1 ∙ ap (λ (l : List JudgedArea). slice_get l i) (change-right areas after gone moved edited) ∙ get-range target (8 * length (stations is.new)) i low) in
      one.2 ∙ ap (λ (a : JudgedArea). Some (came (was_inside i) a)) is-target ∙ ap (λ (a : JudgedArea). Some a) (cleared-area i below (area_slave is.new i) refl))
    where
      count : length (stations is.old) ≡ length (stations is.new)
      count = same-count areas after gone moved edited

  -- the counts of moved blocks

  pub places-known : length owed.known ≡ 16 * length (stations is.old)
  places-known =
      let size = ap (λ (r : RegisterState). length r.known) is.blocks ∙ length-map (places is.old) (known_in is.known) ∙ length-places is.old in
      let named = length-map (declared_slaves is.old.groups) (λ (slave : Slave). slave.station) in
      omega (arith, size, named)

  abbrev pub can-tally : (seen : List JudgedArea) (tally : Tally) → seen ≡ areas → length seen < 524288 → Tallies (areas_left gone areas) tally → CanTallyMoved seen tally owed moved
  can-tally seen tally as-seen few counts = record {
    counted = areas_left gone areas;
    tallied = counts;
    few = let size = length-changed-from (area_after Left) (8 * (gone.rank - 1)) (8 * gone.slaves) areas in let long = ap length as-seen in omega (arith, few, size, long);
    ranks = is.differ.names.ranks;
    inside = let size = areas-size areas after gone moved edited in
        let long = ap length as-seen in
        All-weaker (λ m. block_place m < 16 * length (stations is.old)) (λ m. block_place m < 2 * length seen) (λ m low. omega (arith, low, size, long)) moved (moved-low areas after gone moved edited);
    known = let size = places-known in
        All-weaker (λ m. block_place m < 16 * length (stations is.old)) (λ m. block_place m < length owed.known) (λ m low. omega (arith, low, size)) moved (moved-low areas after gone moved edited);
    same = All-weaker (IsAtItsPlace (places is.new)) (λ m. slice_get (areas_left gone areas) (block_place m / 2) ≡ slice_get seen (block_place m / 2))
        (λ m at.
        let rank = is.differ.rank in
        get-outside (area_after Left) (8 * (gone.rank - 1)) (8 * gone.slaves) areas (block_place m / 2)
        (λ inside. let a = inside.0 in let b = inside.1 in not-gone m at (omega (arith, a, rank), omega (arith, b, rank)))
        ∙ ap (λ (l : List JudgedArea). slice_get l (block_place m / 2)) (sym as-seen)) moved is.differ.names.are_placed;
    ascend = is.ascend;
  }

  -- the slaves that leave have areas
  pub leave-low : 8 * (gone.rank - 1) + 8 * gone.slaves ≤ length areas
  leave-low = let size = areas-size areas after gone moved edited in let low = gone-low areas after gone moved edited in omega (arith, size, low)

-- their areas are counted as they are then
pub left-counts : (areas seen : List JudgedArea) (gone : Gone) (start n : ℕ) (tally : Tally) → seen ≡ areas → start ≡ 8 * (gone.rank - 1) → n ≡ 8 * gone.slaves → Tallies (changed_from (area_after Left) start n seen) tally → Tallies (areas_left gone areas) tally
left-counts areas seen gone start n tally as-seen first count =
    subst (λ (l : List JudgedArea). Tallies l tally)
    (ap (changed_from (area_after Left) start n) as-seen ∙ ap (λ (k : ℕ). changed_from (area_after Left) start k areas) count
    ∙ ap (λ (k : ℕ). changed_from (area_after Left) k (8 * gone.slaves) areas) first)

-- a group that is declared: none of its slaves is in the line

not-coming : (comes : Bool) (held : MayHold) → comes ≡ false → HoldAlike (held_after_coming comes held) (cond comes cleared_register held)
not-coming true held stays = cc
not-coming false held stays = record { unknown = refl; names = λ task. refl }

pub declared-waiting : (areas : List JudgedArea) (room : ReadinessRoom) (tally : Tally) (free set : TaskSet) (can : ReadinessCanAdmit areas room) → Tallies areas tally → free ≡ tasks_where (counts_none tally)
    → set ≡ tasks_where (λ (t : ℕ). not (has_task t free)) → AreWaiting (areas_cleared can.known can.held can.unplugged can.old (changed can.old (Declare can.group))) set
declared-waiting areas room tally free set can counts is others =
    let next = changed can.old (Declare can.group) in
    let known = known_over can.old can.known in
    let unplugged = unplugged_over next can.unplugged in
    subst (λ (l : List JudgedArea). AreWaiting l set)
    (entered areas room can
    ∙ readiness-alike known known (held_over can.old next can.held) (held_cleared can.old next can.held) unplugged unplugged next (λ station number. refl)
    (λ station number.
    not-coming (not (is_some (slave_at can.old station)) && is_some (slave_at next station)) (can.held station number)
    (never-comes areas room can (is_some (slave_at can.old station)) (is_some (slave_at next station)) (ap (λ (o : Option Member). is_some o) (same-line areas room can station))))
    (λ station. refl))
    (are-waiting (areas ++ replicate (8 * length can.group.slaves) no_area) tally free set (areas-more areas (8 * length can.group.slaves) tally counts) is others)
