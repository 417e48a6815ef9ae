-- The state of the areas is right for the new line after an accepted edit.
use Rattle.std.proofs.Common.{◌≡◌, ℕ, ◌+◌, ◌-◌, ◌*◌, ◌/◌, ◌%◌, ◌<◌, ◌≤◌, ◌==◌, ◌&&◌, ◌||◌, Bool, true, false, cond, List, [], ◌∷◌, length, map, refl, sym, ap, ap₂, ◌⊎◌, inl, inr, ◌∙◌, arith}
use Rattle.std.specs.Prelude.{◌≢◌, All, None, Some, Option, is_some, not, option_map, slice_get, unwrap_or}
use Rattle.std.proofs.lemmas.Bool.{eqb-false, eqb-true}
use Rattle.std.proofs.lemmas.List.{length-map}
use Rattle.std.proofs.lemmas.List.Elements.{All-cons, All-head, All-nil, All-tail, All-weaker}
use Rattle.std.proofs.lemmas.Option.{same_Some, slice_get-get_or, slice_get-map, slice_get_within}
use Rattle.hc_records.specs.declared.records.Area.{Area}
use Rattle.hc_records.specs.declared.records.Declared.{Declared}
use Rattle.hc_records.specs.declared.records.Slave.{Slave}
use Rattle.hc_records.specs.Lists.{changed_at}
use Rattle.hc_records.specs.Edits.{slave_at}
use Rattle.hc_records.specs.Line.{State, groups_of}
use Rattle.hc_records.specs.Project.{lowest_fault}
use Rattle.hc_records.proofs.lemmas.Lines.{declared_slaves}
use Rattle.hc_registers.specs.Blocks.{LineBlock, RegisterBlock}
use Rattle.hc_registers.specs.declared.ranked.Gone.{Gone}
use Rattle.hc_registers.specs.Ranked.{RankedBlock}
use Rattle.hc_registers.specs.RankDifferences.{IsGone, IsAtItsPlace, block_place}
use Rattle.hc_registers.specs.RankPlaces.{places, stations}
use Rattle.hc_registers.proofs.lemmas.RanksStanding.{length-places}
use Rattle.hc_groups.proofs.lemmas.Accepted.{accepted-groups, accepted-project}
use Rattle.hc_changes.proofs.lemmas.Bare.{bare_slave, edit-stays}
use Rattle.hc_plan.proofs.lemmas.Differing.{bare-count}
use Rattle.hc_plan.proofs.lemmas.PlaceNames.{is_placed-on, same-stations}
use Rattle.hc_events.specs.Ready.{is_fmmu, names_task}
use Rattle.hc_owed.specs.declared.area.JudgedArea.{JudgedArea}
use Rattle.hc_owed.specs.declared.area.OwedPair.{OwedPair}
use Rattle.hc_owed.specs.declared.area.OwedPair.TheVariants.{Neither, SyncManager, Fmmu, Both}
use Rattle.hc_owed.specs.declared.area.RegisterStatus.{RegisterStatus}
use Rattle.hc_owed.specs.declared.area.RegisterStatus.TheVariants.{Outside, Unplugged, Unknown, Sure}
use Rattle.hc_owed.specs.declared.area.Turn.TheVariants.{Left}
use Rattle.hc_owed.specs.declared.task_set.TaskSet.{TaskSet}
use Rattle.hc_owed.specs.Areas.{area_after, fmmu_moved, owes_fmmu, owes_sync_manager, pair_of, standing_come, standing_left, sync_manager_moved}
use Rattle.hc_owed.specs.Laws.{RegistersAreEdited, known_over}
use Rattle.hc_owed.specs.Readiness.{Holdings, area_slave, fmmu_at, held_set, judged_at, no_area, own_set, readiness_of, slot, standing_of}
use Rattle.hc_owed.specs.ReadinessSteps.{ReadinessIsEdited, area_moved, areas_left, areas_moved, held_over, unplugged_over}
use Rattle.hc_owed.specs.RegisterState.{Knowledge, RegisterState, owed_in, register_state_of}
use Rattle.hc_owed.specs.TaskSets.{some_task, tasks_where}
use Rattle.hc_owed.proofs.AreaChanges.{get-applied, get-inside, get-outside, get-unapplied, length-changed-from}
use Rattle.hc_owed.proofs.AreaPlaces.{area-is, area-of, get-range, in-line, is-range, length-range, of-area, slot-at, slot-is}
use Rattle.hc_plan.specs.RegisterBlocks.{block_in}
use Rattle.hc_plan.proofs.lemmas.StoredBlocks.{blocks-stay}
use Rattle.hc_owed.proofs.Changing.{owed-stays}
use Rattle.hc_owed.proofs.JudgedAreas.{area_from, area_of, inside, judged-none, judged-some, pair-first, pair-second}
use Rattle.hc_plan.proofs.lemmas.Replaced.{in-or-out, length-changed}
use Rattle.hc_owed.proofs.ReadyTurns.{block-station, both-blocks}

pair-whole : (o : OwedPair) → pair_of (owes_sync_manager o) (owes_fmmu o) ≡ o
pair-whole Neither = refl
pair-whole SyncManager = refl
pair-whole Fmmu = refl
pair-whole Both = refl

come-twice : (s : RegisterStatus) → standing_come (standing_come s) ≡ standing_come s
come-twice Outside = refl
come-twice Unplugged = refl
come-twice Unknown = refl
come-twice Sure = refl

come-inside : (unknown apart : Bool) → standing_come (standing_of true unknown apart) ≡ standing_of true unknown apart
come-inside true apart = refl
come-inside false apart = refl

come-outside : (unknown apart : Bool) → standing_come (standing_of false unknown apart) ≡ Unknown
come-outside unknown true = refl
come-outside unknown false = refl

left-outside : (unknown apart : Bool) → standing_left (standing_of false unknown apart) ≡ standing_of false unknown apart
left-outside unknown true = refl
left-outside unknown false = refl

left-inside : (unknown apart : Bool) → standing_left (standing_of true unknown apart) ≡ Outside
left-inside true apart = refl
left-inside false apart = refl

some-false : (b : Bool) → (b ≡ true → ⊥) → b ≡ false
some-false true never = absurd (never refl)
some-false false never = refl

own-of : (w z : Option LineBlock) → block_in w ≡ block_in z → own_set w ≡ own_set z
own-of None None same = refl
own-of None (Some b) same = cc
own-of (Some a) None same = cc
own-of (Some a) (Some b) same = ap (λ (bytes : List ℕ). tasks_where (λ (t : ℕ). names_task t bytes)) (ap (λ (r : RegisterBlock). r.bytes) (same_Some a.block b.block same))

module _ (areas : List JudgedArea) (owed : RegisterState) (gone : Gone) (moved : List RankedBlock) (is : ReadinessIsEdited areas owed gone moved) where
  abbrev pub known' : Knowledge
  known' = known_over is.old is.known

  abbrev held' : Holdings
  held' = held_over is.old is.new is.held

  abbrev unplugged' : ℕ → Bool
  unplugged' = unplugged_over is.new is.unplugged

  abbrev pub old : State
  old = is.old

  abbrev pub new : State
  new = is.new

  abbrev project : lowest_fault (groups_of is.old.groups) ≡ None
  project = is.right.project

  abbrev project' : lowest_fault (groups_of is.new.groups) ≡ None
  project' = accepted-project is.old is.new is.edit is.right.project is.accepted

  abbrev registers : RegistersAreEdited (register_state_of is.known is.old) gone moved
  registers = record { known = is.known; old = is.old; edit = is.edit; new = is.new; right = refl; project = is.right.project; accepted = is.accepted; same = is.same; differ = is.differ }

  abbrev pub all : ℕ
  all = 8 * length (stations is.old)

  abbrev target : ℕ → JudgedArea
  target = judged_at known' held' unplugged' new

  abbrev from : ℕ
  from = 8 * (gone.rank - 1)

  abbrev count : ℕ
  count = 8 * gone.slaves

  pub same-count : length (stations is.old) ≡ length (stations is.new)
  same-count = ap length (same-stations is.old is.new is.edit is.same is.accepted)

  -- the slaves that have the areas

  bare : map bare_slave (declared_slaves is.new.groups) ≡ map bare_slave (declared_slaves is.old.groups)
  bare = ap (λ (g : List Declared). map bare_slave (declared_slaves g)) (accepted-groups is.old is.new is.edit is.accepted) ∙ edit-stays is.old.groups is.edit is.same

  bare-get : (n : ℕ) → option_map bare_slave (slice_get (declared_slaves is.new.groups) n) ≡ option_map bare_slave (slice_get (declared_slaves is.old.groups) n)
  bare-get n = sym (slice_get-map bare_slave (declared_slaves is.new.groups) n) ∙ ap (λ (l : List (ℕ × List Area)). slice_get l n) bare ∙ slice_get-map bare_slave (declared_slaves is.old.groups) n

  alike : (found : Option Slave) (slave : Slave) → option_map bare_slave (Some slave) ≡ option_map bare_slave found → (other : Slave) × (found ≡ Some other) × (bare_slave slave ≡ bare_slave other)
  alike None slave same = cc
  alike (Some other) slave same = (other, refl, same_Some (bare_slave slave) (bare_slave other) same)

  -- the same area after the edit
  area-after : (i : ℕ) (slave : Slave) → area_slave old i ≡ Some slave → (other : Slave) × (area_slave new i ≡ Some other) × (other.station ≡ slave.station)
  area-after i slave area =
      let here = area-of old i slave area in
      let one = alike (slice_get (declared_slaves new.groups) (i / 8)) slave (sym (ap (option_map bare_slave) here.declared) ∙ sym (bare-get (i / 8))) in
      let low = here.low in
      let count = bare-count slave one.0 one.2 in
      (one.0, area-is new i one.0 one.1 (omega (arith, low, count)), ap (λ (s : ℕ × List Area). s.0) (sym one.2))

  pub area-before : (i : ℕ) (slave : Slave) → area_slave new i ≡ Some slave → (other : Slave) × (area_slave old i ≡ Some other) × (other.station ≡ slave.station)
  area-before i slave area =
      let here = area-of new i slave area in
      let one = alike (slice_get (declared_slaves old.groups) (i / 8)) slave (sym (ap (option_map bare_slave) here.declared) ∙ bare-get (i / 8)) in
      let low = here.low in
      let count = bare-count slave one.0 one.2 in
      (one.0, area-is old i one.0 one.1 (omega (arith, low, count)), ap (λ (s : ℕ × List Area). s.0) (sym one.2))

  -- an area on its way: right but for the blocks that are still to be moved
  record IsOnWay (i : ℕ) (rest : List RankedBlock) (area : JudgedArea) : Type 0 where
    held : area.held ≡ (target i).held
    own : All (λ m. block_place m ≢ 2 * i + 1) rest → area.own ≡ (target i).own
    sync_manager : All (λ m. block_place m ≢ 2 * i) rest → owes_sync_manager area.owed ≡ owes_sync_manager (target i).owed
    fmmu : All (λ m. block_place m ≢ 2 * i + 1) rest → owes_fmmu area.owed ≡ owes_fmmu (target i).owed
    standing : All (λ m. block_place m ≢ 2 * i + 1) rest → area.standing ≡ (target i).standing
    come : is_some (slot new (2 * i + 1)) ≡ true → standing_come area.standing ≡ (target i).standing

  arrived : (i : ℕ) (area : JudgedArea) → IsOnWay i [] area → area ≡ target i
  arrived i area way =
      let none = All-nil (λ (m : RankedBlock). block_place m ≢ 2 * i + 1) in
      let none' = All-nil (λ (m : RankedBlock). block_place m ≢ 2 * i) in
      let owed = sym (pair-whole area.owed) ∙ ap₂ pair_of (way.sync_manager none') (way.fmmu none) ∙ pair-whole (target i).owed in
      ap₂ (λ (a b : TaskSet). area_from a b area.owed area.standing) (way.own none) way.held
      ∙ ap₂ (λ (o : OwedPair) (s : RegisterStatus). area_from (target i).own (target i).held o s) owed (way.standing none)

  -- a moved block

  pub flag-is : (m : RankedBlock) → IsAtItsPlace (places is.new) m → unwrap_or (slice_get owed.owed (block_place m)) false ≡ owed_in known' (Some m.found)
  flag-is m at =
      ap (λ (l : List Bool). unwrap_or (slice_get l (block_place m)) false) (ap (λ (r : RegisterState). r.owed) is.flags)
      ∙ ap (λ (o : Option Bool). unwrap_or o false) (slice_get-map (owed_in known') (places new) (block_place m) ∙ ap (option_map (owed_in known')) at)

  target-some : (i : ℕ) (slave : Slave) → area_slave new i ≡ Some slave
      → target i ≡ area_of (owed_in known' (slot new (2 * i))) (owed_in known' (slot new (2 * i + 1))) (slot new (2 * i + 1)) (held' slave.station (fmmu_at i)) (unplugged' slave.station)
  target-some i slave area = judged-some known' held' unplugged' new i slave area

  move-fmmu : (i : ℕ) (m : RankedBlock) (rest : List RankedBlock) (area : JudgedArea) → IsAtItsPlace (places is.new) m → block_place m ≡ 2 * i + 1 → IsOnWay i (m ∷ rest) area
      → IsOnWay i rest (fmmu_moved (own_set (Some m.found)) (unwrap_or (slice_get owed.owed (block_place m)) false) area)
  move-fmmu i m rest area at place way =
      let here : slot new (2 * i + 1) ≡ Some m.found = slot-is new (2 * i + 1) (Some m.found) (ap (slice_get (places new)) (sym place) ∙ at) in
      let own = of-area new (block_place m) m.found at in
      let half : block_place m / 2 ≡ i = omega (arith, place) in
      let is-target = target-some i own.slave (ap (area_slave new) (sym half) ∙ own.area) in
      let flag = flag-is m at in
      let come = way.come (ap (λ (o : Option LineBlock). is_some o) here) in
      record {
        held = way.held;
        own = λ others. ap own_set (sym here) ∙ sym (ap (λ (a : JudgedArea). a.own) is-target);
        sync_manager = λ others. pair-first (owes_sync_manager area.owed) (unwrap_or (slice_get owed.owed (block_place m)) false)
            ∙ way.sync_manager (All-cons (λ (o : RankedBlock). block_place o ≢ 2 * i) m rest (λ same. omega (arith, same, place)) others);
        fmmu = λ others. pair-second (owes_sync_manager area.owed) (unwrap_or (slice_get owed.owed (block_place m)) false) ∙ flag ∙ ap (owed_in known') (sym here)
            ∙ sym (pair-second (owed_in known' (slot new (2 * i))) (owed_in known' (slot new (2 * i + 1)))) ∙ sym (ap (λ (a : JudgedArea). owes_fmmu a.owed) is-target);
        standing = λ others. come;
        come = λ some. come-twice area.standing ∙ come;
      }

  move-sync_manager : (i : ℕ) (m : RankedBlock) (rest : List RankedBlock) (area : JudgedArea) → IsAtItsPlace (places is.new) m → block_place m ≡ 2 * i → IsOnWay i (m ∷ rest) area
      → IsOnWay i rest (sync_manager_moved (unwrap_or (slice_get owed.owed (block_place m)) false) area)
  move-sync_manager i m rest area at place way =
      let here : slot new (2 * i) ≡ Some m.found = slot-is new (2 * i) (Some m.found) (ap (slice_get (places new)) (sym place) ∙ at) in
      let own = of-area new (block_place m) m.found at in
      let half : block_place m / 2 ≡ i = omega (arith, place) in
      let slave = own.slave in
      let named = ap (area_slave new) (sym half) ∙ own.area in
      let is-target = target-some i slave named in
      let flag = flag-is m at in
      let more = λ (others : All (λ o. block_place o ≢ 2 * i + 1) rest). All-cons (λ (o : RankedBlock). block_place o ≢ 2 * i + 1) m rest (λ same. omega (arith, same, place)) others in
      let come = way.come (sym (both-blocks new i slave project' named) ∙ ap (λ (o : Option LineBlock). is_some o) here) in
      record {
        held = way.held;
        own = λ others. way.own (more others);
        sync_manager = λ others. pair-first (unwrap_or (slice_get owed.owed (block_place m)) false) (owes_fmmu area.owed) ∙ flag ∙ ap (owed_in known') (sym here)
            ∙ sym (pair-first (owed_in known' (slot new (2 * i))) (owed_in known' (slot new (2 * i + 1)))) ∙ sym (ap (λ (a : JudgedArea). owes_sync_manager a.owed) is-target);
        fmmu = λ others. pair-second (unwrap_or (slice_get owed.owed (block_place m)) false) (owes_fmmu area.owed) ∙ way.fmmu (more others);
        standing = λ others. come;
        come = λ some. come-twice area.standing ∙ come;
      }

  move-own : (i : ℕ) (m : RankedBlock) (rest : List RankedBlock) (area : JudgedArea) → IsAtItsPlace (places is.new) m → block_place m / 2 ≡ i → IsOnWay i (m ∷ rest) area → IsOnWay i rest (area_moved owed.owed m area)
  move-own i m rest area at half way = by (is_fmmu (block_place m)) refl
    where
      by : (odd : Bool) → is_fmmu (block_place m) ≡ odd
          → IsOnWay i rest (cond odd (fmmu_moved (own_set (Some m.found)) (unwrap_or (slice_get owed.owed (block_place m)) false) area) (sync_manager_moved (unwrap_or (slice_get owed.owed (block_place m)) false) area))
      by true odd = let one = eqb-true (block_place m % 2) 1 odd in move-fmmu i m rest area at (omega (arith, one, half)) way
      by false even = let one = eqb-false (block_place m % 2) 1 even in move-sync_manager i m rest area at (omega (arith, one, half)) way

  move-other : (i : ℕ) (m : RankedBlock) (rest : List RankedBlock) (area : JudgedArea) → block_place m / 2 ≢ i → IsOnWay i (m ∷ rest) area → IsOnWay i rest area
  move-other i m rest area apart way =
      let more = λ (others : All (λ o. block_place o ≢ 2 * i + 1) rest). All-cons (λ (o : RankedBlock). block_place o ≢ 2 * i + 1) m rest (λ same. apart (omega (arith, same))) others in
      record {
        held = way.held;
        own = λ others. way.own (more others);
        sync_manager = λ others. way.sync_manager (All-cons (λ (o : RankedBlock). block_place o ≢ 2 * i) m rest (λ same. apart (omega (arith, same))) others);
        fmmu = λ others. way.fmmu (more others);
        standing = λ others. way.standing (more others);
        come = way.come;
      }

  -- all areas are on their way
  AreOnWay : List RankedBlock → List JudgedArea → Type 0
  AreOnWay rest list = (i : ℕ) → i < all → (area : JudgedArea) × (slice_get list i ≡ Some area) × IsOnWay i rest area

  all-moved : (rest : List RankedBlock) (list : List JudgedArea) → length list ≡ all → All (IsAtItsPlace (places is.new)) rest → AreOnWay rest list
      → (length (areas_moved owed.owed rest list) ≡ all) × AreOnWay [] (areas_moved owed.owed rest list)
  unfolding AreOnWay
  all-moved [] list size placed way = (size, way)
  all-moved (m ∷ rest) list size placed way =
      all-moved rest (changed_at (block_place m / 2) (area_moved owed.owed m) list) (length-changed (block_place m / 2) (area_moved owed.owed m) list ∙ size) (All-tail (IsAtItsPlace (places new)) m rest placed)
      (λ i low. by i low (block_place m / 2 == i) refl)
    where
      by : (i : ℕ) → i < all → (same : Bool) → (block_place m / 2 == i) ≡ same
          → (area : JudgedArea) × (slice_get (changed_at (block_place m / 2) (area_moved owed.owed m) list) i ≡ Some area) × IsOnWay i rest area
      by i low true same =
          let half = eqb-true (block_place m / 2) i same in
          let one = way i low in (
            area_moved owed.owed m one.0,
            ap (slice_get (changed_at (block_place m / 2) (area_moved owed.owed m) list)) (sym half)
                ∙ get-applied (block_place m / 2) (area_moved owed.owed m) one.0 list (ap (slice_get list) half ∙ one.1),
            move-own i m rest one.0 (All-head (IsAtItsPlace (places new)) m rest placed) half one.2,
          )
      by i low false other =
          let apart = eqb-false (block_place m / 2) i other in
          let one = way i low in
          (one.0, get-unapplied (block_place m / 2) i (area_moved owed.owed m) list apart ∙ one.1, move-other i m rest one.0 apart one.2)

  -- before the moved blocks

  held-same : (slave other : Slave) (i : ℕ) → other.station ≡ slave.station → held_set (is.held slave.station (fmmu_at i)) ≡ held_set (held' other.station (fmmu_at i))
  held-same slave other i station = ap (λ (s : ℕ). held_set (is.held s (fmmu_at i))) (sym station)

  pub out-new : (i : ℕ) (slave : Slave) → area_slave new i ≡ Some slave → is_some (slot new (2 * i + 1)) ≡ false → is_some (slave_at new slave.station) ≡ false
  out-new i slave area none =
      some-false (is_some (slave_at new slave.station)) (λ inside. let both = (in-line new i slave project' area inside).1 in let no : true ≡ false = sym both ∙ none in cc)

  -- the case that the line has no block of the area any more
  outside-same : (i : ℕ) (slave other : Slave) → area_slave new i ≡ Some other → other.station ≡ slave.station → is_some (slot new (2 * i + 1)) ≡ false → unplugged' other.station ≡ is.unplugged slave.station
  outside-same i slave other area station none =
      let out = out-new i other area none in
      ap (λ (t : Bool). is.unplugged other.station && not t) out ∙ and-true (is.unplugged other.station) ∙ ap is.unplugged station
    where
      and-true : (b : Bool) → (b && true) ≡ b
      and-true true = refl
      and-true false = refl

  pub in-old : (i : ℕ) (slave : Slave) (block : LineBlock) → area_slave old i ≡ Some slave → slot old (2 * i + 1) ≡ Some block → is_some (slave_at old slave.station) ≡ true
  in-old i slave block area found =
      let at = slot-at old (2 * i + 1) block found in
      ap (λ (s : ℕ). is_some (slave_at old s)) (sym (block-station old i (2 * i + 1) slave block area (omega arith) found)) ∙ is_placed-on old (2 * i + 1) block at

  pub in-new : (i : ℕ) (slave : Slave) (block : LineBlock) → area_slave new i ≡ Some slave → slot new (2 * i + 1) ≡ Some block → is_some (slave_at new slave.station) ≡ true
  in-new i slave block area found =
      let at = slot-at new (2 * i + 1) block found in
      ap (λ (s : ℕ). is_some (slave_at new s)) (sym (block-station new i (2 * i + 1) slave block area (omega arith) found)) ∙ is_placed-on new (2 * i + 1) block at

  pub out-old : (i : ℕ) (slave : Slave) → area_slave old i ≡ Some slave → is_some (slot old (2 * i + 1)) ≡ false → is_some (slave_at old slave.station) ≡ false
  out-old i slave area none =
      some-false (is_some (slave_at old slave.station)) (λ inside. let both = (in-line old i slave project area inside).1 in let no : true ≡ false = sym both ∙ none in cc)

  -- the standing of an area that leaves the line or stays outside it
  standing-out : (i : ℕ) (slave other : Slave) → area_slave old i ≡ Some slave → area_slave new i ≡ Some other → other.station ≡ slave.station → is_some (slot new (2 * i + 1)) ≡ false
      → (found : Option LineBlock) → slot old (2 * i + 1) ≡ found
      → standing_left (standing_of (is_some (slot old (2 * i + 1))) (is.held slave.station (fmmu_at i)).unknown (is.unplugged slave.station && some_task (held_set (is.held slave.station (fmmu_at i)))))
      ≡ standing_of (is_some (slot new (2 * i + 1))) (held' other.station (fmmu_at i)).unknown (unplugged' other.station && some_task (held_set (held' other.station (fmmu_at i))))
  standing-out i slave other area area' station none None found =
      let holds = is.held slave.station (fmmu_at i) in
      let holds' = held' other.station (fmmu_at i) in
      ap (λ (t : Bool). standing_left (standing_of t holds.unknown (is.unplugged slave.station && some_task (held_set holds)))) (ap (λ (o : Option LineBlock). is_some o) found)
      ∙ left-outside holds.unknown (is.unplugged slave.station && some_task (held_set holds))
      ∙ either holds.unknown holds'.unknown (is.unplugged slave.station && some_task (held_set holds)) (unplugged' other.station && some_task (held_set holds'))
      (ap₂ (λ (t : Bool) (s : TaskSet). t && some_task s) (sym (outside-same i slave other area' station none)) (held-same slave other i station))
      ∙ ap (λ (t : Bool). standing_of t holds'.unknown (unplugged' other.station && some_task (held_set holds'))) (sym none)
    where
      either : (u v p q : Bool) → p ≡ q → standing_of false u p ≡ standing_of false v q
      either u v true true same = refl
      either u v false false same = refl
      either u v true false same = cc
      either u v false true same = cc
  standing-out i slave other area area' station none (Some block) found =
      let holds = is.held slave.station (fmmu_at i) in
      let holds' = held' other.station (fmmu_at i) in
      let plugged = is.right.plugged slave.station (in-old i slave block area found) in
      ap (λ (t : Bool). standing_left (standing_of t holds.unknown (is.unplugged slave.station && some_task (held_set holds)))) (ap (λ (o : Option LineBlock). is_some o) found)
      ∙ left-inside holds.unknown (is.unplugged slave.station && some_task (held_set holds))
      ∙ ap (λ (t : Bool). standing_of false holds'.unknown (t && some_task (held_set holds'))) (sym (outside-same i slave other area' station none ∙ plugged))
      ∙ ap (λ (t : Bool). standing_of t holds'.unknown (unplugged' other.station && some_task (held_set holds'))) (sym none)

  -- a slave that left: its blocks are no more
  pub went : (n : ℕ) → IsGone gone n → slot new n ≡ None
  went n inside = slot-is new n None (is.differ.went n inside)

  gone-some : (i : ℕ) (slave other : Slave) → from ≤ i → i < from + count → area_slave old i ≡ Some slave → area_slave new i ≡ Some other → other.station ≡ slave.station
      → IsOnWay i moved (area_after Left (judged_at is.known is.held is.unplugged old i))
  gone-some i slave other low high area area' station = record {
    held = ap (λ (a : JudgedArea). a.held) before ∙ held-same slave other i station ∙ sym (ap (λ (a : JudgedArea). a.held) after);
    own = λ others. sym (ap own_set gone-fmmu) ∙ sym (ap (λ (a : JudgedArea). a.own) after);
    sync_manager = λ others. sym (ap (owed_in known') gone-sync_manager)
        ∙ sym (pair-first (owed_in known' (slot new (2 * i))) (owed_in known' (slot new (2 * i + 1)))) ∙ sym (ap (λ (a : JudgedArea). owes_sync_manager a.owed) after);
    fmmu = λ others. sym (ap (owed_in known') gone-fmmu)
        ∙ sym (pair-second (owed_in known' (slot new (2 * i))) (owed_in known' (slot new (2 * i + 1)))) ∙ sym (ap (λ (a : JudgedArea). owes_fmmu a.owed) after);
    standing = λ others. ap (λ (a : JudgedArea). standing_left a.standing) before
        ∙ standing-out i slave other area area' station (ap (λ (o : Option LineBlock). is_some o) gone-fmmu) (slot old (2 * i + 1)) refl ∙ sym (ap (λ (a : JudgedArea). a.standing) after);
    come = λ some. let no : true ≡ false = sym some ∙ ap (λ (o : Option LineBlock). is_some o) gone-fmmu in cc;
  }
    where
      first : 1 ≤ gone.rank
      first = is.differ.rank

      gone-fmmu : slot new (2 * i + 1) ≡ None
      gone-fmmu = went (2 * i + 1) (omega (arith, low, first), omega (arith, high, first))

      gone-sync_manager : slot new (2 * i) ≡ None
      gone-sync_manager = went (2 * i) (omega (arith, low, first), omega (arith, high, first))

      before : judged_at is.known is.held is.unplugged old i
          ≡ area_of (owed_in is.known (slot old (2 * i))) (owed_in is.known (slot old (2 * i + 1))) (slot old (2 * i + 1)) (is.held slave.station (fmmu_at i)) (is.unplugged slave.station)
      before = judged-some is.known is.held is.unplugged old i slave area

      after : target i ≡ area_of (owed_in known' (slot new (2 * i))) (owed_in known' (slot new (2 * i + 1))) (slot new (2 * i + 1)) (held' other.station (fmmu_at i)) (unplugged' other.station)
      after = target-some i other area'

  gone-way : (i : ℕ) → from ≤ i → i < from + count → (found : Option Slave) → area_slave old i ≡ found → IsOnWay i moved (area_after Left (judged_at is.known is.held is.unplugged old i))
  gone-way i low high None area = record {
    held = ap (λ (a : JudgedArea). a.held) same;
    own = λ others. ap (λ (a : JudgedArea). a.own) same;
    sync_manager = λ others. ap (λ (a : JudgedArea). owes_sync_manager a.owed) same;
    fmmu = λ others. ap (λ (a : JudgedArea). owes_fmmu a.owed) same;
    standing = λ others. ap (λ (a : JudgedArea). a.standing) same;
    come = λ some. let no : true ≡ false = sym some ∙ ap (λ (o : Option LineBlock). is_some o) gone-slot in cc;
  }
    where
      gone-slot : slot new (2 * i + 1) ≡ None
      gone-slot = let first = is.differ.rank in went (2 * i + 1) (omega (arith, low, first), omega (arith, high, first))

      none-new : (found : Option Slave) → area_slave new i ≡ found → target i ≡ no_area
      none-new None is' = judged-none known' held' unplugged' new i is'
      none-new (Some slave) is' = let before = area-before i slave is' in let no : None ≡ Some before.0 = sym area ∙ before.1 in cc

      same : area_after Left (judged_at is.known is.held is.unplugged old i) ≡ target i
      same = ap (area_after Left) (judged-none is.known is.held is.unplugged old i area) ∙ sym (none-new (area_slave new i) refl)
  gone-way i low high (Some slave) area = let there = area-after i slave area in gone-some i slave there.0 low high area there.1 there.2

  -- a slave that did not leave

  pub place-old : (n : ℕ) → n < 2 * all → slice_get (places is.old) n ≡ Some (slot is.old n)
  place-old n low =
      let size = length-places is.old in
      let named = length-map (declared_slaves is.old.groups) (λ (slave : Slave). slave.station) in
      slice_get-get_or (places is.old) n None (omega (arith, low, size, named))

  place-new : (n : ℕ) → n < 2 * all → slice_get (places is.new) n ≡ Some (slot is.new n)
  place-new n low =
      let size = length-places is.new in
      let named = length-map (declared_slaves is.new.groups) (λ (slave : Slave). slave.station) in
      let same = same-count in
      slice_get-get_or (places is.new) n None (omega (arith, low, size, named, same))

  stays-owed : (n : ℕ) → n < 2 * all → (IsGone gone n → ⊥) → All (λ m. block_place m ≢ n) moved → owed_in is.known (slot is.old n) ≡ owed_in known' (slot is.new n)
  stays-owed n low out others = owed-stays (register_state_of is.known is.old) gone moved registers n (slot is.old n) (slot is.new n) (place-old n low) (place-new n low) out others

  stays-own : (n : ℕ) → n < 2 * all → (IsGone gone n → ⊥) → All (λ m. block_place m ≢ n) moved → own_set (slot is.old n) ≡ own_set (slot is.new n)
  stays-own n low out others =
      own-of (slot is.old n) (slot is.new n) (blocks-stay (places is.old) (places is.new) gone moved registers.differ n (slot is.old n) (slot is.new n) (place-old n low) (place-new n low) out others)

  abbrev stood : ℕ → Slave → RegisterStatus
  stood i slave = standing_of (is_some (slot old (2 * i + 1))) (is.held slave.station (fmmu_at i)).unknown (is.unplugged slave.station && some_task (held_set (is.held slave.station (fmmu_at i))))

  abbrev status : ℕ → Slave → RegisterStatus
  status i other = standing_of (is_some (slot new (2 * i + 1))) (held' other.station (fmmu_at i)).unknown (unplugged' other.station && some_task (held_set (held' other.station (fmmu_at i))))

  -- a slave that was in the line and is
  both-in : (i : ℕ) (slave other : Slave) (a b : LineBlock) → area_slave old i ≡ Some slave → other.station ≡ slave.station → slot old (2 * i + 1) ≡ Some a → slot new (2 * i + 1) ≡ Some b → stood i slave ≡ status i other
  both-in i slave other a b area station was now =
      let holds = is.held slave.station (fmmu_at i) in
      let p = is.unplugged slave.station && some_task (held_set holds) in
      let q = unplugged' other.station && some_task (held_set (held' other.station (fmmu_at i))) in
      let in' : is_some (slave_at old other.station) ≡ true = ap (λ (s : ℕ). is_some (slave_at old s)) station ∙ in-old i slave a area was in
      ap (λ (t : Bool). standing_of t holds.unknown p) (ap (λ (o : Option LineBlock). is_some o) was)
      ∙ ap (λ (s : ℕ). standing_of true (is.held s (fmmu_at i)).unknown p) (sym station)
      ∙ inside (is.held other.station (fmmu_at i)).unknown p q
      ∙ ap (λ (t : Bool). standing_of true ((not t && is_some (slave_at new other.station)) || (is.held other.station (fmmu_at i)).unknown) q) (sym in')
      ∙ ap (λ (t : Bool). standing_of t (held' other.station (fmmu_at i)).unknown q) (sym (ap (λ (o : Option LineBlock). is_some o) now))

  -- a slave that comes
  comes-in : (i : ℕ) (slave other : Slave) (b : LineBlock) → area_slave old i ≡ Some slave → area_slave new i ≡ Some other → other.station ≡ slave.station → slot old (2 * i + 1) ≡ None → slot new (2 * i + 1) ≡ Some b
      → standing_come (stood i slave) ≡ status i other
  comes-in i slave other b area area' station was now =
      let holds = is.held slave.station (fmmu_at i) in
      let p = is.unplugged slave.station && some_task (held_set holds) in
      let q = unplugged' other.station && some_task (held_set (held' other.station (fmmu_at i))) in
      let out : is_some (slave_at old other.station) ≡ false = ap (λ (s : ℕ). is_some (slave_at old s)) station ∙ out-old i slave area (ap (λ (o : Option LineBlock). is_some o) was) in
      let in' : is_some (slave_at new other.station) ≡ true = in-new i other b area' now in
      ap (λ (t : Bool). standing_come (standing_of t holds.unknown p)) (ap (λ (o : Option LineBlock). is_some o) was)
      ∙ come-outside holds.unknown p
      ∙ ap₂ (λ (s t : Bool). standing_of true ((not s && t) || (is.held other.station (fmmu_at i)).unknown) q) (sym out) (sym in')
      ∙ ap (λ (t : Bool). standing_of t (held' other.station (fmmu_at i)).unknown q) (sym (ap (λ (o : Option LineBlock). is_some o) now))

  stood-out : (i : ℕ) (slave other : Slave) → area_slave old i ≡ Some slave → area_slave new i ≡ Some other → other.station ≡ slave.station → slot old (2 * i + 1) ≡ None → slot new (2 * i + 1) ≡ None → stood i slave ≡ status i other
  stood-out i slave other area area' station was now =
      let holds = is.held slave.station (fmmu_at i) in
      let p = is.unplugged slave.station && some_task (held_set holds) in
      let outside = ap (λ (t : Bool). standing_of t holds.unknown p) (ap (λ (o : Option LineBlock). is_some o) was) in
      outside ∙ sym (left-outside holds.unknown p) ∙ ap standing_left (sym outside)
      ∙ standing-out i slave other area area' station (ap (λ (o : Option LineBlock). is_some o) now) (slot old (2 * i + 1)) refl

  stays-standing : (i : ℕ) (slave other : Slave) (w z : Option LineBlock) → i < all → (IsGone gone (2 * i + 1) → ⊥) → area_slave old i ≡ Some slave → area_slave new i ≡ Some other → other.station ≡ slave.station
      → slot old (2 * i + 1) ≡ w → slot new (2 * i + 1) ≡ z → All (λ m. block_place m ≢ 2 * i + 1) moved → stood i slave ≡ status i other
  stays-standing i slave other None None low out area area' station was now others = stood-out i slave other area area' station was now
  stays-standing i slave other None (Some b) low out area area' station was now others =
      let before = is.differ.names.others (2 * i + 1) b (slot-at new (2 * i + 1) b now) others in
      let no : None ≡ Some before.before = sym was ∙ slot-is old (2 * i + 1) (Some before.before) before.stood in cc
  stays-standing i slave other (Some a) None low out area area' station was now others =
      absurd (out (is.differ.stays (2 * i + 1) a (slot-at old (2 * i + 1) a was) (place-new (2 * i + 1) (omega (arith, low)) ∙ ap (λ (o : Option LineBlock). Some o) now)))
  stays-standing i slave other (Some a) (Some b) low out area area' station was now others = both-in i slave other a b area station was now

  stays-come : (i : ℕ) (slave other : Slave) (w z : Option LineBlock) → area_slave old i ≡ Some slave → area_slave new i ≡ Some other → other.station ≡ slave.station
      → slot old (2 * i + 1) ≡ w → slot new (2 * i + 1) ≡ z → is_some (slot new (2 * i + 1)) ≡ true → standing_come (stood i slave) ≡ status i other
  stays-come i slave other w None area area' station was now some = let no : true ≡ false = sym some ∙ ap (λ (o : Option LineBlock). is_some o) now in cc
  stays-come i slave other None (Some b) area area' station was now some = comes-in i slave other b area area' station was now
  stays-come i slave other (Some a) (Some b) area area' station was now some =
      let holds = is.held slave.station (fmmu_at i) in
      let p = is.unplugged slave.station && some_task (held_set holds) in
      let inside' = ap (λ (t : Bool). standing_of t holds.unknown p) (ap (λ (o : Option LineBlock). is_some o) was) in
      ap standing_come inside' ∙ come-inside holds.unknown p ∙ sym inside' ∙ both-in i slave other a b area station was now

  stay-some : (i : ℕ) (slave other : Slave) → i < all → ((from ≤ i) × (i < from + count) → ⊥) → area_slave old i ≡ Some slave → area_slave new i ≡ Some other → other.station ≡ slave.station
      → IsOnWay i moved (judged_at is.known is.held is.unplugged old i)
  stay-some i slave other low out area area' station = record {
    held = ap (λ (a : JudgedArea). a.held) before ∙ held-same slave other i station ∙ sym (ap (λ (a : JudgedArea). a.held) after);
    own = λ others. ap (λ (a : JudgedArea). a.own) before ∙ stays-own (2 * i + 1) (omega (arith, low)) out-fmmu others ∙ sym (ap (λ (a : JudgedArea). a.own) after);
    sync_manager = λ others. ap (λ (a : JudgedArea). owes_sync_manager a.owed) before ∙ pair-first (owed_in is.known (slot old (2 * i))) (owed_in is.known (slot old (2 * i + 1)))
        ∙ stays-owed (2 * i) (omega (arith, low)) out-sync_manager others
        ∙ sym (pair-first (owed_in known' (slot new (2 * i))) (owed_in known' (slot new (2 * i + 1)))) ∙ sym (ap (λ (a : JudgedArea). owes_sync_manager a.owed) after);
    fmmu = λ others. ap (λ (a : JudgedArea). owes_fmmu a.owed) before ∙ pair-second (owed_in is.known (slot old (2 * i))) (owed_in is.known (slot old (2 * i + 1)))
        ∙ stays-owed (2 * i + 1) (omega (arith, low)) out-fmmu others
        ∙ sym (pair-second (owed_in known' (slot new (2 * i))) (owed_in known' (slot new (2 * i + 1)))) ∙ sym (ap (λ (a : JudgedArea). owes_fmmu a.owed) after);
    standing = λ others. ap (λ (a : JudgedArea). a.standing) before
        ∙ stays-standing i slave other (slot old (2 * i + 1)) (slot new (2 * i + 1)) low out-fmmu area area' station refl refl others ∙ sym (ap (λ (a : JudgedArea). a.standing) after);
    come = λ some. ap (λ (a : JudgedArea). standing_come a.standing) before
        ∙ stays-come i slave other (slot old (2 * i + 1)) (slot new (2 * i + 1)) area area' station refl refl some ∙ sym (ap (λ (a : JudgedArea). a.standing) after);
  }
    where
      first : 1 ≤ gone.rank
      first = is.differ.rank

      out-fmmu : IsGone gone (2 * i + 1) → ⊥
      out-fmmu inside' = let a = inside'.0 in let b = inside'.1 in out (omega (arith, a, first), omega (arith, b, first))

      out-sync_manager : IsGone gone (2 * i) → ⊥
      out-sync_manager inside' = let a = inside'.0 in let b = inside'.1 in out (omega (arith, a, first), omega (arith, b, first))

      before : judged_at is.known is.held is.unplugged old i
          ≡ area_of (owed_in is.known (slot old (2 * i))) (owed_in is.known (slot old (2 * i + 1))) (slot old (2 * i + 1)) (is.held slave.station (fmmu_at i)) (is.unplugged slave.station)
      before = judged-some is.known is.held is.unplugged old i slave area

      after : target i ≡ area_of (owed_in known' (slot new (2 * i))) (owed_in known' (slot new (2 * i + 1))) (slot new (2 * i + 1)) (held' other.station (fmmu_at i)) (unplugged' other.station)
      after = target-some i other area'

  none-before : (i : ℕ) → area_slave old i ≡ None → (found : Option Slave) → area_slave new i ≡ found → target i ≡ no_area
  none-before i area None is' = judged-none known' held' unplugged' new i is'
  none-before i area (Some slave) is' = let before = area-before i slave is' in let no : None ≡ Some before.0 = sym area ∙ before.1 in cc

  none-slot : (i : ℕ) → area_slave old i ≡ None → (found : Option LineBlock) → slot new (2 * i + 1) ≡ found → is_some (slot new (2 * i + 1)) ≡ true → ⊥
  none-slot i area None now some = let no : true ≡ false = sym some ∙ ap (λ (o : Option LineBlock). is_some o) now in cc
  none-slot i area (Some b) now some =
      let own = of-area new (2 * i + 1) b (slot-at new (2 * i + 1) b now) in
      let half : (2 * i + 1) / 2 ≡ i = omega arith in
      let before = area-before i own.slave (ap (area_slave new) (sym half) ∙ own.area) in
      let no : None ≡ Some before.0 = sym area ∙ before.1 in cc

  stay-way : (i : ℕ) → i < all → ((from ≤ i) × (i < from + count) → ⊥) → (found : Option Slave) → area_slave old i ≡ found → IsOnWay i moved (judged_at is.known is.held is.unplugged old i)
  stay-way i low out None area =
      let same = judged-none is.known is.held is.unplugged old i area ∙ sym (none-before i area (area_slave new i) refl) in
      record {
        held = ap (λ (a : JudgedArea). a.held) same;
        own = λ others. ap (λ (a : JudgedArea). a.own) same;
        sync_manager = λ others. ap (λ (a : JudgedArea). owes_sync_manager a.owed) same;
        fmmu = λ others. ap (λ (a : JudgedArea). owes_fmmu a.owed) same;
        standing = λ others. ap (λ (a : JudgedArea). a.standing) same;
        come = λ some. absurd (none-slot i area (slot new (2 * i + 1)) refl some);
      }
  stay-way i low out (Some slave) area = let there = area-after i slave area in stay-some i slave there.0 low out area there.1 there.2

  -- all areas

  abbrev pub left : List JudgedArea
  left = areas_left gone (readiness_of is.known is.held is.unplugged is.old)

  pub left-size : length left ≡ all
  left-size = length-changed-from (area_after Left) from count (readiness_of is.known is.held is.unplugged is.old) ∙ length-range (judged_at is.known is.held is.unplugged is.old) all

  left-way : AreOnWay moved left
  unfolding AreOnWay
  left-way i low = by (in-or-out from count i)
    where
      own : slice_get (readiness_of is.known is.held is.unplugged is.old) i ≡ Some (judged_at is.known is.held is.unplugged is.old i)
      own = get-range (judged_at is.known is.held is.unplugged is.old) all i low

      by : (((from ≤ i) × (i < from + count)) ⊎ ((from ≤ i) × (i < from + count) → ⊥)) → (area : JudgedArea) × (slice_get left i ≡ Some area) × IsOnWay i moved area
      by (inl inside') = (
        area_after Left (judged_at is.known is.held is.unplugged is.old i),
        get-inside (area_after Left) from count (readiness_of is.known is.held is.unplugged is.old) i (judged_at is.known is.held is.unplugged is.old i) inside'.0 inside'.1 own,
        gone-way i inside'.0 inside'.1 (area_slave is.old i) refl,
      )
      by (inr out) = (
        judged_at is.known is.held is.unplugged is.old i,
        get-outside (area_after Left) from count (readiness_of is.known is.held is.unplugged is.old) i out ∙ own,
        stay-way i low out (area_slave is.old i) refl,
      )

  pub change-right : areas_moved owed.owed moved (areas_left gone (readiness_of is.known is.held is.unplugged is.old)) ≡ readiness_of (known_over is.old is.known) (held_over is.old is.new is.held) (unplugged_over is.new is.unplugged) is.new
  unfolding AreOnWay
  change-right =
      let after = all-moved moved left left-size is.differ.names.are_placed left-way in
      is-range (areas_moved owed.owed moved left) target (8 * length (stations is.new)) (after.0 ∙ ap (λ (n : ℕ). 8 * n) same-count)
      (λ i low. let same = same-count in let one = after.1 i (omega (arith, low, same)) in one.1 ∙ ap (λ (a : JudgedArea). Some a) (arrived i one.0 one.2))

  -- sizes

  pub areas-size : length areas ≡ 8 * length (stations is.old)
  areas-size = ap length is.right.right ∙ length-range (judged_at is.known is.held is.unplugged is.old) all

  pub owed-size : length owed.owed ≡ 16 * length (stations is.old)
  owed-size =
      let size = ap (λ (r : RegisterState). length r.owed) is.flags ∙ length-map (places is.new) (owed_in known') ∙ length-places is.new in
      let named = length-map (declared_slaves is.new.groups) (λ (slave : Slave). slave.station) in
      let same = same-count in
      omega (arith, size, named, same)

  pub moved-low : All (λ m. block_place m < 16 * length (stations is.old)) moved
  moved-low = All-weaker (IsAtItsPlace (places is.new)) (λ m. block_place m < 16 * length (stations is.old)) (λ m at.
      let within = slice_get_within (places is.new) (block_place m) (Some m.found) at in
      let size = length-places is.new in
      let named = length-map (declared_slaves is.new.groups) (λ (slave : Slave). slave.station) in
      let same = same-count in
      omega (arith, within, size, named, same)) moved is.differ.names.are_placed

  pub gone-low : 8 * (gone.rank - 1) + 8 * gone.slaves ≤ 8 * length (stations is.old)
  gone-low =
      let inside' = is.differ.inside in
      let size = length-places is.new in
      let named = length-map (declared_slaves is.new.groups) (λ (slave : Slave). slave.station) in
      let same = same-count in
      omega (arith, inside', size, named, same)
