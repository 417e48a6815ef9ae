-- The state of the areas depends on the registers only by which are unknown, and by the tasks that their contents name.
use Rattle.std.proofs.Common.{◌≡◌, ℕ, ◌+◌, ◌*◌, ◌&&◌, not, Bool, false, List, [], ◌∷◌, length, map, refl, ap, ap₂, ◌∙◌, Option, Some, None}
use Rattle.std.specs.Prelude.{is_some}
use Rattle.std.specs.Option.{option_map_or}
use Rattle.std.specs.List.{range_with_len}
use Rattle.std.specs.Str.{bytes_eq}
use Rattle.hc_records.specs.declared.records.Slave.{Slave}
use Rattle.hc_records.specs.Line.{State}
use Rattle.hc_registers.specs.Blocks.{LineBlock}
use Rattle.hc_registers.specs.RankPlaces.{stations}
use Rattle.hc_events.specs.Holding.{MayHold}
use Rattle.hc_events.specs.Ready.{names_among}
use Rattle.hc_owed.specs.declared.area.JudgedArea.{JudgedArea}
use Rattle.hc_owed.specs.declared.area.OwedPair.{OwedPair}
use Rattle.hc_owed.specs.declared.area.RegisterStatus.{RegisterStatus}
use Rattle.hc_owed.specs.declared.task_set.TaskSet.{TaskSet}
use Rattle.hc_owed.specs.Areas.{pair_of}
use Rattle.hc_owed.specs.Readiness.{Holdings, area_slave, fmmu_at, held_set, judged_at, kept_area, no_area, own_set, readiness_of, slot, standing_of}
use Rattle.hc_owed.specs.RegisterState.{Knowledge, owed_in}
use Rattle.hc_owed.specs.TaskSets.{some_task}
use Rattle.hc_owed.proofs.TaskLists.{same-where}

-- two registers are unknown alike, and name the same tasks
pub record HoldAlike (a b : MayHold) : Type 0 where
  pub unknown : a.unknown ≡ b.unknown
  pub names : (task : ℕ) → names_among task a ≡ names_among task b

owed-alike : (known known' : Knowledge) (block : Option LineBlock) → ((station number : ℕ) → known station number ≡ known' station number) → owed_in known block ≡ owed_in known' block
owed-alike known known' None same = refl
owed-alike known known' (Some block) same = ap (λ (found : Option (List ℕ)). not (option_map_or (bytes_eq block.block.bytes) found false)) (same block.station block.number)

same-parts : (own held held' : TaskSet) (owed owed' : OwedPair) (standing standing' : RegisterStatus) → held ≡ held' → owed ≡ owed' → standing ≡ standing'
    → ◌≡◌ {A = JudgedArea} (record { own = own; held = held; owed = owed; standing = standing }) (record { own = own; held = held'; owed = owed'; standing = standing' })
same-parts own held held' owed owed' standing standing' first second third = cc

unchanged-alike : (known known' : Knowledge) (first second : Option LineBlock) (held held' : MayHold) (apart apart' : Bool) → ((station number : ℕ) → known station number ≡ known' station number)
    → HoldAlike held held' → apart ≡ apart' → kept_area known first second held apart ≡ kept_area known' first second held' apart'
unchanged-alike known known' first second held held' apart apart' same alike out =
    let sets : held_set held ≡ held_set held' = same-where (λ task. names_among task held) (λ task. names_among task held') (λ task low. alike.names task) in
    same-parts (own_set second) (held_set held) (held_set held')
    (pair_of (owed_in known first) (owed_in known second)) (pair_of (owed_in known' first) (owed_in known' second))
    (standing_of (is_some second) held.unknown (apart && some_task (held_set held))) (standing_of (is_some second) held'.unknown (apart' && some_task (held_set held')))
    sets (ap₂ (λ a b. pair_of a b) (owed-alike known known' first same) (owed-alike known known' second same))
    (ap (λ b. standing_of (is_some second) b (apart && some_task (held_set held))) alike.unknown
    ∙ ap₂ (λ b (s : TaskSet). standing_of (is_some second) held'.unknown (b && some_task s)) out sets)

judged-alike : (known known' : Knowledge) (held held' : Holdings) (unplugged unplugged' : ℕ → Bool) (state : State) (n : ℕ) → ((station number : ℕ) → known station number ≡ known' station number)
    → ((station number : ℕ) → HoldAlike (held station number) (held' station number)) → ((station : ℕ) → unplugged station ≡ unplugged' station)
    → judged_at known held unplugged state n ≡ judged_at known' held' unplugged' state n
judged-alike known known' held held' unplugged unplugged' state n same alike out = by (area_slave state n)
  where
    by : (found : Option Slave)
        → option_map_or (λ (slave : Slave). kept_area known (slot state (2 * n)) (slot state (2 * n + 1)) (held slave.station (fmmu_at n)) (unplugged slave.station)) found no_area
        ≡ option_map_or (λ (slave : Slave). kept_area known' (slot state (2 * n)) (slot state (2 * n + 1)) (held' slave.station (fmmu_at n)) (unplugged' slave.station)) found no_area
    by None = refl
    by (Some slave) =
        unchanged-alike known known' (slot state (2 * n)) (slot state (2 * n + 1)) (held slave.station (fmmu_at n)) (held' slave.station (fmmu_at n)) (unplugged slave.station) (unplugged' slave.station)
        same (alike slave.station (fmmu_at n)) (out slave.station)

each-alike : (f g : ℕ → JudgedArea) (ns : List ℕ) → ((n : ℕ) → f n ≡ g n) → map f ns ≡ map g ns
each-alike f g [] same = refl
each-alike f g (n ∷ ns) same = ap₂ (λ (a : JudgedArea) (rest : List JudgedArea). a ∷ rest) (same n) (each-alike f g ns same)

pub readiness-alike : (known known' : Knowledge) (held held' : Holdings) (unplugged unplugged' : ℕ → Bool) (state : State) → ((station number : ℕ) → known station number ≡ known' station number)
    → ((station number : ℕ) → HoldAlike (held station number) (held' station number)) → ((station : ℕ) → unplugged station ≡ unplugged' station)
    → readiness_of known held unplugged state ≡ readiness_of known' held' unplugged' state
readiness-alike known known' held held' unplugged unplugged' state same alike out =
    each-alike (judged_at known held unplugged state) (judged_at known' held' unplugged' state) (range_with_len 0 (8 * length (stations state)))
    (λ n. judged-alike known known' held held' unplugged unplugged' state n same alike out)
