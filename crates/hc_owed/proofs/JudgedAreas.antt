-- The state of one area, from its parts.
use Rattle.std.proofs.Common.{◌≡◌, ℕ, ◌+◌, ◌*◌, ◌<◌, ◌==◌, ◌&&◌, ◌||◌, Bool, true, false, if◌then◌else◌, refl, sym, ap, ap₂, ◌∙◌}
use Rattle.std.specs.Prelude.{None, Some, Option, is_some}
use Rattle.std.specs.Option.{option_map_or}
use Rattle.hc_records.specs.declared.records.Slave.{Slave}
use Rattle.hc_records.specs.Line.{State}
use Rattle.hc_registers.specs.Blocks.{LineBlock}
use Rattle.hc_events.specs.Holding.{MayHold, cleared_register}
use Rattle.hc_events.specs.Ready.{names_among, names_task}
use Rattle.hc_owed.specs.declared.area.JudgedArea.{JudgedArea}
use Rattle.hc_owed.specs.declared.task_set.TaskSet.{TaskSet}
use Rattle.hc_owed.specs.declared.area.OwedPair.{OwedPair}
use Rattle.hc_owed.specs.declared.area.RegisterStatus.{RegisterStatus}
use Rattle.hc_owed.specs.declared.area.RegisterStatus.TheVariants.{Outside, Sure, Unknown, Unplugged}
use Rattle.hc_owed.specs.Areas.{area_written, fmmu_concerns, fmmu_confirmed, is_apart, owes_fmmu, owes_sync_manager, pair_of, register_concerns, set_if, sync_manager_concerns, sync_manager_confirmed}
use Rattle.hc_owed.specs.Readiness.{Holdings, area_slave, fmmu_at, held_set, judged_at, kept_area, no_area, own_set, slot, standing_of}
use Rattle.hc_owed.specs.ReadinessSteps.{only_contents, with_contents}
use Rattle.hc_owed.specs.RegisterState.{Knowledge, owed_in}
use Rattle.hc_owed.specs.TaskSets.{either_set, has_task, no_task, only_task, some_task}
use Rattle.hc_owed.proofs.TaskLists.{has-where, same-where}

-- pairs

pub pair-first : (a b : Bool) → owes_sync_manager (pair_of a b) ≡ a
pair-first true true = refl
pair-first true false = refl
pair-first false true = refl
pair-first false false = refl

pub pair-second : (a b : Bool) → owes_fmmu (pair_of a b) ≡ b
pair-second true true = refl
pair-second true false = refl
pair-second false true = refl
pair-second false false = refl

-- an area by its parts
abbrev pub area_of : Bool → Bool → Option LineBlock → MayHold → Bool → JudgedArea
area_of sync_manager fmmu block held unplugged = record {
  own = own_set block;
  held = held_set held;
  owed = pair_of sync_manager fmmu;
  standing = standing_of (is_some block) held.unknown (unplugged && some_task (held_set held));
}

pub judged-some : (known : Knowledge) (held : Holdings) (unplugged : ℕ → Bool) (state : State) (n : ℕ) (slave : Slave) → area_slave state n ≡ Some slave
    → judged_at known held unplugged state n
    ≡ area_of (owed_in known (slot state (2 * n))) (owed_in known (slot state (2 * n + 1))) (slot state (2 * n + 1)) (held slave.station (fmmu_at n)) (unplugged slave.station)
judged-some known held unplugged state n slave is =
    ap (λ (found : Option Slave). option_map_or (λ (s : Slave). kept_area known (slot state (2 * n)) (slot state (2 * n + 1)) (held s.station (fmmu_at n)) (unplugged s.station)) found no_area) is

pub judged-none : (known : Knowledge) (held : Holdings) (unplugged : ℕ → Bool) (state : State) (n : ℕ) → area_slave state n ≡ None → judged_at known held unplugged state n ≡ no_area
judged-none known held unplugged state n is =
    ap (λ (found : Option Slave). option_map_or (λ (s : Slave). kept_area known (slot state (2 * n)) (slot state (2 * n + 1)) (held s.station (fmmu_at n)) (unplugged s.station)) found no_area) is

-- two areas whose parts are the same
pub same-area : (a b a' b' : Bool) (block block' : Option LineBlock) (held held' : MayHold) (unplugged unplugged' : Bool) → a ≡ a' → b ≡ b' → block ≡ block' → held ≡ held' → unplugged ≡ unplugged'
    → area_of a b block held unplugged ≡ area_of a' b' block' held' unplugged'
same-area a b a' b' block block' held held' unplugged unplugged' first second third fourth fifth = cc

pub judged-same : (known known' : Knowledge) (held held' : Holdings) (unplugged : ℕ → Bool) (state : State) (n : ℕ) → owed_in known (slot state (2 * n)) ≡ owed_in known' (slot state (2 * n))
    → owed_in known (slot state (2 * n + 1)) ≡ owed_in known' (slot state (2 * n + 1)) → ((slave : Slave) → area_slave state n ≡ Some slave → held slave.station (fmmu_at n) ≡ held' slave.station (fmmu_at n))
    → judged_at known held unplugged state n ≡ judged_at known' held' unplugged state n
judged-same known known' held held' unplugged state n first second same = by (area_slave state n) refl
  where
    by : (found : Option Slave) → area_slave state n ≡ found → judged_at known held unplugged state n ≡ judged_at known' held' unplugged state n
    by None is = judged-none known held unplugged state n is ∙ sym (judged-none known' held' unplugged state n is)
    by (Some slave) is =
        judged-some known held unplugged state n slave is
        ∙ same-area (owed_in known (slot state (2 * n))) (owed_in known (slot state (2 * n + 1))) (owed_in known' (slot state (2 * n))) (owed_in known' (slot state (2 * n + 1)))
        (slot state (2 * n + 1)) (slot state (2 * n + 1)) (held slave.station (fmmu_at n)) (held' slave.station (fmmu_at n)) (unplugged slave.station) (unplugged slave.station) first second refl (same slave is) refl
        ∙ sym (judged-some known' held' unplugged state n slave is)

-- sets of contents

or-none : (b : Bool) → (b || false) ≡ b
or-none true = refl
or-none false = refl

-- the bytes of the line's block alone name its own tasks
pub held-alone : (block : LineBlock) (held : MayHold) → held_set (only_contents block.block.bytes held) ≡ own_set (Some block)
held-alone block held =
    same-where (λ (t : ℕ). names_among t (only_contents block.block.bytes held)) (λ (t : ℕ). names_task t block.block.bytes) (λ t low. or-none (names_task t block.block.bytes))

-- with the contents that there were they name both
pub held-more : (block : LineBlock) (held : MayHold) → held_set (with_contents block.block.bytes held) ≡ either_set (own_set (Some block)) (held_set held)
held-more block held =
    same-where (λ (t : ℕ). names_among t (with_contents block.block.bytes held)) (λ (t : ℕ). has_task t (own_set (Some block)) || has_task t (held_set held))
    (λ t low. ap₂ (λ (a b : Bool). a || b) (sym (has-where (λ (s : ℕ). names_task s block.block.bytes) t low)) (sym (has-where (λ (s : ℕ). names_among s held) t low)))

-- a cleared register names none
pub held-none : held_set cleared_register ≡ no_task
held-none = same-where (λ (t : ℕ). names_among t cleared_register) (λ (t : ℕ). false) (λ t low. refl)

-- no block names none
pub own-none : own_set None ≡ no_task
own-none = refl

-- one area after a write, and after a good answer

pub inside : (unknown p q : Bool) → standing_of true unknown p ≡ standing_of true unknown q
inside true p q = refl
inside false p q = refl

abbrev pub area_from : TaskSet → TaskSet → OwedPair → RegisterStatus → JudgedArea
area_from own held owed standing = record { own = own; held = held; owed = owed; standing = standing }

no-apart : (unknown p : Bool) → is_apart (standing_of true unknown p) ≡ false
no-apart true p = refl
no-apart false p = refl

pub written-area : (a b : Bool) (block : LineBlock) (held : MayHold) (unplugged : Bool) → area_written (area_of a b (Some block) held unplugged) ≡ area_of a b (Some block) (with_contents block.block.bytes held) unplugged
written-area a b block held unplugged =
    let area = area_of a b (Some block) held unplugged in
    ap (λ (apart : Bool). if apart then area else area_from area.own (either_set area.own area.held) area.owed area.standing) (no-apart held.unknown (unplugged && some_task (held_set held)))
    ∙ ap₂ (λ (s : TaskSet) (t : RegisterStatus). area_from (own_set (Some block)) s (pair_of a b) t) (sym (held-more block held))
    (inside held.unknown (unplugged && some_task (held_set held)) (unplugged && some_task (held_set (with_contents block.block.bytes held))))

pub confirmed-fmmu : (a b : Bool) (block : LineBlock) (held : MayHold) (unplugged : Bool) → fmmu_confirmed (area_of a b (Some block) held unplugged) ≡ area_of a false (Some block) (only_contents block.block.bytes held) unplugged
confirmed-fmmu a b block held unplugged =
    ap₂ (λ (s : TaskSet) (o : Bool). area_from (own_set (Some block)) s (pair_of o false) Sure) (sym (held-alone block held)) (pair-first a b)

pub confirmed-sync_manager : (a b : Bool) (block : Option LineBlock) (held : MayHold) (unplugged : Bool) → sync_manager_confirmed (area_of a b block held unplugged) ≡ area_of false b block held unplugged
confirmed-sync_manager a b block held unplugged =
    ap (λ (o : Bool). area_from (own_set block) (held_set held) (pair_of false o) (standing_of (is_some block) held.unknown (unplugged && some_task (held_set held)))) (pair-second a b)

-- the tasks that a block names, by the one that it names
pub own-named : (found : LineBlock) (own : Option ℕ) → ((t : ℕ) → t < 8 → names_task t found.block.bytes ≡ option_map_or (λ (one : ℕ). one == t) own false) → only_task own ≡ own_set (Some found)
own-named found own names = same-where (λ (t : ℕ). option_map_or (λ (one : ℕ). one == t) own false) (λ (t : ℕ). names_task t found.block.bytes) (λ t low. sym (names t low))

-- a write of an FMMU's block that is sent leaves the tasks as they were that the area keeps waiting

or-twice : (a b : Bool) → (a || (a || b)) ≡ (a || b)
or-twice true b = refl
or-twice false b = refl

either-twice : (own held : TaskSet) → either_set own (either_set own held) ≡ either_set own held
either-twice own held =
    same-where (λ (t : ℕ). has_task t own || has_task t (either_set own held)) (λ (t : ℕ). has_task t own || has_task t held)
    (λ t low. ap (λ (b : Bool). has_task t own || b) (has-where (λ (s : ℕ). has_task s own || has_task s held) t low) ∙ or-twice (has_task t own) (has_task t held))

pub fmmu-written : (own held : TaskSet) (owed : OwedPair) (standing : RegisterStatus) → fmmu_concerns (area_written (area_from own held owed standing)) ≡ fmmu_concerns (area_from own held owed standing)
fmmu-written own held owed Outside = refl
fmmu-written own held owed Unplugged = ap (set_if (owes_fmmu owed)) (either-twice own held)
fmmu-written own held owed Unknown = refl
fmmu-written own held owed Sure = ap (set_if (owes_fmmu owed)) (either-twice own held)

pub sync_manager-written : (own held : TaskSet) (owed : OwedPair) (standing : RegisterStatus) → sync_manager_concerns (area_written (area_from own held owed standing)) ≡ sync_manager_concerns (area_from own held owed standing)
sync_manager-written own held owed Outside = refl
sync_manager-written own held owed Unplugged = refl
sync_manager-written own held owed Unknown = refl
sync_manager-written own held owed Sure = refl

pub register-written : (own held : TaskSet) (owed : OwedPair) (standing : RegisterStatus) → register_concerns (area_written (area_from own held owed standing)) ≡ register_concerns (area_from own held owed standing)
register-written own held owed Outside = refl
register-written own held owed Unplugged = refl
register-written own held owed Unknown = refl
register-written own held owed Sure = refl
