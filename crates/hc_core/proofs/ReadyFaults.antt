-- The faults of ready tasks, first to last.
use Rattle.std.proofs.Common.{◌≡◌, ℕ, ◌<◌, ◌≤◌, ◌||◌, not, Bool, true, false, if◌then◌else◌, List, [], ◌∷◌, length, map, refl, ap, sym, ◌∙◌, Option, Some, None, nat_lt, arith}
use Rattle.std.specs.List.{list_any}
use Rattle.std.proofs.lemmas.Option.{same_Some}
use Rattle.std.proofs.lemmas.Bool.{ltb-true}
use Rattle.std.proofs.lemmas.Bool.Decides.{nat_tests}
use Rattle.hc_records.specs.declared.limits.TheConstants.{TASKS}
use Rattle.hc_records.specs.Lists.{lowest}
use Rattle.hc_events.specs.declared.faults.CoreFault.{CoreFault}
use Rattle.hc_events.specs.declared.faults.CoreFault.TheVariants.{NoSuchTask, Room, SerialsSpent}
use Rattle.hc_events.specs.Calls.{frames_size, ready_into_faults, room_faults}
use Rattle.hc_events.specs.Entries.{History}
use Rattle.hc_events.specs.Ready.{is_ready}
use Rattle.hc_events.specs.Steps.{has_serials, is_no_task, proposal, ready_faults, wait_fault}
use Rattle.hc_core.specs.Early.{early_ready_faults}
use Rattle.hc_core.specs.Ready.{first_unready}
use Rattle.hc_core.proofs.Lowest.{lowest-after_it, lowest-front}

pub early-refused : (history : History) (tasks : List ℕ) (fault : CoreFault) → lowest (early_ready_faults history tasks) ≡ Some fault → lowest (ready_faults history tasks) ≡ Some fault
early-refused history tasks fault is = lowest-front (early_ready_faults history tasks) ((not (has_serials history (length (proposal history tasks))), SerialsSpent) ∷ []) fault is

pub into-refused : (history : History) (tasks : List ℕ) (bytes : ℕ) (fault : CoreFault) → lowest (ready_faults history tasks) ≡ Some fault → lowest (ready_into_faults history tasks bytes) ≡ Some fault
into-refused history tasks bytes fault is = lowest-front (ready_faults history tasks) (room_faults (frames_size history tasks) bytes) fault is

pub room-refused : (history : History) (tasks : List ℕ) (bytes size : ℕ) → lowest (ready_faults history tasks) ≡ None → size ≡ frames_size history tasks → bytes < size → lowest (ready_into_faults history tasks bytes) ≡ Some (Room size)
room-refused history tasks bytes size none is less =
    lowest-after_it (ready_faults history tasks) (room_faults (frames_size history tasks) bytes) none
    ∙ ap (λ (n : ℕ). lowest (room_faults n bytes)) (sym is)
    ∙ short bytes size less
  where
    short : (bytes size : ℕ) → bytes < size → lowest (room_faults size bytes) ≡ Some (Room size)
    short bytes size less = grind (arith, nat_tests)

pub into-accepted : (history : History) (tasks : List ℕ) (bytes size : ℕ) → lowest (ready_faults history tasks) ≡ None → size ≡ frames_size history tasks → size ≤ bytes → lowest (ready_into_faults history tasks bytes) ≡ None
into-accepted history tasks bytes size none is fits =
    lowest-after_it (ready_faults history tasks) (room_faults (frames_size history tasks) bytes) none
    ∙ ap (λ (n : ℕ). lowest (room_faults n bytes)) (sym is)
    ∙ enough bytes size fits
  where
    enough : (bytes size : ℕ) → size ≤ bytes → lowest (room_faults size bytes) ≡ None
    enough bytes size fits = grind (arith, nat_tests)

-- ready tasks are not refused

all-ready : (history : History) (tasks : List ℕ) → first_unready history tasks ≡ None → (list_any is_no_task tasks ≡ false) × (lowest (map (wait_fault history) tasks) ≡ None)
all-ready history [] none = (refl, refl)
all-ready history (task ∷ tasks) none = by (all-ready history tasks) (is_no_task task) refl (is_ready history task) refl
  where
    seen : (other ready : Bool) → is_no_task task ≡ other → is_ready history task ≡ ready → (if other || not ready then Some task else first_unready history tasks) ≡ None
    seen other ready is is' = sym (ap (λ (b : Bool). if b || not (is_ready history task) then Some task else first_unready history tasks) is
        ∙ ap (λ (b : Bool). if other || not b then Some task else first_unready history tasks) is') ∙ none

    waits : Bool → Option CoreFault
    waits ready = if not ready then Some (wait_fault history task).1 else lowest (map (wait_fault history) tasks)

    by : (first_unready history tasks ≡ None → (list_any is_no_task tasks ≡ false) × (lowest (map (wait_fault history) tasks) ≡ None)) → (other : Bool) → is_no_task task ≡ other → (ready : Bool) → is_ready history task ≡ ready
        → ((is_no_task task || list_any is_no_task tasks) ≡ false) × (waits (is_ready history task) ≡ None)
    by rest true is ready is' = let no = seen true ready is is' in cc
    by rest false is false is' = let no = seen false false is is' in cc
    by rest false is true is' = let later = rest (seen false true is is') in (ap (λ (b : Bool). b || list_any is_no_task tasks) is ∙ later.0, ap waits is' ∙ later.1)

pub none-unready : (history : History) (tasks : List ℕ) → first_unready history tasks ≡ None → lowest (early_ready_faults history tasks) ≡ None
none-unready history tasks none =
    let ready = all-ready history tasks none in
    ap (λ (b : Bool). if b then Some NoSuchTask else lowest (map (wait_fault history) tasks)) ready.0 ∙ ready.1

-- no task of some numbers refuses all
pub no-task-refused : (history : History) (tasks : List ℕ) → list_any is_no_task tasks ≡ true → lowest (early_ready_faults history tasks) ≡ Some NoSuchTask
no-task-refused history tasks is = ap (λ (b : Bool). if b then Some NoSuchTask else lowest (map (wait_fault history) tasks)) is

-- else the first task that waits does

waits-first : (history : History) (tasks : List ℕ) (first : ℕ) → list_any is_no_task tasks ≡ false → first_unready history tasks ≡ Some first
    → (is_no_task first ≡ false) × (lowest (map (wait_fault history) tasks) ≡ Some (wait_fault history first).1)
waits-first history [] first none found = cc
waits-first history (task ∷ tasks) first none found = by (waits-first history tasks first) (is_no_task task) refl (is_ready history task) refl
  where
    waits : Bool → Option CoreFault
    waits ready = if not ready then Some (wait_fault history task).1 else lowest (map (wait_fault history) tasks)

    seen : (other ready : Bool) → is_no_task task ≡ other → is_ready history task ≡ ready → (if other || not ready then Some task else first_unready history tasks) ≡ Some first
    seen other ready is is' = sym (ap (λ (b : Bool). if b || not (is_ready history task) then Some task else first_unready history tasks) is
        ∙ ap (λ (b : Bool). if other || not b then Some task else first_unready history tasks) is') ∙ found

    by : (list_any is_no_task tasks ≡ false → first_unready history tasks ≡ Some first → (is_no_task first ≡ false) × (lowest (map (wait_fault history) tasks) ≡ Some (wait_fault history first).1))
        → (other : Bool) → is_no_task task ≡ other → (ready : Bool) → is_ready history task ≡ ready → (is_no_task first ≡ false) × (waits (is_ready history task) ≡ Some (wait_fault history first).1)
    by rest true is ready is' = let no : true ≡ false = sym (ap (λ (b : Bool). b || list_any is_no_task tasks) is) ∙ none in cc
    by rest false is false is' =
        let same = same_Some task first (seen false false is is') in
        (sym (ap is_no_task same) ∙ is, ap waits is' ∙ ap (λ (t : ℕ). Some (wait_fault history t).1) same)
    by rest false is true is' =
        let later = rest (sym (ap (λ (b : Bool). b || list_any is_no_task tasks) is) ∙ none) (seen false true is is') in
        (later.0, ap waits is' ∙ later.1)

pub waiting-refused : (history : History) (tasks : List ℕ) (first : ℕ) → list_any is_no_task tasks ≡ false → first_unready history tasks ≡ Some first
    → lowest (early_ready_faults history tasks) ≡ Some (wait_fault history first).1
waiting-refused history tasks first none found =
    ap (λ (b : Bool). if b then Some NoSuchTask else lowest (map (wait_fault history) tasks)) none ∙ (waits-first history tasks first none found).1

pub waiting-task : (history : History) (tasks : List ℕ) (first : ℕ) → list_any is_no_task tasks ≡ false → first_unready history tasks ≡ Some first → first < TASKS
waiting-task history tasks first none found = by (nat_lt first TASKS) refl
  where
    by : (low : Bool) → nat_lt first TASKS ≡ low → first < TASKS
    by true is = ltb-true first TASKS is
    by false is = let no : true ≡ false = sym (ap not is) ∙ (waits-first history tasks first none found).0 in cc
