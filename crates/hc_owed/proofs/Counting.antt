-- The numbers of blocks and registers that tasks wait for, counted area by area.
use Rattle.std.proofs.Common.{◌≡◌, ℕ, zero, suc, ◌+◌, ◌*◌, ◌<◌, ◌≤◌, Bool, true, false, List, [], ◌∷◌, ◌++◌, length, sum_by, sym, ap, subst, ◌∙◌, arith}
use Rattle.std.specs.Prelude.{Some, replicate, slice_get, slice_index, slice_set}
use Rattle.std.proofs.lemmas.List.Folds.{sum_by-replicate}
use Rattle.std.proofs.lemmas.List.Sums.{sum_by-append, sum_by-cons, sum_by_push}
use Rattle.std.proofs.lemmas.Grind.{common_steps}
use Rattle.std.proofs.lemmas.Option.{same_Some}
use Rattle.hc_records.specs.Lists.{changed_at}
use Rattle.hc_owed.specs.declared.area.JudgedArea.{JudgedArea}
use Rattle.hc_owed.specs.declared.tally.Tally.{Tally}
use Rattle.hc_owed.specs.declared.task_set.TaskSet.{TaskSet}
use Rattle.hc_owed.specs.Areas.{area_written, blocks_waited, fmmu_concerns, fmmu_confirmed, named_set, owes_fmmu, owes_sync_manager, register_concerns, registers_waited, set_if, sync_manager_concerns, sync_manager_confirmed}
use Rattle.hc_owed.specs.Flags.{one}
use Rattle.hc_owed.specs.Readiness.{no_area}
use Rattle.hc_owed.specs.TaskSets.{either_set, has_task, no_task}
use Rattle.hc_owed.specs.Tally.{CanPut, Puts, Tallies}
use Rattle.hc_owed.specs.Waiting.{AreCounted}
use Rattle.hc_owed.proofs.JudgedAreas.{fmmu-written, pair-first, pair-second, register-written, sync_manager-written}
use Rattle.hc_plan.proofs.lemmas.Replaced.{length-changed, set-changed}
use Rattle.hc_owed.proofs.TaskLists.{has-where}

pub one-most : (b : Bool) → one b ≤ 1
one-most true = omega arith
one-most false = omega arith

pub sum-least : {X : Type 0} (f : X → ℕ) (xs : List X) (n : ℕ) (x : X) → slice_get xs n ≡ Some x → f x ≤ sum_by f xs
sum-least f [] n x at = cc
sum-least f (y ∷ xs) zero x at = let same = ap f (same_Some y x at) in let sum = sum_by-cons f y xs in omega (arith, same, sum)
sum-least f (y ∷ xs) (suc n) x at = let rest = sum-least f xs n x at in let sum = sum_by-cons f y xs in omega (arith, rest, sum)

pub sum-put : {X : Type 0} (f : X → ℕ) (xs : List X) (n : ℕ) (x y : X) → slice_get xs n ≡ Some x → sum_by f (changed_at n (λ _. y) xs) + f x ≡ sum_by f xs + f y
sum-put f [] n x y at = cc
sum-put f (z ∷ xs) zero x y at =
    let same = ap f (same_Some z x at) in
    let old = sum_by-cons f z xs in
    let new = sum_by-cons f y xs in
    omega (arith, same, old, new)
sum-put f (z ∷ xs) (suc n) x y at =
    let rest = sum-put f xs n x y at in
    let old = sum_by-cons f z xs in
    let new = sum_by-cons f z (changed_at n (λ _. y) xs) in
    omega (arith, rest, old, new)

pub sum-most : {X : Type 0} (f : X → ℕ) (most : ℕ) (xs : List X) → ((x : X) → f x ≤ most) → sum_by f xs ≤ most * length xs
sum-most f most [] each = omega arith
sum-most f most (x ∷ xs) each =
    let rest = sum-most f most xs each in
    let here = each x in
    let sum = sum_by-cons f x xs in
    let size : most * suc (length xs) ≡ most * length xs + most = grind (arith, common_steps) in
    omega (arith, rest, here, sum, size)

blocks-most : (task : ℕ) (area : JudgedArea) → blocks_waited task area ≤ 2
blocks-most task area =
    let a = one-most (has_task task (sync_manager_concerns area)) in
    let b = one-most (has_task task (fmmu_concerns area)) in
    omega (arith, a, b)

registers-most : (task : ℕ) (area : JudgedArea) → registers_waited task area ≤ 1
registers-most task area = one-most (has_task task (register_concerns area))

-- areas that keep no task waiting

pub none-counts : (task : ℕ) → task < 8 → one (has_task task no_task) ≡ 0
none-counts task low = ap one (has-where (λ t. false) task low)

pub no-blocks : (task : ℕ) → task < 8 → blocks_waited task no_area ≡ 0
no-blocks task low = let none = none-counts task low in omega (arith, none)

pub no-registers : (task : ℕ) → task < 8 → registers_waited task no_area ≡ 0
no-registers task low = none-counts task low

-- an area is counted in place of another one

few-counted : (areas : List JudgedArea) (tally : Tally) (task : ℕ) → length areas < 524288 → Tallies areas tally → task < 8 → (slice_index tally.blocks task < 4294967294) × (slice_index tally.registers task < 4294967294)
few-counted areas tally t few counts low =
    let blocks = sum-most (blocks_waited t) 2 areas (blocks-most t) in
    let registers = sum-most (registers_waited t) 1 areas (registers-most t) in
    let first = counts.0 t low in
    let second = counts.1 t low in
    (omega (arith, blocks, first, few), omega (arith, registers, second, few))

pub can-put : (areas : List JudgedArea) (tally : Tally) (n : ℕ) (was : JudgedArea) → length areas < 524288 → slice_get areas n ≡ Some was → Tallies areas tally → CanPut tally was
can-put areas tally n was few at counts = record {
  blocks = λ t low. let here = sum-least (blocks_waited t) areas n was at in let is = counts.0 t low in omega (arith, here, is);
  registers = λ t low. let here = sum-least (registers_waited t) areas n was at in let is = counts.1 t low in omega (arith, here, is);
  few_blocks = λ t low. (few-counted areas tally t few counts low).0;
  few_registers = λ t low. (few-counted areas tally t few counts low).1;
}

pub area-put : (areas : List JudgedArea) (old new : Tally) (n : ℕ) (was now : JudgedArea) → slice_get areas n ≡ Some was → Tallies areas old → Puts old new was now → Tallies (changed_at n (λ _. now) areas) new
area-put areas old new n was now at counts puts = (
  λ t low.
      let put = sum-put (blocks_waited t) areas n was now at in
      let is = counts.0 t low in
      let moves = puts.blocks t low in
      omega (arith, put, is, moves),
  λ t low.
      let put = sum-put (registers_waited t) areas n was now at in
      let is = counts.1 t low in
      let moves = puts.registers t low in
      omega (arith, put, is, moves),
)

-- the list and its counts once an area is set and counted in place of the one that was there
pub area-set : (items now : List JudgedArea) (old new : Tally) (n : ℕ) (was next made : JudgedArea) → items ≡ now → slice_get now n ≡ Some was → made ≡ next → Tallies items old × (length items < 524288) → Puts old new was next
    → Tallies (slice_set items n made) new × (length (slice_set items n made) < 524288)
area-set items now old new n was next made same at is counts puts =
    let own = ap (λ (l : List JudgedArea). slice_get l n) same ∙ at in
    let set = ap (λ (a : JudgedArea). changed_at n (λ _. a) items) (sym is) ∙ sym (set-changed n made items) in
    let size = ap length (set-changed n made items) ∙ length-changed n (λ _. made) items in
    let few = counts.1 in
    (subst (λ (l : List JudgedArea). Tallies l new) set (area-put items old new n was next own counts.0 puts), omega (arith, size, few))

pub can-put-at : (items now : List JudgedArea) (tally : Tally) (n : ℕ) (was : JudgedArea) → items ≡ now → slice_get now n ≡ Some was → Tallies items tally × (length items < 524288) → CanPut tally was
can-put-at items now tally n was same at counts = can-put items tally n was counts.1 (ap (λ (l : List JudgedArea). slice_get l n) same ∙ at) counts.0

-- a write that is sent changes no count
pub written-put : (tally : Tally) (area : JudgedArea) → Puts tally tally area (area_written area)
written-put tally area = record {
  blocks = λ t low.
      let first = ap (λ (set : TaskSet). one (has_task t set)) (sync_manager-written area.own area.held area.owed area.standing) in
      let second = ap (λ (set : TaskSet). one (has_task t set)) (fmmu-written area.own area.held area.owed area.standing) in
      omega (arith, first, second);
  registers = λ t low. let same = ap (λ (set : TaskSet). one (has_task t set)) (register-written area.own area.held area.owed area.standing) in omega (arith, same);
}

-- a good answer takes its own block's tasks out of the counts

pub sync_manager-out : (area : JudgedArea) (task : ℕ) → task < 8 → blocks_waited task (sync_manager_confirmed area) + one (has_task task (sync_manager_concerns area)) ≡ blocks_waited task area
sync_manager-out area task low =
    let first = ap (λ (owed : Bool). one (has_task task (set_if owed area.own))) (pair-first false (owes_fmmu area.owed)) in
    let second = ap (λ (owed : Bool). one (has_task task (set_if owed (either_set area.own (named_set area.standing area.held))))) (pair-second false (owes_fmmu area.owed)) in
    let none = none-counts task low in
    omega (arith, first, second, none)

pub fmmu-out : (area : JudgedArea) (task : ℕ) → task < 8 → blocks_waited task (fmmu_confirmed area) + one (has_task task (fmmu_concerns area)) ≡ blocks_waited task area
fmmu-out area task low =
    let first = ap (λ (owed : Bool). one (has_task task (set_if owed area.own))) (pair-first (owes_sync_manager area.owed) false) in
    let second = ap (λ (owed : Bool). one (has_task task (set_if owed (either_set area.own area.own)))) (pair-second (owes_sync_manager area.owed) false) in
    let none = none-counts task low in
    omega (arith, first, second, none)

-- an area is added after the others

pub can-push : (areas : List JudgedArea) (tally : Tally) → length areas < 524288 → Tallies areas tally → CanPut tally no_area
can-push areas tally few counts = record {
  blocks = λ t low. let none = no-blocks t low in omega (arith, none);
  registers = λ t low. let none = no-registers t low in omega (arith, none);
  few_blocks = λ t low. (few-counted areas tally t few counts low).0;
  few_registers = λ t low. (few-counted areas tally t few counts low).1;
}

pub area-pushed : (areas : List JudgedArea) (old new : Tally) (area : JudgedArea) → Tallies areas old → Puts old new no_area area → Tallies (areas ++ area ∷ []) new
area-pushed areas old new area counts puts = (
  λ t low.
      let push = sum_by_push (blocks_waited t) areas area in
      let is = counts.0 t low in
      let moves = puts.blocks t low in
      let none = no-blocks t low in
      omega (arith, push, is, moves, none),
  λ t low.
      let push = sum_by_push (registers_waited t) areas area in
      let is = counts.1 t low in
      let moves = puts.registers t low in
      let none = no-registers t low in
      omega (arith, push, is, moves, none),
)

-- areas that keep no task waiting are added

nothing-waits : (f : ℕ → JudgedArea → ℕ) (task : ℕ) (areas : List JudgedArea) (n : ℕ) (area : JudgedArea) → f task area ≡ 0 → sum_by (f task) (areas ++ replicate n area) ≡ sum_by (f task) areas
nothing-waits f task areas n area none =
    let all = sum_by-append (f task) areas (replicate n area) in
    let more = sum_by-replicate (f task) n area in
    let zero-all : n * f task area ≡ 0 = ap (λ (k : ℕ). n * k) none ∙ omega arith in
    omega (arith, all, more, zero-all)

more-counted : (f : ℕ → JudgedArea → ℕ) (areas : List JudgedArea) (n : ℕ) (area : JudgedArea) (counts : List ℕ) → ((task : ℕ) → task < 8 → f task area ≡ 0) → AreCounted f areas counts → AreCounted f (areas ++ replicate n area) counts
more-counted f areas n area counts none counted t low = counted t low ∙ sym (nothing-waits f t areas n area (none t low))

pub areas-more : (areas : List JudgedArea) (n : ℕ) (tally : Tally) → Tallies areas tally → Tallies (areas ++ replicate n no_area) tally
areas-more areas n tally counts =
    (more-counted blocks_waited areas n no_area tally.blocks no-blocks counts.0, more-counted registers_waited areas n no_area tally.registers no-registers counts.1)
