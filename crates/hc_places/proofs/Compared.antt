-- The tasks of two tables compared in their order: what is said of those so far.
use Rattle.std.proofs.Common.{◌≡◌, ℕ, ◌+◌, ◌<◌, ◌≤◌, Bool, true, false, cond, List, [], ◌∷◌, ◌++◌, length, refl, subst, sym, arith}
use Rattle.std.specs.Prelude.{All, Option, Some, None, find, nat_lt, option_map, slice_get, ◌==◌, ◌≢◌}
use Rattle.std.proofs.lemmas.Bool.{eq-eqb, ltb-true, ltb-false}
use Rattle.std.proofs.lemmas.List.Elements.{All-append, All-cons, All-head, All-nil, All-tail, All-weaker}
use Rattle.std.proofs.lemmas.Option.{slice_get_past}
use Rattle.hc_records.proofs.lemmas.Lists.{AllPairs-append}
use Rattle.hc_records.proofs.lemmas.Choices.{lower-other}
use Rattle.hc_places.specs.Table.{TaskTable}
use Rattle.hc_places.specs.Swap.{ChangedTask, ChangesAscend, IsDifference, said_of}

abbrev AreBelow : ℕ → List ChangedTask → Type 0
AreBelow number tasks = All (λ (c : ChangedTask). c.0 < number) tasks

-- the tasks below a number are reported, and none after it
pub record AreAnswered (olds updates : List TaskTable) (number : ℕ) (tasks : List ChangedTask) : Type 0 where
  pub says : (task : ℕ) → task < number → IsDifference (slice_get olds task) (slice_get updates task) (said_of tasks task)
  pub below : All (λ (c : ChangedTask). c.0 < number) tasks
  pub ascends : ChangesAscend tasks

none-below : (task : ℕ) (tasks : List ChangedTask) → AreBelow task tasks → said_of tasks task ≡ None
none-below task [] below = refl
none-below task (c ∷ others) below =
    grind (arith, lower-other, All-head, All-tail, none-below task others (All-tail (λ (c : ChangedTask). c.0 < task) c others below))

after_it : (here : Bool) (c : ChangedTask) (found other : Option ChangedTask) → option_map (λ (c : ChangedTask). c.1) found ≡ option_map (λ (c : ChangedTask). c.1) other
    → option_map (λ (c : ChangedTask). c.1) (cond here (Some c) found) ≡ option_map (λ (c : ChangedTask). c.1) (cond here (Some c) other)
after_it here c found other same = grind arith

-- a task that is added says nothing of another
added-other : (tasks : List ChangedTask) (added : ChangedTask) (task : ℕ) → (added.0 == task) ≡ false → said_of (tasks ++ added ∷ []) task ≡ said_of tasks task
added-other [] added task other = rw other refl
added-other (c ∷ others) added task other =
    after_it (c.0 == task) c (find (λ (c : ChangedTask). c.0 == task) (others ++ added ∷ [])) (find (λ (c : ChangedTask). c.0 == task) others) (added-other others added task other)

added-own : (tasks : List ChangedTask) (added : ChangedTask) → AreBelow added.0 tasks → said_of (tasks ++ added ∷ []) added.0 ≡ Some added.1
added-own [] added below = rw (eq-eqb added.0 added.0 refl) refl
added-own (c ∷ others) added below =
    grind (arith, lower-other, All-head, All-tail, added-own others added (All-tail (λ (c : ChangedTask). c.0 < added.0) c others below))

-- a number up to another is lower, or it
next-by : {P : Type 0} (here : Bool) (task number : ℕ) → (number == task) ≡ here → task < number + 1 → (task < number → (number == task) ≡ false → P) → (number ≡ task → P) → P
next-by here task number test less lower own = grind arith

apart-some : {X : Type 0} (a b : X) → a ≢ b → Some a ≢ Some b
apart-some a b apart same = apart cc

pub next-new : (olds updates : List TaskTable) (number : ℕ) (tasks : List ChangedTask) (old new : TaskTable) → AreAnswered olds updates number tasks
    → slice_get olds number ≡ Some old → slice_get updates number ≡ Some new → old ≢ new → AreAnswered olds updates (number + 1) (tasks ++ (number, new) ∷ [])
next-new olds updates number tasks old new answer_given before after apart = record {
  says = λ task less. next-by (number == task) task number refl less
      (λ lower other. subst (IsDifference (slice_get olds task) (slice_get updates task)) (sym (added-other tasks (number, new) task other)) (answer_given.says task lower))
      (λ same. subst (λ n. IsDifference (slice_get olds n) (slice_get updates n) (said_of (tasks ++ (number, new) ∷ []) n)) same
      (subst (IsDifference (slice_get olds number) (slice_get updates number)) (sym (added-own tasks (number, new) answer_given.below))
      (after, rw (before, after) (apart-some old new apart))));
  below = All-append (λ (c : ChangedTask). c.0 < number + 1) tasks ((number, new) ∷ [])
      (All-weaker (λ (c : ChangedTask). c.0 < number) (λ (c : ChangedTask). c.0 < number + 1) (λ c less. omega (arith, less)) tasks answer_given.below)
      (All-cons (λ (c : ChangedTask). c.0 < number + 1) (number, new) [] (omega arith) (All-nil (λ (c : ChangedTask). c.0 < number + 1)));
  ascends = AllPairs-append (λ (a b : ChangedTask). a.0 < b.0) tasks ((number, new) ∷ []) answer_given.ascends
      (λ i j d lower within. absurd (omega arith))
      (All-weaker (λ (c : ChangedTask). c.0 < number) (λ (c : ChangedTask). All (λ (b : ChangedTask). c.0 < b.0) ((number, new) ∷ []))
      (λ c less. All-cons (λ (b : ChangedTask). c.0 < b.0) (number, new) [] less (All-nil (λ (b : ChangedTask). c.0 < b.0))) tasks answer_given.below);
}

pub next-same : (olds updates : List TaskTable) (number : ℕ) (tasks : List ChangedTask) (old new : TaskTable) → AreAnswered olds updates number tasks
    → slice_get olds number ≡ Some old → slice_get updates number ≡ Some new → old ≡ new → AreAnswered olds updates (number + 1) tasks
next-same olds updates number tasks old new answer_given before after same =
    grind (arith, next-by, none-below, All-weaker)

-- all are reported at their end
answer_given-by : (below : Bool) (olds updates : List TaskTable) (number : ℕ) (tasks : List ChangedTask) (task : ℕ) → nat_lt task number ≡ below → AreAnswered olds updates number tasks
    → length olds ≤ number → length updates ≤ number → IsDifference (slice_get olds task) (slice_get updates task) (said_of tasks task)
answer_given-by true olds updates number tasks task test answer_given first second = answer_given.says task (ltb-true task number test)
answer_given-by false olds updates number tasks task test answer_given first second =
    grind (arith, ltb-false, none-below, All-weaker, slice_get_past)

pub all-answer_given : (olds updates : List TaskTable) (number : ℕ) (tasks : List ChangedTask) → AreAnswered olds updates number tasks → length olds ≤ number → length updates ≤ number
    → (task : ℕ) → IsDifference (slice_get olds task) (slice_get updates task) (said_of tasks task)
all-answer_given olds updates number tasks answer_given first second task = answer_given-by (nat_lt task number) olds updates number tasks task refl answer_given first second
