-- The areas that the keys of a task's list name.
use Rattle.std.proofs.Common.{◌≡◌, ℕ, ◌-◌, ◌<◌, ◌∙◌, inl, inr, true, List, sym, ap, subst, arith}
use Rattle.std.specs.Prelude.{All, AllPairs, Contains, IsTrue, Some, nat_lt, slice_get, slice_index_or, ◌==◌, ◌&&◌}
use Rattle.std.specs.List.{enumerate_from}
use Rattle.std.proofs.lemmas.Bool.{and_parts, eqb-true}
use Rattle.std.proofs.lemmas.List.Elements.{Contains-get_or}
use Rattle.hc_records.specs.declared.keys.Key.{Key}
use Rattle.hc_records.specs.declared.records.Area.{Area}
use Rattle.hc_records.specs.declared.records.Dir.{Dir}
use Rattle.hc_records.specs.Area.{width}
use Rattle.hc_records.specs.Image.{task_places}
use Rattle.hc_records.specs.Keys.{is_before, is_within, same_dir}
use Rattle.hc_records.specs.Line.{Member, State, line}
use Rattle.hc_records.specs.Packing.{Placed, empty_front, packed}
use Rattle.hc_records.specs.TaskList.{Keyed, task_list}
use Rattle.hc_records.proofs.lemmas.Ascending.{keys-ascend}
use Rattle.hc_records.proofs.lemmas.KeyOrder.{before-apart, within-refl}
use Rattle.hc_records.proofs.lemmas.Lists.{AllPairs-unmap, All-unmap}
use Rattle.hc_records.proofs.lemmas.Packed.{area_of, packed-areas}
use Rattle.hc_records.proofs.lemmas.Tasks.{task-list-all}
use Rattle.hc_records.proofs.lemmas.VariablePlaces.{same_dir-same}
use Rattle.hc_plan.proofs.lemmas.Elements.{contains-order, numbered-at}

-- an area of a slave of the line, which is in the task, has a key of the task's list
pub record HasArea (line : List Member) (task : ℕ) (keyed : Keyed) : Type 0 where
  pub member : Member
  pub index : ℕ
  pub area : Area
  pub in_line : Contains line member
  pub found : slice_get member.slave.areas index ≡ Some area
  pub task_is : area.task ≡ task
  pub key : keyed.0 ≡ record { dir = area.dir; rank = member.rank; area = index }

pub named-areas : (line : List Member) (task : ℕ) → All (HasArea line task) (task_list task line)
named-areas line task =
    task-list-all (HasArea line task) task line
    (λ dir j d low i e within belonging.
    let member = slice_index_or line j d in
    let element = slice_index_or (enumerate_from 0 member.slave.areas) i e in
    let numbered = numbered-at 0 member.slave.areas i e within in
    let none : element.0 ≡ element.0 - 0 = omega arith in
    let area = element.1 in
    let first = and_parts ((area.task == task) && same_dir area.dir dir) (nat_lt 0 (width area)) belonging in
    let tests = and_parts (area.task == task) (same_dir area.dir dir) first.0 in
    record {
      member = member;
      index = element.0;
      area = area;
      in_line = Contains-get_or line j d low;
      found = ap (slice_get member.slave.areas) none ∙ numbered.1;
      task_is = eqb-true area.task task tests.0;
      key = ap (λ (way : Dir). key-with way member.rank element.0) (sym (same_dir-same area.dir dir tests.1));
    })
  where
    key-with : Dir → ℕ → ℕ → Key
    key-with way rank number = record { dir = way; rank = rank; area = number }

-- so is the key of each place of the task
pub placed-areas : (line : List Member) (task : ℕ) → All (λ (placed : Placed). HasArea line task (area_of placed)) (task_places task line)
placed-areas line task =
    All-unmap (HasArea line task) area_of (task_places task line)
    (subst (All (HasArea line task)) (sym (packed-areas empty_front (task_list task line))) (named-areas line task))

pub keys-apart : (state : State) (task : ℕ) → AllPairs (λ (a b : Placed). IsTrue (is_before a.key b.key)) (task_places task (line state))
keys-apart state task =
    let list = task_list task (line state) in
    AllPairs-unmap (λ (a b : Keyed). IsTrue (is_before a.0 b.0)) area_of (packed empty_front list)
    (subst (AllPairs (λ (a b : Keyed). IsTrue (is_before a.0 b.0))) (sym (packed-areas empty_front list)) (keys-ascend state task))

pub not-before : (a b : Key) → a ≡ b → is_before a b ≡ true → ⊥
not-before a b same before =
    let within = within-refl a in
    let apart = before-apart a b before in
    let other : is_within b a ≡ is_within a a = ap (λ (k : Key). is_within k a) (sym same) in
    cc

-- a key has one place in a task
pub one-key : (state : State) (task : ℕ) (a b : Placed) → Contains (task_places task (line state)) a → Contains (task_places task (line state)) b → a.key ≡ b.key → a ≡ b
one-key state task a b has has' same =
    elim (contains-order (λ (x y : Placed). IsTrue (is_before x.key y.key)) (task_places task (line state)) a b (keys-apart state task) has has') [
      | inl one ↦ one
      | inr (inl before) ↦ absurd (not-before a.key b.key same before)
      | inr (inr before) ↦ absurd (not-before b.key a.key (sym same) before)
    ]

-- a rank names one slave of the line
pub one-rank : (line : List Member) (a b : Member) → AllPairs (λ (x y : Member). x.rank < y.rank) line → Contains line a → Contains line b → a.rank ≡ b.rank → a ≡ b
one-rank line a b ranks has has' same =
    elim (contains-order (λ (x y : Member). x.rank < y.rank) line a b ranks has has') [
      | inl one ↦ one
      | inr (inl lower) ↦ absurd (omega arith)
      | inr (inr higher) ↦ absurd (omega arith)
    ]
