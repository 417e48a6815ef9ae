-- What the working counter of a logical datagram says of its pairs.
use Rattle.std.proofs.Common.{◌≡◌, ◌⊎◌, ℕ, suc, ◌+◌, ◌-◌, ◌*◌, ◌<◌, ◌≤◌, Bool, true, false, List, [], ◌∷◌, length, get_or, min, max, refl, arith, inl, inr}
use Rattle.std.specs.Prelude.{◌&&◌, ◌||◌, if◌then◌else◌}
use Rattle.std.specs.List.{list_any}
use Rattle.std.proofs.lemmas.Bool.Decides.{nat_tests}
use Rattle.std.proofs.lemmas.List.Folds.{list_any_at}
use Rattle.std.proofs.lemmas.Bool.{and_from, and_parts}
use Rattle.hc_machine.specs.declared.fmmu.Fmmu.{Fmmu}
use Rattle.hc_machine.specs.Fmmus.{fmmus_of, idle}
use Rattle.hc_machine.specs.Laws.{IsRead, IsPairedForWriting, LogicalCountsSayPairs, Pairs}
use Rattle.hc_machine.specs.Logical.{logical_count, fmmu_meets, memory_bit, reads_any, writes_any}
use Rattle.hc_machine.proofs.Paired.{fmmu-count, read-by, reads-back, write-by, writes-back}
use Rattle.hc_machine.proofs.Unmapped.{meets-some}

-- where a test of a list holds, it holds of an element
abbrev Holds : (Fmmu → Bool) → List Fmmu → Type 0
Holds p fs = (j : ℕ) × (j < length fs) × (p (get_or fs j idle) ≡ true)

holds-of : (p : Fmmu → Bool) (fs : List Fmmu) → list_any p fs ≡ true → Holds p fs
holds-of p [] some = cc
holds-of p (f ∷ fs) some = by (p f) refl some (holds-of p fs)
  where
    by : (b : Bool) → p f ≡ b → (b || list_any p fs) ≡ true → (list_any p fs ≡ true → Holds p fs) → Holds p (f ∷ fs)
    by true here some others = (0, omega arith, here)
    by false here some others = let there = others some in (suc there.0, omega (arith, there.1), there.2)

meets-pair : (f : Fmmu) (from size k m : ℕ) → k < size → Pairs f (from + k) m → fmmu_meets from size f ≡ true
meets-pair f from size k m low pairs =
    let start : f.logical ≤ from + k = pairs.0 in
    let end : from + k < f.logical + f.width = pairs.1 in
    let some : max f.logical from < min (f.logical + f.width) (from + size) = omega arith in
    grind (arith, nat_tests)

-- the first of the bits that an FMMU and a datagram share
shared : (f : Fmmu) (from size : ℕ) → fmmu_meets from size f ≡ true → (k : ℕ) × (k < size) × Pairs f (from + k) (memory_bit f (from + k))
shared f from size met =
    let some : max f.logical from < min (f.logical + f.width) (from + size) = meets-some f from size met in
    (max f.logical from - from, omega arith, (omega arith, omega arith, refl))

module _ (memory : List ℕ) (from n : ℕ) where
  abbrev size : ℕ
  size = 8 * n

  read-answer_given : reads_any from size (fmmus_of memory) ≡ true → IsRead memory from n
  read-answer_given some =
      let at = holds-of (λ f. f.reads && fmmu_meets from size f) (fmmus_of memory) some in
      let f : Fmmu = get_or (fmmus_of memory) at.0 idle in
      let parts = and_parts f.reads (fmmu_meets from size f) at.2 in
      let bit = shared f from size parts.1 in
      let number : at.0 < 16 = omega (arith, at.1, fmmu-count memory) in
      (at.0, bit.0, memory_bit f (from + bit.0), number, bit.1, reads-back memory at.0 (from + bit.0) (memory_bit f (from + bit.0)) number parts.0 bit.2)

  answer_given-read : IsRead memory from n → reads_any from size (fmmus_of memory) ≡ true
  answer_given-read (i, k, m, number, low, reads) =
      let by = read-by memory i (from + k) m number reads in
      let f : Fmmu = get_or (fmmus_of memory) i idle in
      list_any_at (λ f. f.reads && fmmu_meets from size f) (fmmus_of memory) i idle (omega (arith, fmmu-count memory))
      (and_from f.reads (fmmu_meets from size f) by.0 (meets-pair f from size k m low by.1))

  written-answer_given : writes_any from size (fmmus_of memory) ≡ true → IsPairedForWriting memory from n
  written-answer_given some =
      let at = holds-of (λ f. f.writes && fmmu_meets from size f) (fmmus_of memory) some in
      let f : Fmmu = get_or (fmmus_of memory) at.0 idle in
      let parts = and_parts f.writes (fmmu_meets from size f) at.2 in
      let bit = shared f from size parts.1 in
      let number : at.0 < 16 = omega (arith, at.1, fmmu-count memory) in
      (at.0, bit.0, memory_bit f (from + bit.0), number, bit.1, writes-back memory at.0 (from + bit.0) (memory_bit f (from + bit.0)) number parts.0 bit.2)

  answer_given-written : IsPairedForWriting memory from n → writes_any from size (fmmus_of memory) ≡ true
  answer_given-written (i, k, m, number, low, writes) =
      let by = write-by memory i (from + k) m number writes in
      let f : Fmmu = get_or (fmmus_of memory) i idle in
      list_any_at (λ f. f.writes && fmmu_meets from size f) (fmmus_of memory) i idle (omega (arith, fmmu-count memory))
      (and_from f.writes (fmmu_meets from size f) by.0 (meets-pair f from size k m low by.1))

-- a test as the number that it adds
answer_given : (b : Bool) (n : ℕ) (A : Type 0) → (b ≡ true → A) → (A → b ≡ true) → (((if b then n else 0) ≡ n) × A) ⊎ (((if b then n else 0) ≡ 0) × (¬ A))
answer_given true n A there back = inl (refl, there refl)
answer_given false n A there back = inr (refl, λ a. let e : false ≡ true = back a in cc)

pub counts-say : LogicalCountsSayPairs
unfolding logical_count
counts-say memory from n =
    let read : Bool = reads_any from (8 * n) (fmmus_of memory) in
    let written : Bool = writes_any from (8 * n) (fmmus_of memory) in (
      if read then 1 else 0,
      if written then 2 else 0,
      refl,
      answer_given read 1 (IsRead memory from n) (read-answer_given memory from n) (answer_given-read memory from n),
      answer_given written 2 (IsPairedForWriting memory from n) (written-answer_given memory from n) (answer_given-written memory from n),
    )
