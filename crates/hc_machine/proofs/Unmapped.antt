-- A datagram that no active FMMU meets.
use Rattle.std.proofs.Common.{◌≡◌, ℕ, suc, ◌+◌, ◌-◌, ◌*◌, ◌<◌, Bool, true, false, List, [], ◌∷◌, length, get_or, min, max, set, refl, sym, ap, ap₂, subst, ◌∙◌, arith}
use Rattle.std.specs.Prelude.{◌&&◌, ◌||◌, if◌then◌else◌}
use Rattle.std.specs.List.{list_any}
use Rattle.std.proofs.lemmas.Bool.Decides.{nat_tests}
use Rattle.std.proofs.lemmas.List.{set-get_or}
use Rattle.std.proofs.lemmas.Bool.{false_from_ne_true}
use Rattle.hc_bits.specs.Bits.{AreBytes, bit_of}
use Rattle.hc_machine.specs.declared.fmmu.Fmmu.{Fmmu}
use Rattle.hc_machine.specs.Fmmus.{fmmu_block_at, fmmus_of, idle}
use Rattle.hc_machine.specs.Laws.{IsPair, Pairs, UnmappedDatagramsPass}
use Rattle.hc_machine.specs.Logical.{logical_count, logical_data, logical_memory, fmmu_meets, memory_bit, reads_any, writes_any}
use Rattle.hc_machine.specs.Memory.{with_alias_of}
use Rattle.hc_machine.proofs.Bytes.{bytes-spelled}
use Rattle.hc_machine.proofs.Lowest.{not-read, not-written, read-none, write-none}
use Rattle.hc_machine.proofs.Paired.{fmmu-at, fmmu-count, pairs-are-blocks}

-- no test of a list holds
none-holds : (p : Fmmu → Bool) (fs : List Fmmu) → ((j : ℕ) → j < length fs → p (get_or fs j idle) ≡ false) → list_any p fs ≡ false
none-holds p [] none = refl
none-holds p (f ∷ fs) none = ap (λ (b : Bool). b || list_any p fs) (none 0 (omega arith)) ∙ none-holds p fs (λ j h. none (suc j) (omega arith))

pub meets-some : (f : Fmmu) (from size : ℕ) → fmmu_meets from size f ≡ true → max f.logical from < min (f.logical + f.width) (from + size)
meets-some f from size e = grind (arith, nat_tests)

module _ (memory : List ℕ) (from size : ℕ) (none : (j n m : ℕ) → j < 16 → n < size → ¬ IsPair (fmmu_block_at memory j) (from + n) m) where
  unmet : (j : ℕ) → j < 16 → fmmu_meets from size (get_or (fmmus_of memory) j idle) ≡ false
  unmet j low =
      let f : Fmmu = get_or (fmmus_of memory) j idle in
      false_from_ne_true (fmmu_meets from size f) (λ e.
      let some : max f.logical from < min (f.logical + f.width) (from + size) = meets-some f from size e in
      let n : ℕ = max f.logical from - from in
      let there : Pairs f (from + n) (memory_bit f (from + n)) = (omega arith, omega arith, refl) in
      none j n (memory_bit f (from + n)) low (omega arith) ((pairs-are-blocks (fmmu_block_at memory j) (from + n) (memory_bit f (from + n))).1 (subst (λ (g : Fmmu). Pairs g (from + n) (memory_bit f (from + n))) (fmmu-at memory j low) there)))

  and-false : (a b : Bool) → b ≡ false → (a && b) ≡ false
  and-false true b e = e
  and-false false b e = refl

  pub none-read : reads_any from size (fmmus_of memory) ≡ false
  none-read = none-holds (λ f. f.reads && fmmu_meets from size f) (fmmus_of memory) (λ j h. and-false _ _ (unmet j (omega (arith, fmmu-count memory))))

  pub none-written : writes_any from size (fmmus_of memory) ≡ false
  none-written = none-holds (λ f. f.writes && fmmu_meets from size f) (fmmus_of memory) (λ j h. and-false _ _ (unmet j (omega (arith, fmmu-count memory))))

data-stay : (memory bytes : List ℕ) (from : ℕ) → AreBytes bytes → ((j n m : ℕ) → j < 16 → n < 8 * length bytes → ¬ IsPair (fmmu_block_at memory j) (from + n) m) → logical_data memory from bytes ≡ bytes
unfolding logical_data
data-stay memory bytes from small none =
    sym (bytes-spelled bytes (length bytes) _ small refl (λ k low.
    sym (read-none (fmmus_of memory) (bit_of memory) (from + k) (bit_of bytes k) (λ j h. let number : j < 16 = omega (arith, fmmu-count memory) in not-read memory j (from + k) number (λ n reads. none j k n number low reads.1)))))

alias-same : (memory : List ℕ) → with_alias_of memory memory ≡ memory
unfolding with_alias_of
alias-same memory = ap (λ (xs : List ℕ). set xs 19 (get_or memory 19 0)) (set-get_or memory 18 0) ∙ set-get_or memory 19 0

memory-stays : (memory bytes : List ℕ) (from : ℕ) → AreBytes memory → ((j n m : ℕ) → j < 16 → n < 8 * length bytes → ¬ IsPair (fmmu_block_at memory j) (from + n) m) → logical_memory memory from bytes ≡ memory
unfolding logical_memory
memory-stays memory bytes from small none =
    let size : ℕ = 8 * length bytes in
    ap (with_alias_of memory) (sym (bytes-spelled memory (length memory) _ small refl (λ m low.
    sym (write-none (fmmus_of memory) (bit_of bytes) from size m (bit_of memory m) (λ j h. let number : j < 16 = omega (arith, fmmu-count memory) in not-written memory from size j m number (λ n l writes. none j n m number l writes.1))))))
    ∙ alias-same memory

count-none : (memory : List ℕ) (from n : ℕ) → reads_any from (8 * n) (fmmus_of memory) ≡ false → writes_any from (8 * n) (fmmus_of memory) ≡ false → logical_count memory from n ≡ 0
unfolding logical_count
count-none memory from n a b = ap₂ (λ (x y : Bool). (if x then 1 else 0) + (if y then 2 else 0)) a b

pub unmapped-pass : UnmappedDatagramsPass
unmapped-pass memory bytes from long small small2 none = (
  data-stay memory bytes from small2 none,
  memory-stays memory bytes from small none,
  count-none memory from (length bytes) (none-read memory from (8 * length bytes) none) (none-written memory from (8 * length bytes) none),
)
