-- The list of bits of a slice, and what runs of bits are in it.
use Rattle.std.proofs.Common.{rules, ◌≡◌, ℕ, zero, suc, ◌+◌, ◌-◌, ◌*◌, ◌/◌, ◌%◌, ◌^◌, ◌<◌, ◌≤◌, List, [], ◌∷◌, drop, length, get_or, refl, sym, ◌∙◌, ap, arith, inl, inr, lit<}
use Rattle.std.specs.Int.{bit_at}
use Rattle.std.proofs.lemmas.Bool.{cases_lt}
use Rattle.std.proofs.lemmas.List.{places, ext_get_or, get_or_append_left, get_or-append_right, get_or-take, get_or-drop, get_or_past, length-append, length-take, length-drop}
use Rattle.std.proofs.lemmas.List.FromFn.{length-map-range_with_len, get_or-map-range_with_len}
use Rattle.std.proofs.lemmas.Nat.Bits.{bit_at-zero, bit_at-suc, bit_at_lowest, bit_at_above, same_from_bits}
use Rattle.hc_bits.specs.Bits.{bit_of, AreBytes, ReplacesRun, low_bits, number_of, bits_of, run_of, with_run}
use Rattle.hc_bits.proofs.Runs.{bit_of-byte, bit_of-lt}
use Rattle.hc_bits.proofs.lemmas.Places.{same_bytes_from_bits}

-- ---- the list of bits by places
pub length-low_bits : (n value : ℕ) → length (low_bits n value) ≡ n
unfolding low_bits
length-low_bits n value = length-map-range_with_len (bit_at value) 0 n

pub get_or-low_bits : (n value k : ℕ) → k < n → get_or (low_bits n value) k 0 ≡ bit_at value k
unfolding low_bits
get_or-low_bits n value k h = get_or-map-range_with_len (bit_at value) 0 n k k 0 h (omega arith)

pub length-bits_of : (bytes : List ℕ) → length (bits_of bytes) ≡ 8 * length bytes
unfolding bits_of
length-bits_of [] = refl
length-bits_of (b ∷ bytes) =
    length-append (low_bits 8 b) (bits_of bytes) ∙ omega (arith, length-low_bits 8 b, length-bits_of bytes)

bit_of-tail : (b : ℕ) (bytes : List ℕ) (k : ℕ) → 8 ≤ k → bit_of (b ∷ bytes) k ≡ bit_of bytes (k - 8)
bit_of-tail b bytes k h =
    bit_of-byte (b ∷ bytes) (suc ((k - 8) / 8)) (k % 8) k (omega arith) (omega arith)
    ∙ sym (bit_of-byte bytes ((k - 8) / 8) (k % 8) (k - 8) (omega arith) (omega arith))

bit_of-none : (k : ℕ) → bit_of [] k ≡ 0
unfolding bit_of
bit_of-none k = bit_at-zero (k % 8)

pub get_or-bits_of : (bytes : List ℕ) (k : ℕ) → get_or (bits_of bytes) k 0 ≡ bit_of bytes k
unfolding bits_of
get_or-bits_of [] k = sym (bit_of-none k)
get_or-bits_of (b ∷ bytes) k = elim (cases_lt k 8) [
  | inl low ↦
      get_or_append_left (low_bits 8 b) (bits_of bytes) 0 k (omega (arith, length-low_bits 8 b)) ∙ get_or-low_bits 8 b k low
      ∙ sym (bit_of-byte (b ∷ bytes) 0 k k low (omega arith))
  | inr high ↦
      get_or-append_right (low_bits 8 b) (bits_of bytes) 8 k 0 (length-low_bits 8 b) high ∙ get_or-bits_of bytes (k - 8)
      ∙ sym (bit_of-tail b bytes k high)
]

-- ---- a part of the list
pub length-run_of : (bits : List ℕ) (at n : ℕ) → at + n ≤ length bits → length (run_of bits at n) ≡ n
length-run_of bits at n h = omega (arith, length-take n (drop at bits), length-drop at bits)

pub get_or-run_of : (bits : List ℕ) (at n k : ℕ) → k < n → get_or (run_of bits at n) k 0 ≡ get_or bits (at + k) 0
get_or-run_of bits at n k h = get_or-take n (drop at bits) k 0 h ∙ get_or-drop at bits k 0

length-with_run : (bits run : List ℕ) (at : ℕ) → at + length run ≤ length bits → length (with_run bits at run) ≡ length bits
length-with_run bits run at h = search (rules, places)

with_run-before : (bits run : List ℕ) (at k : ℕ) → at + length run ≤ length bits → k < at → get_or (with_run bits at run) k 0 ≡ get_or bits k 0
with_run-before bits run at k h p = search (rules, places)

with_run-inside : (bits run : List ℕ) (at k : ℕ) → at + length run ≤ length bits → k < length run → get_or (with_run bits at run) (at + k) 0 ≡ get_or run k 0
with_run-inside bits run at k h p = search (rules, places)

with_run-after : (bits run : List ℕ) (at k : ℕ) → at + length run ≤ length bits → at + length run ≤ k → get_or (with_run bits at run) k 0 ≡ get_or bits k 0
with_run-after bits run at k h p = search (rules, places)

-- a run replaced bit by bit is the part of the list replaced
pub bits_of-ReplacesRun : (old new ys : List ℕ) (at n : ℕ) (run : ℕ → ℕ) → length new ≡ length old → at + n ≤ 8 * length old → length ys ≡ n
    → ((k : ℕ) → k < n → get_or ys k 0 ≡ run k) → ReplacesRun old new at n run → bits_of new ≡ with_run (bits_of old) at ys
bits_of-ReplacesRun old new ys at n run len within whole is r =
    let room : at + length ys ≤ length (bits_of old) = omega (arith, length-bits_of old) in
    let same_len : length (bits_of new) ≡ length (with_run (bits_of old) at ys) = omega (arith, length-bits_of old, length-bits_of new, length-with_run (bits_of old) ys at room) in
    ext_get_or 0 (bits_of new) (with_run (bits_of old) at ys) same_len (λ k h.
    get_or-bits_of new k ∙ elim (cases_lt k at) [
      | inl low ↦ r.before k low ∙ sym (with_run-before (bits_of old) ys at k room low ∙ get_or-bits_of old k)
      | inr from ↦ elim (cases_lt k (at + n)) [
        | inl low ↦
            let there : at + (k - at) ≡ k = omega arith in
            ap (bit_of new) (sym there) ∙ r.inside (k - at) (omega arith)
            ∙ sym (ap (λ i. get_or (with_run (bits_of old) at ys) i 0) (sym there) ∙ with_run-inside (bits_of old) ys at (k - at) room (omega arith) ∙ is (k - at) (omega arith))
        | inr history ↦ r.after k history ∙ sym (with_run-after (bits_of old) ys at k room (omega arith) ∙ get_or-bits_of old k)
      ]
    ])

-- and the other way round
pub ReplacesRun-from_bits_of : (old new ys : List ℕ) (at n : ℕ) (run : ℕ → ℕ) → at + n ≤ 8 * length old → length ys ≡ n
    → ((k : ℕ) → k < n → get_or ys k 0 ≡ run k) → bits_of new ≡ with_run (bits_of old) at ys → ReplacesRun old new at n run
ReplacesRun-from_bits_of old new ys at n run within whole is same =
    let room : at + length ys ≤ length (bits_of old) = omega (arith, length-bits_of old) in
    let read : (k : ℕ) → bit_of new k ≡ get_or (with_run (bits_of old) at ys) k 0 =
    λ k. sym (get_or-bits_of new k) ∙ ap (λ bits. get_or bits k 0) same in
    record {
      inside = λ k h. read (at + k) ∙ with_run-inside (bits_of old) ys at k room (omega arith) ∙ is k h;
      before = λ k h. read k ∙ with_run-before (bits_of old) ys at k room h ∙ get_or-bits_of old k;
      after = λ k h. read k ∙ with_run-after (bits_of old) ys at k room (omega arith) ∙ get_or-bits_of old k;
    }

-- ---- the number that bits spell
pub bit_at-number_of : (bits : List ℕ) (k : ℕ) → ((i : ℕ) → get_or bits i 0 < 2) → bit_at (number_of bits) k ≡ get_or bits k 0
unfolding number_of
bit_at-number_of [] k small = bit_at-zero k
bit_at-number_of (b ∷ bits) zero small =
    let bit : b < 2 = small 0 in
    bit_at_lowest (b + 2 * number_of bits) ∙ omega arith
bit_at-number_of (b ∷ bits) (suc k) small =
    let bit : b < 2 = small 0 in
    let half : (b + 2 * number_of bits) / 2 ≡ number_of bits = omega arith in
    bit_at-suc (b + 2 * number_of bits) k ∙ ap (λ x. bit_at x k) half ∙ bit_at-number_of bits k (λ i. small (suc i))

run-small : (bytes : List ℕ) (at n i : ℕ) → get_or (run_of (bits_of bytes) at n) i 0 < 2
run-small bytes at n i = elim (cases_lt i n) [
  | inl low ↦ rw (get_or-run_of (bits_of bytes) at n i low, get_or-bits_of bytes (at + i)) (bit_of-lt bytes (at + i))
  | inr high ↦ rw (get_or_past (run_of (bits_of bytes) at n) i 0 (omega (arith, length-take n (drop at (bits_of bytes))))) (lit< tt)
]

-- the bits of the number that a part of the list spells
pub bit_at-run : (bytes : List ℕ) (at n k : ℕ) → k < n → bit_at (number_of (run_of (bits_of bytes) at n)) k ≡ bit_of bytes (at + k)
bit_at-run bytes at n k h = bit_at-number_of _ k (run-small bytes at n) ∙ get_or-run_of (bits_of bytes) at n k h ∙ get_or-bits_of bytes (at + k)

-- a number of n bits with the bits of a run is the number that the run spells
pub number_of-run : (bytes : List ℕ) (at n value : ℕ) → value < 2 ^ n → ((k : ℕ) → k < n → bit_at value k ≡ bit_of bytes (at + k))
    → value ≡ number_of (run_of (bits_of bytes) at n)
number_of-run bytes at n value fits same = same_from_bits value (number_of (run_of (bits_of bytes) at n)) (λ k. elim (cases_lt k n) [
  | inl low ↦ same k low ∙ sym (bit_at-run bytes at n k low)
  | inr high ↦ bit_at_above value n k fits high ∙ sym (bit_at-number_of _ k (run-small bytes at n) ∙ get_or_past (run_of (bits_of bytes) at n) k 0 (omega (arith, length-take n (drop at (bits_of bytes)))))
])

-- ---- the bytes by their bits
pub same_bytes : (xs ys : List ℕ) → AreBytes xs → AreBytes ys → bits_of xs ≡ bits_of ys → xs ≡ ys
same_bytes xs ys small small2 same =
    let len : length xs ≡ length ys = omega (arith, length-bits_of xs, length-bits_of ys, ap length same) in
    same_bytes_from_bits xs ys small small2 len (λ k h. sym (get_or-bits_of xs k) ∙ ap (λ bits. get_or bits k 0) same ∙ get_or-bits_of ys k)
