-- Ones in a run, and bytes under a mask.
use Rattle.std.proofs.Common.{◌≡◌, inl, inr, ℕ, ◌+◌, ◌-◌, ◌/◌, ◌^◌, ◌<◌, ◌≤◌, List, ◌++◌, length, get_or, min, replicate, ap, ◌∙◌, arith, bit_and, pow_pos, rules}
use Rattle.std.proofs.lemmas.Bool.{cases_lt}
use Rattle.std.proofs.lemmas.List.{get_or_append_left, get_or_past, get_or-replicate, length-replicate}
use Rattle.std.proofs.Math.Seq.{get_or-append_right}
use Rattle.std.proofs.lemmas.Nat.Bits.{bit_at_and, bit_at_ones, ones_shr}
use Rattle.std.specs.Int.{bit_at}
use Rattle.hc_bits.specs.Bits.{AreBytes, bit_of, ReplacesRun}

-- the n lowest ones of a word
ones_are : (n : ℕ) → n ≤ 64 → 18446744073709551615 / 2 ^ (64 - n) ≡ 2 ^ n - 1
ones_are n h = ones_shr 64 (64 - n) (omega arith) ∙ ap (λ k. 2 ^ k - 1) (let e : 64 - (64 - n) ≡ n = omega arith in e)

pub ones-bit : (n k : ℕ) → n ≤ 64 → k < n → bit_at (18446744073709551615 / 2 ^ (64 - n)) k ≡ 1
ones-bit n k h low = ap (λ x. bit_at x k) (ones_are n h) ∙ bit_at_ones n k low

less_one : (x y : ℕ) → 0 < y → x ≡ y - 1 → x < y
less_one x y some e = omega arith

pub ones-below : (n : ℕ) → n ≤ 64 → 18446744073709551615 / 2 ^ (64 - n) < 2 ^ n
ones-below n h = less_one (18446744073709551615 / 2 ^ (64 - n)) (2 ^ n) (pow_pos n) (ones_are n h)

-- a run that is given by a number whose bits are those of another
pub run-answer_given : (old new : List ℕ) (at n : ℕ) (run answer_given : ℕ → ℕ) → ((k : ℕ) → k < n → run k ≡ answer_given k) → ReplacesRun old new at n run → ReplacesRun old new at n answer_given
run-answer_given old new at n run answer_given same replaced = search rules

-- a bit of bytes under a mask
masked_bit : (new bytes mask : List ℕ) → ((i : ℕ) → get_or new i 0 ≡ bit_and (get_or bytes i 0) (get_or mask i 0))
    → (k : ℕ) → bit_of new k ≡ min (bit_of bytes k) (bit_of mask k)
unfolding bit_of
masked_bit new bytes mask each k = search (rules, bit_at_and)

pub same-at : (n i z : ℕ) → get_or (replicate n z) i z ≡ z
same-at n i z = search (rules, cases_lt, get_or-replicate, get_or_past, length-replicate)

-- zeros are bytes

pub zero-small : 0 < 256
zero-small = omega arith

pub zero-bytes : (n : ℕ) → AreBytes (replicate n 0)
zero-bytes n i low = search (rules, get_or-replicate, length-replicate, zero-small)

-- after the front either the post or the mask has ended
ended : (front bytes mask : List ℕ) (rest i : ℕ) → length mask ≡ length front + rest → length front ≡ min (length front + rest) (length bytes) → length front ≤ i
    → 0 ≡ bit_and (get_or bytes i 0) (get_or mask i 0)
ended front bytes mask rest i whole count after_it = search (rules, cases_lt, get_or_past)

masked_parts : (front bytes mask : List ℕ) (rest : ℕ) → length mask ≡ length front + rest → length front ≡ min (length front + rest) (length bytes)
    → ((i : ℕ) → i < length front → get_or front i 0 ≡ bit_and (get_or bytes i 0) (get_or mask i 0))
    → (i : ℕ) → get_or (front ++ replicate rest 0) i 0 ≡ bit_and (get_or bytes i 0) (get_or mask i 0)
masked_parts front bytes mask rest whole count own i = elim (cases_lt i (length front)) [
  | inl low ↦ get_or_append_left front (replicate rest 0) 0 i low ∙ own i low
  | inr after_it ↦ get_or-append_right front (replicate rest 0) i 0 after_it ∙ same-at rest (i - length front) 0 ∙ ended front bytes mask rest i whole count after_it
]

pub masked-copy : (front bytes mask back : List ℕ) (rest : ℕ) → back ≡ replicate rest 0 → length mask ≡ length front + rest → length front ≡ min (length front + rest) (length bytes)
    → ((i : ℕ) → i < length front → get_or front i 0 ≡ bit_and (get_or bytes i 0) (get_or mask i 0))
    → (k : ℕ) → bit_of (front ++ back) k ≡ min (bit_of bytes k) (bit_of mask k)
masked-copy front bytes mask back rest zeros whole count own = search (rules, masked_bit, masked_parts)
