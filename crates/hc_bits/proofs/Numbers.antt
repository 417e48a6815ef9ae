-- Bits of numbers that shifts, masks and an `or` make, and of the bytes of a word.
use Rattle.std.proofs.Common.{◌≡◌, ℕ, zero, suc, ◌+◌, ◌-◌, ◌*◌, ◌/◌, ◌%◌, ◌^◌, ◌<◌, ◌≤◌, min, max, bit_and, bit_or, get_or, refl, sym, ◌∙◌, ap, subst, arith, add-zero, lit<}
use mir.Val.{bits}
use Rattle.std.specs.Int.{Width, bit_at, bit_not, byte_at, bytes_low_first}
use Rattle.std.proofs.lemmas.Nat.{pow_pos, pow-add, shr-shr, shr_split, shl_whole, mod_below, or_lt, shl_below}
use Rattle.std.proofs.Math.Nat.{pow-suc, pow-le-pow_right, lt_of_lt_of_le}
use Rattle.std.proofs.lemmas.Nat.Bits.{bit_at_and, bit_at_or, bit_at_not, bit_at_ones, bit_at_ones_above, bit_at_above, bit_at_cat_low, bit_at_cat_high, bit_at-lt, ones_shr}
use Rattle.std.proofs.lemmas.Grind.{common_steps}

bit_at-shr : (n j i : ℕ) → bit_at (n / 2 ^ j) i ≡ bit_at n (j + i)
bit_at-shr n j i = ap (λ x. x % 2) (shr-shr n j i)

bit_at-mod : (n j i : ℕ) → i < j → bit_at (n % 2 ^ j) i ≡ bit_at n i
bit_at-mod n j i h = sym (bit_at_cat_low (n / 2 ^ j) j (n % 2 ^ j) i h) ∙ ap (λ x. bit_at x i) (shr_split n j)

bit_at-shl_below : (n j i : ℕ) → i < j → bit_at (n * 2 ^ j) i ≡ 0
bit_at-shl_below n j i h =
    ap (λ x. bit_at x i) (sym (add-zero (n * 2 ^ j))) ∙ bit_at_cat_low n j 0 i h ∙ bit_at_above 0 0 i (omega arith) (omega arith)

bit_at-shl_from : (n j i : ℕ) → j ≤ i → bit_at (n * 2 ^ j) i ≡ bit_at n (i - j)
bit_at-shl_from n j i h =
    ap (λ x. bit_at x i) (sym (add-zero (n * 2 ^ j))) ∙ bit_at_cat_high n j 0 i (pow_pos j) h

-- an `or` at a place where one side has a zero
bit_at-or_left : (a b i x : ℕ) → bit_at a i ≡ x → bit_at b i ≡ 0 → bit_at (bit_or a b) i ≡ x
bit_at-or_left a b i x p q = bit_at_or a b i ∙ ap (max (bit_at a i)) q ∙ (let e : max (bit_at a i) 0 ≡ bit_at a i = omega arith in e) ∙ p

bit_at-or_right : (a b i x : ℕ) → bit_at a i ≡ 0 → bit_at b i ≡ x → bit_at (bit_or a b) i ≡ x
bit_at-or_right a b i x p q = bit_at_or a b i ∙ ap (λ y. max y (bit_at b i)) p ∙ (let e : max 0 (bit_at b i) ≡ bit_at b i = omega arith in e) ∙ q

-- an `and` at a place where the mask has a one, and where it has a zero
pub bit_at-and_one : (a b i : ℕ) → bit_at b i ≡ 1 → bit_at (bit_and a b) i ≡ bit_at a i
bit_at-and_one a b i q = grind (arith, common_steps, min, bit_at, bit_at-lt, bit_at_and)

bit_at-and_zero : (a b i : ℕ) → bit_at b i ≡ 0 → bit_at (bit_and a b) i ≡ 0
bit_at-and_zero a b i q = bit_at_and a b i ∙ ap (min (bit_at a i)) q ∙ (let e : min (bit_at a i) 0 ≡ 0 = omega arith in e)

-- the n lowest ones of a byte
pub ones_is : (n : ℕ) → n ≤ 8 → 255 / 2 ^ (8 - n) ≡ 2 ^ n - 1
ones_is n h = ones_shr 8 (8 - n) (omega arith) ∙ ap (λ k. 2 ^ k - 1) (let e : 8 - (8 - n) ≡ n = omega arith in e)

pub part-bit : (byte at n k : ℕ) → k < n → bit_at (bit_and (byte / 2 ^ at) (2 ^ n - 1)) k ≡ bit_at byte (at + k)
part-bit byte at n k h = bit_at-and_one (byte / 2 ^ at) (2 ^ n - 1) k (bit_at_ones n k h) ∙ bit_at-shr byte at k

-- and those of a word
pub word_ones : (n : ℕ) → n ≤ 64 → 18446744073709551615 / 2 ^ (64 - n) ≡ 2 ^ n - 1
word_ones n h = ones_shr 64 (64 - n) (omega arith) ∙ ap (λ k. 2 ^ k - 1) (let e : 64 - (64 - n) ≡ n = omega arith in e)

pub lowest-bit : (word n k : ℕ) → k < n → bit_at (bit_and word (2 ^ n - 1)) k ≡ bit_at word k
lowest-bit word n k h = bit_at-and_one word (2 ^ n - 1) k (bit_at_ones n k h)

-- n ones from bit `at` on
mask_whole : (w : Width) (at n : ℕ) → at + n ≤ bits w → (2 ^ n - 1) * 2 ^ at % 2 ^ bits w ≡ (2 ^ n - 1) * 2 ^ at
mask_whole w at n h = shl_whole (2 ^ n - 1) n at (bits w) (omega (arith, pow_pos n)) (omega arith)

mask-lt : (w : Width) (at n : ℕ) → (2 ^ n - 1) * 2 ^ at % 2 ^ bits w < 2 ^ bits w
mask-lt w at n = mod_below ((2 ^ n - 1) * 2 ^ at) (2 ^ bits w) (pow_pos (bits w))

mask-inside : (w : Width) (at n k : ℕ) → at + n ≤ bits w → k < n → bit_at ((2 ^ n - 1) * 2 ^ at % 2 ^ bits w) (at + k) ≡ 1
mask-inside w at n k h p =
    ap (λ x. bit_at x (at + k)) (mask_whole w at n h) ∙ bit_at-shl_from (2 ^ n - 1) at (at + k) (omega arith)
    ∙ ap (bit_at (2 ^ n - 1)) (let e : at + k - at ≡ k = omega arith in e) ∙ bit_at_ones n k p

mask-before : (w : Width) (at n k : ℕ) → at + n ≤ bits w → k < at → bit_at ((2 ^ n - 1) * 2 ^ at % 2 ^ bits w) k ≡ 0
mask-before w at n k h p = ap (λ x. bit_at x k) (mask_whole w at n h) ∙ bit_at-shl_below (2 ^ n - 1) at k p

mask-after : (w : Width) (at n k : ℕ) → at + n ≤ bits w → at + n ≤ k → bit_at ((2 ^ n - 1) * 2 ^ at % 2 ^ bits w) k ≡ 0
mask-after w at n k h p =
    ap (λ x. bit_at x k) (mask_whole w at n h) ∙ bit_at-shl_from (2 ^ n - 1) at k (omega arith) ∙ bit_at_ones_above n (k - at) (omega arith)

-- a number without the bits of a mask
masked-unchanged : (w : Width) (byte mask k : ℕ) → mask < 2 ^ bits w → k < bits w → bit_at mask k ≡ 0 → bit_at (bit_and byte (bit_not w mask)) k ≡ bit_at byte k
masked-unchanged w byte mask k m low z = bit_at-and_one byte (bit_not w mask) k (bit_at_not w mask k m low ∙ ap (λ x. 1 - x) z)

masked-cleared : (w : Width) (byte mask k : ℕ) → mask < 2 ^ bits w → k < bits w → bit_at mask k ≡ 1 → bit_at (bit_and byte (bit_not w mask)) k ≡ 0
masked-cleared w byte mask k m low one = bit_at-and_zero byte (bit_not w mask) k (bit_at_not w mask k m low ∙ ap (λ x. 1 - x) one)

-- a number with n bits from `at` on replaced, as masks compute it
abbrev pub replaced_in : Width → ℕ → ℕ → ℕ → ℕ → ℕ
replaced_in w byte at n part = bit_or (bit_and byte (bit_not w ((2 ^ n - 1) * 2 ^ at % 2 ^ bits w))) (part * 2 ^ at % 2 ^ bits w)

moved_whole : (w : Width) (at n part : ℕ) → at + n ≤ bits w → part < 2 ^ n → part * 2 ^ at % 2 ^ bits w ≡ part * 2 ^ at
moved_whole w at n part h fits = shl_whole part n at (bits w) fits (omega arith)

pub replaced_in-inside : (w : Width) (byte at n part k : ℕ) → at + n ≤ bits w → part < 2 ^ n → k < n → bit_at (replaced_in w byte at n part) (at + k) ≡ bit_at part k
replaced_in-inside w byte at n part k h fits p = bit_at-or_right _ (part * 2 ^ at % 2 ^ bits w) (at + k) (bit_at part k)
    (masked-cleared w byte _ (at + k) (mask-lt w at n) (omega arith) (mask-inside w at n k h p))
    (ap (λ x. bit_at x (at + k)) (moved_whole w at n part h fits) ∙ bit_at-shl_from part at (at + k) (omega arith)
    ∙ ap (bit_at part) (let e : at + k - at ≡ k = omega arith in e))

pub replaced_in-before : (w : Width) (byte at n part k : ℕ) → at + n ≤ bits w → part < 2 ^ n → k < at → bit_at (replaced_in w byte at n part) k ≡ bit_at byte k
replaced_in-before w byte at n part k h fits p = bit_at-or_left _ (part * 2 ^ at % 2 ^ bits w) k (bit_at byte k)
    (masked-unchanged w byte _ k (mask-lt w at n) (omega arith) (mask-before w at n k h p))
    (ap (λ x. bit_at x k) (moved_whole w at n part h fits) ∙ bit_at-shl_below part at k p)

pub replaced_in-after : (w : Width) (byte at n part k : ℕ) → at + n ≤ bits w → part < 2 ^ n → at + n ≤ k → k < bits w → bit_at (replaced_in w byte at n part) k ≡ bit_at byte k
replaced_in-after w byte at n part k h fits p low = bit_at-or_left _ (part * 2 ^ at % 2 ^ bits w) k (bit_at byte k)
    (masked-unchanged w byte _ k (mask-lt w at n) low (mask-after w at n k h p))
    (ap (λ x. bit_at x k) (moved_whole w at n part h fits) ∙ bit_at-shl_from part at k (omega arith) ∙ bit_at_above part n (k - at) fits (omega arith))

-- a part put above the bits that a number has
pub joined-lt : (low high n m : ℕ) → low < 2 ^ n → high < 2 ^ m → n + m ≤ 64 → bit_or low (high * 2 ^ n % 2 ^ 64) < 2 ^ (n + m)
joined-lt low high n m p q room =
    let whole : high * 2 ^ n % 2 ^ 64 ≡ high * 2 ^ n = shl_whole high m n 64 q (omega arith) in
    let turn : m + n ≡ n + m = omega arith in
    let above : high * 2 ^ n < 2 ^ (n + m) = subst (λ (k : ℕ). high * 2 ^ n < 2 ^ k) turn (shl_below high m n q) in
    let below : low < 2 ^ (n + m) = lt_of_lt_of_le p (pow-le-pow_right (lit< tt) (let e : n ≤ n + m = omega arith in e)) in
    or_lt (n + m) low (high * 2 ^ n % 2 ^ 64) below (subst (λ (x : ℕ). x < 2 ^ (n + m)) (sym whole) above)

pub joined-low : (low high n m k : ℕ) → high < 2 ^ m → n + m ≤ 64 → k < n → bit_at (bit_or low (high * 2 ^ n % 2 ^ 64)) k ≡ bit_at low k
joined-low low high n m k q room h = bit_at-or_left low (high * 2 ^ n % 2 ^ 64) k (bit_at low k) refl
    (ap (λ x. bit_at x k) (shl_whole high m n 64 q (omega arith)) ∙ bit_at-shl_below high n k h)

pub joined-high : (low high n m k : ℕ) → low < 2 ^ n → high < 2 ^ m → n + m ≤ 64 → n ≤ k → bit_at (bit_or low (high * 2 ^ n % 2 ^ 64)) k ≡ bit_at high (k - n)
joined-high low high n m k p q room h = bit_at-or_right low (high * 2 ^ n % 2 ^ 64) k (bit_at high (k - n)) (bit_at_above low n k p h)
    (ap (λ x. bit_at x k) (shl_whole high m n 64 q (omega arith)) ∙ bit_at-shl_from high n k h)

-- a word and what is above it, moved down by some bits
pub funnel-low : (width low high at k : ℕ) → at < width → k < width - at → bit_at (bit_or (low / 2 ^ at) (high * 2 ^ (width - at) % 2 ^ width)) k ≡ bit_at low (at + k)
funnel-low width low high at k s h = bit_at-or_left (low / 2 ^ at) (high * 2 ^ (width - at) % 2 ^ width) k (bit_at low (at + k)) (bit_at-shr low at k)
    (bit_at-mod (high * 2 ^ (width - at)) width k (omega arith) ∙ bit_at-shl_below high (width - at) k h)

pub funnel-high : (width low high at k : ℕ) → low < 2 ^ width → at < width → k < width → width - at ≤ k → bit_at (bit_or (low / 2 ^ at) (high * 2 ^ (width - at) % 2 ^ width)) k ≡ bit_at high (at + k - width)
funnel-high width low high at k b s small h = bit_at-or_right (low / 2 ^ at) (high * 2 ^ (width - at) % 2 ^ width) k (bit_at high (at + k - width))
    (bit_at-shr low at k ∙ bit_at_above low width (at + k) b (omega arith))
    (bit_at-mod (high * 2 ^ (width - at)) width k small ∙ bit_at-shl_from high (width - at) k h
    ∙ ap (bit_at high) (let e : k - (width - at) ≡ at + k - width = omega arith in e))

pow_256 : (k : ℕ) → 256 ^ k ≡ 2 ^ (8 * k)
pow_256 zero = refl
pow_256 (suc k) =
    pow-suc 256 k ∙ ap (λ x. x * 256) (pow_256 k) ∙ sym (pow-add 2 (8 * k) 8)
    ∙ ap (λ x. 2 ^ x) (let e : 8 * k + 8 ≡ 8 * suc k = omega arith in e)

-- the bits of a number by its bytes
pub bit_at-byte : (i n j : ℕ) → j < 8 → bit_at (byte_at i n) j ≡ bit_at n (8 * i + j)
bit_at-byte zero n j h = bit_at-mod n 8 j h ∙ ap (bit_at n) (let e : j ≡ 8 * 0 + j = omega arith in e)
bit_at-byte (suc i) n j h =
    bit_at-mod (n / 256 ^ suc i) 8 j h ∙ ap (λ x. bit_at (n / x) j) (pow_256 (suc i)) ∙ bit_at-shr n (8 * suc i) j

pub get_or-bytes_low_first : (i count n j : ℕ) → j < count → get_or (bytes_low_first i count n) j 0 ≡ byte_at (i + j) n
get_or-bytes_low_first i (suc count) n zero h = ap (λ x. byte_at x n) (let e : i ≡ i + 0 = omega arith in e)
get_or-bytes_low_first i (suc count) n (suc j) h =
    get_or-bytes_low_first (suc i) count n j (omega arith) ∙ ap (λ x. byte_at x n) (let e : suc i + j ≡ i + suc j = omega arith in e)
get_or-bytes_low_first i zero n j h = absurd (omega arith)
