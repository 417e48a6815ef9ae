-- Bits of lists of bytes place by place, and what this says of the lists.
use Rattle.std.proofs.Common.{◌≡◌, ℕ, ◌+◌, ◌-◌, ◌*◌, ◌/◌, ◌%◌, ◌<◌, ◌≤◌, ◌⊎◌, List, ◌++◌, length, take, drop, replicate, get_or, refl, sym, ◌∙◌, ap, arith, inl, inr}
use Rattle.std.proofs.lemmas.Bool.{cases_lt}
use Rattle.std.proofs.lemmas.List.{ext_get_or, get_or_append_left, get_or-append-add, get_or-take, get_or-drop}
use Rattle.std.proofs.lemmas.Nat.Bits.{bit_at-zero, same_from_bits_below}
use Rattle.std.specs.Int.{bit_at}
use Rattle.std.proofs.lemmas.Grind.{common_steps}
use Rattle.hc_bits.specs.Bits.{bit_of, AreBytes, ReplacesRun}
use Rattle.hc_bits.proofs.Runs.{bit_of-byte, bit_of-unchanged, bit_of-same_byte}

pub same_bytes_from_bits : (xs ys : List ℕ) → AreBytes xs → AreBytes ys → length xs ≡ length ys → ((k : ℕ) → k < 8 * length xs → bit_of xs k ≡ bit_of ys k) → xs ≡ ys
same_bytes_from_bits xs ys small small2 len same = ext_get_or 0 xs ys len (λ i h. same_from_bits_below 8 _ _ (small i h) (small2 i (omega arith)) (λ j low.
    sym (bit_of-byte xs i j (8 * i + j) low refl) ∙ same (8 * i + j) (omega arith) ∙ bit_of-byte ys i j (8 * i + j) low refl))

byte_of-same : (n i b d : ℕ) → b ≡ d → get_or (replicate n b) i d ≡ d
byte_of-same n i b d same = grind (arith, common_steps)

pub bit_of-zeros : (n k : ℕ) → bit_of (replicate n 0) k ≡ 0
unfolding bit_of
bit_of-zeros n k = ap (λ b. bit_at b (k % 8)) (byte_of-same n (k / 8) 0 0 refl) ∙ bit_at-zero (k % 8)

pub bit_of-append_left : (xs ys : List ℕ) (k : ℕ) → k < 8 * length xs → bit_of (xs ++ ys) k ≡ bit_of xs k
bit_of-append_left xs ys k h = bit_of-unchanged (xs ++ ys) xs k (get_or_append_left xs ys 0 (k / 8) (omega arith))

pub bit_of-append_right : (xs ys : List ℕ) (k : ℕ) → bit_of (xs ++ ys) (8 * length xs + k) ≡ bit_of ys k
bit_of-append_right xs ys k =
    let here : 0 + k / 8 ≡ k / 8 = omega arith in
    bit_of-same_byte (xs ++ ys) ys (length xs) 0 k (8 * length xs + k) (get_or-append-add xs ys (k / 8) 0 ∙ ap (λ i. get_or ys i 0) (sym here)) refl
    ∙ ap (bit_of ys) (let e : 8 * 0 + k ≡ k = omega arith in e)

pub bit_of-take : (xs : List ℕ) (n k : ℕ) → k < 8 * n → bit_of (take n xs) k ≡ bit_of xs k
bit_of-take xs n k h = bit_of-unchanged (take n xs) xs k (get_or-take n xs (k / 8) 0 (omega arith))

pub bit_of-drop : (xs : List ℕ) (n k : ℕ) → bit_of (drop n xs) k ≡ bit_of xs (8 * n + k)
bit_of-drop xs n k =
    let here : 0 + k / 8 ≡ k / 8 = omega arith in
    bit_of-same_byte (drop n xs) xs 0 n k k (get_or-drop n xs (0 + k / 8) 0 ∙ ap (λ i. get_or xs (n + i) 0) here) (omega arith)

Outside : ℕ → ℕ → ℕ → Type 0
Outside k at n = (k < at) ⊎ (at + n ≤ k)

Inside : ℕ → ℕ → ℕ → Type 0
Inside k at n = (at ≤ k) × (k < at + n)

place : (k at n : ℕ) → Outside k at n ⊎ Inside k at n
unfolding Outside Inside
place k at n = elim (cases_lt k at) [
  | inl low ↦ inl (inl low)
  | inr from ↦ elim (cases_lt k (at + n)) [
    | inl within ↦ inr (from, within)
    | inr history ↦ inl (inr history)
  ]
]

unchanged : (old new : List ℕ) (k at n : ℕ) (run : ℕ → ℕ) → ReplacesRun old new at n run → Outside k at n → bit_of new k ≡ bit_of old k
unfolding Outside
unchanged old new k at n run r (inl low) = r.before k low
unchanged old new k at n run r (inr history) = r.after k history

replaced : (old new : List ℕ) (k at n : ℕ) (run : ℕ → ℕ) → ReplacesRun old new at n run → Inside k at n → bit_of new k ≡ run (k - at)
unfolding Inside
replaced old new k at n run r within =
    let there : at + (k - at) ≡ k = omega (arith, within.0) in
    ap (bit_of new) (sym there) ∙ r.inside (k - at) (omega (arith, within.0, within.1))

apart : (k at n at2 n2 : ℕ) → (at + n ≤ at2) ⊎ (at2 + n2 ≤ at) → Inside k at n → Outside k at2 n2
unfolding Inside Outside
apart k at n at2 n2 (inl before) within = inl (omega (arith, within.1))
apart k at n at2 n2 (inr after_it) within = inr (omega (arith, within.0))

-- two replacements of disjoint runs leave the same bits in either order
pub replacements_commute : (old a b ab ba : List ℕ) (at n at2 n2 : ℕ) (run run2 : ℕ → ℕ) → (at + n ≤ at2) ⊎ (at2 + n2 ≤ at)
    → ReplacesRun old a at n run → ReplacesRun a ab at2 n2 run2 → ReplacesRun old b at2 n2 run2 → ReplacesRun b ba at n run → (k : ℕ) → bit_of ab k ≡ bit_of ba k
replacements_commute old a b ab ba at n at2 n2 run run2 disjoint first then other last k = elim (place k at n) [
  | inr within ↦ unchanged a ab k at2 n2 run2 then (apart k at n at2 n2 disjoint within) ∙ replaced old a k at n run first within ∙ sym (replaced b ba k at n run last within)
  | inl out ↦ elim (place k at2 n2) [
    | inr within ↦ replaced a ab k at2 n2 run2 then within ∙ sym (replaced old b k at2 n2 run2 other within) ∙ sym (unchanged b ba k at n run last out)
    | inl out2 ↦ unchanged a ab k at2 n2 run2 then out2 ∙ unchanged old a k at n run first out ∙ sym (unchanged old b k at2 n2 run2 other out2) ∙ sym (unchanged b ba k at n run last out)
  ]
]
