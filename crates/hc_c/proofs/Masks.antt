-- The bits that say which datagrams have data, added up from the least significant one on.
use Rattle.std.proofs.Common.{◌≡◌, ◌∙◌, ℕ, zero, suc, ◌+◌, ◌*◌, ◌^◌, ◌<◌, ◌≤◌, Bool, true, false, List, [], ◌∷◌, refl, sym, ap, pow-suc, suc-mul, zero-mul, arith}
use Rattle.std.proofs.lemmas.Nat.{pow_pos}
use Rattle.hc_c.specs.Reads.{bit_mask}
use Rattle.hc_c.specs.Seats.{mask_from}

mask_twice : (bit : ℕ) (bits : List Bool) → mask_from (2 * bit) bits ≡ 2 * mask_from bit bits
mask_twice bit [] = refl
mask_twice bit (true ∷ bits) =
    let others : ℕ = mask_from (2 * bit) bits in let both : 2 * bit + 2 * others ≡ 2 * (bit + others) = omega arith in
    ap (λ (n : ℕ). 2 * bit + n) (mask_twice (2 * bit) bits) ∙ both
mask_twice bit (false ∷ bits) =
    let others : ℕ = mask_from (2 * bit) bits in let both : 0 + 2 * others ≡ 2 * (0 + others) = omega arith in
    ap (λ (n : ℕ). 0 + n) (mask_twice (2 * bit) bits) ∙ both

-- from bit 1 on they are the number of all
pub mask_is : (bits : List Bool) → mask_from 1 bits ≡ bit_mask bits
mask_is [] = refl
mask_is (true ∷ bits) = ap (λ (n : ℕ). 1 + n) (mask_twice 1 bits ∙ ap (λ (n : ℕ). 2 * n) (mask_is bits))
mask_is (false ∷ bits) = ap (λ (n : ℕ). 0 + n) (mask_twice 1 bits ∙ ap (λ (n : ℕ). 2 * n) (mask_is bits))

least : (a p : ℕ) → 0 < p → a ≤ a * p
least zero p some = omega arith
least (suc a) p some = let more = suc-mul a p in let less = least a p some in omega (arith, more, less, some)

twice : (bit p : ℕ) → 2 * bit * p ≡ bit * (p * 2)
twice zero p = zero-mul p ∙ sym (zero-mul (p * 2))
twice (suc bit) p =
    let two : 2 * suc bit ≡ suc (suc (2 * bit)) = omega arith in
    let one = suc-mul (suc (2 * bit)) p in let other = suc-mul (2 * bit) p in let both = suc-mul bit (p * 2) in let less = twice bit p in
    ap (λ (n : ℕ). n * p) two ∙ omega (arith, one, other, both, less)

-- where a datagram's bit and those of others fit 16 bits, the next bit and those of the others do
pub next_fits : (bit others : ℕ) → bit * 2 ^ suc others ≤ 65536 → (2 * bit ≤ 65536) × (2 * bit * 2 ^ others ≤ 65536)
next_fits bit others fits =
    let p : ℕ = 2 ^ others in
    let same : 2 * bit * p ≡ bit * 2 ^ suc others = twice bit p ∙ ap (λ (n : ℕ). bit * n) (sym (pow-suc 2 others)) in
    let some = least (2 * bit) p (pow_pos others) in
    (omega (arith, same, some, fits), omega (arith, same, fits))
