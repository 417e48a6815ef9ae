-- Bytes that are spelled by their bits.
use Rattle.std.proofs.Common.{◌≡◌, ℕ, ◌+◌, ◌*◌, ◌/◌, ◌%◌, ◌<◌, List, length, get_or, refl, sym, ap, ◌∙◌, arith, add-zero, lit<}
use Rattle.std.specs.Int.{bit_at}
use Rattle.std.proofs.lemmas.List.{ext_get_or}
use Rattle.std.proofs.lemmas.List.FromFn.{length-map-range_with_len, get_or-map-range_with_len}
use Rattle.hc_bits.specs.Bits.{bit_of, AreBytes}
use Rattle.hc_bits.proofs.lemmas.Bits.{bit_of-byte}
use Rattle.hc_machine.specs.Memory.{byte_with, bytes_with}

-- a byte is the sum of its bits
pub byte-bits : (x : ℕ) → x < 256 → x ≡ x % 2 + 2 * (x / 2 % 2) + 4 * (x / 4 % 2) + 8 * (x / 8 % 2) + 16 * (x / 16 % 2) + 32 * (x / 32 % 2) + 64 * (x / 64 % 2) + 128 * (x / 128 % 2)
byte-bits x small = omega arith

byte-spelled : (x at : ℕ) (bit : ℕ → ℕ) → x < 256 → ((j : ℕ) → j < 8 → bit (at + j) ≡ bit_at x j) → x ≡ byte_with bit at
byte-spelled x at bit small same =
    let first : bit at ≡ x / 1 % 2 = ap bit (sym (add-zero at)) ∙ same 0 (lit< tt) in
    let e1 : bit (at + 1) ≡ x / 2 % 2 = same 1 (lit< tt) in
    let e2 : bit (at + 2) ≡ x / 4 % 2 = same 2 (lit< tt) in
    let e3 : bit (at + 3) ≡ x / 8 % 2 = same 3 (lit< tt) in
    let e4 : bit (at + 4) ≡ x / 16 % 2 = same 4 (lit< tt) in
    let e5 : bit (at + 5) ≡ x / 32 % 2 = same 5 (lit< tt) in
    let e6 : bit (at + 6) ≡ x / 64 % 2 = same 6 (lit< tt) in
    let e7 : bit (at + 7) ≡ x / 128 % 2 = same 7 (lit< tt) in
    byte-bits x small ∙ summed (bit at) (bit (at + 1)) (bit (at + 2)) (bit (at + 3)) (bit (at + 4)) (bit (at + 5)) (bit (at + 6)) (bit (at + 7)) (first ∙ whole x) e1 e2 e3 e4 e5 e6 e7
  where
    whole : (x : ℕ) → x / 1 % 2 ≡ x % 2
    whole x = omega arith

    summed : (b0 b1 b2 b3 b4 b5 b6 b7 : ℕ) → b0 ≡ x % 2 → b1 ≡ x / 2 % 2 → b2 ≡ x / 4 % 2 → b3 ≡ x / 8 % 2 → b4 ≡ x / 16 % 2 → b5 ≡ x / 32 % 2 → b6 ≡ x / 64 % 2 → b7 ≡ x / 128 % 2
        → x % 2 + 2 * (x / 2 % 2) + 4 * (x / 4 % 2) + 8 * (x / 8 % 2) + 16 * (x / 16 % 2) + 32 * (x / 32 % 2) + 64 * (x / 64 % 2) + 128 * (x / 128 % 2) ≡ b0 + 2 * b1 + 4 * b2 + 8 * b3 + 16 * b4 + 32 * b5 + 64 * b6 + 128 * b7
    summed b0 b1 b2 b3 b4 b5 b6 b7 e0 e1 e2 e3 e4 e5 e6 e7 = rw (e0, e1, e2, e3, e4, e5, e6, e7) refl

-- a list of bytes with these bits
pub bytes-spelled : (xs : List ℕ) (n : ℕ) (bit : ℕ → ℕ) → AreBytes xs → length xs ≡ n → ((k : ℕ) → k < 8 * n → bit_of xs k ≡ bit k) → xs ≡ bytes_with n bit
unfolding bytes_with
bytes-spelled xs n bit small len same =
    let spelled : ℕ → ℕ = λ i. byte_with bit (8 * i) in
    ext_get_or 0 xs _ (len ∙ sym (length-map-range_with_len spelled 0 n)) (λ i h.
    byte-spelled (get_or xs i 0) (8 * i) bit (small i h) (λ j low. sym (same (8 * i + j) (omega arith)) ∙ bit_of-byte xs i j (8 * i + j) low refl)
    ∙ sym (get_or-map-range_with_len spelled 0 n i i 0 (omega arith) (omega arith)))
